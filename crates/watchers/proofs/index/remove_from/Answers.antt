use Rattle.std.proofs.Common.{◌∙◌, ap, is_some}
use Rattle.std.specs.Ordering.{nat_cmp}
use Rattle.std.specs.FinMap.{find}
use Rattle.watchers.proofs.SetLemmas.{Units, taken_other}
use Rattle.watchers.proofs.index.remove_from.Goals as goal

pub returns-clause-others : goal.returns-clause-others
returns-clause-others c = λ i apart there.
    ap (λ (es : Units). is_some (find nat_cmp i es)) c.remove.ensures.after ∙ taken_other c.args.conn i c.args.ids.now.entries apart there
