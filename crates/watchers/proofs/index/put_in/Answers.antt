use Rattle.std.proofs.Common.{◌∙◌, ap, is_some}
use Rattle.std.specs.Ordering.{nat_cmp}
use Rattle.std.specs.FinMap.{find}
use Rattle.watchers.proofs.SetLemmas.{Units, put_here, put_kept}
use Rattle.watchers.proofs.index.put_in.Goals as goal

pub returns-clause-here : goal.returns-clause-here
returns-clause-here c =
    ap (λ (es : Units). is_some (find nat_cmp c.args.conn es)) c.put.ensures.entries ∙ put_here c.args.conn c.reserve.new.self.entries

pub returns-clause-kept : goal.returns-clause-kept
returns-clause-kept c = λ i there.
    ap (λ (es : Units). is_some (find nat_cmp i es)) c.put.ensures.entries
    ∙ put_kept c.args.conn i c.reserve.new.self.entries (ap (λ (es : Units). is_some (find nat_cmp i es)) c.reserve.ensures.same ∙ there)
