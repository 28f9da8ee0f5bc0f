use Rattle.std.proofs.Common.{◌∙◌, ap}
use Rattle.watchers.specs.Index.{Index, is_listed}
use Rattle.watchers.proofs.SetLemmas.{listed_dropped}
use Rattle.watchers.proofs.index.unlist.Goals as goal

pub returns-then-take_from : goal.returns-then-take_from
returns-then-take_from c = λ i p apart there.
    ap (λ (es : Index). is_listed i p es) c.remove.ensures.entries
    ∙ listed_dropped c.args.node.now c.take_from.new.index.entries i p (c.take_from.ensures.none c.if-take_from.true i) (c.take_from.ensures.others i p apart there)
