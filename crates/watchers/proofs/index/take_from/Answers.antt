use Rattle.std.proofs.Common.{sym}
use Rattle.watchers.proofs.SetLemmas.{listed_changed, none_here, not_first}
use Rattle.watchers.proofs.index.take_from.Goals as goal

pub returns-in-Some-clause-others : goal.returns-in-Some-clause-others
returns-in-Some-clause-others c = λ i p apart there.
    listed_changed c.args.node.now c.args.index.now.entries i p c.in-Some.ids.now c.remove_from.new.ids (sym c.in-Some.ensures.value)
    (λ same was. c.remove_from.ensures.others i (not_first _ _ apart same) was) there

pub returns-in-Some-clause-none : goal.returns-in-Some-clause-none
returns-in-Some-clause-none c = λ empty i. none_here c.args.node.now c.args.index.now.entries i c.remove_from.new.ids (c.remove_from.ensures.none empty i)
