use Rattle.std.proofs.Common.{◌∙◌, sym, ap, is_some}
use Rattle.std.specs.Ordering.{nat_cmp}
use Rattle.std.specs.FinMap.{find}
use Rattle.watchers.proofs.SetLemmas.{Units, put_here, put_kept, listed_here, listed_changed}
use Rattle.watchers.proofs.index.list.Goals as goal

pub returns-in-Some-clause-here : goal.returns-in-Some-clause-here
returns-in-Some-clause-here c =
    listed_here c.args.conn c.args.node c.put.new.self c.args.index.now.entries
    (ap (λ (es : Units). is_some (find nat_cmp c.args.conn es)) c.put.ensures.entries ∙ put_here c.args.conn c.in-Some.ids.now.entries)

pub returns-in-Some-clause-kept : goal.returns-in-Some-clause-kept
returns-in-Some-clause-kept c = λ i p there.
    listed_changed c.args.node c.args.index.now.entries i p c.in-Some.ids.now c.put.new.self (sym c.in-Some.ensures.value)
    (λ same was. ap (λ (es : Units). is_some (find nat_cmp i es)) c.put.ensures.entries ∙ put_kept c.args.conn i c.in-Some.ids.now.entries was) there
