use Rattle.std.proofs.Common.{◌∙◌, sym, ap, is_some}
use Rattle.std.specs.Ordering.{nat_cmp}
use Rattle.std.specs.FinMap.{find}
use Rattle.std.proofs.lemmas.Result.{on_ok_weaker}
use Rattle.watchers.proofs.SetLemmas.{Units, listed_changed, room_put}
use Rattle.watchers.proofs.index.reserve_at.Goals as goal

pub returns-in-Some-clause-room : goal.returns-in-Some-clause-room
returns-in-Some-clause-room c =
    on_ok_weaker c.reserve.result (room_put c.args.node.now c.args.index.now.entries c.reserve.new.self) c.reserve.ensures.ok

pub returns-in-Some-clause-kept : goal.returns-in-Some-clause-kept
returns-in-Some-clause-kept c = λ i p there.
    listed_changed c.args.node.now c.args.index.now.entries i p c.in-Some.ids.now c.reserve.new.self (sym c.in-Some.ensures.value)
    (λ same was. ap (λ (es : Units). is_some (find nat_cmp i es)) c.reserve.ensures.same ∙ was) there
