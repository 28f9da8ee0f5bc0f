use Rattle.std.proofs.Common.{◌≡◌, ℕ, ◌+◌, ◌<◌, ◌⊎◌, [], take, length}
use Rattle.std.specs.Prelude.{slice_get, Some}
use Rattle.store_turn.specs.declared.views.Stage.TheVariants.{Idle}
use Rattle.store_turn.specs.Sides.{Party}
use Rattle.store_turn.specs.Seats.{IsIn, known_of}
use Rattle.store_turn.proofs.deals.gather_all.Given as goal

abbrev pub invariant-loop-place : goal.invariant-loop-place
invariant-loop-place g l =
    (l.root.table_id ≡ l.initial.root.table_id)
    × (l.root.me.0.stage ≡ Idle)
    × (l.root.me.1 ≡ [])
    × (l.there.items ≡ take (length l.there.items) l.initial.there.items)
    × (length l.root.me.0.known + length l.there.items ≡ length l.initial.there.items)
    × ((k : ℕ) (caller : Party g.row.O.Denot g.row.O-Op.Denot g.row.O-Answer.Denot) → slice_get l.initial.there.items k ≡ Some (Some caller) → (k < length l.there.items) ⊎ IsIn (known_of caller) l.root.me.0.known)

abbrev pub decreases-loop-place : goal.decreases-loop-place
decreases-loop-place g l = length l.there.items
