use Rattle.std.proofs.Common.{◌≤◌, ◌-◌, length}
use Rattle.store_turn.specs.Seats.{NoneBefore}
use Rattle.store_turn.proofs.callers.lowest.Given as goal

abbrev pub invariant-loop-place : goal.invariant-loop-place
invariant-loop-place g l = (l.place ≤ length l.fn.there) × NoneBefore l.fn.there l.place

abbrev pub decreases-loop-place : goal.decreases-loop-place
decreases-loop-place g l = length l.fn.there - l.place
