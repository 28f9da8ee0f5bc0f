use Rattle.std.proofs.Common.{◌≡◌, ◌-◌, ◌≤◌, length, take}
use Rattle.handover.proofs.change.first_change.Given as goal

abbrev pub invariant-loop-at : goal.invariant-loop-at
invariant-loop-at l = (l.at ≤ length l.put) × (l.at ≤ length l.got) × (take l.at l.put ≡ take l.at l.got)

abbrev pub decreases-loop-at : goal.decreases-loop-at
decreases-loop-at l = length l.put - l.at
