use Rattle.std.proofs.Common.{◌≡◌, ◌+◌, ◌-◌, ◌*◌, ◌≤◌, true, drop}
use Rattle.xs_model.specs.Wholes.{whole_behind, rest_after}
use Rattle.out_queues.proofs.messages.rest_after.Given as goal

-- of the message at `at` so many bytes are left, and the bytes from there on decide
abbrev pub invariant-loop-left : goal.invariant-loop-left
invariant-loop-left l = record {
  within : l.at ≤ l.count;
  whole : whole_behind l.left (drop l.at l.bytes) ≡ true;
  same : rest_after l.left (l.count - l.at) (drop l.at l.bytes) ≡ rest_after l.rest l.count l.bytes;
}

-- only the first message may have nothing left
abbrev pub decreases-loop-left : goal.decreases-loop-left
decreases-loop-left l = 2 * (l.count - l.at) + (1 - l.left)
