use Rattle.std.proofs.Common.{◌≡◌, length}
use Rattle.xs_model.specs.Wholes.{whole_behind}
use Rattle.out_queues.proofs.messages.whole_behind.Given as goal

-- what is left decides
abbrev pub invariant-loop-left : goal.invariant-loop-left
invariant-loop-left l = whole_behind 0 l.left ≡ whole_behind l.rest l.bytes

abbrev pub decreases-loop-left : goal.decreases-loop-left
decreases-loop-left l = length l.left
