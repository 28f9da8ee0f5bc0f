use Rattle.std.proofs.Common.{◌≡◌, ◌++◌, length, reverse}
use Rattle.tree_ops.proofs.look.reversed.Given as goal

abbrev pub invariant-left : goal.invariant-left
invariant-left l = l.way ++ reverse l.left.items ≡ reverse l.fn.paths.items

abbrev pub decreases-left : goal.decreases-left
decreases-left l = length l.left.items
