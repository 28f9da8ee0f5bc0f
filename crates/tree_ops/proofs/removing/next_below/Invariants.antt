use Rattle.std.proofs.Common.{length}
use Rattle.tree_ops.proofs.WalkLemmas.{IsPassed}
use Rattle.tree_ops.proofs.removing.next_below.Given as goal

-- what stands behind `at` below `up` is below a child of it whose name stands above the leaf
abbrev pub invariant-up : goal.invariant-up
invariant-up g l = IsPassed (g.V.View.nodes l.view) l.top l.at l.up l.leaf

abbrev pub decreases-up : goal.decreases-up
decreases-up g l = length l.up
