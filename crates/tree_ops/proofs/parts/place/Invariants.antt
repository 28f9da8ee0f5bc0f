use Rattle.std.proofs.Common.{length}
use Rattle.xs_model.specs.Trees.{children}
use Rattle.node_tree.specs.Names.{names_above}
use Rattle.tree_ops.proofs.PartLemmas.{IsPassing}
use Rattle.tree_ops.proofs.parts.place.Given as goal

abbrev pub invariant-names : goal.invariant-names
invariant-names g l = IsPassing (children (g.V.View.nodes l.view) l.path) l.offset l.last l.left

abbrev pub decreases-names : goal.decreases-names
decreases-names g l = length (names_above l.last (children (g.V.View.nodes l.view) l.path))
