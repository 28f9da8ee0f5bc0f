use Rattle.std.proofs.Common.{◌≡◌, ◌++◌, length}
use Rattle.xs_model.specs.Messages.{strings}
use Rattle.xs_model.specs.Trees.{children}
use Rattle.node_tree.specs.Names.{names_above}
use Rattle.tree_ops.proofs.reading.names_payload.Given as goal

-- so far, and what is left
abbrev pub invariant-names : goal.invariant-names
invariant-names g l =
    l.payload ++ strings (names_above l.last (children (g.V.View.nodes l.view) l.path)) ≡ strings (children (g.V.View.nodes l.view) l.path)

abbrev pub decreases-names : goal.decreases-names
decreases-names g l = length (names_above l.last (children (g.V.View.nodes l.view) l.path))
