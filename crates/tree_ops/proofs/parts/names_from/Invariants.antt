use Rattle.std.proofs.Common.{length, drop}
use Rattle.xs_model.specs.Messages.{strings}
use Rattle.xs_model.specs.Trees.{children}
use Rattle.xs_model.specs.Commands.{part_of_list}
use Rattle.node_tree.specs.Names.{names_above}
use Rattle.tree_ops.proofs.PartLemmas.{IsGiving}
use Rattle.tree_ops.proofs.parts.names_from.Given as goal

abbrev pub invariant-names : goal.invariant-names
invariant-names g l =
    let names = children (g.V.View.nodes l.view) l.path in
    IsGiving names (part_of_list l.fn.head (drop l.fn.passed (strings (names_above l.fn.last names)))) l.payload l.last l.passed

abbrev pub decreases-names : goal.decreases-names
decreases-names g l = length (names_above l.last (children (g.V.View.nodes l.view) l.path))
