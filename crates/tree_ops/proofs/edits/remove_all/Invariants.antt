use Rattle.std.proofs.Common.{◌≤◌, vec_len}
use Rattle.xs_model.specs.Commands.{removals}
use Rattle.tree_ops.specs.Fits.{IsRemoving}
use Rattle.tree_ops.proofs.edits.remove_all.Given as goal

-- the paths behind those that are left are removed
abbrev pub invariant-left : goal.invariant-left
invariant-left g l = record {
  removed : IsRemoving (g.V.View.nodes l.fn.view) l.fn.paths.items l.left.items (g.V.View.nodes l.view);
  made : g.V.View.made l.fn.view (removals removed.gone) l.view;
  spare : vec_len l.left ≤ g.V.View.spare l.view;
}

abbrev pub decreases-left : goal.decreases-left
decreases-left g l = vec_len l.left
