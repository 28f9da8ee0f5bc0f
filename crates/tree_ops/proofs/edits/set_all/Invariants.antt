use Rattle.std.proofs.Common.{◌≡◌, ◌≤◌, vec_len, reverse}
use Rattle.xs_model.specs.Trees.{edited}
use Rattle.tree_ops.specs.Answers.{sets}
use Rattle.tree_ops.specs.Fits.{FitsSets}
use Rattle.tree_ops.proofs.edits.set_all.Given as goal

-- what is left to set completes the whole
abbrev pub invariant-left : goal.invariant-left
invariant-left g l = record {
  rest : edited (g.V.View.nodes l.view) (sets (reverse l.left.items)) ≡ edited (g.V.View.nodes l.fn.view) (sets l.fn.entries.items);
  fits : FitsSets (g.V.View.nodes l.view) (reverse l.left.items);
  made : (view : g.row.V.Denot) → g.V.View.made l.view (sets (reverse l.left.items)) view → g.V.View.made l.fn.view (sets l.fn.entries.items) view;
  spare : vec_len l.left ≤ g.V.View.spare l.view;
}

abbrev pub decreases-left : goal.decreases-left
decreases-left g l = vec_len l.left
