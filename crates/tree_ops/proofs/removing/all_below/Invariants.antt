use Rattle.std.proofs.Common.{◌≡◌, ◌++◌, ◌∷◌, true, length}
use Rattle.xs_model.specs.Paths.{path_cmp, is_below}
use Rattle.xs_model.specs.Trees.{all_below}
use Rattle.tree_ops.specs.Rising.{behind}
use Rattle.tree_ops.proofs.removing.all_below.Given as goal

-- so far, and what is left
abbrev pub invariant-walk : goal.invariant-walk
invariant-walk g l = record {
  rest : l.paths.items ++ l.at ∷ behind path_cmp l.at (all_below (g.V.View.nodes l.view) l.top) ≡ all_below (g.V.View.nodes l.view) l.top;
  below : is_below l.top l.at ≡ true;
}

abbrev pub decreases-walk : goal.decreases-walk
decreases-walk g l = length (behind path_cmp l.at (all_below (g.V.View.nodes l.view) l.top))
