use Rattle.std.proofs.Common.{◌≡◌, ◌+◌, ◌-◌, ◌<◌, ◌≤◌, true, false, length, take}
use Rattle.xs_model.specs.Trees.{is_present}
use Rattle.tree_ops.proofs.look.nearest.Given as goal

-- the nearest path has so many names at least, and so many at most
abbrev pub invariant-halves : goal.invariant-halves
invariant-halves g l = record {
  order : l.present ≤ l.highest;
  below : l.highest < length l.path;
  found : is_present (g.V.View.nodes l.view) (take l.present l.path) ≡ true;
  absent : is_present (g.V.View.nodes l.view) (take (l.highest + 1) l.path) ≡ false;
}

abbrev pub decreases-halves : goal.decreases-halves
decreases-halves g l = l.highest - l.present
