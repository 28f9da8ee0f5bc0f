use Rattle.std.proofs.Common.{◌≡◌, ◌≤◌, ◌∷◌, length, take, drop, reverse}
use Rattle.xs_model.specs.Paths.{way_down}
use Rattle.tree_ops.proofs.look.upward.Given as goal

-- the paths so far stand below the one at hand
abbrev pub invariant-ups : goal.invariant-ups
invariant-ups l = record {
  from : l.names ≤ l.at;
  to : l.at ≤ length l.path;
  here : l.up ≡ take l.at l.path;
  way : l.up ∷ reverse l.ups.items ≡ way_down (take l.at l.path) (drop l.at l.path);
}

abbrev pub decreases-ups : goal.decreases-ups
decreases-ups l = l.at
