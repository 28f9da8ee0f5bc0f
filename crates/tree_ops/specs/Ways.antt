-- The way down to a path. This project's own.
use Rattle.std.specs.Prelude.{◌≡◌, ℕ, ◌+◌, ◌≤◌, ◌<◌, true, false, length, take}
use Rattle.xs_model.specs.Paths.{Path}
use Rattle.xs_model.specs.Trees.{Tree, is_present}

-- the deepest present path at or above a path, by its number of names
pub record IsNearest (tree : Tree) (path : Path) (names : ℕ) : Type 0 where
  pub within : names ≤ length path
  pub found : is_present tree (take names path) ≡ true
  pub below : names < length path → is_present tree (take (names + 1) path) ≡ false
