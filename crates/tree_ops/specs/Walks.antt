-- The next of the paths at and below a path. This project's own.
use Rattle.std.specs.Prelude.{◌≡◌, true, false, Option, Some, None}
use Rattle.std.specs.Ordering.{is_lt}
use Rattle.xs_model.specs.Paths.{Path, path_cmp, is_below}
use Rattle.xs_model.specs.Trees.{Tree, is_present}

-- a present path at or below `top` that stands behind `at`
pub record IsLater (tree : Tree) (top at q : Path) : Type 0 where
  pub present : is_present tree q ≡ true
  pub below : is_below top q ≡ true
  pub later : is_lt (path_cmp at q) ≡ true

-- the first of them, or that there is none
abbrev pub IsNext : Tree → Path → Path → Option Path → Type 0
IsNext tree top at None = (r : Path) → IsLater tree top at r → ⊥
IsNext tree top at (Some q) = IsLater tree top at q × ((r : Path) → IsLater tree top at r → is_lt (path_cmp r q) ≡ false)
