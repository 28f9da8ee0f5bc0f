-- The texts of absolute paths, in which paths are kept and compared. This project's own.
use Rattle.std.specs.Prelude.{◌≡◌, ℕ, true, List, [], ◌∷◌, None}
use Rattle.xs_model.specs.Paths.{Path, Name, is_absolute, path_fault}

-- the bytes of an absolute path, without a fault
pub record IsPathText (bytes : List ℕ) : Type 0 where
  pub absolute : is_absolute bytes ≡ true
  pub faultless : path_fault bytes ≡ None

-- the last name of a path, and no byte for `/`
abbrev pub leaf_of : Path → Name
leaf_of [] = []
leaf_of (n ∷ []) = n
leaf_of (m ∷ n ∷ ns) = leaf_of (n ∷ ns)
