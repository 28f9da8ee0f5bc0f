-- A place in a list of names, each with a NUL behind it. This project's own.
use Rattle.std.specs.Prelude.{◌≡◌, ℕ, ◌≤◌, true, false, List, length, drop, nat_lt, Option, Some, None}
use Rattle.std.specs.Borrow.{Bor}
use Rattle.xs_model.specs.Paths.{Name}
use Rattle.xs_model.specs.Messages.{strings}
use Rattle.node_tree.specs.Names.{names_above, first_name}

-- so many bytes are passed of the first name, if there is one, and not the NUL behind it
abbrev pub IsWithin : List Name → ℕ → Type 0
IsWithin names passed = (n : Name) → first_name names ≡ Some n → passed ≤ length n

-- what follows an offset: the names above `last`, but for the first bytes of the first of them
pub record IsPlace (names : List Name) (offset : ℕ) (last : Name) (passed : ℕ) : Type 0 where
  pub rest : drop offset (strings names) ≡ drop passed (strings (names_above last names))
  pub within : IsWithin (names_above last names) passed
  pub inside : nat_lt (length (strings names)) offset ≡ false

-- the place of an offset, and none exactly for an offset above the length of the list
abbrev pub IsPlaceOf : List Name → ℕ → Option (Bor (List ℕ) × ℕ) → Type 0
IsPlaceOf names offset None = nat_lt (length (strings names)) offset ≡ true
IsPlaceOf names offset (Some place) = IsPlace names offset place.0.now place.1
