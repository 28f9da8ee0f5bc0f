-- The first place at which two strings differ. This project's own.
use Rattle.std.specs.Prelude.{◌≡◌, ◌≢◌, ℕ, List, take, slice_get, Option, Some, None}
use Rattle.handover.specs.declared.change.Change.{Change}

-- what stands there in each, or none where one of them has ended; before that place they are the same
pub record IsFirstChange (put got : List ℕ) (change : Change) : Type 0 where
  pub before : take change.at put ≡ take change.at got
  pub put_byte : change.put ≡ slice_get put change.at
  pub got_byte : change.got ≡ slice_get got change.at
  pub differ : change.put ≢ change.got

abbrev pub IsChange : List ℕ → List ℕ → Option Change → Type 0
IsChange put got None = got ≡ put
IsChange put got (Some change) = IsFirstChange put got change
