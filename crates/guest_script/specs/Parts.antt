-- Fields that several verbs share.
use Rattle.std.specs.Prelude.{ℕ, List, Result, Ok}
use Rattle.world_model.specs.declared.LineKind.{LineKind}
use Rattle.world_model.specs.Scripts.{◌>>=◌, one_field, two_fields, domid_field, count_field}

-- a domain and no more
abbrev pub domid_alone : List (List ℕ) → Result ℕ LineKind
domid_alone fields = do
  field ← one_field fields
  domid_field field

-- a domain, and how many bytes to move at the most
abbrev pub domid_and_count : List (List ℕ) → Result (ℕ × ℕ) LineKind
domid_and_count fields = do
  both ← two_fields fields
  domid ← domid_field both.0
  max ← count_field both.1
  Ok (domid, max)
