-- Where the records of a stream begin, as byte offsets (this project's own).
use Rattle.std.specs.Prelude.{ℕ, zero, suc, ◌+◌, ◌<◌, ◌≡◌, List, length}
use Rattle.stream_model.specs.Fields.{u32_at}
use Rattle.stream_model.specs.Record.{StreamRecord}
use Rattle.stream_model.specs.Spelling.{whole_size, IsStream}

-- the place behind the record that begins at a place
abbrev pub next_place : List ℕ → ℕ → ℕ
next_place bytes at = at + whole_size (u32_at (at + 4) bytes)

-- the place of the record of that number, counted from 0
abbrev pub place : List ℕ → ℕ → ℕ
place bytes zero = 16
place bytes (suc number) = next_place bytes (place bytes number)

-- the place of a record of a stream that is not its END
pub record IsPlaceBeforeEnd (bytes : List ℕ) (at : ℕ) : Type 0 where
  pub records : List StreamRecord
  pub stream : IsStream bytes records
  pub number : ℕ
  pub before : number + 1 < length records
  pub is : at ≡ place bytes number
