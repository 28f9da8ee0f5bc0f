-- How a reader is seen: the records from its place on.
use Rattle.std.specs.Prelude.{ℕ, ◌≡◌, ◌⊎◌, ◌≤◌, List, [], length, drop, Result, Ok}
use Rattle.std.specs.Result.{result_unwrap_or}
use Rattle.stream_model.specs.declared.fault.StreamFault.{StreamFault}
use Rattle.stream_model.specs.Record.{StreamRecord}
use Rattle.stream_model.specs.Reading.{records_from}
use Rattle.mig_records.specs.Unread.{Unread}
use Rattle.mig_records.specs.declared.reader.Reader.TheInside.{Inside}

-- the records that stand from a place on; none behind the last
abbrev pub unread : ℕ → List ℕ → List StreamRecord
unread at bytes = result_unwrap_or (records_from at 0 (drop at bytes)) []

abbrev pub reader_view : Inside → Unread
reader_view r = record { bytes = r.bytes.now; at = r.at; records = unread r.at r.bytes.now }

-- a place is that of a record, or behind the last
pub record IsPlace (bytes : List ℕ) (at : ℕ) : Type 0 where
  pub within : at ≤ length bytes
  pub read : (drop at bytes ≡ []) ⊎ ((records : List StreamRecord) × (records_from at 0 (drop at bytes) ≡ Ok records))

abbrev pub IsReader : Inside → Type 0
IsReader r = IsPlace r.bytes.now r.at
