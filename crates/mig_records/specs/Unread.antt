-- What a reader of a stream has before it, and what it hands on.
use Rattle.std.specs.Prelude.{ℕ, ◌≡◌, List, [], ◌∷◌, Option, Some, None, Result, Ok, Err}
use Rattle.stream_model.specs.Record.{StreamRecord}
use Rattle.stream_model.specs.Places.{next_place}
use Rattle.mig_records.specs.declared.record.Record.{Record}
use Rattle.mig_records.specs.RecordView.{record_of}

-- the bytes of a stream, the place of its next record, and that record and those behind it
pub record Unread : Type 0 where
  pub bytes : List ℕ
  pub at : ℕ
  pub records : List StreamRecord

-- a record is handed on, and those behind it are left; or none is left, or no memory is found, and nothing changes
abbrev pub HandsOn : {E : Type 0} → Unread → Unread → Result (Option Record) E → Type 0
HandsOn old new (Ok (Some item)) =
    (old.records ≡ record_of item ∷ new.records) × (new.bytes ≡ old.bytes) × (new.at ≡ next_place old.bytes old.at)
HandsOn old new (Ok None) = (old.records ≡ []) × (new ≡ old)
HandsOn old new (Err error) = new ≡ old
