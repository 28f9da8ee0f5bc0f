-- What a reader has before it, and a step of it.
use Rattle.std.proofs.Common.{◌≡◌, ◌≢◌, ℕ, ◌+◌, ◌<◌, ◌≤◌, Bool, true, false, List, [], ◌∷◌, length, drop, Option, Some, None, Result, Ok, Err, refl, sym, ap, ◌∙◌, inl, inr, arith}
use Rattle.std.specs.Prelude.{◌⊎◌, MatchBool}
use Rattle.std.specs.Result.{result_err, result_unwrap_or}
use Rattle.std.proofs.lemmas.List.{drop-drop, length-drop, drop_all}
use Rattle.stream_model.specs.declared.fault.StreamFault.{StreamFault}
use Rattle.stream_model.specs.Fields.{u32_at}
use Rattle.stream_model.specs.Record.{StreamRecord, is_end}
use Rattle.stream_model.specs.Spelling.{whole_size}
use Rattle.stream_model.specs.Reading.{header_fault, record_at, records_from, unless, stream_of}
use Rattle.stream_model.proofs.HeaderLemmas.{unless_ok}
use Rattle.stream_model.proofs.ReadingSteps.{records_from-fault}
use Rattle.stream_model.proofs.ReadIsSpelled.{Step, step_by, is_found}
use Rattle.mig_records.specs.ReaderView.{unread, IsPlace}

no_error : (read : Result (List StreamRecord) StreamFault) → None ≡ result_err read → read ≡ Ok (result_unwrap_or read [])
no_error (Ok rs) e = refl
no_error (Err fault) e = absurd cc

all_by : (bytes : List ℕ) (header : Option StreamFault) → None ≡ result_err (unless header (records_from 16 0 (drop 16 bytes))) → unless header (records_from 16 0 (drop 16 bytes)) ≡ Ok (unread 16 bytes)
all_by bytes (Some fault) e = absurd cc
all_by bytes None e = no_error (records_from 16 0 (drop 16 bytes)) e

-- bytes without a fault are read as what stands behind their header
pub all_unread : (bytes : List ℕ) → None ≡ result_err (stream_of bytes) → stream_of bytes ≡ Ok (unread 16 bytes)
all_unread bytes e = all_by bytes (header_fault bytes) e

some_left : (at : ℕ) (bytes : List ℕ) (rs : List StreamRecord) → records_from at 0 bytes ≡ Ok rs → 0 < length bytes
some_left at [] rs e = absurd cc
some_left at (b ∷ bytes) rs e = omega arith

pub first_place : (bytes : List ℕ) → None ≡ result_err (stream_of bytes) → IsPlace bytes 16
first_place bytes e =
    let read = (unless_ok (header_fault bytes) (records_from 16 0 (drop 16 bytes)) (unread 16 bytes) (all_unread bytes e)).1 in
    record {
      within = omega (arith, some_left 16 (drop 16 bytes) (unread 16 bytes) read, length-drop 16 bytes);
      read = inr (unread 16 bytes, read);
    }

-- nothing is left behind the last record
pub none_unread : (at : ℕ) (bytes : List ℕ) → at ≡ length bytes → unread at bytes ≡ []
none_unread at bytes e = let nothing : drop at bytes ≡ [] = drop_all at bytes (omega arith) in rw nothing refl

-- before that a record is
reads_here : (at : ℕ) (bytes : List ℕ) → at < length bytes → IsPlace bytes at → (rs : List StreamRecord) × (records_from at 0 (drop at bytes) ≡ Ok rs)
reads_here at bytes lt place =
    elim place.read [
      | inl nothing ↦ absurd (omega (arith, ap length nothing, length-drop at bytes))
      | inr read ↦ read
    ]

ok_is_err : (rs : List StreamRecord) (fault : StreamFault) → ◌≡◌ {A = Result (List StreamRecord) StreamFault} (Ok rs) (Err fault) → ⊥
ok_is_err rs fault e = cc

-- no fault is
pub no_fault_here : (at : ℕ) (bytes : List ℕ) (fault : StreamFault) → at < length bytes → IsPlace bytes at → record_at at (drop at bytes) ≡ Err fault → ⊥
no_fault_here at bytes fault lt place e =
    let read = reads_here at bytes lt place in
    ok_is_err read.0 fault (sym read.1 ∙ records_from-fault at (drop at bytes) fault e)

oks : (r s : StreamRecord) → ◌≡◌ {A = Result StreamRecord StreamFault} (Ok r) (Ok s) → r ≡ s
oks r s e = cc

-- what is left behind a record
behind_it : (at : ℕ) (bytes : List ℕ) (more : List StreamRecord) (b : Bool) → at ≤ length bytes → MatchBool b ((drop at bytes ≡ []) × (more ≡ [])) (records_from at 0 (drop at bytes) ≡ Ok more)
    → (unread at bytes ≡ more) × IsPlace bytes at
behind_it at bytes more true le h = (rw (h.0, h.1) refl, record { within = le; read = inl h.0 })
behind_it at bytes more false le h = (rw h refl, record { within = le; read = inr (more, h) })

-- the record here, and those behind it
pub handed_on : (at : ℕ) (bytes : List ℕ) (r : StreamRecord) → at < length bytes → IsPlace bytes at → record_at at (drop at bytes) ≡ Ok r
    → (unread at bytes ≡ r ∷ unread (at + whole_size (u32_at 4 (drop at bytes))) bytes) × IsPlace bytes (at + whole_size (u32_at 4 (drop at bytes)))
handed_on at bytes r lt place e =
    let rest = drop at bytes in
    let size = whole_size (u32_at 4 rest) in
    let read = reads_here at bytes lt place in
    let step = step_by at rest read.0 (record_at at rest) refl read.1 in
    let same : r ≡ step.first = oks r step.first (sym e ∙ step.read) in
    let whole = (is_found at rest r e).whole in
    let next : drop size rest ≡ drop (at + size) bytes = drop-drop size at bytes in
    let goes = rw next at step.goes in
    let left = behind_it (at + size) bytes step.more (is_end step.first) (omega (arith, whole, length-drop at bytes)) goes in
    (rw (read.1, step.is, same, left.0) refl, left.1)

-- ---- the answer of `new`

fault_by : (read : Result (List StreamRecord) StreamFault) (fault : StreamFault) → Some fault ≡ result_err read → read ≡ Err fault
fault_by (Ok rs) fault e = absurd cc
fault_by (Err found) fault e = cc

pub read_fault : (bytes : List ℕ) (fault : StreamFault) → Some fault ≡ result_err (stream_of bytes) → stream_of bytes ≡ Err fault
read_fault bytes fault e = fault_by (stream_of bytes) fault e
