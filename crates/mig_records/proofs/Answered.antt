-- What the answer of a reader says, by the laws of the grammar.
use Rattle.std.proofs.Common.{◌≡◌, List, Result, Ok, Err, refl, sym, ap, ◌∙◌, inl, inr}
use Rattle.std.specs.Prelude.{◌⊎◌, ℕ, IfOk, IfErr, IsOk, MatchResult}
use Rattle.stream_model.specs.declared.fault.StreamFault.{StreamFault}
use Rattle.stream_model.specs.declared.fault.StreamFault.TheVariants.{NoMemory}
use Rattle.stream_model.specs.Fields.{AreBytes}
use Rattle.stream_model.specs.Record.{StreamRecord}
use Rattle.stream_model.specs.Spelling.{IsStream}
use Rattle.stream_model.specs.Reading.{stream_of}
use Rattle.stream_model.specs.Faults.{IsFirstFault}
use Rattle.stream_model.proofs.SpelledIsRead.{stream_of-spelled}
use Rattle.stream_model.proofs.ReadIsSpelled.{is_stream}
use Rattle.stream_model.proofs.FirstFault.{is_first_fault, reads_first_fault}
use Rattle.mig_records.specs.declared.record.Record.{Record}
use Rattle.mig_records.specs.RecordView.{records_of, Reads}

pub found : (bytes : List ℕ) (answer : Result (List Record) StreamFault) → AreBytes bytes → Reads records_of answer (stream_of bytes)
    → IfOk answer (λ records. IsStream bytes (records_of records))
found bytes (Ok records) h e = is_stream bytes (records_of records) h e
found bytes (Err fault) h e = tt

oks : (xs ys : List StreamRecord) → ◌≡◌ {A = Result (List StreamRecord) StreamFault} (Ok xs) (Ok ys) → xs ≡ ys
oks xs ys e = cc

ok_is_err : (xs : List StreamRecord) (fault : StreamFault) → ◌≡◌ {A = Result (List StreamRecord) StreamFault} (Ok xs) (Err fault) → fault ≡ NoMemory
ok_is_err xs fault e = cc

ok_and_err : (xs : List StreamRecord) (fault : StreamFault) → ◌≡◌ {A = Result (List StreamRecord) StreamFault} (Ok xs) (Err fault) → ⊥
ok_and_err xs fault e = cc

errs : (fault other : StreamFault) → ◌≡◌ {A = Result (List StreamRecord) StreamFault} (Err fault) (Err other) → fault ≡ other
errs fault other e = cc

is_ok_and_err : (read : Result (List StreamRecord) StreamFault) (fault : StreamFault) → IsOk read → read ≡ Err fault → ⊥
is_ok_and_err (Ok xs) fault h e = ok_and_err xs fault e
is_ok_and_err (Err other) fault h e = absurd cc

refused : (records : List StreamRecord) (bytes : List ℕ) (fault : StreamFault) → IsStream bytes records → (stream_of bytes ≡ Err fault) ⊎ ((fault ≡ NoMemory) × IsOk (stream_of bytes)) → fault ≡ NoMemory
refused records bytes fault h (inl e) = ok_is_err records fault (sym (stream_of-spelled bytes records h) ∙ e)
refused records bytes fault h (inr e) = e.0

pub only : (bytes : List ℕ) (answer : Result (List Record) StreamFault) (records : List StreamRecord) → IsStream bytes records → Reads records_of answer (stream_of bytes)
    → MatchResult answer (λ read. records_of read ≡ records) (λ fault. fault ≡ NoMemory)
only bytes (Ok read) records h e = oks (records_of read) records (sym e ∙ stream_of-spelled bytes records h)
only bytes (Err fault) records h e = refused records bytes fault h e

first : (bytes : List ℕ) (fault : StreamFault) → AreBytes bytes → (stream_of bytes ≡ Err fault) ⊎ ((fault ≡ NoMemory) × IsOk (stream_of bytes)) → (fault ≡ NoMemory) ⊎ IsFirstFault bytes fault
first bytes fault h (inl e) = inr (is_first_fault bytes fault h e)
first bytes fault h (inr e) = inl e.0

pub named : (bytes : List ℕ) (answer : Result (List Record) StreamFault) → AreBytes bytes → Reads records_of answer (stream_of bytes)
    → IfErr answer (λ fault. (fault ≡ NoMemory) ⊎ IsFirstFault bytes fault)
named bytes (Ok records) h e = tt
named bytes (Err fault) h e = first bytes fault h e

same_fault : (bytes : List ℕ) (answered fault : StreamFault) → IsFirstFault bytes fault → (stream_of bytes ≡ Err answered) ⊎ ((answered ≡ NoMemory) × IsOk (stream_of bytes)) → answered ≡ fault
same_fault bytes answered fault h (inl e) = errs answered fault (sym e ∙ reads_first_fault bytes fault h)
same_fault bytes answered fault h (inr e) = absurd (is_ok_and_err (stream_of bytes) fault e.1 (reads_first_fault bytes fault h))

-- where the bytes have a fault, it is answered
pub always : (bytes : List ℕ) (answer : Result (List Record) StreamFault) (fault : StreamFault) → IsFirstFault bytes fault → Reads records_of answer (stream_of bytes) → answer ≡ Err fault
always bytes (Ok records) fault h e = absurd (ok_and_err (records_of records) fault (sym e ∙ reads_first_fault bytes fault h))
always bytes (Err answered) fault h e = ap (λ (f : StreamFault). Err f) (same_fault bytes answered fault h e)

stream_by : (bytes : List ℕ) (read : Result (List StreamRecord) StreamFault) → AreBytes bytes → stream_of bytes ≡ read → IsOk read → (records : List StreamRecord) × IsStream bytes records
stream_by bytes (Ok records) h e there = (records, is_stream bytes records h e)
stream_by bytes (Err fault) h e there = absurd cc

-- what is read is a stream
pub is_some_stream : (bytes : List ℕ) → AreBytes bytes → IsOk (stream_of bytes) → (records : List StreamRecord) × IsStream bytes records
is_some_stream bytes h there = stream_by bytes (stream_of bytes) h refl there
