-- One more turn of each loop.
use Rattle.std.proofs.Common.{◌≡◌, ℕ, suc, ◌+◌, ◌-◌, ◌*◌, ◌<◌, ◌≤◌, true, false, List, [], ◌∷◌, ◌++◌, length, drop, Option, Some, None, Result, Ok, Err, refl, sym, ap, ◌∙◌, append_assoc, arith}
use Rattle.std.specs.Result.{result_err}
use Rattle.std.proofs.lemmas.List.{drop-drop}
use Rattle.stream_model.specs.declared.fault.StreamFault.{StreamFault}
use Rattle.stream_model.specs.declared.fault.StreamFault.TheVariants.{AfterEnd}
use Rattle.stream_model.specs.declared.record.RawPerm.{RawPerm}
use Rattle.stream_model.specs.Fields.{u32_at}
use Rattle.stream_model.specs.Record.{StreamRecord, is_end}
use Rattle.stream_model.specs.Spelling.{whole_size}
use Rattle.stream_model.specs.Reading.{entry_in, entries_in, record_at, onto, ended, joined, records_from}
use Rattle.stream_model.proofs.ReadingSteps.{records_from-here, records_from-fault}

pub entries_more : (before : List RawPerm) (count number : ℕ) (bytes : List ℕ) → number < count
    → before ++ entries_in (count - number) (drop (4 * number) bytes) ≡ (before ++ entry_in (drop (4 * number) bytes) ∷ []) ++ entries_in (count - (number + 1)) (drop (4 * (number + 1)) bytes)
entries_more before count number bytes lt =
    let left : count - number ≡ suc (count - (number + 1)) = omega arith in
    let place : 4 * number + 4 ≡ 4 * (number + 1) = omega arith in
    let next : drop 4 (drop (4 * number) bytes) ≡ drop (4 * (number + 1)) bytes = drop-drop 4 (4 * number) bytes ∙ ap (λ (n : ℕ). drop n bytes) place in
    rw (left, next) (sym (append_assoc before (entry_in (drop (4 * number) bytes) ∷ []) (entries_in (count - (number + 1)) (drop (4 * (number + 1)) bytes))))

-- ---- the first fault of all, by that of what is left

result_err-onto : (r : StreamRecord) (read : Result (List StreamRecord) StreamFault) → result_err (onto r read) ≡ result_err read
result_err-onto r (Ok rs) = refl
result_err-onto r (Err fault) = refl

-- a fault of the record here
pub fault_here : (at : ℕ) (rest : List ℕ) (fault : StreamFault) (all : Option StreamFault) → record_at at rest ≡ Err fault
    → result_err (records_from at 0 rest) ≡ all → Some fault ≡ all
fault_here at rest fault all e so_far = sym (ap result_err (records_from-fault at rest fault e)) ∙ so_far

here : (at : ℕ) (bytes : List ℕ) (r : StreamRecord) → record_at at (drop at bytes) ≡ Ok r → whole_size (u32_at 4 (drop at bytes)) ≤ length (drop at bytes)
    → records_from at 0 (drop at bytes) ≡ joined at (whole_size (u32_at 4 (drop at bytes))) (drop at bytes) (Ok r) (records_from (at + whole_size (u32_at 4 (drop at bytes))) 0 (drop (whole_size (u32_at 4 (drop at bytes))) (drop at bytes)))
here at bytes r e le =
    let rest = drop at bytes in
    records_from-here at rest le ∙ ap (λ (x : Result StreamRecord StreamFault). joined at (whole_size (u32_at 4 rest)) rest x (records_from (at + whole_size (u32_at 4 rest)) 0 (drop (whole_size (u32_at 4 rest)) rest))) e

-- a record that is not END, and what is behind it
pub record_here : (at : ℕ) (bytes : List ℕ) (r : StreamRecord) (all : Option StreamFault) → record_at at (drop at bytes) ≡ Ok r
    → whole_size (u32_at 4 (drop at bytes)) ≤ length (drop at bytes) → is_end r ≡ false → result_err (records_from at 0 (drop at bytes)) ≡ all
    → result_err (records_from (at + whole_size (u32_at 4 (drop at bytes))) 0 (drop (at + whole_size (u32_at 4 (drop at bytes))) bytes)) ≡ all
record_here at bytes r all e le other so_far =
    let rest = drop at bytes in
    let size = whole_size (u32_at 4 rest) in
    let more = records_from (at + size) 0 (drop size rest) in
    let next : drop (at + size) bytes ≡ drop size rest = sym (drop-drop size at bytes) in
    let step : result_err (records_from at 0 rest) ≡ result_err (onto r more) = ap result_err (here at bytes r e le ∙ rw other refl) in
    rw next (sym (result_err-onto r more) ∙ sym step ∙ so_far)

-- END, and what is behind it
pub end_here : (at : ℕ) (bytes : List ℕ) (r : StreamRecord) (all : Option StreamFault) → record_at at (drop at bytes) ≡ Ok r
    → whole_size (u32_at 4 (drop at bytes)) ≤ length (drop at bytes) → is_end r ≡ true → result_err (records_from at 0 (drop at bytes)) ≡ all
    → result_err (ended (at + whole_size (u32_at 4 (drop at bytes))) (drop (at + whole_size (u32_at 4 (drop at bytes))) bytes)) ≡ all
end_here at bytes r all e le last so_far =
    let rest = drop at bytes in
    let size = whole_size (u32_at 4 rest) in
    let next : drop (at + size) bytes ≡ drop size rest = sym (drop-drop size at bytes) in
    let step : result_err (records_from at 0 rest) ≡ result_err (ended (at + size) (drop size rest)) = ap result_err (here at bytes r e le ∙ rw last refl) in
    rw next (sym step ∙ so_far)

-- bytes behind END, and none
pub bytes_behind : (place : ℕ) (rest : List ℕ) (all : Option StreamFault) → 0 < length rest → result_err (ended place rest) ≡ all → Some (AfterEnd place) ≡ all
bytes_behind place [] all lt e = absurd (omega arith)
bytes_behind place (b ∷ rest) all lt e = e

pub none_behind : (place : ℕ) (rest : List ℕ) (all : Option StreamFault) → length rest ≡ 0 → result_err (ended place rest) ≡ all → None ≡ all
none_behind place [] all none e = e
none_behind place (b ∷ rest) all none e = absurd (omega arith)
