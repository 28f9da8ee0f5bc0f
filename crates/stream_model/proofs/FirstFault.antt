-- What is read as a fault is the first fault.
use Rattle.std.proofs.Common.{◌≡◌, ◌≢◌, ℕ, zero, suc, ◌+◌, ◌≤◌, Bool, true, false, cond, List, [], ◌∷◌, ◌++◌, length, drop, Option, Some, None, Result, Ok, Err, refl, sym, ap, subst, ◌∙◌, arith, inl, inr}
use Rattle.std.specs.Prelude.{MatchBool}
use Rattle.std.proofs.lemmas.List.{length-append, length-drop}
use Rattle.stream_model.specs.declared.fault.StreamFault.{StreamFault}
use Rattle.stream_model.specs.declared.fault.StreamFault.TheVariants.{AfterEnd}
use Rattle.stream_model.specs.Fields.{AreBytes, u32_at}
use Rattle.stream_model.specs.Record.{StreamRecord, is_end}
use Rattle.stream_model.specs.Spelling.{need, whole_size, spelling}
use Rattle.stream_model.specs.Reading.{header_fault, record_at, onto, ended, joined, records_from, unless, stream_of}
use Rattle.stream_model.specs.Faults.{place_behind, FailsBehind, IsFirstFault}
use Rattle.stream_model.proofs.FieldLemmas.{AreBytes-drop}
use Rattle.stream_model.proofs.ReadingSteps.{records_from-here, records_from-fault}
use Rattle.stream_model.proofs.SpelledIsRead.{is_laid, record_at-spelled, goes_on}
use Rattle.stream_model.proofs.ReadIsSpelled.{begins_with, is_found}

errs : (e f : StreamFault) → ◌≡◌ {A = Result (List StreamRecord) StreamFault} (Err e) (Err f) → e ≡ f
errs e f h = cc

ok_is_err : (rs : List StreamRecord) (fault : StreamFault) → ◌≡◌ {A = Result (List StreamRecord) StreamFault} (Ok rs) (Err fault) → ⊥
ok_is_err rs fault e = cc

onto_err : (r : StreamRecord) (found : Result (List StreamRecord) StreamFault) (fault : StreamFault) → onto r found ≡ Err fault → found ≡ Err fault
onto_err r (Ok rs) fault e = absurd (ok_is_err _ _ e)
onto_err r (Err f) fault e = e

cons_is_nil : (b : ℕ) (bytes : List ℕ) → b ∷ bytes ≢ []
cons_is_nil b bytes e = cc

ended_err : (at : ℕ) (rest : List ℕ) (fault : StreamFault) → ended at rest ≡ Err fault → (rest ≢ []) × (fault ≡ AfterEnd at)
ended_err at [] fault e = absurd (ok_is_err _ _ e)
ended_err at (b ∷ rest) fault e = (cons_is_nil b rest, sym (errs _ _ e))

-- behind a record that was read
behind_err : (at : ℕ) (rest : List ℕ) (r : StreamRecord) (fault : StreamFault) (b : Bool) → is_end r ≡ b
    → cond b (ended at rest) (onto r (records_from at 0 rest)) ≡ Err fault
    → (records_from at 0 rest ≡ Err fault → (front : List StreamRecord) × FailsBehind front at rest fault)
    → (front : List StreamRecord) × MatchBool (is_end r) ((front ≡ []) × (rest ≢ []) × (fault ≡ AfterEnd at)) (FailsBehind front at rest fault)
behind_err at rest r fault true end e others = let h = ended_err at rest fault e in ([], rw end (refl, h.0, h.1))
behind_err at rest r fault false end e others = let h = others (onto_err r (records_from at 0 rest) fault e) in (h.0, rw end h.1)

-- a fault here, or one behind the record here; `steps` bounds the number of records
fails_by : (steps at : ℕ) (bytes : List ℕ) (fault : StreamFault) (here : Result StreamRecord StreamFault) → AreBytes bytes → length bytes ≤ steps
    → record_at at bytes ≡ here → records_from at 0 bytes ≡ Err fault → (front : List StreamRecord) × FailsBehind front at bytes fault
fails_by steps at bytes fault (Err f) h le e all = ([], e ∙ ap (λ (x : StreamFault). Err x) (errs f fault (sym (records_from-fault at bytes f e) ∙ all)))
fails_by zero at bytes fault (Ok r) h le e all = let there = (is_found at bytes r e).whole in absurd (omega arith)
fails_by (suc steps) at bytes fault (Ok r) h le e all =
    let size = whole_size (u32_at 4 bytes) in
    let rest = drop size bytes in
    let there = (is_found at bytes r e).whole in
    let step : cond (is_end r) (ended (at + size) rest) (onto r (records_from (at + size) 0 rest)) ≡ Err fault = ap (λ (x : Result StreamRecord StreamFault). joined at size bytes x (records_from (at + size) 0 rest)) (sym e) ∙ sym (records_from-here at bytes there) ∙ all in
    let found = behind_err (at + size) rest r fault (is_end r) refl step (λ more. fails_by steps (at + size) rest fault (record_at (at + size) rest) (AreBytes-drop size bytes h) (omega (arith, length-drop size bytes)) refl more) in
    let place : at + size ≡ place_behind at bytes rest = omega (arith, length-drop size bytes) in
    let P : ℕ → Type 0 = λ p. MatchBool (is_end r) ((found.0 ≡ []) × (rest ≢ []) × (fault ≡ AfterEnd p)) (FailsBehind found.0 p rest fault) in
    (r ∷ found.0, (rest, begins_with at bytes r h e, subst P place found.1))

headed_err : (bytes : List ℕ) (fault : StreamFault) (header : Option StreamFault) → AreBytes bytes → header_fault bytes ≡ header → unless header (records_from 16 0 (drop 16 bytes)) ≡ Err fault → IsFirstFault bytes fault
headed_err bytes fault (Some f) h is e = inl (is ∙ ap (λ (x : StreamFault). Some x) (errs f fault e))
headed_err bytes fault None h is e = inr (is, fails_by (length (drop 16 bytes)) 16 (drop 16 bytes) fault (record_at 16 (drop 16 bytes)) (AreBytes-drop 16 bytes h) (omega arith) refl e)

pub is_first_fault : (bytes : List ℕ) (fault : StreamFault) → AreBytes bytes → stream_of bytes ≡ Err fault → IsFirstFault bytes fault
is_first_fault bytes fault h e = headed_err bytes fault (header_fault bytes) h refl e

-- ---- the other way: a first fault is read

onto_fails : (at : ℕ) (rest : List ℕ) (r : StreamRecord) (rs : List StreamRecord) (fault : StreamFault) (b : Bool) → is_end r ≡ b
    → MatchBool b ((rs ≡ []) × (rest ≢ []) × (fault ≡ AfterEnd at)) (records_from at 0 rest ≡ Err fault)
    → cond (is_end r) (ended at rest) (onto r (records_from at 0 rest)) ≡ Err fault
onto_fails at [] r rs fault true end h = absurd (h.1 refl)
onto_fails at (b ∷ rest) r rs fault true end h = rw (end, h.2) refl
onto_fails at rest r rs fault false end h = rw (end, h) refl

reads_fault : (front : List StreamRecord) (at : ℕ) (bytes : List ℕ) (fault : StreamFault) → FailsBehind front at bytes fault → records_from at 0 bytes ≡ Err fault
reads_fault [] at bytes fault h = records_from-fault at bytes fault h
reads_fault (r ∷ rs) at bytes fault h =
    let rest = h.0 in
    let s = h.1.slack in
    let size = whole_size (need r + length s.more) in
    let laid = is_laid s r rest h.1.fits in
    let all = spelling s r ++ rest in
    let long : length all ≡ size + length rest = omega (arith, length-append (spelling s r) rest, laid.size) in
    let place : place_behind at bytes rest ≡ at + size = ap (λ (x : List ℕ). place_behind at x rest) h.1.parts ∙ omega (arith, long) in
    let P : ℕ → Type 0 = λ p. MatchBool (is_end r) ((rs ≡ []) × (rest ≢ []) × (fault ≡ AfterEnd p)) (FailsBehind rs p rest fault) in
    let more = goes_on (is_end r) ((rs ≡ []) × (rest ≢ []) × (fault ≡ AfterEnd (at + size))) (FailsBehind rs (at + size) rest fault) (records_from (at + size) 0 rest ≡ Err fault) (reads_fault rs (at + size) rest fault) (subst P place h.2) in
    let same : whole_size (u32_at 4 all) ≡ size = ap whole_size laid.len in
    let step = records_from-here at all (omega (arith, same, long)) in
    ap (records_from at 0) h.1.parts ∙ step
    ∙ rw (same, record_at-spelled at s r rest h.1.fits, laid.behind) (onto_fails (at + size) rest r rs fault (is_end r) refl more)

pub reads_first_fault : (bytes : List ℕ) (fault : StreamFault) → IsFirstFault bytes fault → stream_of bytes ≡ Err fault
reads_first_fault bytes fault (inl e) = rw e refl
reads_first_fault bytes fault (inr h) = rw h.0 (reads_fault h.1.0 16 (drop 16 bytes) fault h.1.1)
