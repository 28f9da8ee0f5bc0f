-- Where the records of a stream stand.
use Rattle.std.proofs.Common.{◌≡◌, ℕ, zero, suc, ◌+◌, ◌<◌, ◌≤◌, Bool, true, false, List, [], ◌∷◌, length, drop, get_or, refl, ap, subst, ◌∙◌, drop-cons, arith}
use Rattle.std.specs.Prelude.{MatchBool}
use Rattle.std.proofs.lemmas.List.{length-append, length-drop, drop-drop}
use Rattle.stream_model.specs.Fields.{u32_at}
use Rattle.stream_model.specs.Record.{StreamRecord, end_record, is_end}
use Rattle.stream_model.specs.Spelling.{header, need, whole_size, spelling, AreRecords, IsStream}
use Rattle.stream_model.specs.Places.{next_place, place, IsPlaceBeforeEnd}
use Rattle.stream_model.proofs.SpelledIsRead.{is_laid, drop-header, length-header}

pub u32_at-add : (at n : ℕ) (bytes : List ℕ) → u32_at n (drop at bytes) ≡ u32_at (at + n) bytes
unfolding u32_at
u32_at-add at n bytes = rw drop-drop refl

cons_is_nil : (r : StreamRecord) (rs : List StreamRecord) → ◌≡◌ {A = List StreamRecord} (r ∷ rs) [] → ⊥
cons_is_nil r rs e = cc

not_last : (b : Bool) (rest : List ℕ) (rs : List StreamRecord) → 0 < length rs → MatchBool b ((rest ≡ []) × (rs ≡ [])) (AreRecords rest rs) → AreRecords rest rs
not_last true rest [] lt h = absurd (omega arith)
not_last true rest (r ∷ rs) lt h = absurd (cons_is_nil r rs h.1)
not_last false rest rs lt h = h

-- the records behind the first, and the room that the first takes
pub records_behind : (bytes : List ℕ) (r : StreamRecord) (rs : List StreamRecord) → AreRecords bytes (r ∷ rs) → 0 < length rs
    → AreRecords (drop (whole_size (u32_at 4 bytes)) bytes) rs × (whole_size (u32_at 4 bytes) ≤ length bytes)
records_behind bytes r rs h lt =
    let s = h.1.slack in
    let rest = h.0 in
    let laid = is_laid s r rest h.1.fits in
    let size = whole_size (need r + length s.more) in
    let len : u32_at 4 bytes ≡ need r + length s.more = ap (u32_at 4) h.1.parts ∙ laid.len in
    let behind : drop size bytes ≡ rest = ap (drop size) h.1.parts ∙ laid.behind in
    let long : length bytes ≡ size + length rest = ap length h.1.parts ∙ omega (arith, length-append (spelling s r) rest, laid.size) in
    rw (len, behind) (not_last (is_end r) rest rs lt h.2, omega (arith, long))

-- eight bytes at least stand where a record does
pub record_room : (bytes : List ℕ) (rs : List StreamRecord) → AreRecords bytes rs → 8 ≤ length bytes
record_room bytes [] h = absurd h
record_room bytes (r ∷ rs) h =
    let s = h.1.slack in
    let laid = is_laid s r h.0 h.1.fits in
    let long : length bytes ≡ length (spelling s r) + length h.0 = ap length h.1.parts ∙ length-append (spelling s r) h.0 in
    omega (arith, long, laid.size)

-- the records from that number on are spelled from its place on
pub record Stands (bytes : List ℕ) (records : List StreamRecord) (number : ℕ) : Type 0 where
  pub within : place bytes number + 8 ≤ length bytes
  pub spelled : AreRecords (drop (place bytes number) bytes) (drop number records)

pub stands : (bytes : List ℕ) (records : List StreamRecord) (number : ℕ) → IsStream bytes records → number < length records → Stands bytes records number
stands bytes records zero stream lt =
    let body : drop 16 bytes ≡ stream.body = ap (drop 16) stream.headed ∙ drop-header stream.body in
    let long : length bytes ≡ length header + length stream.body = ap length stream.headed ∙ length-append header stream.body in
    record {
      within = omega (arith, long, length-header, record_room stream.body records stream.spelled);
      spelled = rw body stream.spelled;
    }
stands bytes records (suc number) stream lt =
    let here = stands bytes records number stream (omega arith) in
    let at = place bytes number in
    let more = drop (suc number) records in
    let first = get_or records number end_record in
    let split : drop number records ≡ first ∷ more = drop-cons records number end_record (omega arith) in
    let left : 0 < length more = omega (arith, length-drop (suc number) records) in
    let behind = records_behind (drop at bytes) first more (subst (λ (x : List StreamRecord). AreRecords (drop at bytes) x) split here.spelled) left in
    let len = u32_at-add at 4 bytes in
    let next : drop (whole_size (u32_at 4 (drop at bytes))) (drop at bytes) ≡ drop (next_place bytes at) bytes = drop-drop (whole_size (u32_at 4 (drop at bytes))) at bytes ∙ ap (λ (n : ℕ). drop (at + whole_size n) bytes) len in
    let spelled : AreRecords (drop (next_place bytes at) bytes) more = subst (λ (x : List ℕ). AreRecords x more) next behind.0 in
    let room = record_room (drop (next_place bytes at) bytes) more spelled in
    record { within = omega (arith, room, length-drop (next_place bytes at) bytes); spelled = spelled }

-- eight bytes at least stand at a record before END, and at the next place
pub room_before_end : (bytes : List ℕ) (at : ℕ) → IsPlaceBeforeEnd bytes at → (at + 8 ≤ length bytes) × (next_place bytes at + 8 ≤ length bytes)
room_before_end bytes at h =
    let before = h.before in
    let here = stands bytes h.records h.number h.stream (omega arith) in
    let next = stands bytes h.records (suc h.number) h.stream (omega arith) in
    rw h.is (here.within, next.within)
