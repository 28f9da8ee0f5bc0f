-- What bytes read as is spelled by these bytes.
use Rattle.std.proofs.Common.{◌≡◌, ℕ, ◌+◌, ◌-◌, ◌*◌, ◌^◌, ◌<◌, ◌≤◌, Bool, true, false, cond, ltb, eqb, List, [], ◌∷◌, ◌++◌, length, drop, Option, Some, None, Result, Ok, Err, refl, sym, ap, subst, ◌∙◌, append_assoc, arith}
use Rattle.std.specs.Int.{w32}
use Rattle.std.specs.Prelude.{FitsSigned, MatchBool, ◌||◌}
use Rattle.std.specs.List.{concat, flat_map}
use Rattle.std.proofs.Math.Facts.{Fits-of_lt, sfits_to_z, of_z-to_z}
use Rattle.std.proofs.lemmas.Bool.{ltb-false, ltb-true, eqb-true}
use Rattle.std.proofs.lemmas.List.{length-drop, length-take}
use Rattle.stream_model.specs.declared.fault.StreamFault.{StreamFault}
use Rattle.stream_model.specs.declared.fault.StreamFault.TheVariants.{Cut, BadLength}
use Rattle.stream_model.specs.declared.record.RecordType.{RecordType}
use Rattle.stream_model.specs.declared.record.RecordType.TheVariants.{End, Global, Connection, Watch, Transaction, Node}
use Rattle.stream_model.specs.Fields.{AreBytes, u32_bytes, i32_bytes, u16_at, u32_at, i32_at, part}
use Rattle.stream_model.specs.Record.{StreamRecord, end_record, type_of, is_end}
use Rattle.stream_model.specs.Spelling.{type_number, entry_bytes, fields, need, whole_size, Slack, count_in, Says, NumbersFit, LengthsFit, Fits, BeginsWith, AreRecords, IsStream}
use Rattle.stream_model.specs.Reading.{header_fault, type_with, fixed_part, whole_need, need_in, entries_in, record_in, body_record, typed_record, record_at, onto, ended, joined, records_from, stream_of}
use Rattle.stream_model.proofs.FieldLemmas.{AreBytes-drop, AreBytes-take, u16_at-lt, u32_at-lt, u16_bytes-u16_at, u32_bytes-u32_at, concat-parts, length-entries_in, entries_fit, spelled-entries_in}
use Rattle.stream_model.proofs.ReadingSteps.{records_from-here, records_from-fault}
use Rattle.stream_model.proofs.SpelledIsRead.{only_end, goes_on}
use Rattle.stream_model.proofs.HeaderLemmas.{unless_ok, is_header}

-- the two bytes behind a connection's kind
pad_in : RecordType → List ℕ → List ℕ
pad_in End body = 0 ∷ 0 ∷ []
pad_in Global body = 0 ∷ 0 ∷ []
pad_in Connection body = part 6 2 body
pad_in Watch body = 0 ∷ 0 ∷ []
pad_in Transaction body = 0 ∷ 0 ∷ []
pad_in Node body = 0 ∷ 0 ∷ []

-- a body that is spelled by the record that it reads as
record Spelled (kind : RecordType) (body : List ℕ) : Type 0 where
  pub parts : concat (fields (pad_in kind body) (record_in kind body)) ++ drop (whole_need kind body) body ≡ body
  pub needs : need (record_in kind body) ≡ whole_need kind body
  pub numbers : NumbersFit (record_in kind body)
  pub lengths : LengthsFit (record_in kind body)
  pub pad : length (pad_in kind body) ≡ 2

length-part : (place len : ℕ) (body : List ℕ) → place + len ≤ length body → length (part place len body) ≡ len
length-part place len body le = omega (arith, length-take len (drop place body), length-drop place body)

i32_part : (place : ℕ) (body : List ℕ) → AreBytes body → place + 4 ≤ length body → i32_bytes (i32_at place body) ≡ part place 4 body
i32_part place body h le = ap u32_bytes (of_z-to_z {w = w32} (Fits-of_lt (u32_at-lt place body h))) ∙ u32_bytes-u32_at place body h le

i32_fits : (place : ℕ) (body : List ℕ) → AreBytes body → FitsSigned w32 (i32_at place body)
i32_fits place body h = sfits_to_z (Fits-of_lt (u32_at-lt place body h))

global_spelled : (body : List ℕ) → AreBytes body → 8 ≤ length body → Spelled Global body
unfolding pad_in
global_spelled body h le = record {
  parts = rw (i32_part 0 body h (omega arith), i32_part 4 body h (omega arith)) (concat-parts (4 ∷ 4 ∷ []) 0 body);
  needs = refl;
  numbers = (i32_fits 0 body h, i32_fits 4 body h);
  lengths = tt;
  pad = refl;
}

count-by : (b : Bool) (more : List ℕ) → AreBytes more → cond b 0 (u32_at 0 more) < 2 ^ 32
count-by true more h = omega arith
count-by false more h = u32_at-lt 0 more h

count-lt : (more : List ℕ) → AreBytes more → count_in more < 2 ^ 32
count-lt more h = count-by (ltb (length more) 4) more h

transaction_spelled : (body : List ℕ) → AreBytes body → 8 ≤ length body → Spelled Transaction body
unfolding pad_in
transaction_spelled body h le = record {
  parts = rw (u32_bytes-u32_at 0 body h (omega arith), u32_bytes-u32_at 4 body h (omega arith)) (concat-parts (4 ∷ 4 ∷ []) 0 body);
  needs = refl;
  numbers = (u32_at-lt 0 body h, u32_at-lt 4 body h, count-lt (drop 8 body) (AreBytes-drop 8 body h));
  lengths = tt;
  pad = refl;
}

watch_spelled : (body : List ℕ) → AreBytes body → 8 ≤ length body → whole_need Watch body ≤ length body → Spelled Watch body
unfolding pad_in
watch_spelled body h fixed le =
    let wpath = length-part 8 (u16_at 4 body) body (omega arith) in
    let token = length-part (8 + u16_at 4 body) (u16_at 6 body) body (omega arith) in
    let small_wpath = u16_at-lt 4 body h in
    let small_token = u16_at-lt 6 body h in
    record {
      parts = rw (wpath, token, u32_bytes-u32_at 0 body h (omega arith), u16_bytes-u16_at 4 body h (omega arith), u16_bytes-u16_at 6 body h (omega arith))
          (concat-parts (4 ∷ 2 ∷ 2 ∷ u16_at 4 body ∷ u16_at 6 body ∷ []) 0 body);
      needs = omega (arith, wpath, token);
      numbers = u32_at-lt 0 body h;
      lengths = (omega arith, omega arith);
      pad = refl;
    }

connection_spelled : (body : List ℕ) → AreBytes body → 28 ≤ length body → whole_need Connection body ≤ length body → length body < 2 ^ 32 → Spelled Connection body
unfolding pad_in
connection_spelled body h fixed le small =
    let inbox = length-part 28 (u32_at 16 body) body (omega arith) in
    let unsent = length-part (28 + u32_at 16 body) (u32_at 24 body) body (omega arith) in
    record {
      parts = rw (inbox, unsent, u32_bytes-u32_at 0 body h (omega arith), u16_bytes-u16_at 4 body h (omega arith), u32_bytes-u32_at 16 body h (omega arith), u32_bytes-u32_at 20 body h (omega arith), u32_bytes-u32_at 24 body h (omega arith))
          (concat-parts (4 ∷ 2 ∷ 2 ∷ 8 ∷ 4 ∷ 4 ∷ 4 ∷ u32_at 16 body ∷ u32_at 24 body ∷ []) 0 body);
      needs = omega (arith, inbox, unsent);
      numbers = (u32_at-lt 0 body h, u16_at-lt 4 body h, length-part 8 8 body (omega arith), u32_at-lt 20 body h);
      lengths = omega (arith, inbox, unsent);
      pad = length-part 6 2 body (omega arith);
    }

node_spelled : (body : List ℕ) → AreBytes body → 16 ≤ length body → whole_need Node body ≤ length body → Spelled Node body
unfolding pad_in
node_spelled body h fixed le =
    let count = u16_at 14 body in
    let perms = length-entries_in count (drop 16 body) in
    let path = length-part (16 + 4 * count) (u16_at 8 body) body (omega arith) in
    let value = length-part (16 + 4 * count + u16_at 8 body) (u16_at 10 body) body (omega arith) in
    let entries : flat_map entry_bytes (entries_in count (drop 16 body)) ≡ part 16 (4 * count) body = spelled-entries_in count (drop 16 body) (AreBytes-drop 16 body h) (omega (arith, length-drop 16 body)) in
    let small_count = u16_at-lt 14 body h in
    let small_path = u16_at-lt 8 body h in
    let small_value = u16_at-lt 10 body h in
    record {
      parts = rw (perms, path, value, entries, u32_bytes-u32_at 0 body h (omega arith), u32_bytes-u32_at 4 body h (omega arith), u16_bytes-u16_at 8 body h (omega arith), u16_bytes-u16_at 10 body h (omega arith), u16_bytes-u16_at 12 body h (omega arith), u16_bytes-u16_at 14 body h (omega arith))
          (concat-parts (4 ∷ 4 ∷ 2 ∷ 2 ∷ 2 ∷ 2 ∷ 4 * count ∷ u16_at 8 body ∷ u16_at 10 body ∷ []) 0 body);
      needs = omega (arith, perms, path, value);
      numbers = (u32_at-lt 0 body h, u32_at-lt 4 body h, u16_at-lt 12 body h, entries_fit count (drop 16 body) (AreBytes-drop 16 body h));
      lengths = (omega arith, omega arith, omega arith);
      pad = refl;
    }

body_spelled : (kind : RecordType) (body : List ℕ) → AreBytes body → fixed_part kind ≤ length body → whole_need kind body ≤ length body → length body < 2 ^ 32 → Spelled kind body
unfolding pad_in
body_spelled End body h fixed le small = record { parts = refl; needs = refl; numbers = tt; lengths = tt; pad = refl }
body_spelled Global body h fixed le small = global_spelled body h fixed
body_spelled Connection body h fixed le small = connection_spelled body h fixed le small
body_spelled Watch body h fixed le small = watch_spelled body h fixed le
body_spelled Transaction body h fixed le small = transaction_spelled body h fixed
body_spelled Node body h fixed le small = node_spelled body h fixed le

-- where what is needed is there, so is the fixed part
need_in-there : (b : Bool) (fixed whole len : ℕ) → ltb len fixed ≡ b → cond b fixed whole ≤ len → (fixed ≤ len) × (cond b fixed whole ≡ whole)
need_in-there true fixed whole len e le = let lt : len < fixed = ltb-true _ _ e in absurd (omega arith)
need_in-there false fixed whole len e le = (ltb-false _ _ e, refl)

same_type : (kind : RecordType) (body : List ℕ) → type_of (record_in kind body) ≡ kind
same_type End body = refl
same_type Global body = refl
same_type Connection body = refl
same_type Watch body = refl
same_type Transaction body = refl
same_type Node body = refl

-- what stands behind the fields says what was read
says_read : (kind : RecordType) (body : List ℕ) → Says (drop (whole_need kind body) body) (record_in kind body)
says_read End body = tt
says_read Global body = tt
says_read Connection body = tt
says_read Watch body = tt
says_read Transaction body = refl
says_read Node body = tt

-- ---- the tests that a record has passed

guard_ok : {A : Type 0} (b : Bool) (d : StreamFault) (x : Result A StreamFault) (y : A) → cond b (Err d) x ≡ Ok y → (b ≡ false) × (x ≡ Ok y)
guard_ok true d x y e = absurd cc
guard_ok false d x y e = (refl, e)

ok_is : (x y : StreamRecord) → ◌≡◌ {A = Result StreamRecord StreamFault} (Ok x) (Ok y) → x ≡ y
ok_is x y e = cc

neither : (a b : Bool) → (a || b) ≡ false → (a ≡ false) × (b ≡ false)
neither true b e = absurd cc
neither false b e = (refl, e)

none_is_none : (kind : RecordType) → None ≡ Some kind → ⊥
none_is_none kind e = cc

some_is : {A : Type 0} (x y : A) → Some x ≡ Some y → x ≡ y
some_is x y e = cc

-- the type is the one whose number stands there
numbered : (n k : ℕ) (first kind : RecordType) (more : Option RecordType) (b : Bool) → eqb n k ≡ b → k ≡ type_number first
    → cond b (Some first) more ≡ Some kind → (more ≡ Some kind → n ≡ type_number kind) → n ≡ type_number kind
numbered n k first kind more true same is e others = eqb-true n k same ∙ is ∙ ap type_number (some_is first kind e)
numbered n k first kind more false same is e others = others e

number_of_type : (n : ℕ) (kind : RecordType) → type_with n ≡ Some kind → n ≡ type_number kind
number_of_type n kind e =
    numbered n 0 End kind _ (eqb n 0) refl refl e (λ e1.
    numbered n 1 Global kind _ (eqb n 1) refl refl e1 (λ e2.
    numbered n 2 Connection kind _ (eqb n 2) refl refl e2 (λ e3.
    numbered n 3 Watch kind _ (eqb n 3) refl refl e3 (λ e4.
    numbered n 4 Transaction kind _ (eqb n 4) refl refl e4 (λ e5.
    numbered n 5 Node kind None (eqb n 5) refl refl e5 (λ e6. absurd (none_is_none kind e6)))))))

typed_ok : (at : ℕ) (found : Option RecordType) (bytes : List ℕ) (r : StreamRecord) → typed_record at found bytes ≡ Ok r → (kind : RecordType) × (found ≡ Some kind) × (typed_record at (Some kind) bytes ≡ Ok r)
typed_ok at None bytes r e = absurd cc
typed_ok at (Some kind) bytes r e = (kind, refl, e)

-- what a record that was read says of the bytes
pub record Found (at : ℕ) (bytes : List ℕ) (r : StreamRecord) : Type 0 where
  pub kind : RecordType
  pub number : u32_at 0 bytes ≡ type_number kind
  pub whole : whole_size (u32_at 4 bytes) ≤ length bytes
  pub enough : need_in kind (part 8 (u32_at 4 bytes) bytes) ≤ u32_at 4 bytes
  pub no_more : u32_at 4 bytes ≤ need_in kind (part 8 (u32_at 4 bytes) bytes) + 7
  pub is : record_in kind (part 8 (u32_at 4 bytes) bytes) ≡ r

pub is_found : (at : ℕ) (bytes : List ℕ) (r : StreamRecord) → record_at at bytes ≡ Ok r → Found at bytes r
is_found at bytes r e =
    let len = u32_at 4 bytes in
    let body = part 8 len bytes in
    let head = guard_ok (ltb (length bytes) 8) (Cut at) (typed_record at (type_with (u32_at 0 bytes)) bytes) r e in
    let typed = typed_ok at (type_with (u32_at 0 bytes)) bytes r head.1 in
    let needed = need_in typed.0 body in
    let whole = guard_ok (ltb (length bytes) (whole_size len)) (Cut at) (body_record at typed.0 needed body) r typed.2 in
    let fitting = guard_ok (ltb (length body) needed || ltb (needed + 7) (length body)) (BadLength at needed (length body)) (Ok (record_in typed.0 body)) r whole.1 in
    let sizes = neither (ltb (length body) needed) (ltb (needed + 7) (length body)) fitting.0 in
    let there : whole_size len ≤ length bytes = ltb-false _ _ whole.0 in
    let long : length body ≡ len = length-part 8 len bytes (omega arith) in
    record {
      kind = typed.0;
      number = number_of_type (u32_at 0 bytes) typed.0 typed.1;
      whole = there;
      enough = omega (arith, ltb-false _ _ sizes.0);
      no_more = omega (arith, ltb-false _ _ sizes.1);
      is = ok_is _ _ fitting.1;
    }

-- ---- a record and what follows it

whole_spelled : (bytes number counted body surplus padding : List ℕ) (len pad size : ℕ) → number ≡ part 0 4 bytes → counted ≡ part 4 4 bytes → body ++ surplus ≡ part 8 len bytes
    → padding ≡ part (8 + len) pad bytes → 8 + len + pad ≡ size → concat (number ∷ counted ∷ body ∷ surplus ∷ padding ∷ []) ++ drop size bytes ≡ bytes
whole_spelled bytes number counted body surplus padding len pad size e0 e4 e8 e9 total =
    let grouped : body ++ (surplus ++ (padding ++ [])) ≡ part 8 len bytes ++ (part (8 + len) pad bytes ++ []) = sym (append_assoc body surplus (padding ++ [])) ∙ rw (e8, e9) refl in
    rw (grouped, e0, e4, ← total) (concat-parts (4 ∷ 4 ∷ len ∷ pad ∷ []) 0 bytes)

pub begins_with : (at : ℕ) (bytes : List ℕ) (r : StreamRecord) → AreBytes bytes → record_at at bytes ≡ Ok r → BeginsWith bytes r (drop (whole_size (u32_at 4 bytes)) bytes)
begins_with at bytes r h e =
    let found = is_found at bytes r e in
    let whole = found.whole in
    let kind = found.kind in
    let len = u32_at 4 bytes in
    let body = part 8 len bytes in
    let made = record_in kind body in
    let long : length body ≡ len = length-part 8 len bytes (omega arith) in
    let there = need_in-there (ltb (length body) (fixed_part kind)) (fixed_part kind) (whole_need kind body) (length body) refl (omega (arith, found.enough)) in
    let needed : need_in kind body ≡ whole_need kind body = there.1 in
    let spelled = body_spelled kind body (AreBytes-take len (drop 8 bytes) (AreBytes-drop 8 bytes h)) there.0 (omega (arith, found.enough)) (omega (arith, u32_at-lt 4 bytes h)) in
    let surplus = drop (whole_need kind body) body in
    let padding = part (8 + len) (whole_size len - (8 + len)) bytes in
    let slack : Slack = record { pad = pad_in kind body; more = surplus; padding = padding } in
    let over : length surplus ≡ length body - whole_need kind body = length-drop (whole_need kind body) body in
    let padded : length padding ≡ whole_size len - (8 + len) = length-part (8 + len) (whole_size len - (8 + len)) bytes (omega arith) in
    let sum : need made + length surplus ≡ len = omega (arith, spelled.needs, found.enough) in
    let fits : Fits slack made = record {
      numbers = spelled.numbers;
      lengths = spelled.lengths;
      pad = spelled.pad;
      more = omega (arith, found.enough, found.no_more);
      says = says_read kind body;
      body = omega (arith, u32_at-lt 4 bytes h);
      padding = omega (arith, sum, padded);
    } in
    let number : u32_bytes (type_number (type_of made)) ≡ part 0 4 bytes = ap (λ (k : RecordType). u32_bytes (type_number k)) (same_type kind body) ∙ ap u32_bytes (sym found.number) ∙ u32_bytes-u32_at 0 bytes h (omega arith) in
    let counted : u32_bytes (need made + length surplus) ≡ part 4 4 bytes = ap u32_bytes sum ∙ u32_bytes-u32_at 4 bytes h (omega arith) in
    let same = whole_spelled bytes (u32_bytes (type_number (type_of made))) (u32_bytes (need made + length surplus)) (concat (fields (pad_in kind body) made)) surplus padding len (whole_size len - (8 + len)) (whole_size len) number counted spelled.parts refl (omega arith) in
    subst (λ (x : StreamRecord). BeginsWith bytes x (drop (whole_size len) bytes)) found.is (record { slack = slack; fits = fits; parts = sym same })

-- ---- all records

oks : (xs ys : List StreamRecord) → ◌≡◌ {A = Result (List StreamRecord) StreamFault} (Ok xs) (Ok ys) → xs ≡ ys
oks xs ys e = cc

err_is_ok : (fault : StreamFault) (xs : List StreamRecord) → ◌≡◌ {A = Result (List StreamRecord) StreamFault} (Err fault) (Ok xs) → ⊥
err_is_ok fault xs e = cc

nil_is_cons : (r : StreamRecord) (rs : List StreamRecord) → ◌≡◌ {A = List StreamRecord} [] (r ∷ rs) → ⊥
nil_is_cons r rs e = cc

same_first : (r s : StreamRecord) (rs ss : List StreamRecord) → r ∷ rs ≡ s ∷ ss → (r ≡ s) × (rs ≡ ss)
same_first r s rs ss e = (cc, cc)

-- what stands behind a record that was read
abbrev Goes : ℕ → List ℕ → StreamRecord → List StreamRecord → Type 0
Goes at rest r more = MatchBool (is_end r) ((rest ≡ []) × (more ≡ [])) (records_from at 0 rest ≡ Ok more)

same_goes : (at : ℕ) (rest : List ℕ) (r s : StreamRecord) (rs ss : List StreamRecord) → r ≡ s → rs ≡ ss → Goes at rest s ss → Goes at rest r rs
same_goes at rest r s rs ss e f h = rw (e, f) h

onto_ok : (r : StreamRecord) (found : Result (List StreamRecord) StreamFault) (rs : List StreamRecord) → onto r found ≡ Ok rs → (more : List StreamRecord) × (found ≡ Ok more) × (rs ≡ r ∷ more)
onto_ok r (Ok more) rs e = (more, refl, sym (oks _ _ e))
onto_ok r (Err fault) rs e = absurd (err_is_ok _ _ e)

ended_ok : (at : ℕ) (rest : List ℕ) (rs : List StreamRecord) → ended at rest ≡ Ok rs → (rest ≡ []) × (rs ≡ end_record ∷ [])
ended_ok at [] rs e = (refl, sym (oks _ _ e))
ended_ok at (b ∷ rest) rs e = absurd (err_is_ok _ _ e)

joined_ok : (at : ℕ) (rest : List ℕ) (r : StreamRecord) (rs : List StreamRecord) (b : Bool) → is_end r ≡ b
    → cond b (ended at rest) (onto r (records_from at 0 rest)) ≡ Ok rs → (more : List StreamRecord) × (rs ≡ r ∷ more) × Goes at rest r more
joined_ok at rest r rs true end e =
    let done = ended_ok at rest rs e in
    ([], done.1 ∙ ap (λ (x : StreamRecord). x ∷ []) (sym (only_end r end)), rw end (done.0, refl))
joined_ok at rest r rs false end e = let more = onto_ok r (records_from at 0 rest) rs e in (more.0, more.2, rw end more.1)

-- a step of reading that ends well
pub record Step (at : ℕ) (bytes : List ℕ) (rs : List StreamRecord) : Type 0 where
  pub first : StreamRecord
  pub read : record_at at bytes ≡ Ok first
  pub more : List StreamRecord
  pub is : rs ≡ first ∷ more
  pub goes : Goes (at + whole_size (u32_at 4 bytes)) (drop (whole_size (u32_at 4 bytes)) bytes) first more

pub step_by : (at : ℕ) (bytes : List ℕ) (rs : List StreamRecord) (here : Result StreamRecord StreamFault) → record_at at bytes ≡ here → records_from at 0 bytes ≡ Ok rs → Step at bytes rs
step_by at bytes rs (Err fault) e all = absurd (err_is_ok fault rs (sym (records_from-fault at bytes fault e) ∙ all))
step_by at bytes rs (Ok r) e all =
    let size = whole_size (u32_at 4 bytes) in
    let le = (is_found at bytes r e).whole in
    let here : joined at size bytes (Ok r) (records_from (at + size) 0 (drop size bytes)) ≡ Ok rs = ap (λ (x : Result StreamRecord StreamFault). joined at size bytes x (records_from (at + size) 0 (drop size bytes))) (sym e) ∙ sym (records_from-here at bytes le) ∙ all in
    let found = joined_ok (at + size) (drop size bytes) r rs (is_end r) refl here in
    record { first = r; read = e; more = found.0; is = found.1; goes = found.2 }

pub are_records : (rs : List StreamRecord) (at : ℕ) (bytes : List ℕ) → AreBytes bytes → records_from at 0 bytes ≡ Ok rs → AreRecords bytes rs
are_records [] at bytes h e = let step = step_by at bytes [] (record_at at bytes) refl e in absurd (nil_is_cons step.first step.more step.is)
are_records (r ∷ rs) at bytes h e =
    let step = step_by at bytes (r ∷ rs) (record_at at bytes) refl e in
    let same = same_first r step.first rs step.more step.is in
    let size = whole_size (u32_at 4 bytes) in
    let rest = drop size bytes in
    let begins = begins_with at bytes step.first h step.read in
    let goes = same_goes (at + size) rest r step.first rs step.more same.0 same.1 step.goes in (
      rest,
      subst (λ (x : StreamRecord). BeginsWith bytes x rest) (sym same.0) begins,
      goes_on (is_end r) ((rest ≡ []) × (rs ≡ [])) (records_from (at + size) 0 rest ≡ Ok rs) (AreRecords rest rs) (are_records rs (at + size) rest (AreBytes-drop size bytes h)) goes,
    )

pub is_stream : (bytes : List ℕ) (records : List StreamRecord) → AreBytes bytes → stream_of bytes ≡ Ok records → IsStream bytes records
is_stream bytes records h e =
    let parts = unless_ok (header_fault bytes) (records_from 16 0 (drop 16 bytes)) records e in
    record {
      body = drop 16 bytes;
      headed = is_header bytes h parts.0;
      spelled = are_records records 16 (drop 16 bytes) (AreBytes-drop 16 bytes h) parts.1;
    }
