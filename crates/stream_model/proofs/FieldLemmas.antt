-- A field that is written is read again, and what was read is written the same.
use Rattle.std.proofs.Common.{◌≡◌, ℕ, zero, suc, ◌+◌, ◌*◌, ◌^◌, ◌<◌, ◌≤◌, List, [], ◌∷◌, ◌++◌, length, take, drop, refl, sym, ap, ◌∙◌, append_assoc, arith, inl, inr}
use Rattle.std.specs.List.{concat, flat_map, AllByRecursion}
use Rattle.std.proofs.lemmas.Bool.{cases_lt}
use Rattle.std.specs.Int.{w16, w32, from_le_bytes}
use Rattle.std.proofs.lemmas.List.{take_at, drop_at, take-append-drop, drop-drop, length-append, length-take, length-drop, get_or-drop, get_or-take, get_or_past, take-take, drop-take}
use Rattle.std.proofs.lemmas.Nat.{le_bytes_2, le_bytes_4}
use Rattle.byteorder.specs.Endian.{little_number}
use Rattle.byteorder.specs.Numbers.{little_number-reads_back, little_from-lt, little_from-take, length-bytes_low_first}
use Rattle.stream_model.specs.declared.record.RawPerm.{RawPerm}
use Rattle.stream_model.specs.Fields.{AreBytes, u16_bytes, u32_bytes, u16_at, u32_at, part}
use Rattle.stream_model.specs.Spelling.{entry_bytes}
use Rattle.stream_model.specs.Reading.{entries_in}

pub AreBytes-drop : (n : ℕ) (bytes : List ℕ) → AreBytes bytes → AreBytes (drop n bytes)
AreBytes-drop n bytes h i = rw get_or-drop (h (n + i))

pub AreBytes-take : (n : ℕ) (bytes : List ℕ) → AreBytes bytes → AreBytes (take n bytes)
AreBytes-take n bytes h i =
    elim (cases_lt i n) [
      | inl lt ↦ rw (get_or-take n bytes i 0 lt) (h i)
      | inr le ↦ rw (get_or_past (take n bytes) i 0 (omega (arith, length-take n bytes))) (omega arith)
    ]

-- ---- numbers

pub length-u16_bytes : (n : ℕ) → length (u16_bytes n) ≡ 2
unfolding u16_bytes
length-u16_bytes n = length-bytes_low_first 0 2 n

pub length-u32_bytes : (n : ℕ) → length (u32_bytes n) ≡ 4
unfolding u32_bytes
length-u32_bytes n = length-bytes_low_first 0 4 n

pub u16_at-u16_bytes : (n : ℕ) (rest : List ℕ) → n < 2 ^ 16 → u16_at 0 (u16_bytes n ++ rest) ≡ n
unfolding u16_bytes u16_at
u16_at-u16_bytes n rest lt = little_number-reads_back 2 n rest (omega arith)

pub u32_at-u32_bytes : (n : ℕ) (rest : List ℕ) → n < 2 ^ 32 → u32_at 0 (u32_bytes n ++ rest) ≡ n
unfolding u32_bytes u32_at
u32_at-u32_bytes n rest lt = little_number-reads_back 4 n rest (omega arith)

pub u16_at-lt : (place : ℕ) (bytes : List ℕ) → AreBytes bytes → u16_at place bytes < 2 ^ 16
unfolding u16_at
u16_at-lt place bytes h = let f = little_from-lt 0 2 (drop place bytes) (AreBytes-drop place bytes h) in omega (arith, f)

pub u32_at-lt : (place : ℕ) (bytes : List ℕ) → AreBytes bytes → u32_at place bytes < 2 ^ 32
unfolding u32_at
u32_at-lt place bytes h = let f = little_from-lt 0 4 (drop place bytes) (AreBytes-drop place bytes h) in omega (arith, f)

-- a number is read from the place that its bytes begin at
pub u16_at-drop : (place : ℕ) (bytes : List ℕ) → u16_at place bytes ≡ u16_at 0 (drop place bytes)
unfolding u16_at
u16_at-drop place bytes = refl

pub u32_at-drop : (place : ℕ) (bytes : List ℕ) → u32_at place bytes ≡ u32_at 0 (drop place bytes)
unfolding u32_at
u32_at-drop place bytes = refl

-- what was read is written the same
pub u16_bytes-u16_at : (place : ℕ) (bytes : List ℕ) → AreBytes bytes → place + 2 ≤ length bytes → u16_bytes (u16_at place bytes) ≡ part place 2 bytes
unfolding u16_bytes u16_at
u16_bytes-u16_at place bytes h le =
    let here = part place 2 bytes in
    let len : length here ≡ 2 = omega (arith, length-take 2 (drop place bytes), length-drop place bytes) in
    let same : little_number 2 (drop place bytes) ≡ from_le_bytes w16 here = sym (little_from-take 0 2 2 (drop place bytes) (omega arith)) ∙ (omega arith) in
    le_bytes_2 here (little_number 2 (drop place bytes)) len (AreBytes-take 2 (drop place bytes) (AreBytes-drop place bytes h)) same

pub u32_bytes-u32_at : (place : ℕ) (bytes : List ℕ) → AreBytes bytes → place + 4 ≤ length bytes → u32_bytes (u32_at place bytes) ≡ part place 4 bytes
unfolding u32_bytes u32_at
u32_bytes-u32_at place bytes h le =
    let here = part place 4 bytes in
    let len : length here ≡ 4 = omega (arith, length-take 4 (drop place bytes), length-drop place bytes) in
    let same : little_number 4 (drop place bytes) ≡ from_le_bytes w32 here = sym (little_from-take 0 4 4 (drop place bytes) (omega arith)) ∙ (omega arith) in
    le_bytes_4 here (little_number 4 (drop place bytes)) len (AreBytes-take 4 (drop place bytes) (AreBytes-drop place bytes h)) same

-- ---- rows of fields

concat-append : (xs ys : List (List ℕ)) → concat (xs ++ ys) ≡ concat xs ++ concat ys
concat-append [] ys = refl
concat-append (x ∷ xs) ys = ap (λ (r : List ℕ). x ++ r) (concat-append xs ys) ∙ sym (append_assoc x (concat xs) (concat ys))

-- a field behind others that take up `place` bytes
pub drop-fields : (before after : List (List ℕ)) (rest : List ℕ) (place : ℕ) → length (concat before) ≡ place → drop place (concat (before ++ after) ++ rest) ≡ concat after ++ rest
drop-fields before after rest place len =
    rw (concat-append before after, append_assoc) (drop_at (concat before) (concat after ++ rest) place len)

pub u16_field : (before after : List (List ℕ)) (n : ℕ) (rest : List ℕ) (place : ℕ) → length (concat before) ≡ place → n < 2 ^ 16 → u16_at place (concat (before ++ (u16_bytes n ∷ after)) ++ rest) ≡ n
u16_field before after n rest place len lt =
    u16_at-drop place (concat (before ++ (u16_bytes n ∷ after)) ++ rest)
    ∙ ap (u16_at 0) (drop-fields before (u16_bytes n ∷ after) rest place len ∙ append_assoc (u16_bytes n) (concat after) rest)
    ∙ u16_at-u16_bytes n (concat after ++ rest) lt

pub u32_field : (before after : List (List ℕ)) (n : ℕ) (rest : List ℕ) (place : ℕ) → length (concat before) ≡ place → n < 2 ^ 32 → u32_at place (concat (before ++ (u32_bytes n ∷ after)) ++ rest) ≡ n
u32_field before after n rest place len lt =
    u32_at-drop place (concat (before ++ (u32_bytes n ∷ after)) ++ rest)
    ∙ ap (u32_at 0) (drop-fields before (u32_bytes n ∷ after) rest place len ∙ append_assoc (u32_bytes n) (concat after) rest)
    ∙ u32_at-u32_bytes n (concat after ++ rest) lt

pub part_field : (before after : List (List ℕ)) (text rest : List ℕ) (place len : ℕ) → length (concat before) ≡ place → length text ≡ len → part place len (concat (before ++ (text ∷ after)) ++ rest) ≡ text
part_field before after text rest place len starts ends =
    ap (take len) (drop-fields before (text ∷ after) rest place starts ∙ append_assoc text (concat after) rest)
    ∙ take_at text (concat after ++ rest) len ends

-- consecutive parts of these lengths, and the place behind them
abbrev pub parts : ℕ → List ℕ → List ℕ → List (List ℕ)
parts place [] bytes = []
parts place (len ∷ lens) bytes = part place len bytes ∷ parts (place + len) lens bytes

abbrev pub behind : ℕ → List ℕ → ℕ
behind place [] = place
behind place (len ∷ lens) = behind (place + len) lens

pub concat-parts : (lens : List ℕ) (place : ℕ) (bytes : List ℕ) → concat (parts place lens bytes) ++ drop (behind place lens) bytes ≡ drop place bytes
concat-parts [] place bytes = refl
concat-parts (len ∷ lens) place bytes =
    append_assoc (part place len bytes) (concat (parts (place + len) lens bytes)) (drop (behind (place + len) lens) bytes)
    ∙ ap (λ (r : List ℕ). part place len bytes ++ r) (concat-parts lens (place + len) bytes ∙ sym (drop-drop len place bytes))
    ∙ take-append-drop len (drop place bytes)

-- ---- permission entries

pub length-entries : (perms : List RawPerm) → length (flat_map entry_bytes perms) ≡ 4 * length perms
length-entries [] = refl
length-entries (p ∷ perms) = omega (arith, length-entries perms, length-u16_bytes p.domid, length-append (u16_bytes p.domid) (flat_map entry_bytes perms))

-- what is spelled so is read
pub entries_in-spelled : (perms : List RawPerm) (rest : List ℕ) → AllByRecursion (λ p. p.domid < 2 ^ 16) perms → entries_in (length perms) (flat_map entry_bytes perms ++ rest) ≡ perms
entries_in-spelled [] rest fits = refl
entries_in-spelled (p ∷ perms) rest fits =
    let more = flat_map entry_bytes perms ++ rest in
    let together : (u16_bytes p.domid ++ flat_map entry_bytes perms) ++ rest ≡ u16_bytes p.domid ++ more = append_assoc (u16_bytes p.domid) (flat_map entry_bytes perms) rest in
    let domid : u16_at 2 (p.letter ∷ p.flags ∷ (u16_bytes p.domid ++ more)) ≡ p.domid = u16_at-drop 2 (p.letter ∷ p.flags ∷ (u16_bytes p.domid ++ more)) ∙ u16_at-u16_bytes p.domid more fits.0 in
    let left : drop 2 (u16_bytes p.domid ++ more) ≡ more = drop_at (u16_bytes p.domid) more 2 (length-u16_bytes p.domid) in
    rw (together, domid, left, entries_in-spelled perms rest fits.1) refl

pub length-entries_in : (count : ℕ) (bytes : List ℕ) → length (entries_in count bytes) ≡ count
length-entries_in zero bytes = refl
length-entries_in (suc count) bytes = ap suc (length-entries_in count (drop 4 bytes))

pub entries_fit : (count : ℕ) (bytes : List ℕ) → AreBytes bytes → AllByRecursion (λ p. p.domid < 2 ^ 16) (entries_in count bytes)
entries_fit zero bytes h = tt
entries_fit (suc count) bytes h = (u16_at-lt 2 bytes h, entries_fit count (drop 4 bytes) (AreBytes-drop 4 bytes h))

-- what is read is spelled so
take-add : (n m : ℕ) (xs : List ℕ) → take (n + m) xs ≡ take n xs ++ take m (drop n xs)
take-add n m xs =
    sym (take-append-drop n (take (n + m) xs))
    ∙ ap (λ (r : List ℕ). r ++ drop n (take (n + m) xs)) (take-take n (n + m) xs (omega arith))
    ∙ ap (λ (r : List ℕ). take n xs ++ r) (drop-take n m xs)

pub spelled-entries_in : (count : ℕ) (bytes : List ℕ) → AreBytes bytes → 4 * count ≤ length bytes → flat_map entry_bytes (entries_in count bytes) ≡ take (4 * count) bytes
spelled-entries_in zero bytes h le = refl
spelled-entries_in (suc count) [] h le = absurd (omega arith)
spelled-entries_in (suc count) (a ∷ []) h le = absurd (omega arith)
spelled-entries_in (suc count) (a ∷ b ∷ bytes) h le =
    let cells : u16_bytes (u16_at 2 (a ∷ b ∷ bytes)) ≡ take 2 bytes = u16_bytes-u16_at 2 (a ∷ b ∷ bytes) h (omega arith) in
    let others : flat_map entry_bytes (entries_in count (drop 2 bytes)) ≡ take (4 * count) (drop 2 bytes) = spelled-entries_in count (drop 2 bytes) (AreBytes-drop 4 (a ∷ b ∷ bytes) h) (omega (arith, length-drop 2 bytes)) in
    let size : 4 * suc count ≡ suc (suc (2 + 4 * count)) = omega arith in
    rw (size, cells, others, take-add 2 (4 * count) bytes) refl
