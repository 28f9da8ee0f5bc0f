-- Paths that their texts are read as: those that bytes of a request spell, and all above them. These are facts of paths
-- alone, and would stand in xs_model.
use Rattle.std.specs.Prelude.{◌≡◌, ℕ, zero, suc, ◌+◌, ◌-◌, ◌/◌, ◌%◌, ◌<◌, ◌≤◌, ◌==◌, Bool, true, false, cond, not, ◌&&◌, ◌||◌, List, [], ◌∷◌, ◌++◌, length, take, drop, nat_lt, slice_index, get_or, Option, Some, None, Ok, ◌≢◌, codes, decimal}
use Rattle.std.specs.List.{AllByRecursion, list_all}
use Rattle.std.specs.Fmt.{digits, digits_onto, digit_glyph}
use Rattle.std.proofs.Common.{sym, refl, ap, subst, ◌∙◌, arith, append-nil, append_assoc, ne_eqb, le-ltb}
use Rattle.std.proofs.lemmas.Bool.{and_parts, and_right}
use Rattle.std.proofs.lemmas.Bool.Decides.{nat_tests}
use Rattle.std.proofs.lemmas.List.{take-append-drop}
use Rattle.xs_model.specs.declared.path.PathFault.{PathFault}
use Rattle.xs_model.specs.declared.path.PathFault.TheVariants.{TooLong, BadByte, DoubleSlash, TrailingSlash}
use Rattle.xs_model.specs.Paths.{Name, Path, child, parents, way_down, names_text, text, home, is_path_byte, path_limit, fault_from, trailing_fault, or_else, path_fault, onto_first, split_names, absolute_path, spelled_path, path_unless, path_of}
use Rattle.xs_model.specs.Requests.{ok_value}
use Rattle.xs_model.specs.Laws.{HasNames, IsShort}
use Rattle.xs_model.proofs.Maps.{not_Some, from_Some}
use Rattle.xs_model.proofs.PathLemmas.{child-way}
use Rattle.xs_model.proofs.LengthLemmas.{shorter_above, spelled-short}
use Rattle.xs_model.proofs.NameLemmas.{spelled-names}
use Rattle.machine_model.proofs.Lists.{all_append}
use Rattle.kept_model.specs.Sound.{IsSpelled}

abbrev NoSlash : List ℕ → Type 0
NoSlash bs = AllByRecursion (λ b. b ≢ 47) bs

abbrev ArePathBytes : List ℕ → Type 0
ArePathBytes bs = AllByRecursion (λ b. is_path_byte b ≡ true) bs

-- a path with names, with bytes that a path may have, and with a text that is not too long
record IsFine (p : Path) : Type 0 where
  names : HasNames p
  short : IsShort p
  bytes : ArePathBytes (names_text p)

-- TEXTS AND NAMES
names_text-append : (p q : Path) → names_text (p ++ q) ≡ names_text p ++ names_text q
names_text-append [] q = refl
names_text-append (n ∷ p) q = ap (λ x. (47 ∷ n) ++ x) (names_text-append p q) ∙ sym (append_assoc (47 ∷ n) (names_text p) (names_text q))

onto_text : (b : ℕ) (ns : Path) (x : List ℕ) → names_text ns ≡ 47 ∷ x → names_text (onto_first b ns) ≡ 47 ∷ b ∷ x
onto_text b [] x e = cc
onto_text b (n ∷ ns) x e = cc

names_text-split : (x : List ℕ) → names_text (split_names x) ≡ 47 ∷ x
names_text-split [] = refl
names_text-split (b ∷ bs) =
    elim (b == 47) as (λ c. (b == 47) ≡ c → names_text (cond c ([] ∷ split_names bs) (onto_first b (split_names bs))) ≡ 47 ∷ b ∷ bs) [
      | true ↦ λ t. ap (λ x. 47 ∷ x) (names_text-split bs) ∙ ap (λ d. 47 ∷ d ∷ bs) (sym (slash t))
      | false ↦ λ t. onto_text b (split_names bs) bs (names_text-split bs)
    ] refl
  where
    slash : (b == 47) ≡ true → b ≡ 47
    slash t = grind (arith, nat_tests)

split_name : (n x : List ℕ) → NoSlash n → split_names (n ++ 47 ∷ x) ≡ n ∷ split_names x
split_name [] x h = refl
split_name (b ∷ bs) x h =
    ap (λ c. cond c ([] ∷ split_names (bs ++ 47 ∷ x)) (onto_first b (split_names (bs ++ 47 ∷ x)))) (ne_eqb b 47 h.0) ∙ ap (onto_first b) (split_name bs x h.1)

split_last : (n : List ℕ) → NoSlash n → split_names n ≡ n ∷ []
split_last [] h = refl
split_last (b ∷ bs) h = ap (λ c. cond c ([] ∷ split_names bs) (onto_first b (split_names bs))) (ne_eqb b 47 h.0) ∙ ap (onto_first b) (split_last bs h.1)

split_text : (n : Name) (ns : Path) → HasNames (n ∷ ns) → split_names (n ++ names_text ns) ≡ n ∷ ns
split_text n [] h = ap split_names (append-nil n) ∙ split_last n h.0.no_slash
split_text n (m ∷ ns) h = split_name n (m ++ names_text ns) h.0.no_slash ∙ ap (λ ms. n ∷ ms) (split_text m ns h.1)

text_path : (p : Path) → HasNames p → absolute_path (text p) ≡ p
text_path [] h = refl
text_path ([] ∷ ns) h = absurd (omega (arith, h.0.filled))
text_path ((b ∷ bs) ∷ ns) h = split_text (b ∷ bs) ns h

-- BYTES WITHOUT A FAULT are bytes of paths
step : (x y v : Bool) (f g : PathFault) (rest : Option PathFault) → cond (not x || y) (Some f) (cond v (Some g) rest) ≡ None → (x ≡ true) × (rest ≡ None)
step true true v f g rest e = not_Some (sym e)
step true false true f g rest e = not_Some (sym e)
step true false false f g rest e = (refl, e)
step false y v f g rest e = not_Some (sym e)

read_bytes : (at before : ℕ) (bs : List ℕ) → fault_from at before bs ≡ None → ArePathBytes bs
read_bytes at before [] e = tt
read_bytes at before (b ∷ bs) e =
    let parts = step (is_path_byte b) (at == 0 && b == 64) (before == 47 && b == 47) (BadByte at) (DoubleSlash at) (fault_from (at + 1) b bs) e in
    (parts.0, read_bytes (at + 1) b bs parts.1)

first_none : (f t : Option PathFault) → or_else f t ≡ None → f ≡ None
first_none None t e = refl
first_none (Some f) t e = not_Some (sym e)

places : (b : ℕ) (bs : List ℕ) → path_fault (b ∷ bs) ≡ None → fault_from 0 0 (b ∷ bs) ≡ None
places b bs e = first_none (fault_from 0 0 (b ∷ bs)) (trailing_fault (b ∷ bs)) (within (nat_lt (path_limit (b ∷ bs)) (length (b ∷ bs))) (or_else (fault_from 0 0 (b ∷ bs)) (trailing_fault (b ∷ bs))) e)
  where
    within : (c : Bool) (rest : Option PathFault) → cond c (Some (TooLong (length (b ∷ bs)))) rest ≡ None → rest ≡ None
    within true rest e = not_Some (sym e)
    within false rest e = e

-- THE HOME OF A DOMAIN
of_test : (bs : List ℕ) → list_all is_path_byte bs ≡ true → ArePathBytes bs
of_test [] h = tt
of_test (b ∷ bs) h = let parts = and_parts (is_path_byte b) (list_all is_path_byte bs) h in (parts.0, of_test bs parts.1)

digit_byte : (b : ℕ) → 48 ≤ b → b < 58 → is_path_byte b ≡ true
digit_byte b p q = grind (arith, nat_tests)

glyph_byte : (d : ℕ) → d < 10 → is_path_byte (digit_glyph false d) ≡ true
glyph_byte d h = by (nat_lt d 10) refl
  where
    by : (c : Bool) → nat_lt d 10 ≡ c → is_path_byte (cond c (48 + d) (87 + d)) ≡ true
    by true t = digit_byte (48 + d) (omega arith) (omega arith)
    by false t = grind (arith, nat_tests)

digits_bytes : (k n : ℕ) (rest : List ℕ) → ArePathBytes rest → ArePathBytes (digits_onto k 10 false n rest)
digits_bytes zero n rest h = h
digits_bytes (suc k) n rest h =
    let more : ArePathBytes (digit_glyph false (n % 10) ∷ rest) = (glyph_byte (n % 10) (omega arith), h) in
    elim (n / 10 == 0) as (λ b. ArePathBytes (cond b (digit_glyph false (n % 10) ∷ rest) (digits_onto k 10 false (n / 10) (digit_glyph false (n % 10) ∷ rest)))) [
      | true ↦ more
      | false ↦ digits_bytes k (n / 10) (digit_glyph false (n % 10) ∷ rest) more
    ]

decimal_bytes : (n : ℕ) → ArePathBytes (decimal n)
unfolding digits
decimal_bytes n = digits_bytes 64 n [] tt

join_bytes : (xs ys : List ℕ) → ArePathBytes xs → ArePathBytes ys → ArePathBytes (xs ++ ys)
join_bytes xs ys h k = all_append (λ (b : ℕ). is_path_byte b ≡ true) xs ys h k

home_bytes : (domid : ℕ) → ArePathBytes (names_text (home domid))
home_bytes domid =
    join_bytes (47 ∷ codes "local") ((47 ∷ codes "domain") ++ ((47 ∷ decimal domid) ++ [])) (of_test (47 ∷ codes "local") refl)
    (join_bytes (47 ∷ codes "domain") ((47 ∷ decimal domid) ++ []) (of_test (47 ∷ codes "domain") refl)
    (join_bytes (47 ∷ decimal domid) [] (refl, decimal_bytes domid) tt))

-- THE PATHS THAT BYTES SPELL
absolute_bytes : (b : ℕ) (bs : List ℕ) → ArePathBytes (b ∷ bs) → ArePathBytes (names_text (absolute_path (b ∷ bs)))
absolute_bytes b [] h = tt
absolute_bytes b (c ∷ bs) h = subst ArePathBytes (sym (names_text-split (c ∷ bs))) (refl, h.1)

relative_bytes : (domid : ℕ) (bytes : List ℕ) → ArePathBytes bytes → ArePathBytes (names_text (home domid ++ split_names bytes))
relative_bytes domid bytes h =
    subst ArePathBytes (sym (names_text-append (home domid) (split_names bytes)))
    (join_bytes (names_text (home domid)) (names_text (split_names bytes)) (home_bytes domid) (subst ArePathBytes (sym (names_text-split bytes)) (refl, h)))

faultless_bytes : (bytes : List ℕ) (domid : ℕ) → path_fault bytes ≡ None → ArePathBytes (names_text (spelled_path bytes domid))
faultless_bytes [] domid e = not_Some (sym e)
faultless_bytes (b ∷ bs) domid e =
    let all : ArePathBytes (b ∷ bs) = read_bytes 0 0 (b ∷ bs) (places b bs e) in
    elim (b == 47) as (λ c. ArePathBytes (names_text (cond c (absolute_path (b ∷ bs)) (home domid ++ split_names (b ∷ bs))))) [
      | true ↦ absolute_bytes b bs all
      | false ↦ relative_bytes domid (b ∷ bs) all
    ]

bytes_by : (bytes : List ℕ) (domid : ℕ) (fault : Option PathFault) → path_fault bytes ≡ fault → (p : Path) → path_unless fault bytes domid ≡ Ok p → ArePathBytes (names_text p)
bytes_by bytes domid (Some fault) f p e = not_Some (ap ok_value e)
bytes_by bytes domid None f p e = subst (λ q. ArePathBytes (names_text q)) (from_Some (ap ok_value e)) (faultless_bytes bytes domid f)

read_fine : (bytes : List ℕ) (domid : ℕ) (p : Path) → path_of bytes domid ≡ Ok p → IsFine p
read_fine bytes domid p e = record {
  names = spelled-names bytes domid p e;
  short = spelled-short bytes domid p e;
  bytes = bytes_by bytes domid (path_fault bytes) refl p e;
}

-- A FINE PATH is read of its text
passes : (x y v : Bool) (f g rest : Option PathFault) → x ≡ true → y ≡ false → v ≡ false → cond (not x || y) f (cond v g rest) ≡ rest
passes x y v f g rest p q r = λ i. cond (not (p i) || q i) f (cond (r i) g rest)

-- the last of some bytes, `before` standing in front of them
abbrev last_of : ℕ → List ℕ → ℕ
last_of before [] = before
last_of before (b ∷ bs) = last_of b bs

in_name : (at before : ℕ) (n rest : List ℕ) → 0 < at → NoSlash n → ArePathBytes n → fault_from (at + length n) (last_of before n) rest ≡ None → fault_from at before (n ++ rest) ≡ None
in_name at before [] rest h s a e = let same : at + 0 ≡ at = omega arith in subst (λ k. fault_from k before rest ≡ None) same e
in_name at before (b ∷ n) rest h s a e =
    let later : at ≡ 0 → ⊥ = λ z. omega (arith, z, h) in
    let same : at + suc (length n) ≡ at + 1 + length n = omega arith in
    passes (is_path_byte b) (at == 0 && b == 64) (before == 47 && b == 47) _ _ (fault_from (at + 1) b (n ++ rest)) a.0
    (ap (λ c. c && b == 64) (ne_eqb at 0 later)) (and_right (before == 47) (b == 47) (ne_eqb b 47 s.0))
    ∙ in_name (at + 1) b n rest (omega arith) s.1 a.1 (subst (λ k. fault_from k (last_of b n) rest ≡ None) same e)

last_named : (before : ℕ) (n : List ℕ) → 0 < length n → NoSlash n → (last_of before n == 47) ≡ false
last_named before [] h s = absurd (omega (arith, h))
last_named before (b ∷ []) h s = ne_eqb b 47 s.0
last_named before (b ∷ c ∷ n) h s = last_named b (c ∷ n) (omega arith) s.1

bytes_front : (xs ys : List ℕ) → ArePathBytes (xs ++ ys) → ArePathBytes xs
bytes_front [] ys h = tt
bytes_front (x ∷ xs) ys h = (h.0, bytes_front xs ys h.1)

bytes_back : (xs ys : List ℕ) → ArePathBytes (xs ++ ys) → ArePathBytes ys
bytes_back [] ys h = h
bytes_back (x ∷ xs) ys h = bytes_back xs ys h.1

in_names : (at before : ℕ) (p : Path) → (before == 47) ≡ false → HasNames p → ArePathBytes (names_text p) → fault_from at before (names_text p) ≡ None
in_names at before [] o h a = refl
in_names at before (n ∷ ns) o h a =
    passes true (at == 0 && false) (before == 47 && true) _ _ (fault_from (at + 1) 47 (n ++ names_text ns)) refl (and_right (at == 0) false refl) (ap (λ c. c && true) o)
    ∙ in_name (at + 1) 47 n (names_text ns) (omega arith) h.0.no_slash (bytes_front n (names_text ns) a.1)
    (in_names (at + 1 + length n) (last_of 47 n) ns (last_named 47 n h.0.filled h.0.no_slash) h.1 (bytes_back n (names_text ns) a.1))

-- the end of a text
last_append : (before : ℕ) (a : List ℕ) (b : ℕ) (bs : List ℕ) → last_of before (a ++ b ∷ bs) ≡ last_of b bs
last_append before [] b bs = refl
last_append before (c ∷ a) b bs = last_append c a b bs

last_names : (before : ℕ) (n : Name) (ns : Path) → HasNames (n ∷ ns) → (last_of before (n ++ names_text ns) == 47) ≡ false
last_names before n [] h = ap (λ x. last_of before x == 47) (append-nil n) ∙ last_named before n h.0.filled h.0.no_slash
last_names before n (m ∷ ns) h = ap (λ c. c == 47) (last_append before n 47 (m ++ names_text ns)) ∙ last_names 47 m ns h.1

last_is : (b : ℕ) (bs : List ℕ) → get_or (b ∷ bs) (length bs) 0 ≡ last_of b bs
last_is b [] = refl
last_is b (c ∷ bs) = last_is c bs

last_index : (b : ℕ) (bs : List ℕ) → slice_index (b ∷ bs) (length (b ∷ bs) - 1) ≡ last_of b bs
last_index b bs = let e : length (b ∷ bs) - 1 ≡ length bs = omega arith in ap (λ k. get_or (b ∷ bs) k 0) e ∙ last_is b bs

ends_fine : (b : ℕ) (bs : List ℕ) → (last_of b bs == 47) ≡ false → trailing_fault (b ∷ bs) ≡ None
ends_fine b bs e =
    ap (λ c. cond (nat_lt 1 (length (b ∷ bs)) && c) (Some TrailingSlash) None) (ap (λ c. c == 47) (last_index b bs) ∙ e)
    ∙ ap (λ c. cond c (Some TrailingSlash) None) (and_right (nat_lt 1 (length (b ∷ bs))) false refl)

no_fault : (c : Bool) (long f t : Option PathFault) → c ≡ false → f ≡ None → t ≡ None → cond c long (or_else f t) ≡ None
no_fault c long f t p q r = λ i. cond (p i) long (or_else (q i) (r i))

faultless : (n : Name) (ns : Path) → IsFine (n ∷ ns) → path_fault (text (n ∷ ns)) ≡ None
faultless n ns fine =
    let whole : List ℕ = names_text (n ∷ ns) in
    no_fault (nat_lt 3072 (length whole)) (Some (TooLong (length whole))) (fault_from 0 0 whole) (trailing_fault whole)
    (le-ltb 3072 (length whole) fine.short)
    (in_names 0 0 (n ∷ ns) refl fine.names fine.bytes)
    (ends_fine 47 (n ++ names_text ns) (last_names 47 n ns fine.names))

fine_spelled : (p : Path) → IsFine p → IsSpelled p
fine_spelled [] fine = refl
fine_spelled (n ∷ ns) fine = ap (λ f. path_unless f (text (n ∷ ns)) 0) (faultless n ns fine) ∙ ap (λ q. Ok q) (text_path (n ∷ ns) fine.names)

-- SPELLED PATHS
pub read_spelled : (bytes : List ℕ) (domid : ℕ) (p : Path) → path_of bytes domid ≡ Ok p → IsSpelled p
read_spelled bytes domid p e = fine_spelled p (read_fine bytes domid p e)

pub root_spelled : IsSpelled []
root_spelled = refl

names_front : (p q : Path) → HasNames (p ++ q) → HasNames p
names_front [] q h = tt
names_front (n ∷ p) q h = (h.0, names_front p q h.1)

fine_above : (p q : Path) → IsFine (p ++ q) → IsFine p
fine_above p q fine =
    let longer : length (text p) ≤ length (text (p ++ q)) = shorter_above p q in
    let whole : length (text (p ++ q)) ≤ 3072 = fine.short in
    record {
      names = names_front p q fine.names;
      short = omega arith;
      bytes = bytes_front (names_text p) (names_text q) (subst ArePathBytes (names_text-append p q) fine.bytes);
    }

-- each path above a spelled one is spelled
pub above_spelled : (p q : Path) → IsSpelled (p ++ q) → IsSpelled p
above_spelled p q h = fine_spelled p (fine_above p q (read_fine (text (p ++ q)) 0 (p ++ q) h))

pub parents_spelled : (p : Path) → IsSpelled p → AllByRecursion IsSpelled (parents p)
parents_spelled [] h = tt
parents_spelled (n ∷ ns) h =
    let up : Path = take (length ns) (n ∷ ns) in
    (above_spelled up (drop (length ns) (n ∷ ns)) (subst IsSpelled (sym (take-append-drop (length ns) (n ∷ ns))) h), tt)

pub way_spelled : (p : Path) (ns : List Name) → IsSpelled (p ++ ns) → AllByRecursion IsSpelled (way_down p ns)
way_spelled p [] h = (above_spelled p [] h, tt)
way_spelled p (n ∷ ns) h = (above_spelled p (n ∷ ns) h, way_spelled (child p n) ns (subst IsSpelled (sym (child-way p n ns)) h))
