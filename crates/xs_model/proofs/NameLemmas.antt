-- The paths that bytes spell have names: each is filled, and has no slash.
use Rattle.std.specs.Prelude.{◌≡◌, ℕ, zero, suc, ◌+◌, ◌-◌, ◌/◌, ◌%◌, ◌<◌, ◌≤◌, ◌==◌, Bool, true, false, cond, not, ◌&&◌, ◌||◌, List, [], ◌∷◌, ◌++◌, length, nat_lt, slice_index, get_or, Option, Some, None, is_some, Ok, ◌≢◌, codes, decimal}
use Rattle.std.specs.List.{AllByRecursion, list_all}
use Rattle.std.specs.Fmt.{digits, digits_onto, digit_glyph}
use Rattle.std.proofs.Common.{sym, refl, ap, subst, ◌∙◌, arith, eqb-true, lt-ltb}
use Rattle.std.proofs.lemmas.Bool.{eqb-false, and_parts, not-true}
use Rattle.xs_model.specs.declared.path.PathFault.{PathFault}
use Rattle.xs_model.specs.declared.path.PathFault.TheVariants.{TooLong, BadByte, DoubleSlash, TrailingSlash}
use Rattle.xs_model.specs.Paths.{Name, Path, home, is_path_byte, path_limit, fault_from, trailing_fault, or_else, path_fault, onto_first, split_names, absolute_path, spelled_path, path_unless, path_of}
use Rattle.xs_model.specs.Requests.{ok_value}
use Rattle.xs_model.specs.Laws.{IsName, HasNames}
use Rattle.xs_model.proofs.Maps.{not_both, not_Some, from_Some}

abbrev NoSlash : List ℕ → Type 0
NoSlash bs = AllByRecursion (λ b. b ≢ 47) bs

-- THE HOME OF A DOMAIN
other_bytes : (bs : List ℕ) → list_all (λ b. not (b == 47)) bs ≡ true → NoSlash bs
other_bytes [] h = tt
other_bytes (b ∷ bs) h = let parts = and_parts (not (b == 47)) (list_all (λ b. not (b == 47)) bs) h in (eqb-false b 47 (not-true (b == 47) parts.0), other_bytes bs parts.1)

glyph_other : (d : ℕ) → digit_glyph false d ≢ 47
glyph_other d = by (nat_lt d 10)
  where
    by : (b : Bool) → cond b (48 + d) (87 + d) ≢ 47
    by true e = omega arith
    by false e = omega arith

digits_other : (k n : ℕ) (rest : List ℕ) → NoSlash rest → NoSlash (digits_onto k 10 false n rest)
digits_other zero n rest h = h
digits_other (suc k) n rest h =
    let more : NoSlash (digit_glyph false (n % 10) ∷ rest) = (glyph_other (n % 10), h) in
    elim (n / 10 == 0) as (λ b. NoSlash (cond b (digit_glyph false (n % 10) ∷ rest) (digits_onto k 10 false (n / 10) (digit_glyph false (n % 10) ∷ rest)))) [
      | true ↦ more
      | false ↦ digits_other k (n / 10) (digit_glyph false (n % 10) ∷ rest) more
    ]

digits_more : (k n : ℕ) (rest : List ℕ) → length rest ≤ length (digits_onto k 10 false n rest)
digits_more zero n rest = omega arith
digits_more (suc k) n rest =
    elim (n / 10 == 0) as (λ b. length rest ≤ length (cond b (digit_glyph false (n % 10) ∷ rest) (digits_onto k 10 false (n / 10) (digit_glyph false (n % 10) ∷ rest)))) [
      | true ↦ omega arith
      | false ↦ omega (arith, digits_more k (n / 10) (digit_glyph false (n % 10) ∷ rest))
    ]

digits_filled : (k n : ℕ) → 0 < length (digits_onto (suc k) 10 false n [])
digits_filled k n =
    elim (n / 10 == 0) as (λ b. 0 < length (cond b (digit_glyph false (n % 10) ∷ []) (digits_onto k 10 false (n / 10) (digit_glyph false (n % 10) ∷ [])))) [
      | true ↦ omega arith
      | false ↦ omega (arith, digits_more k (n / 10) (digit_glyph false (n % 10) ∷ []))
    ]

decimal_name : (n : ℕ) → IsName (decimal n)
unfolding digits
decimal_name n = record { filled = digits_filled 63 n; no_slash = digits_other 64 n [] tt }

home_names : (domid : ℕ) → HasNames (home domid)
home_names domid =
    let first : IsName (codes "local") = record { filled = omega arith; no_slash = other_bytes (codes "local") refl } in
    let second : IsName (codes "domain") = record { filled = omega arith; no_slash = other_bytes (codes "domain") refl } in
    (first, (second, (decimal_name domid, tt)))

-- NAMES BETWEEN SLASHES
-- the last byte of a text, behind the byte `before`
abbrev last_byte : ℕ → List ℕ → ℕ
last_byte before [] = before
last_byte before (b ∷ bs) = last_byte b bs

-- names whose first one is filled where a slash stands before it
abbrev NamesAfter : ℕ → List Name → Type 0
NamesAfter before [] = Unit {0}
NamesAfter before (n ∷ ns) = NoSlash n × (before ≡ 47 → 0 < length n) × HasNames ns

onto_names : (b : ℕ) (ns : List Name) → (b ≢ 47) → NamesAfter b ns → HasNames (onto_first b ns)
onto_names b [] h k = (record { filled = omega arith; no_slash = (h, tt) }, tt)
onto_names b (n ∷ ns) h k = (record { filled = omega arith; no_slash = (h, k.0) }, k.2)

all_names : (before : ℕ) (ns : List Name) → before ≡ 47 → NamesAfter before ns → HasNames ns
all_names before [] e h = tt
all_names before (n ∷ ns) e h = (record { filled = h.1 e; no_slash = h.0 }, h.2)

names_after : (before : ℕ) (ns : List Name) → HasNames ns → NamesAfter before ns
names_after before [] h = tt
names_after before (n ∷ ns) h = (h.0.no_slash, (λ e. h.0.filled), h.1)

fault_step : (at : ℕ) (a b : Bool) (rest : Option PathFault) → cond a (Some (BadByte at)) (cond b (Some (DoubleSlash at)) rest) ≡ None → (b ≡ false) × (rest ≡ None)
fault_step at true b rest e = not_Some (sym e)
fault_step at false true rest e = not_Some (sym e)
fault_step at false false rest e = (refl, e)

step_of : (at before b : ℕ) (bs : List ℕ) → fault_from at before (b ∷ bs) ≡ None → ((before == 47 && b == 47) ≡ false) × (fault_from (at + 1) b bs ≡ None)
step_of at before b bs e = fault_step at (not (is_path_byte b) || (at == 0 && b == 64)) (before == 47 && b == 47) (fault_from (at + 1) b bs) e

two_slashes : (before b : ℕ) → before ≡ 47 → b ≡ 47 → (before == 47 && b == 47) ≡ true
two_slashes before b e f = (λ i. e i == 47 && f i == 47)

split_names_after : (at before : ℕ) (bs : List ℕ) → fault_from at before bs ≡ None → last_byte before bs ≢ 47 → NamesAfter before (split_names bs)
split_names_after at before [] e last = (tt, (λ s. absurd (last s)), tt)
split_names_after at before (b ∷ bs) e last =
    let parts = step_of at before b bs e in
    let rest = split_names_after (at + 1) b bs parts.1 last in
    elim (b == 47) as (λ c. (b == 47) ≡ c → NamesAfter before (cond c ([] ∷ split_names bs) (onto_first b (split_names bs)))) [
      | true ↦ λ t.
          let slash : b ≡ 47 = eqb-true b 47 t in
          (tt, (λ s. not_both (two_slashes before b s slash) parts.0), all_names b (split_names bs) slash rest)
      | false ↦ λ t. names_after before (onto_first b (split_names bs)) (onto_names b (split_names bs) (eqb-false b 47 t) rest)
    ] refl

-- FAULTLESS PATHS
last-is : (b : ℕ) (bs : List ℕ) → get_or (b ∷ bs) (length bs) 0 ≡ last_byte b bs
last-is b [] = refl
last-is b (c ∷ bs) = last-is c bs

last-index : (b : ℕ) (bs : List ℕ) → slice_index (b ∷ bs) (length (b ∷ bs) - 1) ≡ last_byte b bs
last-index b bs = let e : length (b ∷ bs) - 1 ≡ length bs = omega arith in ap (λ k. get_or (b ∷ bs) k 0) e ∙ last-is b bs

trailing_by : (c d : Bool) → cond (c && d) (Some TrailingSlash) None ≡ None → c ≡ true → d ≡ false
trailing_by true true e h = not_Some (sym e)
trailing_by true false e h = refl
trailing_by false d e h = not_both h refl

no_trailing : (b c : ℕ) (bs : List ℕ) → trailing_fault (b ∷ c ∷ bs) ≡ None → last_byte b (c ∷ bs) ≢ 47
no_trailing b c bs e =
    let whole : List ℕ = b ∷ c ∷ bs in
    let long : nat_lt 1 (length whole) ≡ true = lt-ltb 1 (length whole) (omega arith) in
    eqb-false (last_byte b (c ∷ bs)) 47 (ap (λ k. k == 47) (sym (last-index b (c ∷ bs))) ∙ trailing_by (nat_lt 1 (length whole)) (slice_index whole (length whole - 1) == 47) e long)

neither : (f t : Option PathFault) → or_else f t ≡ None → (f ≡ None) × (t ≡ None)
neither None t e = (refl, e)
neither (Some fault) t e = not_Some (sym e)

limited : (c : Bool) (long rest : Option PathFault) → is_some long ≡ true → cond c long rest ≡ None → rest ≡ None
limited true (Some fault) rest h e = not_Some (sym e)
limited true None rest h e = not_both h refl
limited false long rest h e = e

faultless : (b : ℕ) (bs : List ℕ) → path_fault (b ∷ bs) ≡ None → (fault_from 0 0 (b ∷ bs) ≡ None) × (trailing_fault (b ∷ bs) ≡ None)
faultless b bs e = neither (fault_from 0 0 (b ∷ bs)) (trailing_fault (b ∷ bs)) (limited (nat_lt (path_limit (b ∷ bs)) (length (b ∷ bs))) (Some (TooLong (length (b ∷ bs)))) _ refl e)

absolute_names : (b : ℕ) (bs : List ℕ) → b ≡ 47 → path_fault (b ∷ bs) ≡ None → HasNames (absolute_path (b ∷ bs))
absolute_names b [] slash e = tt
absolute_names b (c ∷ bs) slash e =
    let parts = faultless b (c ∷ bs) e in
    all_names b (split_names (c ∷ bs)) slash (split_names_after (0 + 1) b (c ∷ bs) (step_of 0 0 b (c ∷ bs) parts.0).1 (no_trailing b c bs parts.1))

last_other : (b : ℕ) (bs : List ℕ) → (b ≢ 47) → trailing_fault (b ∷ bs) ≡ None → last_byte b bs ≢ 47
last_other b [] h e = h
last_other b (c ∷ bs) h e = no_trailing b c bs e

relative_names : (b : ℕ) (bs : List ℕ) → (b == 47) ≡ false → path_fault (b ∷ bs) ≡ None → HasNames (split_names (b ∷ bs))
relative_names b bs other e =
    let parts = faultless b bs e in
    let h : b ≢ 47 = eqb-false b 47 other in
    subst (λ c. HasNames (cond c ([] ∷ split_names bs) (onto_first b (split_names bs)))) (sym other)
    (onto_names b (split_names bs) h (split_names_after (0 + 1) b bs (step_of 0 0 b bs parts.0).1 (last_other b bs h parts.1)))

names-append : (p q : Path) → HasNames p → HasNames q → HasNames (p ++ q)
names-append [] q h k = k
names-append (n ∷ p) q h k = (h.0, names-append p q h.1 k)

spelled_names : (bytes : List ℕ) (domid : ℕ) → path_fault bytes ≡ None → HasNames (spelled_path bytes domid)
spelled_names [] domid e = not_Some (sym e)
spelled_names (b ∷ bs) domid e =
    elim (b == 47) as (λ c. (b == 47) ≡ c → HasNames (cond c (absolute_path (b ∷ bs)) (home domid ++ split_names (b ∷ bs)))) [
      | true ↦ λ t. absolute_names b bs (eqb-true b 47 t) e
      | false ↦ λ t. names-append (home domid) (split_names (b ∷ bs)) (home_names domid) (relative_names b bs t e)
    ] refl

path_names : (bytes : List ℕ) (domid : ℕ) (fault : Option PathFault) → path_fault bytes ≡ fault → (p : Path) → path_unless fault bytes domid ≡ Ok p → HasNames p
path_names bytes domid (Some fault) f p e = not_Some (ap ok_value e)
path_names bytes domid None f p e = subst HasNames (from_Some (ap ok_value e)) (spelled_names bytes domid f)

pub spelled-names : (bytes : List ℕ) (domid : ℕ) (p : Path) → path_of bytes domid ≡ Ok p → HasNames p
spelled-names bytes domid p e = path_names bytes domid (path_fault bytes) refl p e
