-- How long the texts of paths are.
use Rattle.std.specs.Prelude.{zero, ◌/◌, ◌%◌, false, ◌≡◌, ℕ, suc, ◌+◌, ◌<◌, ◌≤◌, ◌==◌, Bool, true, false, cond, List, [], ◌∷◌, ◌++◌, length, nat_lt, Option, Some, None, Result, Ok, decimal}
use Rattle.std.proofs.Common.{sym, refl, ap, subst, ◌∙◌, arith, length-append, append-nil, ltb-false, ⊎_elim}
use Rattle.std.proofs.lemmas.Bool.{or_cases}
use Rattle.std.specs.Cmp.Lexicographic.{bytes_decides}
use Rattle.std.specs.Str.{bytes_eq}
use Rattle.std.specs.Fmt.{digits, digits_onto, digit_glyph}
use Rattle.xs_model.specs.declared.path.PathFault.{PathFault}
use Rattle.xs_model.specs.declared.path.PathFault.TheVariants.{TooLong}
use Rattle.xs_model.specs.Paths.{Name, Path, names_text, text, home, is_absolute, path_limit, path_fault, onto_first, split_names, absolute_path, path_unless, path_of}
use Rattle.xs_model.specs.Requests.{ok_value, is_ok_path, is_special, is_watch_path, introduce_domain, release_domain}
use Rattle.xs_model.specs.Laws.{IsShort}
use Rattle.xs_model.proofs.Maps.{not_both, not_Some, from_Some}

length-names_text : (n : Name) (ns : List Name) → length (names_text (n ∷ ns)) ≡ length n + length (names_text ns) + 1
length-names_text n ns = omega (arith, length-append n (names_text ns))

names_text-append : (p q : Path) → length (names_text (p ++ q)) ≡ length (names_text p) + length (names_text q)
names_text-append [] q = omega arith
names_text-append (n ∷ p) q = omega (arith, length-names_text n (p ++ q), length-names_text n p, names_text-append p q)

text_of_names : (p : Path) → 0 < length (names_text p) → length (text p) ≡ length (names_text p)
text_of_names [] h = absurd (omega arith)
text_of_names (n ∷ ns) h = refl

pub text_at_least : (p : Path) → length (names_text p) ≤ length (text p)
text_at_least [] = omega arith
text_at_least (n ∷ ns) = omega arith

text_positive : (p : Path) → 1 ≤ length (text p)
text_positive [] = omega arith
text_positive (n ∷ ns) = omega arith

-- the path above has no longer a text
pub shorter_above : (p q : Path) → length (text p) ≤ length (text (p ++ q))
shorter_above [] q = text_positive q
shorter_above (n ∷ p) q = omega (arith, names_text-append (n ∷ p) q)

onto_longer : (b : ℕ) (ns : List Name) → 0 < length (names_text ns) → length (names_text (onto_first b ns)) ≡ length (names_text ns) + 1
onto_longer b [] h = absurd (omega arith)
onto_longer b (n ∷ ns) h = omega (arith, length-names_text (b ∷ n) ns, length-names_text n ns)

split_by : (b : ℕ) (bs : List ℕ) (c : Bool) → length (names_text (split_names bs)) ≡ length bs + 1 → length (names_text (cond c ([] ∷ split_names bs) (onto_first b (split_names bs)))) ≡ suc (length bs) + 1
split_by b bs true h = omega (arith, length-names_text [] (split_names bs))
split_by b bs false h = omega (arith, onto_longer b (split_names bs) (omega arith))

pub split-length : (bs : List ℕ) → length (names_text (split_names bs)) ≡ length bs + 1
split-length [] = refl
split-length (b ∷ bs) = split_by b bs (b == 47) (split-length bs)

absolute-length : (bs : List ℕ) → 0 < length bs → length (text (absolute_path bs)) ≡ length bs
absolute-length [] h = absurd (omega arith)
absolute-length (b ∷ []) h = refl
absolute-length (b ∷ c ∷ bs) h = text_of_names (split_names (c ∷ bs)) (omega (arith, split-length (c ∷ bs))) ∙ split-length (c ∷ bs) ∙ omega arith

onto-length : (k n : ℕ) (rest : List ℕ) → length (digits_onto k 10 false n rest) ≤ k + length rest
onto-length zero n rest = omega arith
onto-length (suc k) n rest =
    elim (n / 10 == 0) as (λ b. length (cond b (digit_glyph false (n % 10) ∷ rest) (digits_onto k 10 false (n / 10) (digit_glyph false (n % 10) ∷ rest))) ≤ suc k + length rest) [
      | true ↦ omega arith
      | false ↦ omega (arith, onto-length k (n / 10) (digit_glyph false (n % 10) ∷ rest))
    ]

-- std writes no number with more digits, however large
pub decimal-length : (n : ℕ) → length (decimal n) ≤ 64
unfolding digits
decimal-length n = omega (arith, onto-length 64 n [])

pub home-length : (domid : ℕ) → length (text (home domid)) ≤ 78
home-length domid = omega (arith, ap length (append-nil (decimal domid)), decimal-length domid)

relative-length : (bs : List ℕ) (domid : ℕ) → length (text (home domid ++ split_names bs)) ≤ 78 + (length bs + 1)
relative-length bs domid = omega (arith, names_text-append (home domid) (split_names bs), split-length bs, home-length domid)

-- THE PATHS THAT BYTES SPELL
under_limit : (b : ℕ) (bs : List ℕ) (c : Bool) (other : Option PathFault) → nat_lt (path_limit (b ∷ bs)) (length (b ∷ bs)) ≡ c → cond c (Some (TooLong (length (b ∷ bs)))) other ≡ None → length (b ∷ bs) ≤ path_limit (b ∷ bs)
under_limit b bs true other h e = not_Some (sym e)
under_limit b bs false other h e = ltb-false (path_limit (b ∷ bs)) (length (b ∷ bs)) h

faultless : (bs : List ℕ) → path_fault bs ≡ None → (0 < length bs) × (length bs ≤ path_limit bs)
faultless [] e = not_Some (sym e)
faultless (b ∷ bs) e = (omega arith, under_limit b bs (nat_lt (path_limit (b ∷ bs)) (length (b ∷ bs))) _ refl e)

spelled_short : (bs : List ℕ) (domid : ℕ) (b : Bool) → 0 < length bs → length bs ≤ cond b 3072 2048 → IsShort (cond b (absolute_path bs) (home domid ++ split_names bs))
spelled_short bs domid true some limit = omega (arith, absolute-length bs some)
spelled_short bs domid false some limit = omega (arith, relative-length bs domid)

path_by : (bs : List ℕ) (domid : ℕ) (fault : Option PathFault) → path_fault bs ≡ fault → (p : Path) → ok_value (path_unless fault bs domid) ≡ Some p → IsShort p
path_by bs domid (Some fault) f p e = not_Some e
path_by bs domid None f p e =
    let parts = faultless bs f in
    subst IsShort (from_Some e) (spelled_short bs domid (is_absolute bs) parts.0 parts.1)

-- a path that a domain's bytes spell is short
pub path_of-short : (bs : List ℕ) (domid : ℕ) → (p : Path) → ok_value (path_of bs domid) ≡ Some p → IsShort p
path_of-short bs domid p e = path_by bs domid (path_fault bs) refl p e

ok_value_of : {A E : Type 0} (r : Result A E) (x : A) → r ≡ Ok x → ok_value r ≡ Some x
ok_value_of r x e = ap ok_value e

pub spelled-short : (bs : List ℕ) (domid : ℕ) (p : Path) → path_of bs domid ≡ Ok p → IsShort p
spelled-short bs domid p e = path_of-short bs domid p (ok_value_of (path_of bs domid) p e)

limit_at_most : (b : Bool) → cond b 3072 2048 ≤ 3072
limit_at_most true = omega arith
limit_at_most false = omega arith

ok_by : (bs : List ℕ) (domid : ℕ) (fault : Option PathFault) → path_fault bs ≡ fault → is_ok_path (path_unless fault bs domid) ≡ true → length bs ≤ 3072
ok_by bs domid (Some fault) f e = not_both e refl
ok_by bs domid None f e = omega (arith, (faultless bs f).1, limit_at_most (is_absolute bs))

special_short : (bs : List ℕ) → is_special bs ≡ true → length bs ≤ 3072
special_short bs e = ⊎_elim
    (λ s. omega (arith, ap length ((bytes_decides bs introduce_domain).0 s)))
    (λ s. omega (arith, ap length ((bytes_decides bs release_domain).0 s)))
    (or_cases (bytes_eq bs introduce_domain) (bytes_eq bs release_domain) e)

pub watch_path-short : (bs : List ℕ) (domid : ℕ) → is_watch_path bs domid ≡ true → length bs ≤ 3072
watch_path-short bs domid e = ⊎_elim (special_short bs) (ok_by bs domid (path_fault bs) refl) (or_cases (is_special bs) (is_ok_path (path_of bs domid)) e)
