-- The order of paths is that of their texts, and the paths at and below a path stand together in it.
use Rattle.std.specs.Prelude.{◌≡◌, ℕ, ◌+◌, ◌<◌, Bool, true, false, cond, List, [], ◌∷◌, ◌++◌, length, Option, None, is_some, ◌≢◌}
use Rattle.std.specs.List.{AllByRecursion}
use Rattle.std.specs.Ordering.{nat_cmp, is_le, is_eq, ordering_then, ordering_reverse}
use Rattle.std.specs.Cmp.{tied_itself}
use Rattle.std.specs.declared.cmp.Ordering.{Ordering}
use Rattle.std.specs.declared.cmp.Ordering.TheVariants.{Less, Equal, Greater}
use Rattle.std.proofs.Common.{sym, refl, ap, subst, ◌∙◌, arith, ne_eqb}
use Rattle.std.proofs.lemmas.Bool.Decides.{nat_tests}
use Rattle.xs_model.specs.Paths.{Name, Path, name_cmp, path_cmp, same_name, names_below, is_below, names_text, text}
use Rattle.xs_model.specs.Laws.{byte_rank, byte_cmp, text_cmp, HasNames}
use Rattle.xs_model.proofs.Maps.{not_both}
use Rattle.xs_model.proofs.PathLemmas.{name_total, same_name-is, way_to}

-- BYTES
rank-other : (b : ℕ) → (b ≢ 47) → byte_rank b ≡ b + 1
rank-other b h = ap (λ c. cond c 0 (b + 1)) (ne_eqb b 47 h)

shifted : (a b : ℕ) → nat_cmp (a + 1) (b + 1) ≡ nat_cmp a b
shifted a b = grind (arith, nat_tests)

byte_cmp-other : (a b : ℕ) → (a ≢ 47) → (b ≢ 47) → byte_cmp a b ≡ nat_cmp a b
byte_cmp-other a b h k = (λ i. nat_cmp (rank-other a h i) (rank-other b k i)) ∙ shifted a b

below_rank : (n : ℕ) → nat_cmp 0 (n + 1) ≡ Less
below_rank n = grind (arith, nat_tests)

above_rank : (n : ℕ) → nat_cmp (n + 1) 0 ≡ Greater
above_rank n = grind (arith, nat_tests)

slash_below : (b : ℕ) → (b ≢ 47) → byte_cmp 47 b ≡ Less
slash_below b h = ap (nat_cmp 0) (rank-other b h) ∙ below_rank b

slash_above : (b : ℕ) → (b ≢ 47) → byte_cmp b 47 ≡ Greater
slash_above b h = ap (λ r. nat_cmp r 0) (rank-other b h) ∙ above_rank b

-- NAMES, each followed by the text of more names
then_assoc : (a b c : Ordering) → ordering_then (ordering_then a b) c ≡ ordering_then a (ordering_then b c)
then_assoc Less b c = refl
then_assoc Equal b c = refl
then_assoc Greater b c = refl

shorter_name : (p : Path) (b : ℕ) (bs : List ℕ) → (b ≢ 47) → text_cmp (names_text p) (b ∷ bs) ≡ Less
shorter_name [] b bs h = refl
shorter_name (n ∷ p) b bs h = ap (λ o. ordering_then o (text_cmp (n ++ names_text p) bs)) (slash_below b h)

longer_name : (b : ℕ) (bs : List ℕ) (q : Path) → (b ≢ 47) → text_cmp (b ∷ bs) (names_text q) ≡ Greater
longer_name b bs [] h = refl
longer_name b bs (n ∷ q) h = ap (λ o. ordering_then o (text_cmp bs (n ++ names_text q))) (slash_above b h)

name_then : (m n : Name) (p q : Path) → AllByRecursion (λ b. b ≢ 47) m → AllByRecursion (λ b. b ≢ 47) n
    → text_cmp (m ++ names_text p) (n ++ names_text q) ≡ ordering_then (name_cmp m n) (text_cmp (names_text p) (names_text q))
name_then [] [] p q h k = refl
name_then [] (c ∷ n) p q h k = shorter_name p c (n ++ names_text q) k.0
name_then (b ∷ m) [] p q h k = longer_name b (m ++ names_text p) q h.0
name_then (b ∷ m) (c ∷ n) p q h k =
    (λ i. ordering_then (byte_cmp-other b c h.0 k.0 i) (name_then m n p q h.1 k.1 i)) ∙ sym (then_assoc (nat_cmp b c) (name_cmp m n) (text_cmp (names_text p) (names_text q)))

names_order : (p q : Path) → HasNames p → HasNames q → path_cmp p q ≡ text_cmp (names_text p) (names_text q)
names_order [] [] h k = refl
names_order [] (n ∷ q) h k = refl
names_order (m ∷ p) [] h k = refl
names_order (m ∷ p) (n ∷ q) h k =
    ap (ordering_then (name_cmp m n)) (names_order p q h.1 k.1) ∙ sym (name_then m n p q h.0.no_slash k.0.no_slash)

root_first : (n : Name) (q : Path) → 0 < length n → text_cmp (47 ∷ []) (names_text (n ∷ q)) ≡ Less
root_first [] q h = absurd (omega arith)
root_first (b ∷ n) q h = refl

root_last : (n : Name) (p : Path) → 0 < length n → text_cmp (names_text (n ∷ p)) (47 ∷ []) ≡ Greater
root_last [] p h = absurd (omega arith)
root_last (b ∷ n) p h = refl

pub path_order : (p q : Path) → HasNames p → HasNames q → path_cmp p q ≡ text_cmp (text p) (text q)
path_order [] [] h k = refl
path_order [] (n ∷ q) h k = sym (root_first n q k.0.filled)
path_order (m ∷ p) [] h k = sym (root_last m p h.0.filled)
path_order (m ∷ p) (n ∷ q) h k = names_order (m ∷ p) (n ∷ q) h k

-- BELOW
between : (s t o u : Ordering) → t ≡ ordering_reverse s → is_le (ordering_then s o) ≡ true → is_le (ordering_then t u) ≡ true → (s ≡ Equal) × (is_le o ≡ true) × (is_le u ≡ true)
between Less t o u e h k = not_both k (ap (λ x. is_le (ordering_then x u)) e)
between Equal t o u e h k = (refl, h, sym (ap (λ x. is_le (ordering_then x u)) e) ∙ k)
between Greater t o u e h k = not_both h refl

first_below : (b : Bool) (o : Option (List Name)) → is_some (cond b o None) ≡ true → (b ≡ true) × (is_some o ≡ true)
first_below true o h = (refl, h)
first_below false o h = not_both h refl

pub stand_together : (a p q r : Path) → is_below a p ≡ true → is_below a r ≡ true → is_le (path_cmp p q) ≡ true → is_le (path_cmp q r) ≡ true → is_below a q ≡ true
stand_together [] p q r x y h k = refl
stand_together (m ∷ a) [] q r x y h k = not_both x refl
stand_together (m ∷ a) (b ∷ p) [] r x y h k = not_both h refl
stand_together (m ∷ a) (b ∷ p) (n ∷ q) [] x y h k = not_both y refl
stand_together (m ∷ a) (b ∷ p) (n ∷ q) (c ∷ r) x y h k =
    let low = first_below (same_name m b) (names_below a p) x in
    let high = first_below (same_name m c) (names_below a r) y in
    let parts =
    between (name_cmp m n) (name_cmp n m) (path_cmp p q) (path_cmp q r) (name_total.antisymm n m)
    (subst (λ w. is_le (ordering_then (name_cmp w n) (path_cmp p q)) ≡ true) (sym (same_name-is m b low.0)) h)
    (subst (λ w. is_le (ordering_then (name_cmp n w) (path_cmp q r)) ≡ true) (sym (same_name-is m c high.0)) k)
    in
    ap (λ o. is_some (cond (is_eq o) (names_below a q) None)) parts.0 ∙ stand_together a p q r low.1 high.1 parts.1 parts.2

before_way : (a : Path) (ns : List Name) → is_le (path_cmp a (a ++ ns)) ≡ true
before_way [] [] = refl
before_way [] (n ∷ ns) = refl
before_way (m ∷ a) ns = ap (λ o. is_le (ordering_then o (path_cmp a (a ++ ns)))) (tied_itself name_total m) ∙ before_way a ns

pub stand_before : (a q : Path) → is_below a q ≡ true → is_le (path_cmp a q) ≡ true
stand_before a q h = let way = way_to a q h in ap (λ r. is_le (path_cmp a r)) way.1 ∙ before_way a way.0
