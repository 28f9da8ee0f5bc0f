-- A path and its text begin alike.
use Rattle.std.proofs.Common.{◌≡◌, ◌≢◌, ℕ, ◌+◌, ◌<◌, ◌≤◌, Bool, true, false, cond, List, [], ◌∷◌, ◌++◌, length, take, drop, get_or, Some, None, is_some, refl, sym, ap, subst, ◌∙◌, arith, append_assoc, eqb-true, eq-eqb}
use Rattle.std.specs.Prelude.{nat_eq}
use Rattle.std.specs.Bool.{Decides}
use Rattle.std.specs.List.{starts_with}
use Rattle.std.proofs.lemmas.Slice.Eq.{starts_is}
use Rattle.std.specs.Ordering.{is_eq}
use Rattle.std.specs.declared.cmp.Ordering.{Ordering}
use Rattle.std.specs.declared.cmp.Ordering.TheVariants.{Less, Equal, Greater}
use Rattle.std.specs.FinMap.{nat_cmp-IsAntisymmetric, slice_cmp-IsAntisymmetric}
use Rattle.std.specs.Cmp.{tied_itself, both_ways}
use Rattle.std.specs.Cmp.Lexicographic.{nat_list_cmp_total}
use Rattle.std.proofs.lemmas.List.{append-nil, get_or_at, drop_all, take_at}
use Rattle.std.proofs.lemmas.List.Prefix.{front_fits}
use Rattle.std.proofs.lemmas.Bool.{true≢false}
use Rattle.xs_model.specs.Paths.{Path, Name, name_cmp, same_name, names_below, is_below, names_text, absolute_path, split_names, is_absolute}
use Rattle.xs_path.specs.Texts.{IsPathText}
use Rattle.xs_path.proofs.Splitting.{names_text-split_names}
use Rattle.xs_path.proofs.Cuts.{cut_at, has_byte}
use Rattle.xs_path.proofs.Fronts.{absolute_path-append}

same_name-itself : (n : Name) → same_name n n ≡ true
same_name-itself n = ap is_eq (tied_itself nat_list_cmp_total n)

same_name-is : (m n : Name) → same_name m n ≡ true → m ≡ n
same_name-is m n h = slice_cmp-IsAntisymmetric nat_cmp-IsAntisymmetric m n (tied (name_cmp m n) h)
  where
    tied : (o : Ordering) → is_eq o ≡ true → o ≡ Equal
    tied Less h = cc
    tied Equal h = refl
    tied Greater h = cc

-- the names behind those of p
pub names_below-append : (p q : Path) → names_below p (p ++ q) ≡ Some q
names_below-append [] q = refl
names_below-append (n ∷ p) q = ap (λ t. cond t (names_below p (p ++ q)) None) (same_name-itself n) ∙ names_below-append p q

pub append-names_below : (p q : Path) → is_below p q ≡ true → (rest : Path) × (q ≡ p ++ rest)
append-names_below [] q h = (q, refl)
append-names_below (m ∷ p) [] h = cc
append-names_below (m ∷ p) (n ∷ q) h =
    elim (same_name m n) as (λ t. same_name m n ≡ t → is_some (cond t (names_below p q) None) ≡ true → (rest : Path) × (n ∷ q ≡ (m ∷ p) ++ rest)) [
      | true ↦ λ e k. let below = append-names_below p q k in (below.0, (λ i. sym (same_name-is m n e) i ∷ below.1 i))
      | false ↦ λ e k. cc
    ] refl h

pub names_text-append : (p q : Path) → names_text (p ++ q) ≡ names_text p ++ names_text q
names_text-append [] q = refl
names_text-append (n ∷ p) q = ap (λ l. (47 ∷ n) ++ l) (names_text-append p q) ∙ sym (append_assoc (47 ∷ n) (names_text p) (names_text q))

-- the text of a path but `/` is the text of its names
pub names_text-absolute_path : (t : List ℕ) → is_absolute t ≡ true → length t ≢ 1 → names_text (absolute_path t) ≡ t
names_text-absolute_path [] h p = cc
names_text-absolute_path (b ∷ []) h p = absurd (p refl)
names_text-absolute_path (b ∷ c ∷ x) h p = names_text-split_names (c ∷ x) ∙ ap (λ d. d ∷ c ∷ x) (sym (eqb-true b 47 h))

pub root_path : (t : List ℕ) → length t ≡ 1 → absolute_path t ≡ []
root_path [] h = refl
root_path (b ∷ []) h = refl
root_path (b ∷ c ∷ x) h = absurd (omega arith)

-- THE TEST ON TEXTS
pub is_below-itself : (t : List ℕ) → is_below (absolute_path t) (absolute_path t) ≡ true
is_below-itself t = ap is_some (ap (names_below (absolute_path t)) (sym (append-nil (absolute_path t))) ∙ names_below-append (absolute_path t) [])

pub is_below-append : (a r : List ℕ) → IsPathText (a ++ 47 ∷ r) → 0 < length a → is_below (absolute_path a) (absolute_path (a ++ 47 ∷ r)) ≡ true
is_below-append a r h p = ap (λ q. is_some (names_below (absolute_path a) q)) (absolute_path-append a r h p) ∙ ap is_some (names_below-append (absolute_path a) (split_names r))

front_of_none : (p q : Path) → p ++ q ≡ [] → p ≡ []
front_of_none [] q e = refl
front_of_none (n ∷ p) q e = cc

-- `/` is below no other path
not_root : (t u : List ℕ) → is_absolute u ≡ true → length u ≢ 1 → is_below (absolute_path u) (absolute_path t) ≡ true → length t ≢ 1
not_root t u h p e k =
    let below = append-names_below (absolute_path u) (absolute_path t) e in
    let none : absolute_path u ≡ [] = front_of_none (absolute_path u) below.0 (sym below.1 ∙ root_path t k) in
    let empty : u ≡ [] = sym (names_text-absolute_path u h p) ∙ ap names_text none in
    true≢false (sym h ∙ ap is_absolute empty)

-- the text of a path below another goes on behind the other's with the names between them
pub text_below : (t u : List ℕ) → is_absolute t ≡ true → is_absolute u ≡ true → length u ≢ 1 → is_below (absolute_path u) (absolute_path t) ≡ true → (rest : Path) × (t ≡ u ++ names_text rest)
text_below t u h k p e =
    let below = append-names_below (absolute_path u) (absolute_path t) e in
    (below.0, sym (names_text-absolute_path t h (not_root t u k p e)) ∙ ap names_text below.1 ∙ names_text-append (absolute_path u) below.0 ∙ ap (λ l. l ++ names_text below.0) (names_text-absolute_path u k p))

-- what follows is a slash or nothing
goes_on : (u : List ℕ) (rest : Path) → length (u ++ names_text rest) ≢ length u → get_or (u ++ names_text rest) (length u) 0 ≡ 47
goes_on u [] p = absurd (p (ap length (append-nil u)))
goes_on u (n ∷ ns) p = get_or_at u 47 (n ++ names_text ns) 0 (length u) refl

pub slash_behind : (t u : List ℕ) → is_absolute t ≡ true → is_absolute u ≡ true → length u ≢ 1 → length t ≢ length u → is_below (absolute_path u) (absolute_path t) ≡ true → get_or t (length u) 0 ≡ 47
slash_behind t u h k p q e =
    let more = text_below t u h k p e in
    ap (λ l. get_or l (length u) 0) more.1 ∙ goes_on u more.0 (λ same. q (ap length more.1 ∙ same))

-- WHAT THE BYTES TELL
begins : (t u : List ℕ) (r : Bool) → r ≡ starts_with nat_eq t u → (r ≡ true → t ≡ u ++ drop (length u) t) × ((rest : List ℕ) → t ≡ u ++ rest → r ≡ true)
begins = starts_is bytes_decide
  where
    bytes_decide : (a b : ℕ) → Decides (nat_eq a b) (a ≡ b)
    bytes_decide a b = (λ e. eqb-true a b e, λ e. eq-eqb a b e)

pub below_same : (t u : List ℕ) (r : Bool) → r ≡ starts_with nat_eq t u → r ≡ true → length t ≡ length u → nat_eq (length t) (length u) ≡ is_below (absolute_path u) (absolute_path t)
below_same t u r s e l =
    let same : t ≡ u = (begins t u r s).0 e ∙ ap (λ k. u ++ k) (drop_all (length u) t (omega arith)) ∙ append-nil u in
    eq-eqb _ _ l ∙ sym (ap (λ k. is_below (absolute_path u) (absolute_path k)) same ∙ is_below-itself u)

-- a slash behind the front
below_slash : (t u : List ℕ) → IsPathText t → is_absolute u ≡ true → t ≡ u ++ drop (length u) t → length u < length t → get_or t (length u) 0 ≡ 47 → is_below (absolute_path u) (absolute_path t) ≡ true
below_slash t u h k e l q =
    let front : take (length u) t ≡ u = ap (take (length u)) e ∙ take_at u (drop (length u) t) (length u) refl in
    let cut : t ≡ u ++ 47 ∷ drop (length u + 1) t = cut_at t (length u) l q ∙ ap (λ a. a ++ 47 ∷ drop (length u + 1) t) front in
    ap (λ x. is_below (absolute_path u) (absolute_path x)) cut ∙ is_below-append u (drop (length u + 1) t) (subst IsPathText cut h) (has_byte u k)

pub below_else : (t u : List ℕ) (r : Bool) → IsPathText t → IsPathText u → length u ≢ 1 → r ≡ starts_with nat_eq t u → r ≡ true → length t ≢ length u → nat_eq (get_or t (length u) 0) 47 ≡ is_below (absolute_path u) (absolute_path t)
below_else t u r h k p s e l = both_ways _ _ here there
  where
    front : t ≡ u ++ drop (length u) t
    front = (begins t u r s).0 e

    fits : length u ≤ length t
    fits = front_fits t u (drop (length u) t) front

    here : nat_eq (get_or t (length u) 0) 47 ≡ true → is_below (absolute_path u) (absolute_path t) ≡ true
    here q = below_slash t u h k.absolute front (omega (arith, fits)) (eqb-true _ _ q)

    there : is_below (absolute_path u) (absolute_path t) ≡ true → nat_eq (get_or t (length u) 0) 47 ≡ true
    there q = eq-eqb _ _ (slash_behind t u h.absolute k.absolute p l q)

pub not_below : (t u : List ℕ) (r : Bool) → is_absolute t ≡ true → is_absolute u ≡ true → length u ≢ 1 → r ≡ starts_with nat_eq t u → r ≡ false → r ≡ is_below (absolute_path u) (absolute_path t)
not_below t u r h k p s e = both_ways _ _ (λ q. absurd (true≢false (sym q ∙ e))) (λ q. let more = text_below t u h k p q in (begins t u r s).1 (names_text more.0) more.1)
