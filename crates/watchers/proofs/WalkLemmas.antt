-- A walk over ids in rising order, which appends to what each of them is owed.
use Rattle.std.specs.Prelude.{◌≡◌, ◌<◌, ◌≤◌, ◌==◌, ℕ, Bool, true, false, cond, nat_le, nat_lt, List, [], ◌∷◌, ◌++◌, Option, Some, None, is_some}
use Rattle.std.specs.Ordering.{nat_cmp, eq_by_cmp}
use Rattle.std.specs.Cmp.{unsigned_tied}
use Rattle.std.specs.FinMap.{find, put, is_sorted, nat_cmp-IsAntisymmetric}
use Rattle.std.proofs.lemmas.Cmp.{nat_cmp_total}
use Rattle.std.proofs.Common.{refl, sym, ap, ◌∙◌, arith, append-nil, eqb-true, ne_eqb}
use Rattle.std.proofs.lemmas.Bool.Decides.{nat_tests}
use Rattle.xs_model.proofs.Maps.{not_Some, same_maps, sorted_put, found_put}
use Rattle.id_map.specs.Ids.{above, first_id, IsNext}
use Rattle.watchers.specs.Owing.{only_for}

-- what is owed up to an id
abbrev pub up_to : ℕ → (ℕ → List ℕ) → ℕ → List ℕ
up_to at owes c = cond (nat_le c at) (owes c) []

append_none : (xs : List ℕ) → xs ++ [] ≡ xs
append_none xs = append-nil xs

pub at_most : (c at : ℕ) → nat_le c at ≡ true → c ≤ at
at_most c at h = grind (arith, nat_tests)

pub beyond : (c at : ℕ) → nat_le c at ≡ false → at < c
beyond c at h = grind (arith, nat_tests)

zero_only : (c : ℕ) → (c == 0) ≡ nat_le c 0
zero_only c = grind (arith, nat_tests)

module _ (owes : ℕ → List ℕ) (old : ℕ → List ℕ) where
  zero_by : (b : Bool) (c : ℕ) → (c == 0) ≡ b → old c ++ cond b (owes 0) [] ≡ old c ++ cond b (owes c) []
  zero_by true c is = ap (λ n. old c ++ owes n) (sym (eqb-true c 0 is))
  zero_by false c is = refl

  -- 0 comes first
  pub walk_first : (new : ℕ → List ℕ) → ((c : ℕ) → new c ≡ old c ++ only_for 0 (owes 0) c) → (c : ℕ) → new c ≡ old c ++ up_to 0 owes c
  walk_first new step c = step c ∙ zero_by (c == 0) c refl ∙ ap (λ b. old c ++ cond b (owes c) []) (zero_only c)

  module _ (at next : ℕ) (lt : at < next) (between : (c : ℕ) → at < c → c < next → owes c ≡ []) where
    next_by : (a b n : Bool) (c : ℕ) → nat_le c at ≡ a → (c == next) ≡ b → nat_le c next ≡ n → (old c ++ cond a (owes c) []) ++ cond b (owes next) [] ≡ old c ++ cond n (owes c) []
    next_by true true n c p q r =
        let le = at_most c at p in let same = eqb-true c next q in absurd (omega (arith, le, same))
    next_by true false true c p q r = append_none (old c ++ owes c)
    next_by true false false c p q r =
        let le = at_most c at p in let gt = beyond c next r in absurd (omega (arith, le, gt))
    next_by false true true c p q r = ap (λ xs. xs ++ owes next) (append_none (old c)) ∙ ap (λ m. old c ++ owes m) (sym (eqb-true c next q))
    next_by false true false c p q r =
        let same = eqb-true c next q in let gt = beyond c next r in absurd (omega (arith, same, gt))
    next_by false false true c p q r =
        append_none (old c ++ []) ∙ ap (λ xs. old c ++ xs) (sym (between c (beyond c at p) (below c q r)))
      where
        below : (c : ℕ) → (c == next) ≡ false → nat_le c next ≡ true → c < next
        below c q r = grind (arith, nat_tests)
    next_by false false false c p q r = append_none (old c ++ [])

    pub walk_next : (mid new : ℕ → List ℕ) → ((c : ℕ) → mid c ≡ old c ++ up_to at owes c) → ((c : ℕ) → new c ≡ mid c ++ only_for next (owes next) c) → (c : ℕ) → new c ≡ old c ++ up_to next owes c
    walk_next mid new so_far step c = step c ∙ ap (λ xs. xs ++ only_for next (owes next) c) (so_far c) ∙ next_by (nat_le c at) (c == next) (nat_le c next) c refl refl refl

  last_by : (at : ℕ) → ((c : ℕ) → at < c → owes c ≡ []) → (b : Bool) (c : ℕ) → nat_le c at ≡ b → cond b (owes c) [] ≡ owes c
  last_by at beyond_none true c p = refl
  last_by at beyond_none false c p = sym (beyond_none c (beyond c at p))

  -- nobody is left
  pub walk_last : (at : ℕ) → ((c : ℕ) → at < c → owes c ≡ []) → (new : ℕ → List ℕ) → ((c : ℕ) → new c ≡ old c ++ up_to at owes c) → (c : ℕ) → new c ≡ old c ++ owes c
  walk_last at beyond_none new so_far c = so_far c ∙ ap (λ xs. old c ++ xs) (last_by at beyond_none (nat_le c at) c refl)

-- what is found, written back, changes nothing
pub put_same : {X : Type 0} (k : ℕ) (x : X) (es : List (ℕ × X)) → is_sorted nat_cmp es ≡ true → find nat_cmp k es ≡ Some x → put nat_cmp k x es ≡ es
put_same {X} k x es rising found =
    same_maps nat_cmp nat_cmp_total nat_cmp-IsAntisymmetric (put nat_cmp k x es) es (sorted_put nat_cmp nat_cmp_total k x es rising) rising
    (λ q. found_put nat_cmp nat_cmp_total q k x es ∙ by q (eq_by_cmp nat_cmp q k) refl)
  where
    by : (q : ℕ) (b : Bool) → eq_by_cmp nat_cmp q k ≡ b → cond b (Some x) (find nat_cmp q es) ≡ find nat_cmp q es
    by q true t = sym (ap (λ i. find nat_cmp i es) (eqb-true q k (sym (unsigned_tied q k) ∙ t)) ∙ found)
    by q false t = refl

-- ENTRIES by ids: none between an id and the next, and none above the last
module _ {X : Type 0} (es : List (ℕ × X)) where
  pub none_between : (at next : ℕ) → IsNext es at next → (c : ℕ) → at < c → c < next → find nat_cmp c es ≡ None
  none_between at next is c gt lt = by (find nat_cmp c es) refl
    where
      by : (o : Option X) → find nat_cmp c es ≡ o → o ≡ None
      by None found = refl
      by (Some x) found = let le : next ≤ c = is.least c gt (ap is_some found) in absurd (omega (arith, le, lt))

none_first : {X : Type 0} (e : ℕ × X) (es : List (ℕ × X)) → first_id (e ∷ es) ≡ None → ⊥
none_first e es h = not_Some (sym h)

not_above : (x y : ℕ) → nat_lt x y ≡ false → y ≤ x
not_above x y h = grind (arith, nat_tests)

other : (k i : ℕ) → i < k → eq_by_cmp nat_cmp k i ≡ false
other k i lt = unsigned_tied k i ∙ ne_eqb k i (λ same. omega (arith, same, lt))

pub none_above : {X : Type 0} (at : ℕ) (es : List (ℕ × X)) → first_id (above at es) ≡ None → (c : ℕ) → at < c → find nat_cmp c es ≡ None
none_above at [] h c gt = refl
none_above at (e ∷ es) h c gt = elim (nat_lt at e.0) as (λ b. nat_lt at e.0 ≡ b → first_id (cond b (e ∷ above at es) (above at es)) ≡ None → cond (eq_by_cmp nat_cmp c e.0) (Some e.1) (find nat_cmp c es) ≡ None) [
  | true ↦ λ t is. absurd (none_first e (above at es) is)
  | false ↦ λ t is. let le = not_above at e.0 t in ap (λ b. cond b (Some e.1) (find nat_cmp c es)) (other c e.0 (omega (arith, le, gt))) ∙ none_above at es is c gt
] refl h
