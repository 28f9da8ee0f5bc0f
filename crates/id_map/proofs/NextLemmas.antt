-- The first entry above an id, in entries in rising order of their ids.
use Rattle.std.proofs.Common.{◌≡◌, ℕ, ◌<◌, ◌≤◌, Bool, true, false, cond, List, [], ◌∷◌, drop, nat_lt, Option, Some, None, is_some, IfSome, refl, sym, ap, subst, ◌∙◌, arith}
use Rattle.std.specs.Ordering.{nat_cmp, is_eq}
use Rattle.std.specs.FinMap.{find, is_sorted}
use Rattle.std.proofs.lemmas.Bool.Decides.{nat_tests}
use Rattle.id_map.specs.Ids.{above, first_id, IsNext}
use Rattle.id_map.proofs.MapLemmas.{both, lower, greater, ties, not_higher, not_itself, behind_first, all_behind, find-behind, above-behind}

not_lower : (x y : ℕ) → nat_lt x y ≡ false → y ≤ x
not_lower x y h = grind (arith, nat_tests)

module _ {X : Type 0} where
  -- an entry of a lower id counts for nothing
  pub find_past : (k : ℕ) (e : ℕ × X) (es : List (ℕ × X)) → e.0 < k → find nat_cmp k (e ∷ es) ≡ find nat_cmp k es
  find_past k e es lt = ap (λ o. cond (is_eq o) (Some e.1) (find nat_cmp k es)) (greater k e.0 lt)

  above_kept : (k : ℕ) (e : ℕ × X) (es : List (ℕ × X)) → nat_lt k e.0 ≡ true → above k (e ∷ es) ≡ e ∷ above k es
  above_kept k e es t = ap (λ b. cond b (e ∷ above k es) (above k es)) t

  above_past : (k : ℕ) (e : ℕ × X) (es : List (ℕ × X)) → nat_lt k e.0 ≡ false → above k (e ∷ es) ≡ above k es
  above_past k e es t = ap (λ b. cond b (e ∷ above k es) (above k es)) t

  pub found_itself : (e : ℕ × X) (es : List (ℕ × X)) → find nat_cmp e.0 (e ∷ es) ≡ Some e.1
  found_itself e es = ap (λ o. cond (is_eq o) (Some e.1) (find nat_cmp e.0 es)) (ties e.0)

  -- no item has an id before the first
  none_before : (k : ℕ) (e : ℕ × X) (es : List (ℕ × X)) → is_sorted nat_cmp (e ∷ es) ≡ true → is_some (find nat_cmp k (e ∷ es)) ≡ true → e.0 ≤ k
  none_before k e es h some = by_test (nat_lt k e.0) refl
    where
      by_test : (b : Bool) → nat_lt k e.0 ≡ b → e.0 ≤ k
      by_test true t =
          let none : find nat_cmp k (e ∷ es) ≡ None = find-behind k (e ∷ es) (all_behind k e es h (lower _ _ t)) in
          let never : false ≡ true = sym (ap is_some none) ∙ some in cc
      by_test false t = not_lower k e.0 t

  next_by : (id n : ℕ) (e : ℕ × X) (es : List (ℕ × X)) → is_sorted nat_cmp (e ∷ es) ≡ true → (b : Bool) → nat_lt id e.0 ≡ b → first_id (above id (e ∷ es)) ≡ Some n → (first_id (above id es) ≡ Some n → IsNext es id n) → IsNext (e ∷ es) id n
  next_by id n e es h true t is behind =
      let first : Some e.0 ≡ Some n = sym (ap first_id (above_kept id e es t)) ∙ is in
      let same : e.0 ≡ n = cc in
      subst (λ m. IsNext (e ∷ es) id m) same (record {
        above = lower id e.0 t;
        there = ap is_some (found_itself e es);
        least = λ k lt some. none_before k e es h some;
      })
  next_by id n e es h false t is behind =
      let rest = behind (sym (ap first_id (above_past id e es t)) ∙ is) in
      let low = not_lower id e.0 t in
      record {
        above = rest.above;
        there = ap is_some (find_past n e es (omega (arith, rest.above))) ∙ rest.there;
        least = λ k lt some. rest.least k lt (sym (ap is_some (find_past k e es (omega arith))) ∙ some);
      }

  next_is : (id n : ℕ) (es : List (ℕ × X)) → is_sorted nat_cmp es ≡ true → first_id (above id es) ≡ Some n → IsNext es id n
  next_is id n [] h is = cc
  next_is id n (e ∷ es) h is = next_by id n e es h (nat_lt id e.0) refl is (next_is id n es (both _ _ h).1)

  walk_by : (id n : ℕ) (e : ℕ × X) (es : List (ℕ × X)) → is_sorted nat_cmp (e ∷ es) ≡ true → (b : Bool) → nat_lt id e.0 ≡ b → first_id (above id (e ∷ es)) ≡ Some n → (first_id (above id es) ≡ Some n → above n es ≡ drop 1 (above id es)) → above n (e ∷ es) ≡ drop 1 (above id (e ∷ es))
  walk_by id n e es h true t is behind =
      let first : Some e.0 ≡ Some n = sym (ap first_id (above_kept id e es t)) ∙ is in
      let same : e.0 ≡ n = cc in
      let all : above id es ≡ es = above-behind id es (both _ _ (all_behind id e es h (lower id e.0 t))).1 in
      ap (λ m. above m (e ∷ es)) (sym same) ∙ above_past e.0 e es (not_itself e.0 e.0 refl)
      ∙ above-behind e.0 es (behind_first e es h) ∙ sym (ap (drop 1) (above_kept id e es t) ∙ all)
  walk_by id n e es h false t is behind =
      let is' = sym (ap first_id (above_past id e es t)) ∙ is in
      let low = not_lower id e.0 t in
      let next : IsNext es id n = next_is id n es (both _ _ h).1 is' in
      above_past n e es (not_higher n e.0 (omega (arith, next.above))) ∙ behind is' ∙ sym (ap (drop 1) (above_past id e es t))

  walked : (id n : ℕ) (es : List (ℕ × X)) → is_sorted nat_cmp es ≡ true → first_id (above id es) ≡ Some n → above n es ≡ drop 1 (above id es)
  walked id n [] h is = cc
  walked id n (e ∷ es) h is = walk_by id n e es h (nat_lt id e.0) refl is (walked id n es (both _ _ h).1)

  -- what is said of the first id above
  pub least_of : (id : ℕ) (es : List (ℕ × X)) (r : Option ℕ) → is_sorted nat_cmp es ≡ true → r ≡ first_id (above id es) → IfSome r (IsNext es id)
  least_of id es None h is = tt
  least_of id es (Some n) h is = next_is id n es h (sym is)

  pub walk_of : (id : ℕ) (es : List (ℕ × X)) (r : Option ℕ) → is_sorted nat_cmp es ≡ true → r ≡ first_id (above id es) → IfSome r (λ n. above n es ≡ drop 1 (above id es))
  walk_of id es None h is = tt
  walk_of id es (Some n) h is = walked id n es h (sym is)
