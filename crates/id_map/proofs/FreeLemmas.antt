-- The least id from 1 on that no entry has, in entries in rising order of their ids.
use Rattle.std.proofs.Common.{◌≡◌, ◌≢◌, ℕ, zero, suc, ◌+◌, ◌-◌, ◌<◌, ◌≤◌, ◌==◌, Bool, true, false, cond, ◌&&◌, List, [], ◌∷◌, length, get_or, nat_lt, None, is_some, refl, sym, ap, ap₂, subst, ◌∙◌, arith, eqb-true}
use Rattle.std.specs.Ordering.{nat_cmp}
use Rattle.std.specs.declared.cmp.Ordering.TheVariants.{Equal}
use Rattle.std.specs.FinMap.{find, is_sorted}
use Rattle.std.specs.FinMap.Entries.{find-where_key, is_sorted-where_key}
use Rattle.std.proofs.lemmas.Bool.{eqb-false}
use Rattle.std.proofs.lemmas.Bool.Decides.{nat_tests}
use Rattle.std.proofs.lemmas.List.{get_or_default}
use Rattle.id_map.specs.Ids.{above, IsLeastFree}
use Rattle.id_map.specs.Places.{IsRow}
use Rattle.id_map.proofs.MapLemmas.{both, holds, is_true, lower, is_lower, rising, behind, behind_first, all_behind, find-behind}
use Rattle.id_map.proofs.NextLemmas.{find_past, found_itself}

before_suc : (n : ℕ) → suc n - 1 ≡ n
before_suc n = omega arith

module _ {X : Type 0} where
  -- an id is above the one j entries before it by j at least
  ranked : (es : List (ℕ × X)) → is_sorted nat_cmp es ≡ true → (i j : ℕ) (d : ℕ × X) → i + j < length es → (get_or es i d).0 + j ≤ (get_or es (i + j) d).0
  ranked es h i zero d lt = subst (λ k. (get_or es i d).0 + 0 ≤ (get_or es k d).0) (add_zero i) (omega arith)
    where
      add_zero : (n : ℕ) → n ≡ n + 0
      add_zero n = omega arith
  ranked es h i (suc j) d lt =
      let before = ranked es h i j d (omega arith) in
      let step = rising es h (i + j) (i + suc j) d (omega arith) (omega arith) in
      omega arith

  -- so positive ids are above their places
  pub place_below : (es : List (ℕ × X)) → is_sorted nat_cmp es ≡ true → behind 0 es ≡ true → (j : ℕ) (d : ℕ × X) → j < length es → j + 1 ≤ (get_or es j d).0
  place_below [] h p j d lt = absurd (omega arith)
  place_below (e ∷ es) h p j d lt =
      let first : 0 < e.0 = lower 0 e.0 (both _ _ p).0 in
      let by = ranked (e ∷ es) h 0 j d (omega arith) in
      subst (λ k. j + 1 ≤ (get_or (e ∷ es) k d).0) (zero_add j) (omega arith)
    where
      zero_add : (n : ℕ) → 0 + n ≡ n
      zero_add n = omega arith

  -- and an id that is not the next after its place is above it
  pub stops_at : (es : List (ℕ × X)) → is_sorted nat_cmp es ≡ true → behind 0 es ≡ true → (j : ℕ) (e : ℕ × X) → e ≡ get_or es j e → e.0 ≢ j + 1 → j < length es → (d : ℕ × X) → j + 1 < (get_or es j d).0
  stops_at es h p j e is other lt d =
      let same : e.0 ≡ (get_or es j d).0 = ap (λ f. f.0) (is ∙ get_or_default es j e d lt) in
      let low = place_below es h p j d lt in
      omega arith

  -- THE ROW of the first n ids above m, which none of the entries is at or below
  record IsRowAbove (m n : ℕ) (es : List (ℕ × X)) : Type 0 where
    within : n ≤ length es
    ends : 0 < n → (d : ℕ × X) → (get_or es (n - 1) d).0 ≡ m + n
    stops : n < length es → (d : ℕ × X) → (m + n) + 1 < (get_or es n d).0

  record IsLeastAbove (m id : ℕ) (es : List (ℕ × X)) : Type 0 where
    free : find nat_cmp id es ≡ None
    least : (k : ℕ) → m < k → k < id → is_some (find nat_cmp k es) ≡ true

  first_is : (m n : ℕ) (e : ℕ × X) (es : List (ℕ × X)) → is_sorted nat_cmp (e ∷ es) ≡ true → m < e.0 → IsRowAbove m (suc n) (e ∷ es) → e.0 ≡ m + 1
  first_is m n e es h lt row =
      let by : e.0 + n ≤ (get_or (e ∷ es) (0 + n) e).0 = ranked (e ∷ es) h 0 n e (omega (arith, row.within)) in
      let last : (get_or (e ∷ es) n e).0 ≡ m + suc n = ap (λ k. (get_or (e ∷ es) k e).0) (sym (before_suc n)) ∙ row.ends (omega arith) e in
      let up : e.0 + n ≤ (get_or (e ∷ es) n e).0 = subst (λ k. e.0 + n ≤ (get_or (e ∷ es) k e).0) (zero_add n) by in
      omega arith
    where
      zero_add : (n : ℕ) → 0 + n ≡ n
      zero_add n = omega arith

  least_above : (m n : ℕ) (es : List (ℕ × X)) → is_sorted nat_cmp es ≡ true → behind m es ≡ true → IsRowAbove m n es → IsLeastAbove m ((m + n) + 1) es
  least_above m zero [] h p row = record { free = refl; least = λ k low high. absurd (omega arith) }
  least_above m zero (e ∷ es) h p row = record {
    free = find-behind ((m + 0) + 1) (e ∷ es) (all_behind ((m + 0) + 1) e es h (row.stops (omega arith) e));
    least = λ k low high. absurd (omega arith);
  }
  least_above m (suc n) [] h p row = absurd (omega (arith, row.within))
  least_above m (suc n) (e ∷ es) h p row =
      let first : e.0 ≡ m + 1 = first_is m n e es h (lower m e.0 (both _ _ p).0) row in
      let rest : IsLeastAbove (m + 1) (((m + 1) + n) + 1) es = least_above (m + 1) n es (both _ _ h).1 (subst (λ k. behind k es ≡ true) first (behind_first e es h)) (record {
        within = omega (arith, row.within);
        ends = λ some d. ends_at n row.ends some d;
        stops = λ lt d. let by = row.stops (omega arith) d in omega arith;
      }) in
      record {
        free = find_past ((m + suc n) + 1) e es (omega arith) ∙ subst (λ k. find nat_cmp k es ≡ None) (moved m n) rest.free;
        least = λ k low high. at k first low high rest (k == e.0) refl;
      }
    where
      moved : (m n : ℕ) → ((m + 1) + n) + 1 ≡ (m + suc n) + 1
      moved m n = omega arith

      ends_at : (n : ℕ) → (0 < suc n → (d : ℕ × X) → (get_or (e ∷ es) (suc n - 1) d).0 ≡ m + suc n) → 0 < n → (d : ℕ × X) → (get_or es (n - 1) d).0 ≡ (m + 1) + n
      ends_at zero ends some d = absurd (omega arith)
      ends_at (suc j) ends some d =
          ap (λ k. (get_or es k d).0) (before_suc j) ∙ (ap (λ k. (get_or (e ∷ es) k d).0) (sym (before_suc (suc j))) ∙ ends (omega arith) d) ∙ moved_end j
        where
          moved_end : (j : ℕ) → m + suc (suc j) ≡ (m + 1) + suc j
          moved_end j = omega arith

      at : (k : ℕ) → e.0 ≡ m + 1 → m < k → k < (m + suc n) + 1 → IsLeastAbove (m + 1) (((m + 1) + n) + 1) es → (b : Bool) → (k == e.0) ≡ b → is_some (find nat_cmp k (e ∷ es)) ≡ true
      at k first low high rest true t =
          let same : k ≡ e.0 = eqb-true k e.0 t in
          subst (λ q. is_some (find nat_cmp q (e ∷ es)) ≡ true) (sym same) (ap is_some (found_itself e es))
      at k first low high rest false t =
          let apart : k ≢ e.0 = eqb-false k e.0 t in
          ap is_some (find_past k e es (omega arith)) ∙ rest.least k (omega arith) (omega arith)

  pub least_behind_row : (n : ℕ) (es : List (ℕ × X)) → is_sorted nat_cmp es ≡ true → behind 0 es ≡ true → IsRow es n → IsLeastFree es (n + 1)
  least_behind_row n es h p row =
      let by : IsLeastAbove 0 ((0 + n) + 1) es = least_above 0 n es h p (record {
        within = row.within;
        ends = λ some d. let r : (get_or es (n - 1) d).0 ≡ n = row.ends some d in omega arith;
        stops = λ lt d. let s = row.stops lt d in omega arith;
      }) in
      record {
        positive = omega arith;
        free = subst (λ k. find nat_cmp k es ≡ None) (zero_add n) by.free;
        least = λ k low high. by.least k (omega arith) (omega arith);
      }
    where
      zero_add : (n : ℕ) → (0 + n) + 1 ≡ n + 1
      zero_add n = omega arith

  -- an entry of id 0 counts for nothing
  find_above : (id k : ℕ) (es : List (ℕ × X)) → id < k → find nat_cmp k (above id es) ≡ find nat_cmp k es
  find_above id k es lt =
      find-where_key nat_cmp (λ key. nat_lt id key) k (λ x t. ap (nat_lt id) (tied_is k x t)) es
      ∙ ap (λ b. cond b (find nat_cmp k es) None) (is_lower id k lt)
    where
      tied_is : (q x : ℕ) → nat_cmp q x ≡ Equal → x ≡ q
      tied_is q x e = grind (arith, nat_tests)

  pub least_above_none : (id : ℕ) (es : List (ℕ × X)) → IsLeastFree (above 0 es) id → IsLeastFree es id
  least_above_none id es l = record {
    positive = l.positive;
    free = sym (find_above 0 id es (omega (arith, l.positive))) ∙ l.free;
    least = λ k low high. sym (ap is_some (find_above 0 k es (omega arith))) ∙ l.least k low high;
  }

  pub above_positive : (es : List (ℕ × X)) → behind 0 (above 0 es) ≡ true
  above_positive [] = refl
  above_positive (e ∷ es) =
      let rest = above_positive es in
      elim (nat_lt 0 e.0) as (λ b. nat_lt 0 e.0 ≡ b → behind 0 (cond b (e ∷ above 0 es) (above 0 es)) ≡ true) [
        | true ↦ λ t. ap₂ ◌&&◌ t rest
        | false ↦ λ t. rest
      ] refl

  pub above_rising : (es : List (ℕ × X)) → is_sorted nat_cmp es ≡ true → is_sorted nat_cmp (above 0 es) ≡ true
  above_rising es h = is_true _ (is_sorted-where_key nat_cmp (λ key. nat_lt 0 key) es (holds _ h))
