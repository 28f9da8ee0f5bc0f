-- Entries in the order of their ids, of which one is changed while those beside it are seen in another way.
use Rattle.std.proofs.Common.{◌≡◌, ◌≢◌, ℕ, ◌<◌, ◌≤◌, true, false, cond, List, [], ◌∷◌, map, nat_lt, Some, None, is_some, refl, sym, ap, ap₂, subst, ◌∙◌, arith, eqb-true, eq-eqb, ne_eqb}
use Rattle.std.specs.List.{AllByRecursion}
use Rattle.std.specs.declared.cmp.Ordering.TheVariants.{Less, Equal, Greater}
use Rattle.std.specs.Ordering.{nat_cmp, eq_by_cmp, is_lt, is_eq}
use Rattle.std.specs.Cmp.{unsigned_tied}
use Rattle.std.specs.FinMap.{find, put, is_sorted, nat_cmp-IsAntisymmetric}
use Rattle.std.specs.FinMap.Entries.{by_order, below_all}
use Rattle.std.proofs.lemmas.Bool.{and_parts}
use Rattle.std.proofs.lemmas.Bool.Decides.{nat_tests}
use Rattle.xs_model.proofs.Maps.{from_Some, not_Some, not_both}
use Rattle.id_map.specs.Ids.{above, first_id}

pub is_less : (x y : ℕ) → nat_cmp x y ≡ Less → x < y
is_less x y h = grind (arith, nat_tests)

pub is_greater : (x y : ℕ) → nat_cmp x y ≡ Greater → y < x
is_greater x y h = grind (arith, nat_tests)

less_by : (x y : ℕ) → is_lt (nat_cmp x y) ≡ true → x < y
less_by x y h = grind (arith, nat_tests)

not_above : (x y : ℕ) → nat_lt x y ≡ false → y ≤ x
not_above x y h = grind (arith, nat_tests)

itself : (k : ℕ) → eq_by_cmp nat_cmp k k ≡ true
itself k = unsigned_tied k k ∙ eq-eqb k k refl

other : (k i : ℕ) → k ≢ i → eq_by_cmp nat_cmp k i ≡ false
other k i apart = unsigned_tied k i ∙ ne_eqb k i apart

module _ {X : Type 0} where
  -- TWO FACTS of each entry, and weaker ones
  pub all_both : (P Q : ℕ × X → Type 0) (es : List (ℕ × X)) → AllByRecursion P es → AllByRecursion Q es → AllByRecursion (λ e. P e × Q e) es
  all_both P Q [] g h = tt
  all_both P Q (e ∷ es) g h = ((g.0, h.0), all_both P Q es g.1 h.1)

  pub all_weaker : (P Q : ℕ × X → Type 0) → ((e : ℕ × X) → P e → Q e) → (es : List (ℕ × X)) → AllByRecursion P es → AllByRecursion Q es
  all_weaker P Q f [] h = tt
  all_weaker P Q f (e ∷ es) h = (f e h.0, all_weaker P Q f es h.1)

  pub map_alike : {Y : Type 0} (F G : ℕ × X → Y) (P : ℕ × X → Type 0) → ((e : ℕ × X) → P e → F e ≡ G e) → (es : List (ℕ × X)) → AllByRecursion P es → map F es ≡ map G es
  map_alike F G P f [] h = refl
  map_alike F G P f (e ∷ es) h = ap₂ ◌∷◌ (f e h.0) (map_alike F G P f es h.1)

  -- each entry is found by its id
  found_more : (e : ℕ × X) (es : List (ℕ × X)) (k : ℕ) → is_some (find nat_cmp k es) ≡ true → is_some (find nat_cmp k (e ∷ es)) ≡ true
  found_more e es k h = elim (eq_by_cmp nat_cmp k e.0) as (λ b. is_some (cond b (Some e.1) (find nat_cmp k es)) ≡ true) [
    | true ↦ refl
    | false ↦ h
  ]

  pub all_there : (es : List (ℕ × X)) → AllByRecursion (λ e. is_some (find nat_cmp e.0 es) ≡ true) es
  all_there [] = tt
  all_there (e ∷ es) = (
    ap (λ b. is_some (cond b (Some e.1) (find nat_cmp e.0 es))) (itself e.0),
    all_weaker (λ f. is_some (find nat_cmp f.0 es) ≡ true) (λ f. is_some (find nat_cmp f.0 (e ∷ es)) ≡ true) (λ f h. found_more e es f.0 h) es (all_there es),
  )

  -- ENTRIES BEHIND an id
  pub behind : (k : ℕ) (es : List (ℕ × X)) → below_all nat_cmp k es ≡ true → AllByRecursion (λ e. k < e.0) es
  behind k [] h = tt
  behind k (e ∷ es) h =
      let parts = and_parts (is_lt (nat_cmp k e.0)) (below_all nat_cmp k es) h in
      (less_by k e.0 parts.0, behind k es parts.1)

  pub higher : (k i : ℕ) → k < i → (es : List (ℕ × X)) → AllByRecursion (λ e. i < e.0) es → AllByRecursion (λ e. k < e.0) es
  higher k i lt es h = all_weaker (λ e. i < e.0) (λ e. k < e.0) (λ e above. omega arith) es h

  pub none_behind : (k : ℕ) (es : List (ℕ × X)) → AllByRecursion (λ e. k < e.0) es → find nat_cmp k es ≡ None
  none_behind k [] h = refl
  none_behind k (e ∷ es) h =
      let lt : k < e.0 = h.0 in
      ap (λ b. cond b (Some e.1) (find nat_cmp k es)) (other k e.0 (λ same. omega arith)) ∙ none_behind k es h.1

  all_apart : (k : ℕ) (P Q : ℕ × X → Type 0) → ((e : ℕ × X) → e.0 ≢ k → P e → Q e) → (es : List (ℕ × X)) → AllByRecursion (λ e. k < e.0) es → AllByRecursion P es → AllByRecursion Q es
  all_apart k P Q f [] a h = tt
  all_apart k P Q f (e ∷ es) a h =
      let lt : k < e.0 = a.0 in
      (f e (λ same. omega arith) h.0, all_apart k P Q f es a.1 h.1)

  map_apart : {Y : Type 0} (k : ℕ) (F G : ℕ × X → Y) (P : ℕ × X → Type 0) → ((e : ℕ × X) → e.0 ≢ k → P e → F e ≡ G e) → (es : List (ℕ × X)) → AllByRecursion (λ e. k < e.0) es → AllByRecursion P es → map F es ≡ map G es
  map_apart k F G P f [] a h = refl
  map_apart k F G P f (e ∷ es) a h =
      let lt : k < e.0 = a.0 in
      ap₂ ◌∷◌ (f e (λ same. omega arith) h.0) (map_apart k F G P f es a.1 h.1)

  -- ONE ENTRY is changed
  pub all_changed : (k : ℕ) (new : X) (P Q : ℕ × X → Type 0) → ((e : ℕ × X) → e.0 ≢ k → P e → Q e) → Q (k, new) → (es : List (ℕ × X)) → is_sorted nat_cmp es ≡ true → AllByRecursion P es → AllByRecursion Q (put nat_cmp k new es)
  all_changed k new P Q f q [] s h = (q, tt)
  all_changed k new P Q f q (e ∷ es) s h =
      let parts = and_parts (below_all nat_cmp e.0 es) (is_sorted nat_cmp es) s in
      elim (nat_cmp k e.0) as (λ o. nat_cmp k e.0 ≡ o → AllByRecursion Q (by_order o ((k, new) ∷ e ∷ es) ((e.0, new) ∷ es) (e ∷ put nat_cmp k new es))) [
        | Less ↦ λ t. let lt : k < e.0 = is_less k e.0 t in (q, (f e (λ same. omega arith) h.0, all_apart k P Q f es (higher k e.0 lt es (behind e.0 es parts.0)) h.1))
        | Equal ↦ λ t. let same : k ≡ e.0 = nat_cmp-IsAntisymmetric k e.0 t in
            (subst (λ i. Q (i, new)) same q, all_apart k P Q f es (subst (λ i. AllByRecursion (λ (d : ℕ × X). i < d.0) es) (sym same) (behind e.0 es parts.0)) h.1)
        | Greater ↦ λ t. let gt : e.0 < k = is_greater k e.0 t in (f e (λ same. omega arith) h.0, all_changed k new P Q f q es parts.1 h.1)
      ] refl

  pub map_changed : {Y : Type 0} (k : ℕ) (new old : X) (F G : ℕ × X → Y) (P : ℕ × X → Type 0) → ((e : ℕ × X) → e.0 ≢ k → P e → F e ≡ G e) → F (k, new) ≡ G (k, old)
      → (es : List (ℕ × X)) → is_sorted nat_cmp es ≡ true → AllByRecursion P es → find nat_cmp k es ≡ Some old → map F (put nat_cmp k new es) ≡ map G es
  map_changed k new old F G P f q [] s h there = not_Some there
  map_changed {Y} k new old F G P f q (e ∷ es) s h there =
      let parts = and_parts (below_all nat_cmp e.0 es) (is_sorted nat_cmp es) s in
      elim (nat_cmp k e.0) as (λ o. nat_cmp k e.0 ≡ o → cond (is_eq o) (Some e.1) (find nat_cmp k es) ≡ Some old → map F (by_order o ((k, new) ∷ e ∷ es) ((e.0, new) ∷ es) (e ∷ put nat_cmp k new es)) ≡ G e ∷ map G es) [
        | Less ↦ λ t found. let lt : k < e.0 = is_less k e.0 t in not_Some (sym (none_behind k es (higher k e.0 lt es (behind e.0 es parts.0))) ∙ found)
        | Equal ↦ λ t found. let same : k ≡ e.0 = nat_cmp-IsAntisymmetric k e.0 t in
            ap₂ ◌∷◌ (subst (λ i. F (i, new) ≡ G (i, old)) same q ∙ ap (λ x. G (e.0, x)) (sym (from_Some found)))
            (map_apart k F G P f es (subst (λ i. AllByRecursion (λ (d : ℕ × X). i < d.0) es) (sym same) (behind e.0 es parts.0)) h.1)
        | Greater ↦ λ t found. let gt : e.0 < k = is_greater k e.0 t in ap₂ ◌∷◌ (f e (λ same. omega arith) h.0) (map_changed k new old F G P f q es parts.1 h.1 found)
      ] refl there

  -- or there is none of this id
  pub apart_first : (k : ℕ) (e : ℕ × X) (es : List (ℕ × X)) → find nat_cmp k (e ∷ es) ≡ None → (e.0 ≢ k) × (find nat_cmp k es ≡ None)
  apart_first k e es none = elim (eq_by_cmp nat_cmp k e.0) as (λ b. eq_by_cmp nat_cmp k e.0 ≡ b → cond b (Some e.1) (find nat_cmp k es) ≡ None → (e.0 ≢ k) × (find nat_cmp k es ≡ None)) [
    | true ↦ λ t is. not_Some (sym is)
    | false ↦ λ t is. (λ same. not_both (itself k) (subst (λ i. eq_by_cmp nat_cmp k i ≡ false) same t), is)
  ] refl none

  pub all_absent : (k : ℕ) (P Q : ℕ × X → Type 0) → ((e : ℕ × X) → e.0 ≢ k → P e → Q e) → (es : List (ℕ × X)) → find nat_cmp k es ≡ None → AllByRecursion P es → AllByRecursion Q es
  all_absent k P Q f [] none h = tt
  all_absent k P Q f (e ∷ es) none h = let parts = apart_first k e es none in (f e parts.0 h.0, all_absent k P Q f es parts.1 h.1)

  pub map_absent : {Y : Type 0} (k : ℕ) (F G : ℕ × X → Y) (P : ℕ × X → Type 0) → ((e : ℕ × X) → e.0 ≢ k → P e → F e ≡ G e) → (es : List (ℕ × X)) → find nat_cmp k es ≡ None → AllByRecursion P es → map F es ≡ map G es
  map_absent k F G P f [] none h = refl
  map_absent k F G P f (e ∷ es) none h = let parts = apart_first k e es none in ap₂ ◌∷◌ (f e parts.0 h.0) (map_absent k F G P f es parts.1 h.1)

  -- what holds of each entry holds of the one that is found
  pub all_at : (k : ℕ) (x : X) (P : ℕ × X → Type 0) (es : List (ℕ × X)) → AllByRecursion P es → find nat_cmp k es ≡ Some x → P (k, x)
  all_at k x P [] h there = not_Some there
  all_at k x P (e ∷ es) h there = elim (eq_by_cmp nat_cmp k e.0) as (λ b. eq_by_cmp nat_cmp k e.0 ≡ b → cond b (Some e.1) (find nat_cmp k es) ≡ Some x → P (k, x)) [
    | true ↦ λ t is. subst (λ i. P (i, x)) (sym (eqb-true k e.0 (sym (unsigned_tied k e.0) ∙ t))) (subst (λ y. P (e.0, y)) (from_Some is) h.0)
    | false ↦ λ t is. all_at k x P es h.1 is
  ] refl there

  -- NONE is above an id
  none_first : (e : ℕ × X) (es : List (ℕ × X)) → first_id (e ∷ es) ≡ None → ⊥
  none_first e es h = not_Some (sym h)

  pub none_above : (a : ℕ) (es : List (ℕ × X)) → first_id (above a es) ≡ None → AllByRecursion (λ e. e.0 ≤ a) es
  none_above a [] h = tt
  none_above a (e ∷ es) h = elim (nat_lt a e.0) as (λ b. nat_lt a e.0 ≡ b → first_id (cond b (e ∷ above a es) (above a es)) ≡ None → (e.0 ≤ a) × AllByRecursion (λ (d : ℕ × X). d.0 ≤ a) es) [
    | true ↦ λ t is. absurd (none_first e (above a es) is)
    | false ↦ λ t is. (not_above a e.0 t, none_above a es is)
  ] refl h

  pub none_beyond : (a k : ℕ) → a < k → (es : List (ℕ × X)) → AllByRecursion (λ e. e.0 ≤ a) es → find nat_cmp k es ≡ None
  none_beyond a k lt [] h = refl
  none_beyond a k lt (e ∷ es) h =
      let le : e.0 ≤ a = h.0 in
      ap (λ b. cond b (Some e.1) (find nat_cmp k es)) (other k e.0 (λ same. omega arith)) ∙ none_beyond a k lt es h.1
