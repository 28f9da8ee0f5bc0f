-- Options by their cases, entries whose keys are numbers, and places in lists.
use Rattle.std.specs.Prelude.{◌≡◌, ℕ, suc, zero, ◌==◌, Bool, true, false, cond, not, ◌||◌, List, [], ◌∷◌, ◌++◌, map, filter_map, Option, Some, None, is_some, option_map, slice_get, ◌⊎◌}
use Rattle.std.specs.List.{AllByRecursion, list_any, cons_option}
use Rattle.std.specs.Ordering.{nat_cmp, eq_by_cmp, is_lt}
use Rattle.std.specs.Cmp.{nat_cmp_total, unsigned_tied, tied_itself}
use Rattle.std.specs.FinMap.{find, put, is_sorted, nat_cmp-IsAntisymmetric}
use Rattle.std.specs.FinMap.Entries.{where_key, below_all, find-put, find-where_key}
use Rattle.std.proofs.Common.{sym, refl, ap, subst, ◌∙◌, inl, inr, eqb-true, eq-eqb}
use Rattle.std.proofs.lemmas.Bool.{and_parts, false_from_ne_true, or_left, or_right, cond-true, cond-false}
use Rattle.xs_model.proofs.Maps.{not_both, not_Some, from_Some}
use Rattle.machine_model.proofs.Lists.{all_weaker}

-- OPTIONS
pub cases_option : {A : Type 0} (o : Option A) → ((x : A) × (o ≡ Some x)) ⊎ (o ≡ None)
cases_option None = inr refl
cases_option (Some x) = inl (x, refl)

pub value_of : {A : Type 0} (o : Option A) → is_some o ≡ true → (x : A) × (o ≡ Some x)
value_of None h = not_both h refl
value_of (Some x) h = (x, refl)

pub not_none : {A X : Type 0} {x : X} {o : Option X} → o ≡ Some x → o ≡ None → A
not_none e n = not_Some (sym n ∙ e)

pub none_of : {A : Type 0} (o : Option A) → is_some o ≡ false → o ≡ None
none_of None h = refl
none_of (Some x) h = not_both refl h

pub mapped_is : {A B : Type 0} (f : A → B) (o : Option A) → is_some (option_map f o) ≡ is_some o
mapped_is f None = refl
mapped_is f (Some x) = refl

pub mapped_some : {A B : Type 0} (f : A → B) (o : Option A) (y : B) → option_map f o ≡ Some y → (x : A) × (o ≡ Some x) × (Some (f x) ≡ Some y)
mapped_some f None y e = not_Some e
mapped_some f (Some x) y e = (x, refl, e)

pub mapped_none : {A B : Type 0} (f : A → B) (o : Option A) → option_map f o ≡ None → o ≡ None
mapped_none f None e = refl
mapped_none f (Some x) e = not_Some (sym e)

-- ENTRIES
apart_below : (k q : ℕ) → is_lt (nat_cmp k q) ≡ true → (q == k) ≡ false
apart_below k q l = false_from_ne_true (q == k) (λ t. not_both (subst (λ r. is_lt (nat_cmp k r) ≡ true) (eqb-true q k t) l) (ap is_lt (tied_itself nat_cmp_total k)))

module _ {X : Type 0} where
  pub found_same : (k : ℕ) (v : X) (es : List (ℕ × X)) → find nat_cmp k (put nat_cmp k v es) ≡ Some v
  found_same k v es = find-put nat_cmp nat_cmp_total k k v es ∙ cond-true (eq_by_cmp nat_cmp k k) _ _ (unsigned_tied k k ∙ eq-eqb k k refl)

  pub found_other : (q k : ℕ) (v : X) (es : List (ℕ × X)) → (q == k) ≡ false → find nat_cmp q (put nat_cmp k v es) ≡ find nat_cmp q es
  found_other q k v es apart = find-put nat_cmp nat_cmp_total q k v es ∙ cond-false (eq_by_cmp nat_cmp q k) _ _ (unsigned_tied q k ∙ apart)

  found_where : (q k : ℕ) (es : List (ℕ × X)) → find nat_cmp q (where_key nat_cmp (λ x. not (k == x)) es) ≡ cond (not (k == q)) (find nat_cmp q es) None
  found_where q k es = find-where_key nat_cmp (λ x. not (k == x)) q (λ x t. ap (λ y. not (k == y)) (sym (nat_cmp-IsAntisymmetric q x t))) es

  pub lost_same : (k : ℕ) (es : List (ℕ × X)) → find nat_cmp k (where_key nat_cmp (λ x. not (k == x)) es) ≡ None
  lost_same k es = found_where k k es ∙ ap (λ b. cond (not b) (find nat_cmp k es) None) (eq-eqb k k refl)

  pub lost_other : (q k : ℕ) (es : List (ℕ × X)) → (k == q) ≡ false → find nat_cmp q (where_key nat_cmp (λ x. not (k == x)) es) ≡ find nat_cmp q es
  lost_other q k es apart = found_where q k es ∙ ap (λ b. cond (not b) (find nat_cmp q es) None) apart

  -- each entry is found, and of rising entries each is found as it is
  found_later : (q : ℕ) (e : ℕ × X) (es : List (ℕ × X)) → is_some (find nat_cmp q es) ≡ true → is_some (find nat_cmp q (e ∷ es)) ≡ true
  found_later q e es h = elim (eq_by_cmp nat_cmp q e.0) as (λ b. is_some (cond b (Some e.1) (find nat_cmp q es)) ≡ true) [ true ↦ refl | false ↦ h ]

  found_first : (e : ℕ × X) (es : List (ℕ × X)) → find nat_cmp e.0 (e ∷ es) ≡ Some e.1
  found_first e es = cond-true (eq_by_cmp nat_cmp e.0 e.0) _ _ (unsigned_tied e.0 e.0 ∙ eq-eqb e.0 e.0 refl)

  pub each_is_found : (es : List (ℕ × X)) → AllByRecursion (λ (e : ℕ × X). is_some (find nat_cmp e.0 es) ≡ true) es
  each_is_found [] = tt
  each_is_found (e ∷ es) =
      (ap is_some (found_first e es), all_weaker (λ (f : ℕ × X). is_some (find nat_cmp f.0 es) ≡ true) (λ (f : ℕ × X). is_some (find nat_cmp f.0 (e ∷ es)) ≡ true) (λ f. found_later f.0 e es) es (each_is_found es))

  each_apart : (k : ℕ) (es : List (ℕ × X)) → below_all nat_cmp k es ≡ true → AllByRecursion (λ (e : ℕ × X). (e.0 == k) ≡ false) es
  each_apart k [] h = tt
  each_apart k (e ∷ es) h = let parts = and_parts (is_lt (nat_cmp k e.0)) (below_all nat_cmp k es) h in (apart_below k e.0 parts.0, each_apart k es parts.1)

  each_on : (e : ℕ × X) (es fs : List (ℕ × X)) → AllByRecursion (λ (f : ℕ × X). (f.0 == e.0) ≡ false) fs → AllByRecursion (λ (f : ℕ × X). find nat_cmp f.0 es ≡ Some f.1) fs → AllByRecursion (λ (f : ℕ × X). find nat_cmp f.0 (e ∷ es) ≡ Some f.1) fs
  each_on e es [] apart h = tt
  each_on e es (f ∷ fs) apart h = (cond-false (eq_by_cmp nat_cmp f.0 e.0) _ _ (unsigned_tied f.0 e.0 ∙ apart.0) ∙ h.0, each_on e es fs apart.1 h.1)

  pub each_is_itself : (es : List (ℕ × X)) → is_sorted nat_cmp es ≡ true → AllByRecursion (λ (e : ℕ × X). find nat_cmp e.0 es ≡ Some e.1) es
  each_is_itself [] h = tt
  each_is_itself (e ∷ es) h =
      let parts = and_parts (below_all nat_cmp e.0 es) (is_sorted nat_cmp es) h in
      (found_first e es, each_on e es es (each_apart e.0 es parts.0) (each_is_itself es parts.1))

  pub found_mapped : {Y : Type 0} (f : ℕ → X → Y) (q : ℕ) (es : List (ℕ × X)) → find nat_cmp q (map (λ e. (e.0, f e.0 e.1)) es) ≡ option_map (f q) (find nat_cmp q es)
  found_mapped f q [] = refl
  found_mapped f q (e ∷ es) =
      elim (eq_by_cmp nat_cmp q e.0) as (λ b. eq_by_cmp nat_cmp q e.0 ≡ b → cond b (Some (f e.0 e.1)) (find nat_cmp q (map (λ e. (e.0, f e.0 e.1)) es)) ≡ option_map (f q) (cond b (Some e.1) (find nat_cmp q es))) [
        | true ↦ λ t. ap (λ k. Some (f k e.1)) (sym (eqb-true q e.0 (sym (unsigned_tied q e.0) ∙ t)))
        | false ↦ λ t. found_mapped f q es
      ] refl

-- PLACES
pub at_mapped : {X Y : Type 0} (f : X → Y) (xs : List X) (zs : List Y) (i : ℕ) (x : X) → slice_get xs i ≡ Some x → slice_get (map f xs ++ zs) i ≡ Some (f x)
at_mapped f [] zs i x e = not_Some e
at_mapped f (y ∷ xs) zs zero x e = ap (option_map f) e
at_mapped f (y ∷ xs) zs (suc i) x e = at_mapped f xs zs i x e

pub at_same : {X : Type 0} (xs zs : List X) (i : ℕ) (x : X) → slice_get xs i ≡ Some x → slice_get (xs ++ zs) i ≡ Some x
at_same [] zs i x e = not_Some e
at_same (y ∷ xs) zs zero x e = e
at_same (y ∷ xs) zs (suc i) x e = at_same xs zs i x e

-- WHAT HOLDS OF EACH
pub each_any : {X : Type 0} (P : X → Type 0) → ((x : X) → P x) → (xs : List X) → AllByRecursion P xs
each_any P to [] = tt
each_any P to (x ∷ xs) = (to x, each_any P to xs)

-- what comes of others
module _ {X Y : Type 0} (P : Y → Type 0) (Q : X → Type 0) (f : X → Option Y) (to : (x : X) (y : Y) → Q x → f x ≡ Some y → P y) where
  each_cons : (o : Option Y) (ys : List Y) → ((y : Y) → o ≡ Some y → P y) → AllByRecursion P ys → AllByRecursion P (cons_option o ys)
  each_cons None ys at h = h
  each_cons (Some y) ys at h = (at y refl, h)

  pub each_of : (xs : List X) → AllByRecursion Q xs → AllByRecursion P (filter_map f xs)
  each_of [] h = tt
  each_of (x ∷ xs) h = each_cons (f x) (filter_map f xs) (λ y e. to x y h.0 e) (each_of xs h.1)

pub each_at : {X : Type 0} (P : X → Type 0) (xs : List X) (i : ℕ) (x : X) → AllByRecursion P xs → slice_get xs i ≡ Some x → P x
each_at P [] i x h e = not_Some e
each_at P (y ∷ xs) zero x h e = subst P (from_Some e) h.0
each_at P (y ∷ xs) (suc i) x h e = each_at P xs i x h.1 e

-- WHAT HOLDS OF SOME
module _ {X : Type 0} (p : X → Bool) where
  pub any_left : (xs ys : List X) → list_any p xs ≡ true → list_any p (xs ++ ys) ≡ true
  any_left [] ys h = not_both h refl
  any_left (x ∷ xs) ys h = elim (p x) as (λ b. (b || list_any p xs) ≡ true → (b || list_any p (xs ++ ys)) ≡ true) [ true ↦ λ t. refl | false ↦ any_left xs ys ] h

  pub any_right : (xs ys : List X) → list_any p ys ≡ true → list_any p (xs ++ ys) ≡ true
  any_right [] ys h = h
  any_right (x ∷ xs) ys h = or_right (p x) (list_any p (xs ++ ys)) (any_right xs ys h)

module _ {X Y : Type 0} (p : Y → Bool) (q : X → Bool) where
  pub any_mapped : (f : X → Y) → ((x : X) → q x ≡ true → p (f x) ≡ true) → (xs : List X) → list_any q xs ≡ true → list_any p (map f xs) ≡ true
  any_mapped f to [] h = not_both h refl
  any_mapped f to (x ∷ xs) h =
      elim (q x) as (λ b. q x ≡ b → (b || list_any q xs) ≡ true → (p (f x) || list_any p (map f xs)) ≡ true) [
        | true ↦ λ t _. or_left (p (f x)) (list_any p (map f xs)) (to x t)
        | false ↦ λ _ more. or_right (p (f x)) (list_any p (map f xs)) (any_mapped f to xs more)
      ] refl h

  any_cons : (o : Option Y) (ys : List Y) → ((y : Y) × (o ≡ Some y) × (p y ≡ true)) ⊎ (list_any p ys ≡ true) → list_any p (cons_option o ys) ≡ true
  any_cons None ys h = elim h [ inl y ↦ not_Some y.1 | inr t ↦ t ]
  any_cons (Some x) ys h = elim h [ inl y ↦ or_left (p x) (list_any p ys) (ap p (from_Some y.1) ∙ y.2) | inr t ↦ or_right (p x) (list_any p ys) t ]

  pub any_of : (f : X → Option Y) → ((x : X) → q x ≡ true → (y : Y) × (f x ≡ Some y) × (p y ≡ true)) → (xs : List X) → list_any q xs ≡ true → list_any p (filter_map f xs) ≡ true
  any_of f to [] h = not_both h refl
  any_of f to (x ∷ xs) h =
      elim (q x) as (λ b. q x ≡ b → (b || list_any q xs) ≡ true → list_any p (cons_option (f x) (filter_map f xs)) ≡ true) [
        | true ↦ λ t _. any_cons (f x) (filter_map f xs) (inl (to x t))
        | false ↦ λ _ more. any_cons (f x) (filter_map f xs) (inr (any_of f to xs more))
      ] refl h

pub any_found : {X : Type 0} → (k : ℕ) (es : List (ℕ × X)) → is_some (find nat_cmp k es) ≡ true → list_any (λ (e : ℕ × X). k == e.0) es ≡ true
any_found {X} k [] h = not_both h refl
any_found {X} k (e ∷ es) h =
    elim (k == e.0) as (λ b. (k == e.0) ≡ b → (b || list_any (λ (e : ℕ × X). k == e.0) es) ≡ true) [
      | true ↦ λ t. refl
      | false ↦ λ f. any_found k es (ap is_some (sym (cond-false (eq_by_cmp nat_cmp k e.0) (Some e.1) (find nat_cmp k es) (unsigned_tied k e.0 ∙ f))) ∙ h)
    ] refl
