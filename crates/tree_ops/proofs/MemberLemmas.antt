-- Members of rising lists, and the first of those that pass a test.
use Rattle.std.specs.Prelude.{◌≡◌, ◌⊎◌, Bool, true, false, cond, List, [], ◌∷◌, ◌++◌, filter}
use Rattle.std.specs.List.{AllByRecursion}
use Rattle.std.specs.Cmp.{IsTotalOrder}
use Rattle.std.specs.Ordering.{is_lt, ordering_reverse}
use Rattle.std.specs.declared.cmp.Ordering.{Ordering}
use Rattle.std.proofs.Common.{sym, refl, ap, subst, ◌∙◌, inl, inr}
use Rattle.xs_model.proofs.Maps.{not_both}
use Rattle.tree_ops.specs.Rising.{Rises, behind}
use Rattle.tree_ops.proofs.RisingLemmas.{less_of, not_itself, behind_first, behind_kept, Upward}

abbrev pub Has : {K : Type 0} → K → List K → Type 0
Has x [] = ⊥
Has x (y ∷ ys) = (x ≡ y) ⊎ Has x ys

module _ {K : Type 0} where
  pub all_has : (P : K → Type 0) (x : K) (xs : List K) → AllByRecursion P xs → Has x xs → P x
  all_has P x [] all h = absurd h
  all_has P x (y ∷ ys) all (inl e) = subst P (sym e) all.0
  all_has P x (y ∷ ys) all (inr h) = all_has P x ys all.1 h

  pub has_kept : (t : K → Bool) (x : K) (xs : List K) → Has x xs → t x ≡ true → Has x (filter t xs)
  has_kept t x [] h is = absurd h
  has_kept t x (y ∷ ys) (inl e) is = subst (λ b. Has x (cond b (y ∷ filter t ys) (filter t ys))) (sym (sym (ap t e) ∙ is)) (inl e)
  has_kept t x (y ∷ ys) (inr h) is =
      elim (t y) as (λ b. Has x (cond b (y ∷ filter t ys) (filter t ys))) [ true ↦ inr (has_kept t x ys h is) | false ↦ has_kept t x ys h is ]

  pub kept_has : (t : K → Bool) (x : K) (xs : List K) → Has x (filter t xs) → Has x xs × (t x ≡ true)
  kept_has t x [] h = absurd h
  kept_has t x (y ∷ ys) h =
      elim (t y) as (λ b. t y ≡ b → Has x (cond b (y ∷ filter t ys) (filter t ys)) → Has x (y ∷ ys) × (t x ≡ true)) [
        | true ↦ λ is k. elim k as (λ _. Has x (y ∷ ys) × (t x ≡ true)) [ inl e ↦ (inl e, ap t e ∙ is) | inr l ↦ let on = kept_has t x ys l in (inr on.0, on.1) ]
        | false ↦ λ is k. let on = kept_has t x ys k in (inr on.0, on.1)
      ] refl h

  pub none_kept : (t : K → Bool) (xs : List K) → ((x : K) → Has x xs → t x ≡ true → ⊥) → filter t xs ≡ []
  none_kept t [] no_one = refl
  none_kept t (y ∷ ys) no_one =
      elim (t y) as (λ b. t y ≡ b → cond b (y ∷ filter t ys) (filter t ys) ≡ []) [
        | true ↦ λ is. absurd (no_one y (inl refl) is)
        | false ↦ λ is. none_kept t ys (λ x h k. no_one x (inr h) k)
      ] refl

  pub all_kept : (P : K → Type 0) (t : K → Bool) (xs : List K) → AllByRecursion P xs → AllByRecursion P (filter t xs)
  all_kept P t [] all = tt
  all_kept P t (y ∷ ys) all =
      elim (t y) as (λ b. AllByRecursion P (cond b (y ∷ filter t ys) (filter t ys))) [ true ↦ (all.0, all_kept P t ys all.1) | false ↦ all_kept P t ys all.1 ]

  pub has_append : (x : K) (xs ys : List K) → Has x (xs ++ ys) → Has x xs ⊎ Has x ys
  has_append x [] ys h = inr h
  has_append x (y ∷ xs) ys (inl e) = inl (inl e)
  has_append x (y ∷ xs) ys (inr h) = elim (has_append x xs ys h) as (λ _. Has x (y ∷ xs) ⊎ Has x ys) [ inl l ↦ inl (inr l) | inr r ↦ inr r ]

  pub has_later : (x : K) (xs ys : List K) → Has x ys → Has x (xs ++ ys)
  has_later x [] ys h = h
  has_later x (y ∷ xs) ys h = inr (has_later x xs ys h)

module _ {K : Type 0} (R : K → K → Ordering) (o : IsTotalOrder R) where
  pub not_back : (x y : K) → is_lt (R x y) ≡ true → is_lt (R y x) ≡ false
  not_back x y h = ap is_lt (o.antisymm y x ∙ ap ordering_reverse (less_of (R x y) h))

  pub rises_kept : (t : K → Bool) (xs : List K) → Rises R xs → Rises R (filter t xs)
  rises_kept t [] h = tt
  rises_kept t (y ∷ ys) h =
      elim (t y) as (λ b. Rises R (cond b (y ∷ filter t ys) (filter t ys))) [
        | true ↦ (all_kept (λ z. is_lt (R y z) ≡ true) t ys h.0, rises_kept t ys h.1)
        | false ↦ rises_kept t ys h.1
      ]

  -- a rising list begins with the member before which no other stands
  pub first_is : (xs : List K) → Rises R xs → (q : K) → Has q xs → ((r : K) → Has r xs → is_lt (R r q) ≡ false) → xs ≡ q ∷ behind R q xs
  first_is [] h q has least = absurd has
  first_is (x ∷ xs) h q (inl e) least =
      subst (λ y. x ∷ xs ≡ y ∷ behind R y (x ∷ xs)) (sym e) (ap (λ ys. x ∷ ys) (sym (behind_first R o x xs h)))
  first_is (x ∷ xs) h q (inr has) least =
      not_both (all_has (λ y. is_lt (R x y) ≡ true) q xs h.0 has) (least x (inl refl))

  -- the members that pass a test begin with the least of them, and the others are all behind that
  pub next_is : (t : K → Bool) → Upward R o t → (xs : List K) → Rises R xs → (q : K) → Has q xs → t q ≡ true → ((r : K) → Has r xs → t r ≡ true → is_lt (R r q) ≡ false) → filter t xs ≡ q ∷ behind R q xs
  next_is t up xs h q has passes least =
      let kept = filter t xs in
      let begins = first_is kept (rises_kept t xs h) q (has_kept t q xs has passes) (λ r k. let on = kept_has t r xs k in least r on.0 on.1) in
      begins ∙ ap (λ ys. q ∷ ys) (sym (behind_kept R o t up xs h q (behind R q kept) begins))

  -- no member that passes stands before the first that does
  pub least_kept : (t : K → Bool) (xs : List K) → Rises R xs → (q : K) (rest : List K) → filter t xs ≡ q ∷ rest → (m : K) → Has m xs → t m ≡ true → is_lt (R m q) ≡ false
  least_kept t xs h q rest e m has passes =
      let rises : Rises R (q ∷ rest) = subst (Rises R) e (rises_kept t xs h) in
      elim (subst (Has m) e (has_kept t m xs has passes)) as (λ _. is_lt (R m q) ≡ false) [
        | inl is ↦ ap (λ x. is_lt (R x q)) is ∙ not_itself R o q
        | inr later ↦ not_back q m (all_has (λ y. is_lt (R q y) ≡ true) m rest rises.0 later)
      ]

  -- in a rising list the items before one stand before it, and those after it behind
  pub stands_before : (xs : List K) (p : K) (ys : List K) → Rises R (xs ++ p ∷ ys) → (r : K) → Has r xs → is_lt (R r p) ≡ true
  stands_before [] p ys h r has = absurd has
  stands_before (x ∷ xs) p ys h r (inl e) =
      subst (λ y. is_lt (R y p) ≡ true) (sym e) (all_has (λ y. is_lt (R x y) ≡ true) p (xs ++ p ∷ ys) h.0 (has_later p xs (p ∷ ys) (inl refl)))
  stands_before (x ∷ xs) p ys h r (inr has) = stands_before xs p ys h.1 r has

  pub stands_behind : (xs : List K) (p : K) (ys : List K) → Rises R (xs ++ p ∷ ys) → AllByRecursion (λ r. is_lt (R p r) ≡ true) ys
  stands_behind [] p ys h = h.0
  stands_behind (x ∷ xs) p ys h = stands_behind xs p ys h.1
