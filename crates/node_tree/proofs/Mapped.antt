-- Entries of which each value is replaced by a function of it, or of the key and it.
use Rattle.std.specs.Prelude.{◌≡◌, Bool, true, false, cond, ◌&&◌, List, [], ◌∷◌, map, Option, Some, None}
use Rattle.std.specs.Option.{option_map}
use Rattle.std.specs.Ordering.{eq_by_cmp, is_lt}
use Rattle.std.specs.declared.cmp.Ordering.{Ordering}
use Rattle.std.specs.declared.cmp.Ordering.TheVariants.{Less, Equal, Greater}
use Rattle.std.specs.Cmp.{IsTotalOrder, Equal-is}
use Rattle.std.specs.FinMap.{find, put, is_sorted, IsAntisymmetric}
use Rattle.std.specs.FinMap.Entries.{where_key, by_order, below_all}
use Rattle.std.proofs.Common.{sym, refl, ap, ◌∙◌}

module _ {K X Y : Type 0} (R : K → K → Ordering) (f : X → Y) where
  abbrev pub mapped : List (K × X) → List (K × Y)
  mapped es = map (λ e. (e.0, f e.1)) es

  pub mapped_put : (k : K) (x : X) (es : List (K × X)) → mapped (put R k x es) ≡ put R k (f x) (mapped es)
  mapped_put k x [] = refl
  mapped_put k x (e ∷ es) =
      elim (R k e.0) as (λ o. mapped (by_order o ((k, x) ∷ e ∷ es) ((e.0, x) ∷ es) (e ∷ put R k x es)) ≡ by_order o ((k, f x) ∷ mapped (e ∷ es)) ((e.0, f x) ∷ mapped es) ((e.0, f e.1) ∷ put R k (f x) (mapped es))) [
        | Less ↦ refl
        | Equal ↦ refl
        | Greater ↦ ap (λ l. (e.0, f e.1) ∷ l) (mapped_put k x es)
      ]

  pub mapped_where : (t : K → Bool) (es : List (K × X)) → mapped (where_key R t es) ≡ where_key R t (mapped es)
  mapped_where t [] = refl
  mapped_where t (e ∷ es) =
      elim (t e.0) as (λ b. mapped (cond b (e ∷ where_key R t es) (where_key R t es)) ≡ cond b ((e.0, f e.1) ∷ where_key R t (mapped es)) (where_key R t (mapped es))) [
        | true ↦ ap (λ l. (e.0, f e.1) ∷ l) (mapped_where t es)
        | false ↦ mapped_where t es
      ]

-- by the key too
module _ {K X Y : Type 0} (R : K → K → Ordering) (f : K → X → Y) where
  pub found_keyed : IsAntisymmetric R → (k : K) (es : List (K × X)) → find R k (map (λ e. (e.0, f e.0 e.1)) es) ≡ option_map (f k) (find R k es)
  found_keyed same k [] = refl
  found_keyed same k (e ∷ es) =
      elim (eq_by_cmp R k e.0) as (λ b. eq_by_cmp R k e.0 ≡ b → cond b (Some (f e.0 e.1)) (find R k (map (λ e. (e.0, f e.0 e.1)) es)) ≡ option_map (f k) (cond b (Some e.1) (find R k es))) [
        | true ↦ λ t. ap (λ q. Some (f q e.1)) (sym (same k e.0 ((Equal-is (R k e.0)).0 t)))
        | false ↦ λ t. found_keyed same k es
      ] refl

  below_keyed : (k : K) (es : List (K × X)) → below_all R k (map (λ e. (e.0, f e.0 e.1)) es) ≡ below_all R k es
  below_keyed k [] = refl
  below_keyed k (e ∷ es) = ap (λ b. is_lt (R k e.0) && b) (below_keyed k es)

  pub sorted_keyed : (es : List (K × X)) → is_sorted R (map (λ e. (e.0, f e.0 e.1)) es) ≡ is_sorted R es
  sorted_keyed [] = refl
  sorted_keyed (e ∷ es) = λ i. below_keyed e.0 es i && sorted_keyed es i
