-- Lists of entries whose values are changed, and entries that a sorted list finds.
use Rattle.std.specs.Prelude.{◌≡◌, ℕ, ◌+◌, ◌==◌, Bool, true, false, cond, ◌&&◌, List, [], ◌∷◌, ◌++◌, map, flat_map, Some}
use Rattle.std.specs.List.{AllByRecursion}
use Rattle.std.specs.Ordering.{nat_cmp, eq_by_cmp, is_lt, is_eq}
use Rattle.std.specs.declared.cmp.Ordering.{Ordering}
use Rattle.std.specs.declared.cmp.Ordering.TheVariants.{Less, Equal, Greater}
use Rattle.std.specs.Cmp.{tied_itself, nat_cmp_total}
use Rattle.std.specs.FinMap.{find, put, is_sorted, nat_cmp-IsAntisymmetric}
use Rattle.std.specs.FinMap.Entries.{where_key, by_order, below_all}
use Rattle.std.proofs.Common.{sym, refl, ap, ◌∙◌}
use Rattle.std.proofs.lemmas.Bool.{and_parts}
use Rattle.xs_model.proofs.Maps.{not_both, tied, sorted_map, found_put, sorted_put, same_maps}
use Rattle.machine_model.specs.Connections.{least_free_from}

-- the same keys with other values
abbrev pub with_values : {K X Y : Type 0} → (X → Y) → List (K × X) → List (K × Y)
with_values f es = map (λ e. (e.0, f e.1)) es

module _ {K X Y : Type 0} (R : K → K → Ordering) (f : X → Y) where
  pub put_values : (k : K) (v : X) (es : List (K × X)) → put R k (f v) (with_values f es) ≡ with_values f (put R k v es)
  put_values k v [] = refl
  put_values k v (e ∷ es) =
      elim (R k e.0) as (λ o. by_order o ((k, f v) ∷ with_values f (e ∷ es)) ((e.0, f v) ∷ with_values f es) ((e.0, f e.1) ∷ put R k (f v) (with_values f es))
      ≡ with_values f (by_order o ((k, v) ∷ e ∷ es) ((e.0, v) ∷ es) (e ∷ put R k v es))) [
        | Less ↦ refl
        | Equal ↦ refl
        | Greater ↦ ap (λ fs. (e.0, f e.1) ∷ fs) (put_values k v es)
      ]

  pub where_values : (t : K → Bool) (es : List (K × X)) → where_key R t (with_values f es) ≡ with_values f (where_key R t es)
  where_values t [] = refl
  where_values t (e ∷ es) =
      elim (t e.0) as (λ b. cond b ((e.0, f e.1) ∷ where_key R t (with_values f es)) (where_key R t (with_values f es)) ≡ with_values f (cond b (e ∷ where_key R t es) (where_key R t es))) [
        | true ↦ ap (λ fs. (e.0, f e.1) ∷ fs) (where_values t es)
        | false ↦ where_values t es
      ]

pub free_values : {X Y : Type 0} (f : X → Y) (n : ℕ) (es : List (ℕ × X)) → least_free_from n (with_values f es) ≡ least_free_from n es
free_values f n [] = refl
free_values f n (e ∷ es) = ap (λ m. cond (e.0 == n) m n) (free_values f (n + 1) es)

pub keys_values : {K X Y Z : Type 0} (f : X → Y) (g : X → Z) (es : List (K × X)) → map (λ e. e.0) (with_values f es) ≡ map (λ e. e.0) (with_values g es)
keys_values f g [] = refl
keys_values f g (e ∷ es) = ap (λ ks. e.0 ∷ ks) (keys_values f g es)

-- values that come of the whole entries
module _ {K X Y : Type 0} (R : K → K → Ordering) (f : K × X → Y) where
  below_entries : (k : K) (es : List (K × X)) → below_all R k (map (λ e. (e.0, f e)) es) ≡ below_all R k es
  below_entries k [] = refl
  below_entries k (e ∷ es) = ap (λ b. is_lt (R k e.0) && b) (below_entries k es)

  pub sorted_entries : (es : List (K × X)) → is_sorted R (map (λ e. (e.0, f e)) es) ≡ is_sorted R es
  sorted_entries [] = refl
  sorted_entries (e ∷ es) = λ i. below_entries e.0 es i && sorted_entries es i

pub keys_entries : {K X Y : Type 0} (P : K → Type 0) (f : K × X → Y) (es : List (K × X)) → AllByRecursion (λ (e : K × X). P e.0) es → AllByRecursion (λ (e : K × Y). P e.0) (map (λ e. (e.0, f e)) es)
keys_entries P f [] h = tt
keys_entries P f (e ∷ es) h = (h.0, keys_entries P f es h.1)

-- LISTS MAPPED TWICE, or alike
pub map_map : {X Y Z : Type 0} (f : X → Y) (g : Y → Z) (xs : List X) → map g (map f xs) ≡ map (λ x. g (f x)) xs
map_map f g [] = refl
map_map f g (x ∷ xs) = ap (λ ys. g (f x) ∷ ys) (map_map f g xs)

pub map_alike : {X Y : Type 0} (f g : X → Y) (xs : List X) → AllByRecursion (λ x. f x ≡ g x) xs → map f xs ≡ map g xs
map_alike f g [] h = refl
map_alike f g (x ∷ xs) h = λ i. h.0 i ∷ map_alike f g xs h.1 i

pub map_itself : {X : Type 0} (f : X → X) (xs : List X) → AllByRecursion (λ x. f x ≡ x) xs → map f xs ≡ xs
map_itself f [] h = refl
map_itself f (x ∷ xs) h = λ i. h.0 i ∷ map_itself f xs h.1 i

pub all_of_any : {X : Type 0} (P : X → Type 0) → ((x : X) → P x) → (xs : List X) → AllByRecursion P xs
all_of_any P to [] = tt
all_of_any P to (x ∷ xs) = (to x, all_of_any P to xs)

pub all_with : {X : Type 0} (P Q S : X → Type 0) → ((x : X) → P x → Q x → S x) → (xs : List X) → AllByRecursion P xs → AllByRecursion Q xs → AllByRecursion S xs
all_with P Q S to [] g h = tt
all_with P Q S to (x ∷ xs) g h = (to x g.0 h.0, all_with P Q S to xs g.1 h.1)

pub flat_values : {K X Y Z : Type 0} (f : X → Y) (g : K × Y → List Z) (es : List (K × X)) → flat_map g (with_values f es) ≡ flat_map (λ e. g (e.0, f e.1)) es
flat_values f g [] = refl
flat_values f g (e ∷ es) = ap (λ zs. g (e.0, f e.1) ++ zs) (flat_values f g es)

-- SORTED LISTS
-- whether a list is sorted is told by its keys
pub sorted_keys : {K X Y : Type 0} (R : K → K → Ordering) (es : List (K × X)) (fs : List (K × Y)) → map (λ e. e.0) es ≡ map (λ e. e.0) fs → is_sorted R es ≡ is_sorted R fs
sorted_keys {K} R es fs same = bare_keys es ∙ ap (λ ks. is_sorted R (map (λ (k : K). (k, unit)) ks)) same ∙ sym (bare_keys fs)
  where
    unit : Unit {0}
    unit = tt

    bare_keys : {Z : Type 0} (gs : List (K × Z)) → is_sorted R gs ≡ is_sorted R (map (λ (k : K). (k, unit)) (map (λ e. e.0) gs))
    bare_keys {Z} gs = sym (sorted_map R (λ (z : Z). unit) gs) ∙ ap (is_sorted R) (sym (map_map (λ e. e.0) (λ (k : K). (k, unit)) gs))

module _ {X : Type 0} where
  not_below : (k : ℕ) (es : List (ℕ × X)) → below_all nat_cmp k es ≡ true → AllByRecursion (λ (e : ℕ × X). eq_by_cmp nat_cmp e.0 k ≡ false) es
  not_below k [] h = tt
  not_below k (e ∷ es) h =
      let parts = and_parts (is_lt (nat_cmp k e.0)) (below_all nat_cmp k es) h in
      (apart (eq_by_cmp nat_cmp e.0 k) refl parts.0, not_below k es parts.1)
    where
      apart : (b : Bool) → eq_by_cmp nat_cmp e.0 k ≡ b → is_lt (nat_cmp k e.0) ≡ true → b ≡ false
      apart true t l = not_both l (ap is_lt (ap (nat_cmp k) (nat_cmp-IsAntisymmetric e.0 k (tied nat_cmp nat_cmp_total e.0 k t)) ∙ tied nat_cmp nat_cmp_total k k (ap is_eq (tied_itself nat_cmp_total k))))
      apart false t l = refl

  later_found : (e : ℕ × X) (es fs : List (ℕ × X)) → AllByRecursion (λ (f : ℕ × X). eq_by_cmp nat_cmp f.0 e.0 ≡ false) fs → AllByRecursion (λ (f : ℕ × X). find nat_cmp f.0 es ≡ Some f.1) fs
      → AllByRecursion (λ (f : ℕ × X). find nat_cmp f.0 (e ∷ es) ≡ Some f.1) fs
  later_found e es [] apart h = tt
  later_found e es (f ∷ fs) apart h = (ap (λ b. cond b (Some e.1) (find nat_cmp f.0 es)) apart.0 ∙ h.0, later_found e es fs apart.1 h.1)

  -- each entry is found
  pub each_found : (es : List (ℕ × X)) → is_sorted nat_cmp es ≡ true → AllByRecursion (λ (e : ℕ × X). find nat_cmp e.0 es ≡ Some e.1) es
  each_found [] h = tt
  each_found (e ∷ es) h =
      let parts = and_parts (below_all nat_cmp e.0 es) (is_sorted nat_cmp es) h in
      (ap (λ r. cond (is_eq r) (Some e.1) (find nat_cmp e.0 es)) (tied_itself nat_cmp_total e.0), later_found e es es (not_below e.0 es parts.0) (each_found es parts.1))

  -- what is found, put again, leaves the list
  pub put_found : (k : ℕ) (v : X) (es : List (ℕ × X)) → is_sorted nat_cmp es ≡ true → find nat_cmp k es ≡ Some v → put nat_cmp k v es ≡ es
  put_found k v es h found =
      same_maps nat_cmp nat_cmp_total nat_cmp-IsAntisymmetric (put nat_cmp k v es) es (sorted_put nat_cmp nat_cmp_total k v es h) h
      (λ q. found_put nat_cmp nat_cmp_total q k v es ∙ by q (eq_by_cmp nat_cmp q k) refl)
    where
      by : (q : ℕ) (b : Bool) → eq_by_cmp nat_cmp q k ≡ b → cond b (Some v) (find nat_cmp q es) ≡ find nat_cmp q es
      by q true t = sym found ∙ ap (λ j. find nat_cmp j es) (sym (nat_cmp-IsAntisymmetric q k (tied nat_cmp nat_cmp_total q k t)))
      by q false t = refl

  -- the keys that pass a test
  pub where_passes : (t : ℕ → Bool) (es : List (ℕ × X)) → AllByRecursion (λ (e : ℕ × X). t e.0 ≡ true) (where_key nat_cmp t es)
  where_passes t [] = tt
  where_passes t (e ∷ es) =
      elim (t e.0) as (λ b. t e.0 ≡ b → AllByRecursion (λ (e : ℕ × X). t e.0 ≡ true) (cond b (e ∷ where_key nat_cmp t es) (where_key nat_cmp t es))) [
        | true ↦ λ p. (p, where_passes t es)
        | false ↦ λ p. where_passes t es
      ] refl
