-- Lists of entries in the order of their keys: std's facts in the form that the lemmas here take, and some more.
use Rattle.std.specs.Prelude.{◌≡◌, suc, ◌+◌, ◌≤◌, Bool, true, false, cond, not, ◌&&◌, T, List, [], ◌∷◌, length, map, Option, Some, None, is_some}
use Rattle.std.specs.Bool.{passes}
use Rattle.std.specs.Option.{unwrap_or, option_map}
use Rattle.std.specs.List.{AllByRecursion}
use Rattle.std.specs.Ordering.{eq_by_cmp, is_eq, is_lt}
use Rattle.std.specs.declared.cmp.Ordering.{Ordering}
use Rattle.std.specs.declared.cmp.Ordering.TheVariants.{Less, Equal, Greater}
use Rattle.std.specs.Cmp.{IsTotalOrder, eq_by_cmp_equiv, tied_itself, Equal-is}
use Rattle.std.specs.FinMap.{find, put, is_sorted, IsAntisymmetric}
use Rattle.std.specs.FinMap.Entries.{where_key, by_order, below_all, is_sorted-put, is_sorted-where_key, find-put, find-where_key, length-put, same_entries}
use Rattle.std.proofs.Common.{sym, refl, ap, subst, ◌∙◌, suc-le-suc, zero-le, le_trans, le_of_lt, lt-suc_self}
use Rattle.std.proofs.lemmas.Bool.{false≢true, and_parts}

pub true_of : (b : Bool) → T b → b ≡ true
true_of true h = refl
true_of false h = absurd h

pub not_both : {A : Type 0} {b : Bool} → b ≡ true → b ≡ false → A
not_both p q = absurd (false≢true (sym q ∙ p))

pub from_Some : {X : Type 0} {x y : X} → Some x ≡ Some y → x ≡ y
from_Some {x = x} e = ap (λ o. unwrap_or o x) e

pub not_Some : {A X : Type 0} {x : X} → None ≡ Some x → A
not_Some e = absurd (false≢true (ap is_some e))

-- what holds of each entry's value
module _ {K X : Type 0} (R : K → K → Ordering) (P : X → Type 0) where
  pub all_found : (k : K) (es : List (K × X)) (x : X) → AllByRecursion (λ e. P e.1) es → find R k es ≡ Some x → P x
  all_found k [] x h = λ e. not_Some e
  all_found k (f ∷ es) x h =
      elim (eq_by_cmp R k f.0) as (λ b. cond b (Some f.1) (find R k es) ≡ Some x → P x) [
        | true ↦ λ e. subst P (from_Some e) h.0
        | false ↦ λ e. all_found k es x h.1 e
      ]

  pub all_put : (k : K) (v : X) (es : List (K × X)) → P v → AllByRecursion (λ e. P e.1) es → AllByRecursion (λ e. P e.1) (put R k v es)
  all_put k v [] p h = (p, tt)
  all_put k v (e ∷ es) p h =
      elim (R k e.0) as (λ o. AllByRecursion (λ e. P e.1) (by_order o ((k, v) ∷ e ∷ es) ((e.0, v) ∷ es) (e ∷ put R k v es))) [
        | Less ↦ (p, h)
        | Equal ↦ (p, h.1)
        | Greater ↦ (h.0, all_put k v es p h.1)
      ]

  pub all_where : (t : K → Bool) (es : List (K × X)) → AllByRecursion (λ e. P e.1) es → AllByRecursion (λ e. P e.1) (where_key R t es)
  all_where t [] h = tt
  all_where t (e ∷ es) h =
      elim (t e.0) as (λ b. AllByRecursion (λ e. P e.1) (cond b (e ∷ where_key R t es) (where_key R t es))) [
        | true ↦ (h.0, all_where t es h.1)
        | false ↦ all_where t es h.1
      ]

-- a new value at each key
module _ {K X Y : Type 0} (R : K → K → Ordering) (f : X → Y) where
  pub found_map : (k : K) (es : List (K × X)) → find R k (map (λ e. (e.0, f e.1)) es) ≡ option_map f (find R k es)
  found_map k [] = refl
  found_map k (e ∷ es) =
      elim (eq_by_cmp R k e.0) as (λ b. cond b (Some (f e.1)) (find R k (map (λ e. (e.0, f e.1)) es)) ≡ option_map f (cond b (Some e.1) (find R k es))) [
        | true ↦ refl
        | false ↦ found_map k es
      ]

  below_map : (k : K) (es : List (K × X)) → below_all R k (map (λ e. (e.0, f e.1)) es) ≡ below_all R k es
  below_map k [] = refl
  below_map k (e ∷ es) = ap (λ b. is_lt (R k e.0) && b) (below_map k es)

  pub sorted_map : (es : List (K × X)) → is_sorted R (map (λ e. (e.0, f e.1)) es) ≡ is_sorted R es
  sorted_map [] = refl
  sorted_map (e ∷ es) = λ i. below_map e.0 es i && sorted_map es i

pub all_map : {K X Y : Type 0} (P : X → Type 0) (Q : Y → Type 0) (f : X → Y) → ((x : X) → P x → Q (f x)) → (es : List (K × X)) → AllByRecursion (λ (e : K × X). P e.1) es → AllByRecursion (λ (e : K × Y). Q e.1) (map (λ e. (e.0, f e.1)) es)
all_map P Q f to [] h = tt
all_map P Q f to (e ∷ es) h = (to e.1 h.0, all_map P Q f to es h.1)

-- keys that tie
module _ {K : Type 0} (R : K → K → Ordering) (o : IsTotalOrder R) where
  pub tied : (q k : K) → eq_by_cmp R q k ≡ true → R q k ≡ Equal
  tied q k e = (Equal-is (R q k)).0 e

  alike_left : (k q x : K) → R q x ≡ Equal → not (eq_by_cmp R k x) ≡ not (eq_by_cmp R k q)
  alike_left k q x t = ap not ((eq_by_cmp_equiv o).symm k x ∙ ap is_eq (sym (o.congr q x k t)) ∙ (eq_by_cmp_equiv o).symm q k)

module _ {K X : Type 0} (R : K → K → Ordering) where
  pub sorted_where : (t : K → Bool) (es : List (K × X)) → is_sorted R es ≡ true → is_sorted R (where_key R t es) ≡ true
  sorted_where t es h = true_of _ (is_sorted-where_key R t es (passes _ h))

  module _ (o : IsTotalOrder R) where
    pub sorted_put : (k : K) (v : X) (es : List (K × X)) → is_sorted R es ≡ true → is_sorted R (put R k v es) ≡ true
    sorted_put k v es h = true_of _ (is_sorted-put R o k v es (passes _ h))

    pub found_put : (q k : K) (v : X) (es : List (K × X)) → find R q (put R k v es) ≡ cond (eq_by_cmp R q k) (Some v) (find R q es)
    found_put q k v es = find-put R o q k v es

    turned : (b : Bool) (x y : Option X) → cond (not b) x y ≡ cond b y x
    turned true x y = refl
    turned false x y = refl

    pub found_without : (q k : K) (es : List (K × X)) → find R q (where_key R (λ x. not (eq_by_cmp R k x)) es) ≡ cond (eq_by_cmp R q k) None (find R q es)
    found_without q k es =
        find-where_key R (λ x. not (eq_by_cmp R k x)) q (λ x t. alike_left R o k q x t) es
        ∙ turned (eq_by_cmp R k q) (find R q es) None
        ∙ ap (λ b. cond b None (find R q es)) ((eq_by_cmp_equiv o).symm k q)

    not_below : (q k : K) (es : List (K × X)) → R q k ≡ Equal → below_all R k es ≡ true → find R q es ≡ None
    not_below q k [] t h = refl
    not_below q k (e ∷ es) t h =
        let parts = and_parts (is_lt (R k e.0)) (below_all R k es) h in
        elim (R q e.0) as (λ r. R q e.0 ≡ r → cond (is_eq r) (Some e.1) (find R q es) ≡ None) [
          | Less ↦ λ p. not_below q k es t parts.1
          | Equal ↦ λ p. not_both parts.0 (ap is_lt (sym (o.congr q k e.0 t) ∙ p))
          | Greater ↦ λ p. not_below q k es t parts.1
        ] refl

    -- a sorted list finds each of its entries
    pub all_of : (P : X → Type 0) (es : List (K × X)) → is_sorted R es ≡ true → ((k : K) (x : X) → find R k es ≡ Some x → P x) → AllByRecursion (λ e. P e.1) es
    all_of P [] h to = tt
    all_of P (e ∷ es) h to =
        let parts = and_parts (below_all R e.0 es) (is_sorted R es) h in
        let later : (k : K) (x : X) → find R k es ≡ Some x → P x =
        λ k x g. to k x (elim (eq_by_cmp R k e.0) as (λ b. eq_by_cmp R k e.0 ≡ b → cond b (Some e.1) (find R k es) ≡ Some x) [
          | true ↦ λ t. not_Some (sym (not_below k e.0 es (tied R o k e.0 t) parts.0) ∙ g)
          | false ↦ λ t. g
        ] refl)
        in
        (to e.0 e.1 (ap (λ r. cond (is_eq r) (Some e.1) (find R e.0 es)) (tied_itself o e.0)), all_of P es parts.1 later)

    pub same_maps : IsAntisymmetric R → (es fs : List (K × X)) → is_sorted R es ≡ true → is_sorted R fs ≡ true → ((q : K) → find R q es ≡ find R q fs) → es ≡ fs
    same_maps same es fs g h is = same_entries R o same es fs (passes _ g) (passes _ h) is

-- what holds of each key
module _ {K X : Type 0} (R : K → K → Ordering) (P : K → Type 0) where
  pub keys_put : (k : K) (v : X) (es : List (K × X)) → P k → AllByRecursion (λ (e : K × X). P e.0) es → AllByRecursion (λ (e : K × X). P e.0) (put R k v es)
  keys_put k v [] p h = (p, tt)
  keys_put k v (e ∷ es) p h =
      elim (R k e.0) as (λ o. AllByRecursion (λ (e : K × X). P e.0) (by_order o ((k, v) ∷ e ∷ es) ((e.0, v) ∷ es) (e ∷ put R k v es))) [
        | Less ↦ (p, h)
        | Equal ↦ (h.0, h.1)
        | Greater ↦ (h.0, keys_put k v es p h.1)
      ]

  pub keys_where : (t : K → Bool) (es : List (K × X)) → AllByRecursion (λ (e : K × X). P e.0) es → AllByRecursion (λ (e : K × X). P e.0) (where_key R t es)
  keys_where t [] h = tt
  keys_where t (e ∷ es) h =
      elim (t e.0) as (λ b. AllByRecursion (λ (e : K × X). P e.0) (cond b (e ∷ where_key R t es) (where_key R t es))) [
        | true ↦ (h.0, keys_where t es h.1)
        | false ↦ keys_where t es h.1
      ]

  pub keys_found : IsAntisymmetric R → (k : K) (es : List (K × X)) (x : X) → AllByRecursion (λ (e : K × X). P e.0) es → find R k es ≡ Some x → P k
  keys_found same k [] x h = λ e. not_Some e
  keys_found same k (f ∷ es) x h =
      elim (eq_by_cmp R k f.0) as (λ b. eq_by_cmp R k f.0 ≡ b → cond b (Some f.1) (find R k es) ≡ Some x → P k) [
        | true ↦ λ t e. subst P (sym (same k f.0 ((Equal-is (R k f.0)).0 t))) h.0
        | false ↦ λ t e. keys_found same k es x h.1 e
      ] refl

pub keys_map : {K X Y : Type 0} (P : K → Type 0) (f : X → Y) (es : List (K × X)) → AllByRecursion (λ (e : K × X). P e.0) es → AllByRecursion (λ (e : K × Y). P e.0) (map (λ e. (e.0, f e.1)) es)
keys_map P f [] h = tt
keys_map P f (e ∷ es) h = (h.0, keys_map P f es h.1)

-- how many entries there are
module _ {K X : Type 0} (R : K → K → Ordering) where
  pub length_put : IsTotalOrder R → (k : K) (v : X) (es : List (K × X)) → is_sorted R es ≡ true → length (put R k v es) ≡ cond (is_some (find R k es)) (length es) (length es + 1)
  length_put o k v es h = length-put R o k v es (passes _ h)

  pub length_where : (t : K → Bool) (es : List (K × X)) → length (where_key R t es) ≤ length es
  length_where t [] = zero-le
  length_where t (e ∷ es) =
      let rest = length_where t es in
      elim (t e.0) as (λ b. length (cond b (e ∷ where_key R t es) (where_key R t es)) ≤ suc (length es)) [ true ↦ suc-le-suc rest | false ↦ le_trans rest (le_of_lt (lt-suc_self (length es))) ]

pub length_map : {X Y : Type 0} (f : X → Y) (xs : List X) → length (map f xs) ≡ length xs
length_map f [] = refl
length_map f (x ∷ xs) = ap suc (length_map f xs)
