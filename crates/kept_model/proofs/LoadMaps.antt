-- Entries of which something holds as pairs of a key and a value, and how many entries pass a test. These are facts of
-- maps, and belong to `xs_model` by their nature.
use Rattle.std.specs.Prelude.{◌≡◌, ℕ, ◌+◌, Bool, true, false, cond, List, [], ◌∷◌, ◌++◌, length, map, filter, Some, None}
use Rattle.std.specs.List.{AllByRecursion}
use Rattle.std.specs.Ordering.{eq_by_cmp, is_eq}
use Rattle.std.specs.declared.cmp.Ordering.{Ordering}
use Rattle.std.specs.declared.cmp.Ordering.TheVariants.{Less, Equal, Greater}
use Rattle.std.specs.Cmp.{Equal-is}
use Rattle.std.specs.FinMap.{find, put, IsAntisymmetric}
use Rattle.std.specs.FinMap.Entries.{by_order}
use Rattle.std.proofs.Common.{sym, refl, ap, subst, ◌∙◌, arith}
use Rattle.xs_model.proofs.Maps.{from_Some, not_Some}

-- PAIRS
module _ {K X : Type 0} (R : K → K → Ordering) (same : IsAntisymmetric R) (Q : K → X → Type 0) where
  pub pairs_put : (k : K) (v : X) (es : List (K × X)) → Q k v → AllByRecursion (λ (e : K × X). Q e.0 e.1) es → AllByRecursion (λ (e : K × X). Q e.0 e.1) (put R k v es)
  pairs_put k v [] q h = (q, tt)
  pairs_put k v (e ∷ es) q h =
      elim (R k e.0) as (λ o. R k e.0 ≡ o → AllByRecursion (λ (e : K × X). Q e.0 e.1) (by_order o ((k, v) ∷ e ∷ es) ((e.0, v) ∷ es) (e ∷ put R k v es))) [
        | Less ↦ λ t. (q, h)
        | Equal ↦ λ t. (subst (λ j. Q j v) (same k e.0 t) q, h.1)
        | Greater ↦ λ t. (h.0, pairs_put k v es q h.1)
      ] refl

  pub pairs_found : (k : K) (es : List (K × X)) (x : X) → AllByRecursion (λ (e : K × X). Q e.0 e.1) es → find R k es ≡ Some x → Q k x
  pairs_found k [] x h = λ e. not_Some e
  pairs_found k (f ∷ es) x h =
      elim (eq_by_cmp R k f.0) as (λ b. eq_by_cmp R k f.0 ≡ b → cond b (Some f.1) (find R k es) ≡ Some x → Q k x) [
        | true ↦ λ t e. subst (λ j. Q j x) (sym (same k f.0 ((Equal-is (R k f.0)).0 t))) (subst (Q f.0) (from_Some e) h.0)
        | false ↦ λ t e. pairs_found k es x h.1 e
      ] refl

-- values that come of keys and values
pub pairs_map : {K X Y : Type 0} (Q : K → X → Type 0) (S : K → Y → Type 0) (f : K → X → Y) → ((k : K) (x : X) → Q k x → S k (f k x)) → (es : List (K × X))
    → AllByRecursion (λ (e : K × X). Q e.0 e.1) es → AllByRecursion (λ (e : K × Y). S e.0 e.1) (map (λ e. (e.0, f e.0 e.1)) es)
pairs_map Q S f to [] h = tt
pairs_map Q S f to (e ∷ es) h = (to e.0 e.1 h.0, pairs_map Q S f to es h.1)

-- WHAT TWO LISTS JOINED HAVE, each has
pub all_split : {X : Type 0} (P : X → Type 0) (xs ys : List X) → AllByRecursion P (xs ++ ys) → AllByRecursion P xs × AllByRecursion P ys
all_split P [] ys h = (tt, h)
all_split P (x ∷ xs) ys h = let rest = all_split P xs ys h.1 in ((h.0, rest.0), rest.1)

-- KEYS
module _ {K : Type 0} (R : K → K → Ordering) where
  abbrev key_put : K → List K → List K
  key_put k [] = k ∷ []
  key_put k (j ∷ js) = by_order (R k j) (k ∷ j ∷ js) (j ∷ js) (j ∷ key_put k js)

  put_keys : {X : Type 0} (k : K) (v : X) (es : List (K × X)) → map (λ e. e.0) (put R k v es) ≡ key_put k (map (λ e. e.0) es)
  put_keys k v [] = refl
  put_keys k v (e ∷ es) =
      elim (R k e.0) as (λ o. map (λ e. e.0) (by_order o ((k, v) ∷ e ∷ es) ((e.0, v) ∷ es) (e ∷ put R k v es)) ≡ by_order o (k ∷ e.0 ∷ map (λ e. e.0) es) (e.0 ∷ map (λ e. e.0) es) (e.0 ∷ key_put k (map (λ e. e.0) es))) [
        | Less ↦ refl
        | Equal ↦ refl
        | Greater ↦ ap (λ js. e.0 ∷ js) (put_keys k v es)
      ]

  -- the same keys stay the same where one key is put
  pub same_keys : {X Y : Type 0} (k : K) (v : X) (w : Y) (es : List (K × X)) (fs : List (K × Y)) → map (λ e. e.0) es ≡ map (λ e. e.0) fs → map (λ e. e.0) (put R k v es) ≡ map (λ e. e.0) (put R k w fs)
  same_keys k v w es fs e = put_keys k v es ∙ ap (key_put k) e ∙ sym (put_keys k w fs)

-- HOW MANY values pass a test
abbrev pub counted : {K X : Type 0} → (X → Bool) → List (K × X) → ℕ
counted test es = length (filter (λ e. test e.1) es)

module _ {K X : Type 0} (test : X → Bool) where
  pub counted_first : (e : K × X) (es : List (K × X)) → counted test (e ∷ es) ≡ cond (test e.1) 1 0 + counted test es
  counted_first e es =
      elim (test e.1) as (λ b. length (cond b (e ∷ filter (λ (e : K × X). test e.1) es) (filter (λ (e : K × X). test e.1) es)) ≡ cond b 1 0 + counted test es) [
        | true ↦ omega arith
        | false ↦ omega arith
      ]

  -- one more, where the key is new
  pub counted_new : (R : K → K → Ordering) (k : K) (v : X) (es : List (K × X)) → find R k es ≡ None → counted test (put R k v es) ≡ cond (test v) 1 0 + counted test es
  counted_new R k v [] h = counted_first (k, v) []
  counted_new R k v (e ∷ es) h =
      (elim (R k e.0) as (λ o. cond (is_eq o) (Some e.1) (find R k es) ≡ None → counted test (by_order o ((k, v) ∷ e ∷ es) ((e.0, v) ∷ es) (e ∷ put R k v es)) ≡ cond (test v) 1 0 + counted test (e ∷ es)) [
        | Less ↦ λ g. counted_first (k, v) (e ∷ es)
        | Equal ↦ λ g. not_Some (sym g)
        | Greater ↦ λ g. later e (counted_new R k v es g)
      ]) h
    where
      later : (e : K × X) → counted test (put R k v es) ≡ cond (test v) 1 0 + counted test es → counted test (e ∷ put R k v es) ≡ cond (test v) 1 0 + counted test (e ∷ es)
      later e g = omega (arith, counted_first e (put R k v es), counted_first e es, g)
