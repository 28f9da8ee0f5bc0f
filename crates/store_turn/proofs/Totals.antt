-- Numbers of the elements of a list, added up.
use Rattle.std.proofs.Common.{◌≡◌, ◌≢◌, ℕ, zero, suc, ◌+◌, ◌≤◌, List, [], ◌∷◌, ◌++◌, set, take, drop, sym, refl, ap, arith}
use mathlib.Core.Option.{some, some-injective, some-ne-none}
use lib.ListN.{get_elem?}
use Rattle.store_turn.specs.Rule.{total}

module _ {X : Type 0} (f : X → ℕ) where
  pub total_set : (vs : List X) (i : ℕ) (v w : X) → get_elem? vs i ≡ some v → total f (set vs i w) + f v ≡ total f vs + f w
  total_set [] i v w at = absurd (some-ne-none v (sym at))
  total_set (x ∷ xs) zero v w at = let e : f x ≡ f v = ap f (some-injective x v at) in omega arith
  total_set (x ∷ xs) (suc i) v w at = let r = total_set xs i v w at in omega arith

  pub total_append : (vs ws : List X) → total f (vs ++ ws) ≡ total f vs + total f ws
  total_append [] ws = omega arith
  total_append (x ∷ xs) ws = let r = total_append xs ws in omega arith

  pub total_cut : (n : ℕ) (vs : List X) → total f (drop n vs) + total f (take n vs) ≡ total f vs
  total_cut zero vs = omega arith
  total_cut (suc n) [] = refl
  total_cut (suc n) (x ∷ xs) = let r = total_cut n xs in omega arith

  pub total_at : (vs : List X) (i : ℕ) (v : X) → get_elem? vs i ≡ some v → f v ≤ total f vs
  total_at [] i v at = absurd (some-ne-none v (sym at))
  total_at (x ∷ xs) zero v at = let e : f x ≡ f v = ap f (some-injective x v at) in omega arith
  total_at (x ∷ xs) (suc i) v at = let r = total_at xs i v at in omega arith

  pub total_two : (vs : List X) (i j : ℕ) (v w : X) → i ≢ j → get_elem? vs i ≡ some v → get_elem? vs j ≡ some w → f v + f w ≤ total f vs
  total_two [] i j v w ne a b = absurd (some-ne-none v (sym a))
  total_two (x ∷ xs) zero zero v w ne a b = absurd (ne refl)
  total_two (x ∷ xs) zero (suc j) v w ne a b = let e : f x ≡ f v = ap f (some-injective x v a) in let r = total_at xs j w b in omega arith
  total_two (x ∷ xs) (suc i) zero v w ne a b = let e : f x ≡ f w = ap f (some-injective x w b) in let r = total_at xs i v a in omega arith
  total_two (x ∷ xs) (suc i) (suc j) v w ne a b = let r = total_two xs i j v w (λ e. ne (ap suc e)) a b in omega arith

  pub total_below : (g : X → ℕ) (vs : List X) → ((i : ℕ) (v : X) → get_elem? vs i ≡ some v → f v ≤ g v) → total f vs ≤ total g vs
  total_below g [] each = omega arith
  total_below g (x ∷ xs) each = let a = each 0 x refl in let r = total_below g xs (λ i. each (suc i)) in omega arith
