-- What holds of each element of a list that is made of others.
use Rattle.std.specs.Prelude.{◌≡◌, ℕ, suc, zero, ◌<◌, Bool, true, false, cond, List, [], ◌∷◌, ◌++◌, length, map, slice_index_or, Option, Some, None}
use Rattle.std.specs.List.{AllByRecursion, Contains, filter, filter_map, flat_map, cons_option}
use Rattle.std.proofs.Common.{refl, subst, ap, arith, suc-le-suc, zero-le, le_of_suc-le-suc}

pub contains_here : {X : Type 0} (x : X) (xs : List X) → Contains (x ∷ xs) x
contains_here x xs = (0, suc-le-suc zero-le, refl)

pub contains_later : {X : Type 0} (x y : X) (xs : List X) → Contains xs x → Contains (y ∷ xs) x
contains_later x y xs h = (suc h.0, suc-le-suc h.1, h.2)

map_at : {X Y : Type 0} (f : X → Y) (xs : List X) (k : ℕ) (x : X) → k < length xs → slice_index_or xs k x ≡ x → Contains (map f xs) (f x)
map_at f [] k x h e = absurd (omega arith)
map_at f (y ∷ xs) zero x h e = (0, suc-le-suc zero-le, ap f e)
map_at f (y ∷ xs) (suc k) x h e = contains_later (f x) (f y) (map f xs) (map_at f xs k x (le_of_suc-le-suc h) e)

pub contains_map : {X Y : Type 0} (f : X → Y) (xs : List X) (x : X) → Contains xs x → Contains (map f xs) (f x)
contains_map f xs x h = map_at f xs h.0 x h.1 h.2

pub contains_last : {X : Type 0} (xs : List X) (x : X) → Contains (xs ++ x ∷ []) x
contains_last [] x = contains_here x []
contains_last (y ∷ xs) x = contains_later x y (xs ++ x ∷ []) (contains_last xs x)

module _ {Y : Type 0} (P : Y → Type 0) where
  pub all_append : (xs ys : List Y) → AllByRecursion P xs → AllByRecursion P ys → AllByRecursion P (xs ++ ys)
  all_append [] ys h k = k
  all_append (x ∷ xs) ys h k = (h.0, all_append xs ys h.1 k)

  all_cons : (o : Option Y) (ys : List Y) → ((y : Y) → o ≡ Some y → P y) → AllByRecursion P ys → AllByRecursion P (cons_option o ys)
  all_cons None ys to h = h
  all_cons (Some y) ys to h = (to y refl, h)

module _ {X Y : Type 0} (P : Y → Type 0) where
  pub all_map_of : (f : X → Y) (xs : List X) → AllByRecursion (λ x. P (f x)) xs → AllByRecursion P (map f xs)
  all_map_of f [] h = tt
  all_map_of f (x ∷ xs) h = (h.0, all_map_of f xs h.1)

  pub all_flat_map : (f : X → List Y) (xs : List X) → ((x : X) → Contains xs x → AllByRecursion P (f x)) → AllByRecursion P (flat_map f xs)
  all_flat_map f [] to = tt
  all_flat_map f (x ∷ xs) to = all_append P (f x) (flat_map f xs) (to x (contains_here x xs)) (all_flat_map f xs (λ y h. to y (contains_later y x xs h)))

  pub all_filter_map : (f : X → Option Y) (xs : List X) → ((x : X) (y : Y) → f x ≡ Some y → P y) → AllByRecursion P (filter_map f xs)
  all_filter_map f [] to = tt
  all_filter_map f (x ∷ xs) to = all_cons P (f x) (filter_map f xs) (to x) (all_filter_map f xs to)

module _ {X : Type 0} (P : X → Type 0) where
  kept : (b : Bool) (x : X) (xs : List X) → (b ≡ true → P x) → AllByRecursion P xs → AllByRecursion P (cond b (x ∷ xs) xs)
  kept true x xs to h = (to refl, h)
  kept false x xs to h = h

  pub all_filter : (test : X → Bool) (xs : List X) → ((x : X) → Contains xs x → test x ≡ true → P x) → AllByRecursion P (filter test xs)
  all_filter test [] to = tt
  all_filter test (x ∷ xs) to = kept (test x) x (filter test xs) (to x (contains_here x xs)) (all_filter test xs (λ y h. to y (contains_later y x xs h)))

  pub all_weaker : (Q : X → Type 0) → ((x : X) → P x → Q x) → (xs : List X) → AllByRecursion P xs → AllByRecursion Q xs
  all_weaker Q to [] h = tt
  all_weaker Q to (x ∷ xs) h = (to x h.0, all_weaker Q to xs h.1)

contained_at : {X : Type 0} (P : X → Type 0) (xs : List X) (k : ℕ) (x : X) → AllByRecursion P xs → k < length xs → slice_index_or xs k x ≡ x → P x
contained_at P [] k x h l e = absurd (omega arith)
contained_at P (y ∷ xs) zero x h l e = subst P e h.0
contained_at P (y ∷ xs) (suc k) x h l e = contained_at P xs k x h.1 (le_of_suc-le-suc l) e

-- what holds of each element holds of one that is contained
pub contained : {X : Type 0} (P : X → Type 0) (xs : List X) (x : X) → AllByRecursion P xs → Contains xs x → P x
contained P xs x h c = contained_at P xs c.0 x h c.1 c.2
