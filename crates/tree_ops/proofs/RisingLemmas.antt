-- Lists in strictly rising order, and what stands behind one of their items.
use Rattle.std.specs.Prelude.{◌≡◌, Bool, true, false, cond, List, [], ◌∷◌, filter}
use Rattle.std.specs.List.{AllByRecursion}
use Rattle.std.specs.Cmp.{IsTotalOrder, tied_itself}
use Rattle.std.specs.Ordering.{is_lt}
use Rattle.std.specs.declared.cmp.Ordering.{Ordering}
use Rattle.std.specs.declared.cmp.Ordering.TheVariants.{Less, Equal, Greater}
use Rattle.std.proofs.Common.{sym, refl, ap, subst, ◌∙◌}
use Rattle.xs_model.proofs.Maps.{not_both}
use Rattle.tree_ops.specs.Rising.{Rises, behind}

pub less_of : (o : Ordering) → is_lt o ≡ true → o ≡ Less
less_of Less h = refl
less_of Equal h = not_both h refl
less_of Greater h = not_both h refl

abbrev head_or : {K : Type 0} → K → List K → K
head_or d [] = d
head_or d (x ∷ xs) = x

abbrev tail_of : {K : Type 0} → List K → List K
tail_of [] = []
tail_of (x ∷ xs) = xs

abbrev is_none : {K : Type 0} → List K → Bool
is_none [] = true
is_none (x ∷ xs) = false

pub no_item : {A K : Type 0} {x : K} {xs : List K} → [] ≡ x ∷ xs → A
no_item e = not_both refl (ap is_none e)

pub same_head : {K : Type 0} {x y : K} {xs ys : List K} → x ∷ xs ≡ y ∷ ys → x ≡ y
same_head {x = x} e = ap (head_or x) e

pub same_tail : {K : Type 0} {x y : K} {xs ys : List K} → x ∷ xs ≡ y ∷ ys → xs ≡ ys
same_tail e = ap tail_of e

module _ {K : Type 0} where
  -- where all pass, all are kept
  pub filter_all : (t : K → Bool) (xs : List K) → AllByRecursion (λ x. t x ≡ true) xs → filter t xs ≡ xs
  filter_all t [] h = refl
  filter_all t (x ∷ xs) h = ap (λ b. cond b (x ∷ filter t xs) (filter t xs)) h.0 ∙ ap (λ ys. x ∷ ys) (filter_all t xs h.1)

  pub filter_none : (t : K → Bool) (xs : List K) → AllByRecursion (λ x. t x ≡ false) xs → filter t xs ≡ []
  filter_none t [] h = refl
  filter_none t (x ∷ xs) h = ap (λ b. cond b (x ∷ filter t xs) (filter t xs)) h.0 ∙ filter_none t xs h.1

  -- the first item that is kept passes
  pub filter_first : (t : K → Bool) (xs : List K) (q : K) (rest : List K) → filter t xs ≡ q ∷ rest → t q ≡ true
  filter_first t [] q rest e = no_item e
  filter_first t (x ∷ xs) q rest e =
      elim (t x) as (λ b. t x ≡ b → cond b (x ∷ filter t xs) (filter t xs) ≡ q ∷ rest → t q ≡ true) [
        | true ↦ λ is f. subst (λ y. t y ≡ true) (same_head f) is
        | false ↦ λ is f. filter_first t xs q rest f
      ] refl e

  pub all_to : (P Q : K → Type 0) (xs : List K) → ((x : K) → P x → Q x) → AllByRecursion P xs → AllByRecursion Q xs
  all_to P Q [] to h = tt
  all_to P Q (x ∷ xs) to h = (to x h.0, all_to P Q xs to h.1)

module _ {K : Type 0} (R : K → K → Ordering) (o : IsTotalOrder R) where
  pub not_itself : (x : K) → is_lt (R x x) ≡ false
  not_itself x = ap is_lt (tied_itself o x)

  pub further : (x y z : K) → is_lt (R x y) ≡ true → is_lt (R y z) ≡ true → is_lt (R x z) ≡ true
  further x y z h k = ap is_lt (o.trans x y z (less_of (R x y) h) (less_of (R y z) k))

  -- all behind an item of a rising list, where it is the first
  pub behind_first : (x : K) (xs : List K) → Rises R (x ∷ xs) → behind R x (x ∷ xs) ≡ xs
  behind_first x xs h = ap (λ b. cond b (x ∷ behind R x xs) (behind R x xs)) (not_itself x) ∙ filter_all (λ y. is_lt (R x y)) xs h.0

  -- a test that every item passes that stands behind one that passes
  abbrev pub Upward : (K → Bool) → Type 0
  Upward t = (x y : K) → t x ≡ true → is_lt (R x y) ≡ true → t y ≡ true

  -- the items that pass are the first of them and all behind it
  pub behind_kept : (t : K → Bool) → Upward t → (xs : List K) → Rises R xs → (q : K) (rest : List K) → filter t xs ≡ q ∷ rest → behind R q xs ≡ rest
  behind_kept t up [] h q rest e = no_item e
  behind_kept t up (x ∷ xs) h q rest e =
      elim (t x) as (λ b. t x ≡ b → cond b (x ∷ filter t xs) (filter t xs) ≡ q ∷ rest → behind R q (x ∷ xs) ≡ rest) [
        | true ↦ λ is f.
            subst (λ y. behind R y (x ∷ xs) ≡ rest) (same_head f)
            (behind_first x xs h ∙ sym (filter_all t xs (all_to _ _ xs (λ y k. up x y is k) h.0)) ∙ same_tail f)
        | false ↦ λ is f.
            ap (λ b. cond b (x ∷ behind R q xs) (behind R q xs)) (before x q is (filter_first t xs q rest f)) ∙ behind_kept t up xs h.1 q rest f
      ] refl e
    where
      before : (x q : K) → t x ≡ false → t q ≡ true → is_lt (R q x) ≡ false
      before x q is passes =
          elim (is_lt (R q x)) as (λ b. is_lt (R q x) ≡ b → b ≡ false) [ true ↦ λ k. not_both (up q x passes k) is | false ↦ λ k. refl ] refl
