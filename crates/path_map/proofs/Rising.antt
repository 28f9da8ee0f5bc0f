-- Entries in the order of their keys: what is found at a place, and what an edit there leaves.
use Rattle.std.proofs.Common.{◌≡◌, ℕ, suc, ◌+◌, ◌<◌, ◌≤◌, length, arith, Bool, true, false, cond, ◌&&◌, List, [], ◌∷◌, ◌++◌, take, drop, get_or, set, Some, None, Ordering, refl, sym, ap, subst, ◌∙◌, add-one}
use lib.Dec.{T}
use Rattle.std.specs.declared.cmp.Ordering.TheVariants.{Less, Equal, Greater}
use Rattle.std.specs.Ordering.{is_lt, is_eq, is_gt, ordering_reverse}
use Rattle.std.specs.Cmp.{IsTotalOrder, tied_itself}
use Rattle.std.specs.FinMap.{find, put, is_sorted}
use Rattle.std.specs.FinMap.Entries.{by_order, below_all}
use Rattle.std.specs.List.{list_all, insert}
use Rattle.std.proofs.lemmas.List.{take-append-drop, set_split, drop_more}
use Rattle.path_map.specs.Places.{IsAt, IsGapFor}

pub holds : (b : Bool) → b ≡ true → T b
holds b e = subst T (sym e) tt

pub is_true : (b : Bool) → T b → b ≡ true
is_true true h = refl
is_true false h = absurd h

pub both : (s t : Bool) → s && t ≡ true → (s ≡ true) × (t ≡ true)
both true t h = (refl, h)
both false t h = cc

pub pair : (s t : Bool) → s ≡ true → t ≡ true → s && t ≡ true
pair true t p q = q
pair false t p q = cc

pub is_greater : (o : Ordering) → is_gt o ≡ true → o ≡ Greater
is_greater Less h = cc
is_greater Equal h = cc
is_greater Greater h = refl

pub is_less : (o : Ordering) → is_lt o ≡ true → o ≡ Less
is_less Less h = refl
is_less Equal h = cc
is_less Greater h = cc

turned : {K : Type 0} (R : K → K → Ordering) (o : IsTotalOrder R) (x y : K) → is_lt (R x y) ≡ true → is_gt (R y x) ≡ true
turned R o x y h = ap is_gt (o.antisymm y x ∙ ap ordering_reverse (is_less (R x y) h))

-- a key that does not stand before m stands behind all that does
module _ {K : Type 0} (R : K → K → Ordering) (o : IsTotalOrder R) where
  flipped : (x y : K) → R x y ≡ Greater → R y x ≡ Less
  flipped x y e = o.antisymm y x ∙ ap ordering_reverse e

  beyond : (k m d : K) (r : Ordering) → R k m ≡ r → is_lt r ≡ false → is_gt (R m d) ≡ true → is_gt (R k d) ≡ true
  beyond k m d Less e p q = cc
  beyond k m d Equal e p q = ap is_gt (o.congr k m d e) ∙ q
  beyond k m d Greater e p q = turned R o d k (ap is_lt (o.trans d m k (flipped m d (is_greater (R m d) q)) (flipped k m e)))

module _ {K X : Type 0} (R : K → K → Ordering) where
  -- the keys stand before k, or behind it
  abbrev pub before : K → List (K × X) → Bool
  before k es = list_all (λ e. is_gt (R k e.0)) es

  abbrev pub behind : K → List (K × X) → Bool
  behind k es = list_all (λ e. is_lt (R k e.0)) es

  -- entries before k do not matter to it
  pub find-append : (k : K) (es fs : List (K × X)) → before k es ≡ true → find R k (es ++ fs) ≡ find R k fs
  find-append k [] fs h = refl
  find-append k (e ∷ es) fs h =
      let parts = both (is_gt (R k e.0)) (before k es) h in
      ap (λ o. cond (is_eq o) (Some e.1) (find R k (es ++ fs))) (is_greater (R k e.0) parts.0) ∙ find-append k es fs parts.1

  pub put-append : (k : K) (x : X) (es fs : List (K × X)) → before k es ≡ true → put R k x (es ++ fs) ≡ es ++ put R k x fs
  put-append k x [] fs h = refl
  put-append k x (e ∷ es) fs h =
      let parts = both (is_gt (R k e.0)) (before k es) h in
      ap (λ o. by_order o ((k, x) ∷ e ∷ (es ++ fs)) ((e.0, x) ∷ (es ++ fs)) (e ∷ put R k x (es ++ fs))) (is_greater (R k e.0) parts.0) ∙ ap (λ l. e ∷ l) (put-append k x es fs parts.1)

  -- the key is not among entries behind it
  pub find-behind : (k : K) (es : List (K × X)) → behind k es ≡ true → find R k es ≡ None
  find-behind k [] h = refl
  find-behind k (e ∷ es) h =
      let parts = both (is_lt (R k e.0)) (behind k es) h in
      ap (λ o. cond (is_eq o) (Some e.1) (find R k es)) (is_less (R k e.0) parts.0) ∙ find-behind k es parts.1

  pub put-behind : (k : K) (x : X) (es : List (K × X)) → behind k es ≡ true → put R k x es ≡ (k, x) ∷ es
  put-behind k x [] h = refl
  put-behind k x (e ∷ es) h =
      let parts = both (is_lt (R k e.0)) (behind k es) h in
      ap (λ o. by_order o ((k, x) ∷ e ∷ es) ((e.0, x) ∷ es) (e ∷ put R k x es)) (is_less (R k e.0) parts.0)

  -- entries behind k do not matter to it
  pub find-front : (k : K) (es fs : List (K × X)) → behind k fs ≡ true → find R k (es ++ fs) ≡ find R k es
  find-front k [] fs h = find-behind k fs h
  find-front k (e ∷ es) fs h = ap (λ r. cond (is_eq (R k e.0)) (Some e.1) r) (find-front k es fs h)

  pub put-front : (k : K) (x : X) (es fs : List (K × X)) → behind k fs ≡ true → put R k x (es ++ fs) ≡ put R k x es ++ fs
  put-front k x [] fs h = put-behind k x fs h
  put-front k x (e ∷ es) fs h =
      elim (R k e.0) as (λ r. by_order r ((k, x) ∷ e ∷ (es ++ fs)) ((e.0, x) ∷ (es ++ fs)) (e ∷ put R k x (es ++ fs)) ≡ by_order r ((k, x) ∷ e ∷ es) ((e.0, x) ∷ es) (e ∷ put R k x es) ++ fs) [
        | Less ↦ refl
        | Equal ↦ refl
        | Greater ↦ ap (λ l. e ∷ l) (put-front k x es fs h)
      ]

  -- PARTS of rising entries rise
  below-front : (k : K) (es fs : List (K × X)) → below_all R k (es ++ fs) ≡ true → below_all R k es ≡ true
  below-front k [] fs h = refl
  below-front k (e ∷ es) fs h =
      let parts = both (is_lt (R k e.0)) (below_all R k (es ++ fs)) h in
      pair _ _ parts.0 (below-front k es fs parts.1)

  pub sorted-front : (es fs : List (K × X)) → is_sorted R (es ++ fs) ≡ true → is_sorted R es ≡ true
  sorted-front [] fs h = refl
  sorted-front (e ∷ es) fs h =
      let parts = both (below_all R e.0 (es ++ fs)) (is_sorted R (es ++ fs)) h in
      pair _ _ (below-front e.0 es fs parts.0) (sorted-front es fs parts.1)

  pub sorted-back : (es fs : List (K × X)) → is_sorted R (es ++ fs) ≡ true → is_sorted R fs ≡ true
  sorted-back [] fs h = h
  sorted-back (e ∷ es) fs h = sorted-back es fs (both (below_all R e.0 (es ++ fs)) (is_sorted R (es ++ fs)) h).1

  -- an edit leaves an entry, and at most one more
  pub length-put-some : (k : K) (x : X) (es : List (K × X)) → 0 < length (put R k x es)
  length-put-some k x [] = omega arith
  length-put-some k x (e ∷ es) =
      elim (R k e.0) as (λ r. 0 < length (by_order r ((k, x) ∷ e ∷ es) ((e.0, x) ∷ es) (e ∷ put R k x es))) [ Less ↦ omega arith | Equal ↦ omega arith | Greater ↦ omega arith ]

  pub length-put-le : (k : K) (x : X) (es : List (K × X)) → length (put R k x es) ≤ length es + 1
  length-put-le k x [] = omega arith
  length-put-le k x (e ∷ es) =
      let rest = length-put-le k x es in
      elim (R k e.0) as (λ r. length (by_order r ((k, x) ∷ e ∷ es) ((e.0, x) ∷ es) (e ∷ put R k x es)) ≤ suc (length es) + 1) [ Less ↦ omega arith | Equal ↦ omega arith | Greater ↦ omega arith ]

  -- A GAP
  pub find_in_gap : (es : List (K × X)) (k : K) (i : ℕ) → IsGapFor R es k i → find R k es ≡ None
  find_in_gap es k i h =
      ap (find R k) (sym (take-append-drop i es)) ∙ find-append k (take i es) (drop i es) h.before ∙ find-behind k (drop i es) h.behind

  pub put_in_gap : (es : List (K × X)) (k : K) (x : X) (i : ℕ) → IsGapFor R es k i → insert es i (k, x) ≡ put R k x es
  put_in_gap es k x i h =
      sym (ap (put R k x) (sym (take-append-drop i es)) ∙ put-append k x (take i es) (drop i es) h.before ∙ ap (λ l. take i es ++ l) (put-behind k x (drop i es) h.behind))

  -- A PLACE
  module _ (o : IsTotalOrder R) where
    -- what stands before an entry of rising ones stands before its key
    pub before_entry : (es : List (K × X)) (e : K × X) (fs : List (K × X)) → is_sorted R (es ++ e ∷ fs) ≡ true → before e.0 es ≡ true
    before_entry [] e fs h = refl
    before_entry (d ∷ es) e fs h =
        let parts = both (below_all R d.0 (es ++ e ∷ fs)) (is_sorted R (es ++ e ∷ fs)) h in
        pair _ _ (turned R o d.0 e.0 (first_below es parts.0)) (before_entry es e fs parts.1)
      where
        first_below : (es : List (K × X)) → below_all R d.0 (es ++ e ∷ fs) ≡ true → is_lt (R d.0 e.0) ≡ true
        first_below [] p = (both (is_lt (R d.0 e.0)) (below_all R d.0 fs) p).0
        first_below (c ∷ es) p = first_below es (both (is_lt (R d.0 c.0)) (below_all R d.0 (es ++ e ∷ fs)) p).1

    -- a key that does not stand before m stands behind all that does
    pub before-later : (k m : K) (es : List (K × X)) → is_lt (R k m) ≡ false → before m es ≡ true → before k es ≡ true
    before-later k m [] p h = refl
    before-later k m (e ∷ es) p h =
        let parts = both (is_gt (R m e.0)) (before m es) h in
        pair _ _ (beyond R o k m e.0 (R k m) refl p parts.0) (before-later k m es p parts.1)

    -- a key that stands before m stands before all that is behind it
    pub behind-sooner : (k m : K) (es : List (K × X)) → is_lt (R k m) ≡ true → below_all R m es ≡ true → behind k es ≡ true
    behind-sooner k m [] p h = refl
    behind-sooner k m (e ∷ es) p h =
        let parts = both (is_lt (R m e.0)) (below_all R m es) h in
        pair _ _ (ap is_lt (o.trans k m e.0 (is_less (R k m) p) (is_less (R m e.0) parts.0))) (behind-sooner k m es p parts.1)

    module _ (es : List (K × X)) (k : K) (i : ℕ) (e : K × X) (h : is_sorted R es ≡ true) (p : IsAt R es k i) (q : e ≡ get_or es i e) where
      key_is : e.0 ≡ k
      key_is = ap (λ d. d.0) q ∙ p.key e

      split : es ≡ take i es ++ e ∷ drop (i + 1) es
      split = sym (take-append-drop i es) ∙ ap (λ l. take i es ++ l) (drop_more es i e p.within ∙ ap (λ d. d ∷ drop (i + 1) es) (sym q))

      front : before k (take i es) ≡ true
      front = subst (λ c. before c (take i es) ≡ true) key_is (before_entry (take i es) e (drop (i + 1) es) (subst (λ l. is_sorted R l ≡ true) split h))

      ties : R k e.0 ≡ Equal
      ties = ap (R k) key_is ∙ tied_itself o k

      -- the key's entry is the one that stands there
      pub find_at : Some e.1 ≡ find R k es
      find_at =
          sym (ap (find R k) split ∙ find-append k (take i es) (e ∷ drop (i + 1) es) front ∙ ap (λ r. cond (is_eq r) (Some e.1) (find R k (drop (i + 1) es))) ties)

      -- a write there is the edit of the key
      pub put_at : (x : X) → set es i (e.0, x) ≡ put R k x es
      put_at x =
          set_split es i (e.0, x) p.within ∙ ap (λ j. take i es ++ (e.0, x) ∷ drop j es) (sym (add-one i))
          ∙ sym (ap (put R k x) split ∙ put-append k x (take i es) (e ∷ drop (i + 1) es) front
          ∙ ap (λ r. take i es ++ by_order r ((k, x) ∷ e ∷ drop (i + 1) es) ((e.0, x) ∷ drop (i + 1) es) (e ∷ put R k x (drop (i + 1) es))) ties)
