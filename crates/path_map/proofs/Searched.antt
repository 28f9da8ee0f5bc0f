-- What a binary search among rising entries finds.
use Rattle.std.proofs.Common.{◌≡◌, ℕ, zero, suc, ◌+◌, ◌<◌, Bool, true, false, ◌&&◌, List, [], ◌∷◌, length, take, drop, get_or, Result, Ok, Err, IfOk, IfErr, Ordering, refl, ap, ◌∙◌, arith, add-one}
use Rattle.std.specs.declared.cmp.Ordering.TheVariants.{Less, Equal, Greater}
use Rattle.std.specs.Ordering.{is_lt, is_gt, ordering_reverse}
use Rattle.std.specs.Cmp.{IsTotalOrder}
use Rattle.std.specs.FinMap.{is_sorted}
use Rattle.std.specs.FinMap.Entries.{below_all}
use Rattle.std.specs.List.{list_all}
use Rattle.std.specs.List.Sorted.{IsSearchInRange, IsBinarySearchResult, IsSortedBy}
use Rattle.std.proofs.lemmas.List.{get_or-take, get_or-drop, length-take, length-drop, get_or_default, take_all, drop_all}
use Rattle.std.proofs.lemmas.List.Sorted.{searchable_from_sorted}
use Rattle.path_map.specs.Places.{IsAt, IsGapFor}
use Rattle.path_map.proofs.Rising.{pair, is_less, is_greater}

-- a test at each place is a test of the list
pub all_from_places : {A : Type 0} (test : A → Bool) (xs : List A) → ((k : ℕ) (d : A) → k < length xs → test (get_or xs k d) ≡ true) → list_all test xs ≡ true
all_from_places test [] h = refl
all_from_places test (x ∷ xs) h =
    both (test x) (list_all test xs) (h 0 x (omega arith)) (all_from_places test xs (λ k d lt. h (suc k) d (omega arith)))
  where
    both : (s t : Bool) → s ≡ true → t ≡ true → s && t ≡ true
    both true t p q = q
    both false t p q = cc

split : (s t : Bool) → s && t ≡ true → (s ≡ true) × (t ≡ true)
split true t h = (refl, h)
split false t h = cc

-- each key stands before the next
adjacent : {K X : Type 0} (R : K → K → Ordering) (es : List (K × X)) → is_sorted R es ≡ true → (j : ℕ) (d : K × X) → suc j < length es → is_lt (R (get_or es j d).0 (get_or es (suc j) d).0) ≡ true
adjacent R [] h j d lt = absurd (omega arith)
adjacent R (e ∷ []) h j d lt = absurd (omega arith)
adjacent R (e ∷ f ∷ es) h zero d lt = (split (is_lt (R e.0 f.0)) (below_all R e.0 es) (split (below_all R e.0 (f ∷ es)) (is_sorted R (f ∷ es)) h).0).0
adjacent R (e ∷ f ∷ es) h (suc j) d lt = adjacent R (f ∷ es) (split (below_all R e.0 (f ∷ es)) (is_sorted R (f ∷ es)) h).1 j d (omega arith)

module _ {K X : Type 0} (R : K → K → Ordering) (o : IsTotalOrder R) (same : (x y : K) → R x y ≡ Equal → x ≡ y) (es : List (K × X)) (k : K) where
  greater : (e : K × X) → R e.0 k ≡ Less → is_gt (R k e.0) ≡ true
  greater e h = ap is_gt (o.antisymm k e.0 ∙ ap ordering_reverse h)

  less : (e : K × X) → R e.0 k ≡ Greater → is_lt (R k e.0) ≡ true
  less e h = ap is_lt (o.antisymm k e.0 ∙ ap ordering_reverse h)

  rising : is_sorted R es ≡ true → IsSortedBy (λ a b. is_lt (R a.0 b.0)) es
  rising h j d low high = rw (add-one j) (turned (get_or es j d) (get_or es (suc j) d) (adjacent R es h j d (omega arith)))
    where
      turned : (e f : K × X) → is_lt (R e.0 f.0) ≡ true → is_lt (R f.0 e.0) ≡ false
      turned e f p = ap is_lt (o.antisymm f.0 e.0) ∙ not_less (R e.0 f.0) p
        where
          not_less : (r : Ordering) → is_lt r ≡ true → is_lt (ordering_reverse r) ≡ false
          not_less Less p = refl
          not_less Equal p = cc
          not_less Greater p = cc

  pub searched : (r : Result ℕ ℕ) → is_sorted R es ≡ true → IsSearchInRange r (length es) → IsBinarySearchResult (λ e. R e.0 k) es r → record { found : IfOk r (IsAt R es k); absent : IfErr r (IsGapFor R es k) }
  searched (Ok i) h within equal = record { found = record { within = within; key = λ d. same _ _ (equal d) }; absent = tt }
  searched (Err i) h within parted =
      let parts = parted (searchable_from_sorted o (λ e. e.0) es k (rising h)) in
      record {
        found = tt;
        absent = record {
          within = within;
          before = all_from_places (λ e. is_gt (R k e.0)) (take i es) (λ j d lt.
              ap (λ (e : K × X). is_gt (R k e.0)) (get_or-take i es j d (omega (arith, length-take i es)))
              ∙ greater (get_or es j d) (parts.0 j d (omega arith) (omega (arith, length-take i es))));
          behind = all_from_places (λ e. is_lt (R k e.0)) (drop i es) (λ j d lt.
              ap (λ (e : K × X). is_lt (R k e.0)) (get_or-drop i es j d)
              ∙ less (get_or es (i + j) d) (parts.1 (i + j) d (omega arith) (omega (arith, length-drop i es))));
        };
      }

  farther : (x y : K) → is_lt (R x y) ≡ true → is_gt (R k y) ≡ true → is_gt (R k x) ≡ true
  farther x y below behind =
      ap is_gt (o.antisymm k x ∙ ap ordering_reverse (o.trans x y k (is_less (R x y) below) (o.antisymm y k ∙ ap ordering_reverse (is_greater (R k y) behind))))

  -- a key behind the last one stands behind all
  behind_all : (fs : List (K × X)) → is_sorted R fs ≡ true → (i : ℕ) (d : K × X) → suc i ≡ length fs → R (get_or fs i d).0 k ≡ Less → list_all (λ e. is_gt (R k e.0)) fs ≡ true
  behind_all [] h i d n last = absurd (omega (arith, n))
  behind_all (e ∷ []) h zero d n last = pair (is_gt (R k e.0)) true (greater e last) refl
  behind_all (e ∷ []) h (suc i) d n last = absurd (omega (arith, n))
  behind_all (e ∷ f ∷ fs) h zero d n last = absurd (omega (arith, n))
  behind_all (e ∷ f ∷ fs) h (suc i) d n last =
      let parts = split (below_all R e.0 (f ∷ fs)) (is_sorted R (f ∷ fs)) h in
      let rest = behind_all (f ∷ fs) parts.1 i d (omega (arith, n)) last in
      let first = (split (is_gt (R k f.0)) (list_all (λ e. is_gt (R k e.0)) fs) rest).0 in
      pair (is_gt (R k e.0)) (list_all (λ e. is_gt (R k e.0)) (f ∷ fs)) (farther e.0 f.0 (split (is_lt (R e.0 f.0)) (below_all R e.0 fs) parts.0).0 first) rest

  -- so its place is behind them
  pub gap_behind : (i : ℕ) (d : K × X) → is_sorted R es ≡ true → suc i ≡ length es → R (get_or es i d).0 k ≡ Less → IsGapFor R es k (length es)
  gap_behind i d h n last = record {
    within = omega arith;
    before = ap (list_all (λ e. is_gt (R k e.0))) (take_all (length es) es (omega arith)) ∙ behind_all es h i d n last;
    behind = ap (list_all (λ e. is_lt (R k e.0))) (drop_all (length es) es (omega arith));
  }

  pub found_at : (i : ℕ) (d : K × X) → i < length es → R (get_or es i d).0 k ≡ Equal → IsAt R es k i
  found_at i d within equal = record { within = within; key = λ e. same _ _ (ap (λ (x : K × X). R x.0 k) (get_or_default es i e d within) ∙ equal) }
