-- Entries in rising order of their ids: what stands at a place, and what an edit there leaves.
use Rattle.std.proofs.Common.{◌≡◌, ◌==◌, ℕ, zero, suc, ◌+◌, ◌<◌, ◌⊎◌, Bool, true, false, not, cond, ◌&&◌, List, [], ◌∷◌, ◌++◌, length, take, drop, get_or, set, nat_lt, Some, None, Result, Ok, Err, IfOk, IfErr, refl, sym, ap, ap₂, inl, inr, subst, ◌∙◌, arith, add-one}
use lib.Dec.{T}
use Rattle.std.specs.declared.cmp.Ordering.TheVariants.{Less, Equal, Greater}
use Rattle.std.specs.Ordering.{nat_cmp, is_lt, is_eq}
use Rattle.std.specs.Cmp.{nat_cmp_is}
use Rattle.std.specs.FinMap.{find, put, is_sorted}
use Rattle.std.specs.FinMap.Entries.{by_order, below_all, where_key, is_sorted-put, is_sorted-where_key}
use Rattle.std.specs.List.{insert, list_all, remove}
use Rattle.std.specs.List.Sorted.{IsSearchInRange, IsBinarySearchResult, IsSortedBy}
use Rattle.std.proofs.lemmas.Bool.Decides.{nat_tests}
use Rattle.std.proofs.lemmas.Cmp.{nat_cmp_total}
use Rattle.std.proofs.lemmas.List.{take-append-drop, set_split, drop_more, get_or_default, get_or-take, get_or-drop, length-take, length-drop}
use Rattle.std.proofs.lemmas.List.Elements.{filter-append}
use Rattle.std.proofs.lemmas.List.Sorted.{searchable_from_sorted}
use Rattle.id_map.specs.Ids.{above}
use Rattle.id_map.specs.Maps.{Map}
use Rattle.id_map.specs.Places.{IsAt, IsGapFor}

abbrev pub with_entries : {X : Type 0} → List (ℕ × X) → ℕ → Map X
with_entries entries spare = record { entries = entries; spare = spare }

-- maps that are one have the same entries
pub entries_of : {X : Type 0} {a b : Map X} → a ≡ b → a.entries ≡ b.entries
entries_of same = ap (λ m. m.entries) same

pub both : (a b : Bool) → (a && b) ≡ true → (a ≡ true) × (b ≡ true)
both true b h = (refl, h)
both false b h = cc

pub holds : (b : Bool) → b ≡ true → T b
holds b e = subst T (sym e) tt

pub is_true : (b : Bool) → T b → b ≡ true
is_true true h = refl
is_true false h = absurd h

pub lower : (x y : ℕ) → nat_lt x y ≡ true → x < y
lower x y h = grind (arith, nat_tests)

pub is_lower : (x y : ℕ) → x < y → nat_lt x y ≡ true
is_lower x y h = grind (arith, nat_tests)

less : (x y : ℕ) → x < y → nat_cmp x y ≡ Less
less x y h = sym (nat_cmp_is x y Less h)

pub greater : (x y : ℕ) → y < x → nat_cmp x y ≡ Greater
greater x y h = sym (nat_cmp_is x y Greater h)

pub ties : (x : ℕ) → nat_cmp x x ≡ Equal
ties x = sym (nat_cmp_is x x Equal refl)

pub in_order : (x y : ℕ) → is_lt (nat_cmp x y) ≡ true → x < y
in_order x y h = grind (arith, nat_tests)

differ : (k x : ℕ) → (x < k) ⊎ (k < x) → not (k == x) ≡ true
differ k x h = grind (arith, nat_tests)

same : (k x : ℕ) → k ≡ x → not (k == x) ≡ false
same k x h = grind (arith, nat_tests)

pub not_higher : (k x : ℕ) → x < k → nat_lt k x ≡ false
not_higher k x h = grind (arith, nat_tests)

pub not_itself : (k x : ℕ) → x ≡ k → nat_lt k x ≡ false
not_itself k x h = grind (arith, nat_tests)

module _ {X : Type 0} where
  abbrev before : ℕ → List (ℕ × X) → Bool
  before k es = list_all (λ e. nat_lt e.0 k) es

  abbrev pub behind : ℕ → List (ℕ × X) → Bool
  behind k es = list_all (λ e. nat_lt k e.0) es

  find-append : (k : ℕ) (es fs : List (ℕ × X)) → before k es ≡ true → find nat_cmp k (es ++ fs) ≡ find nat_cmp k fs
  find-append k [] fs h = refl
  find-append k (e ∷ es) fs h =
      let parts = both (nat_lt e.0 k) (before k es) h in
      ap (λ o. cond (is_eq o) (Some e.1) (find nat_cmp k (es ++ fs))) (greater k e.0 (lower _ _ parts.0)) ∙ find-append k es fs parts.1

  put-append : (k : ℕ) (x : X) (es fs : List (ℕ × X)) → before k es ≡ true → put nat_cmp k x (es ++ fs) ≡ es ++ put nat_cmp k x fs
  put-append k x [] fs h = refl
  put-append k x (e ∷ es) fs h =
      let parts = both (nat_lt e.0 k) (before k es) h in
      ap (λ o. by_order o ((k, x) ∷ e ∷ (es ++ fs)) ((e.0, x) ∷ (es ++ fs)) (e ∷ put nat_cmp k x (es ++ fs))) (greater k e.0 (lower _ _ parts.0))
      ∙ ap (λ l. e ∷ l) (put-append k x es fs parts.1)

  pub find-behind : (k : ℕ) (es : List (ℕ × X)) → behind k es ≡ true → find nat_cmp k es ≡ None
  find-behind k [] h = refl
  find-behind k (e ∷ es) h =
      let parts = both (nat_lt k e.0) (behind k es) h in
      ap (λ o. cond (is_eq o) (Some e.1) (find nat_cmp k es)) (less k e.0 (lower _ _ parts.0)) ∙ find-behind k es parts.1

  put-behind : (k : ℕ) (x : X) (es : List (ℕ × X)) → behind k es ≡ true → put nat_cmp k x es ≡ (k, x) ∷ es
  put-behind k x [] h = refl
  put-behind k x (e ∷ es) h =
      let parts = both (nat_lt k e.0) (behind k es) h in
      ap (λ o. by_order o ((k, x) ∷ e ∷ es) ((e.0, x) ∷ es) (e ∷ put nat_cmp k x es)) (less k e.0 (lower _ _ parts.0))

  abbrev pub without : ℕ → List (ℕ × X) → List (ℕ × X)
  without k es = where_key nat_cmp (λ key. not (k == key)) es

  without-before : (k : ℕ) (es : List (ℕ × X)) → before k es ≡ true → without k es ≡ es
  without-before k [] h = refl
  without-before k (e ∷ es) h =
      let parts = both (nat_lt e.0 k) (before k es) h in
      ap (λ b. cond b (e ∷ without k es) (without k es)) (differ k e.0 (inl (lower _ _ parts.0))) ∙ ap (λ l. e ∷ l) (without-before k es parts.1)

  without-behind : (k : ℕ) (es : List (ℕ × X)) → behind k es ≡ true → without k es ≡ es
  without-behind k [] h = refl
  without-behind k (e ∷ es) h =
      let parts = both (nat_lt k e.0) (behind k es) h in
      ap (λ b. cond b (e ∷ without k es) (without k es)) (differ k e.0 (inr (lower _ _ parts.0))) ∙ ap (λ l. e ∷ l) (without-behind k es parts.1)

  without-append : (k : ℕ) (es fs : List (ℕ × X)) → without k (es ++ fs) ≡ without k es ++ without k fs
  without-append k es fs = filter-append (λ e. not (k == e.0)) es fs

  -- THE ENTRIES ABOVE an id
  above-before : (k : ℕ) (es fs : List (ℕ × X)) → before k es ≡ true → above k (es ++ fs) ≡ above k fs
  above-before k [] fs h = refl
  above-before k (e ∷ es) fs h =
      let parts = both (nat_lt e.0 k) (before k es) h in
      ap (λ b. cond b (e ∷ above k (es ++ fs)) (above k (es ++ fs))) (not_higher k e.0 (lower _ _ parts.0)) ∙ above-before k es fs parts.1

  pub above-behind : (k : ℕ) (es : List (ℕ × X)) → behind k es ≡ true → above k es ≡ es
  above-behind k [] h = refl
  above-behind k (e ∷ es) h =
      let parts = both (nat_lt k e.0) (behind k es) h in
      ap (λ b. cond b (e ∷ above k es) (above k es)) parts.0 ∙ ap (λ l. e ∷ l) (above-behind k es parts.1)

  pub behind_first : (e : ℕ × X) (es : List (ℕ × X)) → is_sorted nat_cmp (e ∷ es) ≡ true → behind e.0 es ≡ true
  behind_first e es h = all_over e.0 es (both _ _ h).0
    where
      all_over : (x : ℕ) (es : List (ℕ × X)) → below_all nat_cmp x es ≡ true → behind x es ≡ true
      all_over x [] h = refl
      all_over x (e ∷ es) h = ap₂ ◌&&◌ (is_lower x e.0 (in_order x e.0 (both _ _ h).0)) (all_over x es (both _ _ h).1)

  pub all_behind : (k : ℕ) (e : ℕ × X) (es : List (ℕ × X)) → is_sorted nat_cmp (e ∷ es) ≡ true → k < e.0 → behind k (e ∷ es) ≡ true
  all_behind k e es h lt = ap₂ ◌&&◌ (is_lower k e.0 lt) (lower_yet es (behind_first e es h))
    where
      lower_yet : (es : List (ℕ × X)) → behind e.0 es ≡ true → behind k es ≡ true
      lower_yet [] h = refl
      lower_yet (d ∷ ds) h =
          let over = lower e.0 d.0 (both _ _ h).0 in ap₂ ◌&&◌ (is_lower k d.0 (omega arith)) (lower_yet ds (both _ _ h).1)

  -- A GAP
  module _ (es : List (ℕ × X)) (k i : ℕ) (h : IsGapFor es k i) where
    pub find_in_gap : find nat_cmp k es ≡ None
    find_in_gap =
        ap (find nat_cmp k) (sym (take-append-drop i es)) ∙ find-append k (take i es) (drop i es) h.before ∙ find-behind k (drop i es) h.behind

    pub put_in_gap : (x : X) → insert es i (k, x) ≡ put nat_cmp k x es
    put_in_gap x =
        sym (ap (put nat_cmp k x) (sym (take-append-drop i es)) ∙ put-append k x (take i es) (drop i es) h.before ∙ ap (λ l. take i es ++ l) (put-behind k x (drop i es) h.behind))

    pub without_in_gap : without k es ≡ es
    without_in_gap =
        ap (without k) (sym (take-append-drop i es)) ∙ without-append k (take i es) (drop i es)
        ∙ ap₂ ◌++◌ (without-before k (take i es) h.before) (without-behind k (drop i es) h.behind) ∙ take-append-drop i es

    pub above_gap : drop i es ≡ above k es
    above_gap =
        sym (ap (above k) (sym (take-append-drop i es)) ∙ above-before k (take i es) (drop i es) h.before ∙ above-behind k (drop i es) h.behind)

  -- A PLACE
  module _ (es : List (ℕ × X)) (k i : ℕ) (h : IsAt es k i) (e : ℕ × X) (is : e ≡ get_or es i e) where
    key_is : e.0 ≡ k
    key_is = ap (λ d. d.0) is ∙ h.key e

    split : es ≡ take i es ++ e ∷ drop (i + 1) es
    split =
        sym (take-append-drop i es) ∙ ap (λ l. take i es ++ l) (drop_more es i e h.within ∙ ap (λ d. d ∷ drop (i + 1) es) (sym is))

    tied : nat_cmp k e.0 ≡ Equal
    tied = ap (nat_cmp k) key_is ∙ ties k

    pub find_at : find nat_cmp k es ≡ Some e.1
    find_at =
        ap (find nat_cmp k) split ∙ find-append k (take i es) (e ∷ drop (i + 1) es) h.before
        ∙ ap (λ r. cond (is_eq r) (Some e.1) (find nat_cmp k (drop (i + 1) es))) tied

    pub put_at : (x : X) → set es i (e.0, x) ≡ put nat_cmp k x es
    put_at x =
        set_split es i (e.0, x) h.within ∙ ap (λ j. take i es ++ (e.0, x) ∷ drop j es) (sym (add-one i))
        ∙ sym (ap (put nat_cmp k x) split ∙ put-append k x (take i es) (e ∷ drop (i + 1) es) h.before
        ∙ ap (λ r. take i es ++ by_order r ((k, x) ∷ e ∷ drop (i + 1) es) ((e.0, x) ∷ drop (i + 1) es) (e ∷ put nat_cmp k x (drop (i + 1) es))) tied)

    pub remove_at : remove es i ≡ without k es
    remove_at =
        ap (λ j. take i es ++ drop j es) (sym (add-one i))
        ∙ sym (ap (without k) split ∙ without-append k (take i es) (e ∷ drop (i + 1) es)
        ∙ ap₂ ◌++◌ (without-before k (take i es) h.before)
        (ap (λ b. cond b (e ∷ without k (drop (i + 1) es)) (without k (drop (i + 1) es))) (same k e.0 (sym key_is)) ∙ without-behind k (drop (i + 1) es) h.behind))

  pub above_at : (es : List (ℕ × X)) (k i : ℕ) → IsAt es k i → drop (i + 1) es ≡ above k es
  above_at [] k i h = absurd (omega (arith, h.within))
  above_at (d ∷ ds) k i h =
      let es : List (ℕ × X) = d ∷ ds in
      let e : ℕ × X = get_or es i d in
      let is : e ≡ get_or es i e = get_or_default es i d e h.within in
      sym (ap (above k) (split es k i h e is) ∙ above-before k (take i es) (e ∷ drop (i + 1) es) h.before
      ∙ ap (λ b. cond b (e ∷ above k (drop (i + 1) es)) (above k (drop (i + 1) es))) (not_itself k e.0 (key_is es k i h e is))
      ∙ above-behind k (drop (i + 1) es) h.behind)

  -- an id that has a place has an item
  pub find_there : (es : List (ℕ × X)) (k i : ℕ) → IsAt es k i → find nat_cmp k es ≡ None → ⊥
  find_there [] k i h none = absurd (omega (arith, h.within))
  find_there (e ∷ es) k i h none = some_none (sym (find_at (e ∷ es) k i h (get_or (e ∷ es) i e) (get_or_default (e ∷ es) i e (get_or (e ∷ es) i e) h.within)) ∙ none)
    where
      some_none : {x : X} → Some x ≡ None → ⊥
      some_none q = cc

  -- EDITS keep the order
  pub rising-put : (k : ℕ) (x : X) (es : List (ℕ × X)) → is_sorted nat_cmp es ≡ true → is_sorted nat_cmp (put nat_cmp k x es) ≡ true
  rising-put k x es h = is_true _ (is_sorted-put nat_cmp nat_cmp_total k x es (holds _ h))

  pub rising-without : (k : ℕ) (es : List (ℕ × X)) → is_sorted nat_cmp es ≡ true → is_sorted nat_cmp (without k es) ≡ true
  rising-without k es h = is_true _ (is_sorted-where_key nat_cmp (λ key. not (k == key)) es (holds _ h))

  -- THE SEARCH
  all_from_places : (test : ℕ × X → Bool) (xs : List (ℕ × X)) → ((j : ℕ) (d : ℕ × X) → j < length xs → test (get_or xs j d) ≡ true) → list_all test xs ≡ true
  all_from_places test [] h = refl
  all_from_places test (x ∷ xs) h = ap₂ ◌&&◌ (h 0 x (omega arith)) (all_from_places test xs (λ j d lt. h (suc j) d (omega arith)))

  higher : (x : ℕ) (es : List (ℕ × X)) → below_all nat_cmp x es ≡ true → (j : ℕ) (d : ℕ × X) → j < length es → x < (get_or es j d).0
  higher x [] h j d lt = absurd (omega arith)
  higher x (e ∷ es) h zero d lt = in_order x e.0 (both _ _ h).0
  higher x (e ∷ es) h (suc j) d lt = higher x es (both _ _ h).1 j d (omega arith)

  pub rising : (es : List (ℕ × X)) → is_sorted nat_cmp es ≡ true → (i j : ℕ) (d : ℕ × X) → i < j → j < length es → (get_or es i d).0 < (get_or es j d).0
  rising [] h i j d lt within = absurd (omega arith)
  rising (e ∷ es) h i zero d lt within = absurd (omega arith)
  rising (e ∷ es) h zero (suc j) d lt within = higher e.0 es (both _ _ h).0 j d (omega arith)
  rising (e ∷ es) h (suc i) (suc j) d lt within = rising es (both _ _ h).1 i j d (omega arith) (omega arith)

  searchable : (es : List (ℕ × X)) → is_sorted nat_cmp es ≡ true → IsSortedBy (λ a b. is_lt (nat_cmp a.0 b.0)) es
  searchable es h j d low high = not_below (get_or es (j + 1) d).0 (get_or es j d).0 (rising es h j (j + 1) d (omega arith) (omega arith))
    where
      not_below : (x y : ℕ) → y < x → is_lt (nat_cmp x y) ≡ false
      not_below x y lt = ap is_lt (greater x y lt)

  pub searched : (es : List (ℕ × X)) (k : ℕ) (r : Result ℕ ℕ) → is_sorted nat_cmp es ≡ true → IsSearchInRange r (length es) → IsBinarySearchResult (λ e. nat_cmp e.0 k) es r → record { found : IfOk r (IsAt es k); absent : IfErr r (IsGapFor es k) }
  searched es k (Ok i) h within equal =
      let key : (d : ℕ × X) → (get_or es i d).0 ≡ k = λ d. of_tie (get_or es i d).0 (equal d) in
      record {
        found = record {
          within = within;
          key = key;
          before = all_from_places (λ e. nat_lt e.0 k) (take i es) (λ j d lt.
              let short = length-take i es in
              ap (λ (e : ℕ × X). nat_lt e.0 k) (get_or-take i es j d (omega arith))
              ∙ is_lower _ k (rw (key d) at (rising es h j i d (omega arith) within)));
          behind = all_from_places (λ e. nat_lt k e.0) (drop (i + 1) es) (λ j d lt.
              let short = length-drop (i + 1) es in
              ap (λ (e : ℕ × X). nat_lt k e.0) (get_or-drop (i + 1) es j d)
              ∙ is_lower k _ (rw (key d) at (rising es h i ((i + 1) + j) d (omega arith) (omega arith))));
        };
        absent = tt;
      }
    where
      of_tie : (x : ℕ) → nat_cmp x k ≡ Equal → x ≡ k
      of_tie x e = grind (arith, nat_tests)
  searched es k (Err i) h within parted =
      let parts = parted (searchable_from_sorted nat_cmp_total (λ e. e.0) es k (searchable es h)) in
      record {
        found = tt;
        absent = record {
          within = within;
          before = all_from_places (λ e. nat_lt e.0 k) (take i es) (λ j d lt.
              let short = length-take i es in
              ap (λ (e : ℕ × X). nat_lt e.0 k) (get_or-take i es j d (omega arith))
              ∙ is_lower _ k (of_less _ (parts.0 j d (omega arith) (omega arith))));
          behind = all_from_places (λ e. nat_lt k e.0) (drop i es) (λ j d lt.
              let short = length-drop i es in
              ap (λ (e : ℕ × X). nat_lt k e.0) (get_or-drop i es j d)
              ∙ is_lower k _ (of_greater _ (parts.1 (i + j) d (omega arith) (omega arith))));
        };
      }
    where
      of_less : (x : ℕ) → nat_cmp x k ≡ Less → x < k
      of_less x e = grind (arith, nat_tests)

      of_greater : (x : ℕ) → nat_cmp x k ≡ Greater → k < x
      of_greater x e = grind (arith, nat_tests)
