-- Paths past a mark: all that stands behind one of them is past it too.
use Rattle.std.proofs.Common.{◌≡◌, ℕ, ◌+◌, ◌≤◌, ◌<◌, Bool, true, false, cond, not, zero, suc, List, [], ◌∷◌, ◌++◌, length, take, drop, get_or, Option, Some, None, Ordering, refl, sym, ap, subst, ◌∙◌, arith}
use Rattle.std.specs.declared.cmp.Ordering.TheVariants.{Less, Equal, Greater}
use Rattle.std.specs.Ordering.{is_lt, is_eq, is_gt, is_le, ordering_then, ordering_reverse}
use Rattle.std.specs.Cmp.{tied_itself}
use Rattle.std.specs.FinMap.{is_sorted}
use Rattle.std.specs.FinMap.Entries.{below_all}
use Rattle.std.specs.List.{list_all, find}
use Rattle.std.specs.List.Sorted.{IsPartitionedBy, IsPartitionPoint}
use Rattle.std.specs.Option.{option_or}
use Rattle.std.proofs.lemmas.Bool.{not-true, not-false}
use Rattle.std.proofs.lemmas.List.{take-append-drop, drop_more, drop_all, get_or-take, get_or-drop, length-take, length-drop}
use Rattle.xs_model.specs.Paths.{Path, Name, name_cmp, path_cmp, names_below}
use Rattle.path_map.specs.Map.{Entries}
use Rattle.xs_model.proofs.PathLemmas.{name_total, name_exact, path_total, below-append, below_is}
use Rattle.path_map.specs.Marks.{paths, first_below, is_above, is_past, is_past_by, first_past, path_behind, IsPastFrom}
use Rattle.path_map.proofs.Rising.{both, pair, before}
use Rattle.path_map.proofs.Searched.{all_from_places}

-- NAMES
after_less : (a b c : Name) → name_cmp a b ≡ Less → is_le (name_cmp b c) ≡ true → name_cmp a c ≡ Less
after_less a b c e h = by (name_cmp b c) refl h
  where
    by : (o : Ordering) → name_cmp b c ≡ o → is_le o ≡ true → name_cmp a c ≡ Less
    by Less f k = name_total.trans a b c e f
    by Equal f k = subst (λ n. name_cmp a n ≡ Less) (name_exact b c f) e
    by Greater f k = cc

less : (o : Ordering) → is_lt o ≡ true → o ≡ Less
less Less h = refl
less Equal h = cc
less Greater h = cc

above_later : (leaf n m : Name) → is_above leaf n ≡ true → is_le (name_cmp n m) ≡ true → is_above leaf m ≡ true
above_later [] n m h k = refl
above_later (b ∷ bs) n m h k = ap is_lt (after_less (b ∷ bs) n m (less (name_cmp (b ∷ bs) n) h) k)

first_part : (s o : Ordering) → is_lt (ordering_then s o) ≡ true → is_le s ≡ true
first_part Less o h = refl
first_part Equal o h = refl
first_part Greater o h = cc

-- PATHS
module _ (leaf : Name) where
  -- by the order of two first names, and of what follows them
  abbrev past_then : Ordering → Ordering → Option (List Name) → Bool
  past_then first rest below = is_past_by leaf (is_lt (ordering_then first rest)) (first_below (cond (is_eq first) below None))

  pub past_later : (p q r : Path) → is_past p leaf q ≡ true → is_lt (path_cmp q r) ≡ true → is_past p leaf r ≡ true
  past_later [] [] r h k = cc
  past_later [] (n ∷ q) [] h k = cc
  past_later [] (n ∷ q) (m ∷ r) h k = above_later leaf n m h (first_part (name_cmp n m) (path_cmp q r) k)
  past_later (a ∷ p) [] r h k = cc
  past_later (a ∷ p) (b ∷ q) [] h k = cc
  past_later (a ∷ p) (b ∷ q) (c ∷ r) h k = by (λ x y. past_later p q r x y) (name_cmp a b) (name_cmp b c) refl refl h k
    where
      through : (o : Ordering) → name_cmp a c ≡ o → past_then o (path_cmp p r) (names_below p r) ≡ true → is_past (a ∷ p) leaf (c ∷ r) ≡ true
      through o e x = ap (λ f. past_then f (path_cmp p r) (names_below p r)) e ∙ x

      by : (is_past p leaf q ≡ true → is_lt (path_cmp q r) ≡ true → is_past p leaf r ≡ true) → (s t : Ordering) → name_cmp a b ≡ s → name_cmp b c ≡ t → past_then s (path_cmp p q) (names_below p q) ≡ true → is_lt (ordering_then t (path_cmp q r)) ≡ true → is_past (a ∷ p) leaf (c ∷ r) ≡ true
      by more Less t e f x y = through Less (after_less a b c e (ap is_le f ∙ first_part t (path_cmp q r) y)) refl
      by more Equal Less e f x y = through Less (ap (λ n. name_cmp n c) (name_exact a b e) ∙ f) refl
      by more Equal Equal e f x y = through Equal (ap (λ n. name_cmp n c) (name_exact a b e) ∙ f) (more x y)
      by more Equal Greater e f x y = cc
      by more Greater t e f x y = cc

-- what is below a path stands behind it
pub less_below : (p : Path) (n : Name) (rest : List Name) → path_cmp p (p ++ (n ∷ rest)) ≡ Less
less_below [] n rest = refl
less_below (m ∷ p) n rest = ap (λ o. ordering_then o (path_cmp p (p ++ (n ∷ rest)))) (tied_itself name_total m) ∙ less_below p n rest

pub past_below : (p : Path) (leaf n : Name) (rest : List Name) → is_past p leaf (p ++ (n ∷ rest)) ≡ is_above leaf n
past_below p leaf n rest = ap (λ o. is_past_by leaf (is_lt (path_cmp p (p ++ (n ∷ rest)))) (first_below o)) (below-append p (n ∷ rest))

turned : (o : Ordering) → is_gt o ≡ true → is_lt (ordering_reverse o) ≡ true
turned Less h = cc
turned Equal h = cc
turned Greater h = refl

module _ {T : Type 0} where
  -- ENTRIES
  module _ (p : Path) (leaf : Name) where
    abbrev pub past : Path × T → Bool
    past e = is_past p leaf e.0

    -- what is behind an entry past the mark is past it
    pub all_past : (e : Path) (es : Entries T) → is_past p leaf e ≡ true → below_all path_cmp e es ≡ true → list_all past es ≡ true
    all_past e [] h k = refl
    all_past e (f ∷ es) h k =
        let parts = both (is_lt (path_cmp e f.0)) (below_all path_cmp e es) k in
        pair _ _ (past_later leaf p e f.0 h parts.0) (all_past e es h parts.1)

    -- what is before an entry that is not past the mark is not past it
    pub none_past : (e : Path) (es : Entries T) → is_past p leaf e ≡ false → before path_cmp e es ≡ true → list_all (λ f. not (past f)) es ≡ true
    none_past e [] h k = refl
    none_past e (f ∷ es) h k =
        let parts = both (is_gt (path_cmp e f.0)) (before path_cmp e es) k in
        pair _ _ (by parts.0 (past f) refl) (none_past e es h parts.1)
      where
        by : is_gt (path_cmp e f.0) ≡ true → (b : Bool) → past f ≡ b → not b ≡ true
        by g true t = let later = past_later leaf p f.0 e t (ap is_lt (path_total.antisymm f.0 e) ∙ turned (path_cmp e f.0) g) in cc
        by g false t = refl

    all_at : (es : Entries T) (k : ℕ) (d : Path × T) → list_all past es ≡ true → k < length es → past (get_or es k d) ≡ true
    all_at [] k d h lt = absurd (omega arith)
    all_at (e ∷ es) zero d h lt = (both (past e) (list_all past es) h).0
    all_at (e ∷ es) (suc k) d h lt = all_at es k d (both (past e) (list_all past es) h).1 (omega arith)

    -- of rising entries those that are past the mark stand last
    pub parted : (es : Entries T) → is_sorted path_cmp es ≡ true → IsPartitionedBy (λ e. not (past e)) es
    parted [] s i j d le lt h = absurd (omega arith)
    parted (e ∷ es) s zero zero d le lt h = h
    parted (e ∷ es) s zero (suc j) d le lt h = by (past e) refl
      where
        by : (b : Bool) → past e ≡ b → not b ≡ true
        by true t = let later = all_at es j d (all_past e.0 es t (both (below_all path_cmp e.0 es) (is_sorted path_cmp es) s).0) (omega arith) in cc
        by false t = refl
    parted (e ∷ es) s (suc i) zero d le lt h = absurd (omega arith)
    parted (e ∷ es) s (suc i) (suc j) d le lt h = parted es (both (below_all path_cmp e.0 es) (is_sorted path_cmp es) s).1 i j d (omega arith) (omega arith) h

    pub past_from : (es : Entries T) (i : ℕ) → i ≤ length es → IsPartitionPoint (λ e. not (past e) ≡ true) (λ e. not (past e) ≡ false) es i → IsPastFrom p leaf es i
    past_from es i le h = record {
      within = le;
      before = all_from_places (λ e. not (past e)) (take i es) (λ k d lt.
          ap (λ (e : Path × T). not (past e)) (get_or-take i es k d (omega (arith, length-take i es))) ∙ h.0 k d (omega arith) (omega (arith, length-take i es)));
      behind = all_from_places past (drop i es) (λ k d lt.
          ap (λ (e : Path × T). past e) (get_or-drop i es k d) ∙ not-false (past (get_or es (i + k) d)) (h.1 (i + k) d (omega arith) (omega (arith, length-drop i es))));
    }

    -- THE FIRST
    abbrev pub first : Entries T → Option Path
    first es = find (is_past p leaf) (paths es)

    pub first-behind : (es fs : Entries T) → list_all (λ e. not (past e)) es ≡ true → first (es ++ fs) ≡ first fs
    first-behind [] fs h = refl
    first-behind (e ∷ es) fs h =
        let parts = both (not (past e)) (list_all (λ e. not (past e)) es) h in
        ap (λ b. cond b (Some e.0) (first (es ++ fs))) (not-true (past e) parts.0) ∙ first-behind es fs parts.1

    pub first-append : (es fs : Entries T) → first (es ++ fs) ≡ option_or (first es) (first fs)
    first-append [] fs = refl
    first-append (e ∷ es) fs =
        elim (past e) as (λ b. cond b (Some e.0) (first (es ++ fs)) ≡ option_or (cond b (Some e.0) (first es)) (first fs)) [
          | true ↦ refl
          | false ↦ first-append es fs
        ]

    -- all are past the mark
    pub first-all : (es fs : Entries T) → 0 < length es → list_all past (es ++ fs) ≡ true → first (es ++ fs) ≡ first es
    first-all [] fs n h = absurd (omega arith)
    first-all (e ∷ es) fs n h =
        let here = (both (past e) (list_all past (es ++ fs)) h).0 in
        ap (λ b. cond b (Some e.0) (first (es ++ fs))) here ∙ sym (ap (λ b. cond b (Some e.0) (first es)) here)

    module _ (es : Entries T) (i : ℕ) (h : IsPastFrom p leaf es i) where
      pub first_there : (e : Path × T) → i < length es → e ≡ get_or es i e → Some e.0 ≡ first es
      first_there e lt is =
          let rest : drop i es ≡ e ∷ drop (i + 1) es = drop_more es i e lt ∙ ap (λ d. d ∷ drop (i + 1) es) (sym is) in
          let here : past e ≡ true = (both (past e) (list_all past (drop (i + 1) es)) (ap (list_all past) (sym rest) ∙ h.behind)).0 in
          sym (ap first (sym (take-append-drop i es)) ∙ first-behind (take i es) (drop i es) h.before ∙ ap first rest ∙ ap (λ b. cond b (Some e.0) (first (drop (i + 1) es))) here)

      pub first_nowhere : length es ≤ i → None ≡ first es
      first_nowhere le =
          sym (ap first (sym (take-append-drop i es)) ∙ first-behind (take i es) (drop i es) h.before ∙ ap first (drop_all i es le))

-- with no leaf, the first path behind p
past-plain : (p q : Path) (o : Option (List Name)) → names_below p q ≡ o → is_past_by [] (is_lt (path_cmp p q)) (first_below o) ≡ is_lt (path_cmp p q)
past-plain p q None e = refl
past-plain p q (Some []) e = refl
past-plain p q (Some (n ∷ ns)) e = sym (ap is_lt (ap (path_cmp p) (below_is p q (n ∷ ns) e) ∙ less_below p n ns))

pub path_behind-is : {T : Type 0} (es : Entries T) (p : Path) → first_past p [] es ≡ path_behind es p
path_behind-is [] p = refl
path_behind-is (e ∷ es) p =
    ap (λ b. cond b (Some e.0) (first_past p [] es)) (past-plain p e.0 (names_below p e.0) refl)
    ∙ ap (cond (is_lt (path_cmp p e.0)) (Some e.0)) (path_behind-is es p)
