-- A path whose item is taken away: in rising entries, and in chunks of them.
use Rattle.std.proofs.Common.{◌≡◌, ◌==◌, ℕ, suc, ◌+◌, ◌-◌, ◌<◌, ◌≤◌, min, Bool, true, false, cond, not, ◌&&◌, List, [], ◌∷◌, ◌++◌, length, take, drop, get_or, set, Ordering, refl, sym, ap, subst, ◌∙◌, arith, add-one, eqb-true}
use Rattle.std.specs.declared.cmp.Ordering.TheVariants.{Equal}
use Rattle.std.specs.Ordering.{is_eq, is_lt, is_gt}
use Rattle.std.specs.Cmp.{tied_itself}
use Rattle.std.specs.FinMap.{is_sorted}
use Rattle.std.specs.FinMap.Entries.{below_all}
use Rattle.std.proofs.lemmas.List.Sums.{sum_by-set}
use Rattle.std.proofs.lemmas.List.{take-append-drop, drop_more, set_split, get_or_read}
use Rattle.xs_model.specs.Paths.{Path, path_cmp, same_path}
use Rattle.xs_model.proofs.PathLemmas.{path_total}
use Rattle.path_map.specs.Places.{IsAt, IsGapFor}
use Rattle.path_map.specs.Chunks.{half, joined, debt, IsRangeFor}
use Rattle.path_map.proofs.Rising.{before, behind, both, is_greater, is_less, before_entry, sorted-back}
use Rattle.path_map.proofs.Chunked.{joined-append, joined_at}
use Rattle.path_map.specs.Map.{Entries, without}

module _ {T : Type 0} where
  behind-is : (q : Path) (es : Entries T) → below_all path_cmp q es ≡ behind path_cmp q es
  behind-is q [] = refl
  behind-is q (e ∷ es) = ap (λ b. is_lt (path_cmp q e.0) && b) (behind-is q es)

  -- ENTRIES before or behind the path stay
  module _ (p : Path) where
    step : (e : Path × T) (es : Entries T) (o : Ordering) → path_cmp p e.0 ≡ o → without p (e ∷ es) ≡ cond (not (is_eq o)) (e ∷ without p es) (without p es)
    step e es o h = ap (λ o. cond (not (is_eq o)) (e ∷ without p es) (without p es)) h

    pub without-before : (es fs : Entries T) → before path_cmp p es ≡ true → without p (es ++ fs) ≡ es ++ without p fs
    without-before [] fs h = refl
    without-before (e ∷ es) fs h =
        let parts = both (is_gt (path_cmp p e.0)) (before path_cmp p es) h in
        step e (es ++ fs) _ (is_greater (path_cmp p e.0) parts.0) ∙ ap (λ l. e ∷ l) (without-before es fs parts.1)

    pub without-behind : (es : Entries T) → behind path_cmp p es ≡ true → without p es ≡ es
    without-behind [] h = refl
    without-behind (e ∷ es) h =
        let parts = both (is_lt (path_cmp p e.0)) (behind path_cmp p es) h in
        step e es _ (is_less (path_cmp p e.0) parts.0) ∙ ap (λ l. e ∷ l) (without-behind es parts.1)

    pub without-front : (es fs : Entries T) → behind path_cmp p fs ≡ true → without p (es ++ fs) ≡ without p es ++ fs
    without-front [] fs h = without-behind fs h
    without-front (e ∷ es) fs h =
        elim (same_path p e.0) as (λ b. cond (not b) (e ∷ without p (es ++ fs)) (without p (es ++ fs)) ≡ cond (not b) (e ∷ without p es) (without p es) ++ fs) [
          | true ↦ without-front es fs h
          | false ↦ ap (λ l. e ∷ l) (without-front es fs h)
        ]

    length-without : (es : Entries T) → length (without p es) ≤ length es
    length-without [] = omega arith
    length-without (e ∷ es) =
        let rest = length-without es in
        elim (same_path p e.0) as (λ b. length (cond (not b) (e ∷ without p es) (without p es)) ≤ suc (length es)) [ true ↦ omega arith | false ↦ omega arith ]

    -- the entry of the path goes
    pub without_at : (es : Entries T) (i : ℕ) (e : Path × T) → is_sorted path_cmp es ≡ true → IsAt path_cmp es p i → e ≡ get_or es i e → take i es ++ drop (i + 1) es ≡ without p es
    without_at es i e s h is =
        let key : e.0 ≡ p = ap (λ (d : Path × T). d.0) is ∙ h.key e in
        let split : es ≡ take i es ++ e ∷ drop (i + 1) es = sym (take-append-drop i es) ∙ ap (λ l. take i es ++ l) (drop_more es i e h.within ∙ ap (λ d. d ∷ drop (i + 1) es) (sym is)) in
        let rising : is_sorted path_cmp (take i es ++ e ∷ drop (i + 1) es) ≡ true = subst (λ l. is_sorted path_cmp l ≡ true) split s in
        let front : before path_cmp p (take i es) ≡ true = subst (λ q. before path_cmp q (take i es) ≡ true) key (before_entry path_cmp path_total (take i es) e (drop (i + 1) es) rising) in
        let back : behind path_cmp p (drop (i + 1) es) ≡ true =
        subst (λ q. behind path_cmp q (drop (i + 1) es) ≡ true) key (sym (behind-is e.0 (drop (i + 1) es)) ∙ (both (below_all path_cmp e.0 (drop (i + 1) es)) (is_sorted path_cmp (drop (i + 1) es)) (sorted-back path_cmp (take i es) (e ∷ drop (i + 1) es) rising)).0) in
        sym (ap (without p) split ∙ without-before (take i es) (e ∷ drop (i + 1) es) front
        ∙ ap (λ l. take i es ++ l) (step e (drop (i + 1) es) Equal (ap (path_cmp p) key ∙ tied_itself path_total p) ∙ without-behind (drop (i + 1) es) back))

    pub without_gap : (es : Entries T) (i : ℕ) → IsGapFor path_cmp es p i → es ≡ without p es
    without_gap es i h =
        sym (ap (without p) (sym (take-append-drop i es)) ∙ without-before (take i es) (drop i es) h.before ∙ ap (λ l. take i es ++ l) (without-behind (drop i es) h.behind) ∙ take-append-drop i es)

  -- CHUNKS. What is taken from a path's chunk is taken from all
  module _ (p : Path) (cs : List (Entries T)) (i : ℕ) (c : Entries T) (r : IsRangeFor p cs i (i + 1)) (is : c ≡ get_or cs i c) where
    inside : i < length cs
    inside = omega (arith, r.within)

    own : c ≡ get_or cs i []
    own = get_or_read cs i c inside is []

    pub removed_it : (d : Entries T) → d ≡ without p c → joined (set cs i d) ≡ without p (joined cs)
    removed_it d e =
        ap joined (set_split cs i d inside ∙ ap (λ j. take i cs ++ d ∷ drop j cs) (sym (add-one i)))
        ∙ joined-append (take i cs) (d ∷ drop (i + 1) cs)
        ∙ ap (λ (f : Entries T). joined (take i cs) ++ (f ++ joined (drop (i + 1) cs))) e
        ∙ sym (ap (without p) (joined_at cs i inside ∙ ap (λ (f : Entries T). joined (take i cs) ++ (f ++ joined (drop (i + 1) cs))) (sym own))
        ∙ without-before p (joined (take i cs)) (c ++ joined (drop (i + 1) cs)) r.before
        ∙ ap (λ l. joined (take i cs) ++ l) (without-front p c (joined (drop (i + 1) cs)) r.behind))

    pub debt-removed : (d : Entries T) → d ≡ without p c → debt (set cs i d) ≤ debt cs
    debt-removed d e =
        let whole = sum_by-set (λ (f : Entries T). min half (length f - half)) cs i d [] inside in
        omega (arith, whole, ap length e, length-without p c, ap length own)

  pub no_entry : (c : Entries T) (empty : Bool) → empty ≡ (length c == 0) → empty ≡ true → c ≡ []
  no_entry [] empty e h = refl
  no_entry (f ∷ c) empty e h = absurd (omega (arith, eqb-true (length (f ∷ c)) 0 (sym e ∙ h)))

  -- a chunk that has no entry can go
  pub dropped : (cs : List (Entries T)) (i : ℕ) → i < length cs → get_or cs i [] ≡ [] → joined (take i cs ++ drop (i + 1) cs) ≡ joined cs
  dropped cs i h none =
      joined-append (take i cs) (drop (i + 1) cs)
      ∙ sym (joined_at cs i h ∙ ap (λ (f : Entries T). joined (take i cs) ++ (f ++ joined (drop (i + 1) cs))) none)
