-- Entries in chunks: where a path belongs, and what an edit of its chunk leaves.
use Rattle.std.proofs.Common.{◌≡◌, ℕ, ◌+◌, ◌<◌, true, false, List, [], ◌∷◌, ◌++◌, length, take, drop, get_or, set, refl, sym, ap, subst, ◌∙◌, arith, add-one}
use Rattle.std.specs.FinMap.{find, put, is_sorted}
use Rattle.std.specs.FinMap.Entries.{below_all}
use Rattle.std.specs.List.{All}
use Rattle.std.proofs.lemmas.List.{take-append-drop, set_split, drop_more, get_or_read}
use Rattle.std.proofs.lemmas.List.Concat.{flat_map-append}
use Rattle.xs_model.specs.Paths.{Path, path_cmp}
use Rattle.path_map.specs.Chunks.{joined, begins_behind, IsRangeFor}
use Rattle.path_map.proofs.Rising.{before, behind, both, pair, find-append, find-front, put-append, put-front, sorted-front, sorted-back, before_entry, before-later, behind-sooner}
use Rattle.xs_model.proofs.PathLemmas.{path_total}
use Rattle.path_map.specs.Map.{Entries}

module _ {T : Type 0} where
  pub joined-append : (cs ds : List (Entries T)) → joined (cs ++ ds) ≡ joined cs ++ joined ds
  joined-append cs ds = flat_map-append (λ (c : Entries T). c) cs ds

  -- the entries before a chunk, its own, and those behind it
  pub joined_at : (cs : List (Entries T)) (i : ℕ) → i < length cs → joined cs ≡ joined (take i cs) ++ (get_or cs i [] ++ joined (drop (i + 1) cs))
  joined_at cs i h =
      sym (ap joined (take-append-drop i cs)) ∙ joined-append (take i cs) (drop i cs) ∙ ap (λ l. joined (take i cs) ++ joined l) (drop_more cs i [] h)

  pub sorted_at : (cs : List (Entries T)) (i : ℕ) → i < length cs → is_sorted path_cmp (joined cs) ≡ true → is_sorted path_cmp (get_or cs i []) ≡ true
  sorted_at cs i h s =
      sorted-front path_cmp (get_or cs i []) (joined (drop (i + 1) cs))
      (sorted-back path_cmp (joined (take i cs)) (get_or cs i [] ++ joined (drop (i + 1) cs)) (subst (λ l. is_sorted path_cmp l ≡ true) (joined_at cs i h) s))

  -- THE SEARCH. A chunk that begins behind the path is behind it with all that follows
  from_first : (p : Path) (es c fs : Entries T) → 0 < length c → is_sorted path_cmp (es ++ (c ++ fs)) ≡ true → begins_behind p c ≡ true → behind path_cmp p (c ++ fs) ≡ true
  from_first p es [] fs n s h = absurd (omega arith)
  from_first p es (e ∷ c) fs n s h =
      pair _ _ h (behind-sooner path_cmp path_total p e.0 (c ++ fs) h (both (below_all path_cmp e.0 (c ++ fs)) (is_sorted path_cmp (c ++ fs)) (sorted-back path_cmp es (e ∷ (c ++ fs)) s)).0)

  -- and what stands before a chunk that does not stands before the path
  to_first : (p : Path) (es c fs : Entries T) → 0 < length c → is_sorted path_cmp (es ++ (c ++ fs)) ≡ true → begins_behind p c ≡ false → before path_cmp p es ≡ true
  to_first p es [] fs n s h = absurd (omega arith)
  to_first p es (e ∷ c) fs n s h = before-later path_cmp path_total p e.0 es h (before_entry path_cmp path_total es e (c ++ fs) s)

  module _ (p : Path) (cs : List (Entries T)) (low m high : ℕ) (c : Entries T) (r : IsRangeFor p cs low high) (s : is_sorted path_cmp (joined cs) ≡ true) (filled : All (λ c. 0 < length c) cs) (above : low < m) (under : m < high) (is : c ≡ get_or cs m c) where
    inside : m < length cs
    inside = omega (arith, r.within)

    own : c ≡ get_or cs m []
    own = get_or_read cs m c inside is []

    some : 0 < length c
    some = subst (λ (d : Entries T). 0 < length d) (sym own) (filled m [] inside)

    parted : joined cs ≡ joined (take m cs) ++ (c ++ joined (drop (m + 1) cs))
    parted = joined_at cs m inside ∙ ap (λ (d : Entries T). joined (take m cs) ++ (d ++ joined (drop (m + 1) cs))) (sym own)

    rising : is_sorted path_cmp (joined (take m cs) ++ (c ++ joined (drop (m + 1) cs))) ≡ true
    rising = subst (λ l. is_sorted path_cmp l ≡ true) parted s

    rest : c ++ joined (drop (m + 1) cs) ≡ joined (drop m cs)
    rest = ap (λ (d : Entries T). d ++ joined (drop (m + 1) cs)) own ∙ sym (ap joined (drop_more cs m [] inside))

    pub front_half : begins_behind p c ≡ true → IsRangeFor p cs low m
    front_half h = record {
      some = above;
      within = omega (arith, inside);
      before = r.before;
      behind = subst (λ l. behind path_cmp p l ≡ true) rest (from_first p (joined (take m cs)) c (joined (drop (m + 1) cs)) some rising h);
    }

    pub back_half : begins_behind p c ≡ false → IsRangeFor p cs m high
    back_half h = record {
      some = under;
      within = r.within;
      before = to_first p (joined (take m cs)) c (joined (drop (m + 1) cs)) some rising h;
      behind = r.behind;
    }

  -- all chunks
  pub whole_range : (p : Path) (cs : List (Entries T)) (n : ℕ) → n ≡ length cs → 0 < length cs → IsRangeFor p cs 0 n
  whole_range p cs n e h = record {
    some = omega (arith, e);
    within = omega (arith, e);
    before = refl;
    behind = ap (λ l. behind path_cmp p (joined l)) (past cs n e);
  }
    where
      past : (ds : List (Entries T)) (k : ℕ) → k ≡ length ds → drop k ds ≡ []
      past ds k q = ap (λ j. drop j ds) q ∙ drop_length ds
        where
          drop_length : (es : List (Entries T)) → drop (length es) es ≡ []
          drop_length [] = refl
          drop_length (f ∷ es) = drop_length es

  -- A CHUNK. What is found in it is what is found in all
  module _ (p : Path) (cs : List (Entries T)) (i : ℕ) (c : Entries T) (r : IsRangeFor p cs i (i + 1)) (is : c ≡ get_or cs i c) where
    inside_it : i < length cs
    inside_it = omega (arith, r.within)

    own_it : c ≡ get_or cs i []
    own_it = get_or_read cs i c inside_it is []

    parted_it : joined cs ≡ joined (take i cs) ++ (c ++ joined (drop (i + 1) cs))
    parted_it = joined_at cs i inside_it ∙ ap (λ (d : Entries T). joined (take i cs) ++ (d ++ joined (drop (i + 1) cs))) (sym own_it)

    pub sorted_it : is_sorted path_cmp (joined cs) ≡ true → is_sorted path_cmp c ≡ true
    sorted_it s = subst (λ (d : Entries T). is_sorted path_cmp d ≡ true) (sym own_it) (sorted_at cs i inside_it s)

    pub find_it : find path_cmp p c ≡ find path_cmp p (joined cs)
    find_it =
        sym (ap (find path_cmp p) parted_it ∙ find-append path_cmp p (joined (take i cs)) (c ++ joined (drop (i + 1) cs)) r.before
        ∙ find-front path_cmp p c (joined (drop (i + 1) cs)) r.behind)

    -- an edit of it is an edit of all
    pub put_it : (x : T) → joined (set cs i (put path_cmp p x c)) ≡ put path_cmp p x (joined cs)
    put_it x =
        let d = put path_cmp p x c in
        ap joined (set_split cs i d inside_it ∙ ap (λ j. take i cs ++ d ∷ drop j cs) (sym (add-one i)))
        ∙ joined-append (take i cs) (d ∷ drop (i + 1) cs)
        ∙ sym (ap (put path_cmp p x) parted_it ∙ put-append path_cmp p x (joined (take i cs)) (c ++ joined (drop (i + 1) cs)) r.before
        ∙ ap (λ l. joined (take i cs) ++ l) (put-front path_cmp p x c (joined (drop (i + 1) cs)) r.behind))
