-- Chunks of entries: which of them the first path past a mark is in.
use Rattle.std.proofs.Common.{◌≡◌, ℕ, ◌+◌, ◌<◌, ◌≤◌, true, false, not, List, [], ◌∷◌, ◌++◌, length, take, drop, get_or, Some, None, refl, sym, ap, subst, ◌∙◌, arith}
use Rattle.std.specs.FinMap.{is_sorted}
use Rattle.std.specs.FinMap.Entries.{below_all}
use Rattle.std.specs.List.{All, list_all}
use Rattle.std.specs.Option.{option_or}
use Rattle.std.proofs.lemmas.List.{drop_more, drop_all, get_or_read}
use Rattle.xs_model.specs.Paths.{Path, Name, path_cmp}
use Rattle.xs_model.proofs.PathLemmas.{path_total}
use Rattle.path_map.specs.Chunks.{joined}
use Rattle.path_map.specs.Marks.{begins_past, IsRangePast}
use Rattle.path_map.proofs.Rising.{both, pair, sorted-back, before_entry}
use Rattle.path_map.proofs.Chunked.{joined_at}
use Rattle.path_map.proofs.Marked.{past, all_past, none_past, first, first-behind, first-append, first-all}
use Rattle.path_map.specs.Map.{Entries}

module _ {T : Type 0} where
  module _ (p : Path) (leaf : Name) where
    -- THE SEARCH. A chunk that begins past the mark is past it with all that follows
    from_first : (es c fs : Entries T) → 0 < length c → is_sorted path_cmp (es ++ (c ++ fs)) ≡ true → begins_past p leaf c ≡ true → list_all (past p leaf) (c ++ fs) ≡ true
    from_first es [] fs n s h = absurd (omega arith)
    from_first es (e ∷ c) fs n s h =
        pair _ _ h (all_past p leaf e.0 (c ++ fs) h (both (below_all path_cmp e.0 (c ++ fs)) (is_sorted path_cmp (c ++ fs)) (sorted-back path_cmp es (e ∷ (c ++ fs)) s)).0)

    -- and nothing before a chunk that does not is past it
    to_first : (es c fs : Entries T) → 0 < length c → is_sorted path_cmp (es ++ (c ++ fs)) ≡ true → begins_past p leaf c ≡ false → list_all (λ e. not (past p leaf e)) es ≡ true
    to_first es [] fs n s h = absurd (omega arith)
    to_first es (e ∷ c) fs n s h = none_past p leaf e.0 es h (before_entry path_cmp path_total es e (c ++ fs) s)

    module _ (cs : List (Entries T)) (low m high : ℕ) (c : Entries T) (r : IsRangePast p leaf cs low high) (s : is_sorted path_cmp (joined cs) ≡ true) (filled : All (λ c. 0 < length c) cs) (above : low < m) (under : m < high) (is : c ≡ get_or cs m c) where
      inside : m < length cs
      inside = omega (arith, r.within)

      own : c ≡ get_or cs m []
      own = get_or_read cs m c inside is []

      some : 0 < length c
      some = subst (λ (d : Entries T). 0 < length d) (sym own) (filled m [] inside)

      rising : is_sorted path_cmp (joined (take m cs) ++ (c ++ joined (drop (m + 1) cs))) ≡ true
      rising = subst (λ l. is_sorted path_cmp l ≡ true) (joined_at cs m inside ∙ ap (λ (d : Entries T). joined (take m cs) ++ (d ++ joined (drop (m + 1) cs))) (sym own)) s

      rest : c ++ joined (drop (m + 1) cs) ≡ joined (drop m cs)
      rest = ap (λ (d : Entries T). d ++ joined (drop (m + 1) cs)) own ∙ sym (ap joined (drop_more cs m [] inside))

      pub front_half : begins_past p leaf c ≡ true → IsRangePast p leaf cs low m
      front_half h = record {
        some = above;
        within = omega (arith, inside);
        before = r.before;
        behind = subst (λ l. list_all (past p leaf) l ≡ true) rest (from_first (joined (take m cs)) c (joined (drop (m + 1) cs)) some rising h);
      }

      pub back_half : begins_past p leaf c ≡ false → IsRangePast p leaf cs m high
      back_half h = record {
        some = under;
        within = r.within;
        before = to_first (joined (take m cs)) c (joined (drop (m + 1) cs)) some rising h;
        behind = r.behind;
      }

    -- all chunks
    pub whole_range : (cs : List (Entries T)) (n : ℕ) → n ≡ length cs → 0 < length cs → IsRangePast p leaf cs 0 n
    whole_range cs n e h = record {
      some = omega (arith, e);
      within = omega (arith, e);
      before = refl;
      behind = ap (λ (l : List (Entries T)). list_all (past p leaf) (joined l)) (drop_all n cs (omega (arith, e)));
    }

    -- THE FIRST PATH is in the one chunk of a range, or else in those behind it
    module _ (cs : List (Entries T)) (i : ℕ) (c : Entries T) (r : IsRangePast p leaf cs i (i + 1)) (is : c ≡ get_or cs i c) where
      parts : first p leaf (joined cs) ≡ option_or (first p leaf c) (first p leaf (joined (drop (i + 1) cs)))
      parts =
          let inside : i < length cs = omega (arith, r.within) in
          let own : c ≡ get_or cs i [] = get_or_read cs i c inside is [] in
          ap (first p leaf) (joined_at cs i inside ∙ ap (λ (d : Entries T). joined (take i cs) ++ (d ++ joined (drop (i + 1) cs))) (sym own))
          ∙ first-behind p leaf (joined (take i cs)) (c ++ joined (drop (i + 1) cs)) r.before
          ∙ first-append p leaf c (joined (drop (i + 1) cs))

      pub first_here : (q : Path) → first p leaf c ≡ Some q → first p leaf (joined cs) ≡ Some q
      first_here q e = parts ∙ ap (λ o. option_or o (first p leaf (joined (drop (i + 1) cs)))) e

      pub first_later : first p leaf c ≡ None → first p leaf (joined cs) ≡ first p leaf (joined (drop (i + 1) cs))
      first_later e = parts ∙ ap (λ o. option_or o (first p leaf (joined (drop (i + 1) cs)))) e

    -- of chunks that are past the mark, in the first
    pub first_of : (cs : List (Entries T)) (i : ℕ) (c : Entries T) → All (λ c. 0 < length c) cs → i < length cs → c ≡ get_or cs i c → list_all (past p leaf) (joined (drop i cs)) ≡ true → first p leaf c ≡ first p leaf (joined (drop i cs))
    first_of cs i c filled inside is h =
        let own : c ≡ get_or cs i [] = get_or_read cs i c inside is [] in
        let rest : joined (drop i cs) ≡ c ++ joined (drop (i + 1) cs) = ap joined (drop_more cs i [] inside) ∙ ap (λ (d : Entries T). d ++ joined (drop (i + 1) cs)) (sym own) in
        let some : 0 < length c = subst (λ (d : Entries T). 0 < length d) (sym own) (filled i [] inside) in
        sym (ap (first p leaf) rest ∙ first-all p leaf c (joined (drop (i + 1) cs)) some (ap (list_all (past p leaf)) (sym rest) ∙ h))

    pub first_of_none : (cs : List (Entries T)) (i : ℕ) → length cs ≤ i → None ≡ first p leaf (joined (drop i cs))
    first_of_none cs i h = sym (ap (λ (l : List (Entries T)). first p leaf (joined l)) (drop_all i cs h))
