-- The numbers after a commit are those of the definitions.
use Rattle.std.proofs.Common.{◌≡◌, ℕ, ◌≤◌, Bool, true, false, cond, ◌||◌, List, [], ◌∷◌, ◌++◌, map, Option, Some, None, is_some, refl, sym, ap, subst, ◌∙◌, arith, append-nil}
use Rattle.std.specs.FinMap.{find, is_sorted}
use Rattle.std.specs.FinMap.Entries.{below_all}
use Rattle.std.specs.List.{AllByRecursion, cons_option}
use Rattle.std.proofs.lemmas.Bool.{and_parts, or_parts}
use Rattle.std.proofs.lemmas.Bool.Decides.{nat_tests}
use Rattle.path_map.specs.Map.{Entries}
use Rattle.path_map.specs.Marks.{paths}
use Rattle.xs_model.specs.Changes.{change_at, changed_paths}
use Rattle.xs_model.specs.Commands.{removals}
use Rattle.xs_model.specs.Generations.{Generations, generation_of, generation_max, next_generation, numbered, stamped, greatest, or_zero}
use Rattle.xs_model.specs.Paths.{Path, Name, path_cmp, same_path, has_path, child, parents}
use Rattle.xs_model.specs.Trees.{Tree, Node, Edit, IsTree, node_at, is_present, edited, edit_paths}
use Rattle.xs_model.proofs.ChangeLemmas.{changed_alike}
use Rattle.xs_model.proofs.AlikeLemmas.{AlikeOutside}
use Rattle.xs_model.proofs.EditLemmas.{edited-append, edit_paths-append}
use Rattle.xs_model.proofs.Maps.{not_both, all_found, all_put, all_where, same_maps, sorted_map}
use Rattle.xs_model.proofs.PathLemmas.{path_total, path_exact, same_path-is, has_path-append, has_path-here, has_path-left, has_path-right, child-way}
use Rattle.xs_model.proofs.TreeLemmas.{edit_paths-removals}
use Rattle.xs_model.proofs.WayLemmas.{present_above}
use Rattle.mark_model.specs.Marks.{Mark, Marks, Seen, Changed, Wrote, Gone, Kept, mark_at, edit_of, edits_by, written, written_paths, committed}
use Rattle.node_tree.specs.Numbers.{renumbered, renumbered_at, restamped, counted, one_has}
use Rattle.node_tree.proofs.Entries.{greater_is}
use Rattle.node_tree.proofs.Renumbered.{sorted_renumbered, there_after, number_elsewhere, edits_stamped}
use Rattle.node_tree.proofs.Stamped.{all_restamped, greatest_within, reached, unstamped}
use Rattle.txn_access.specs.Plans.{wrote, gone, gone_paths}
use Rattle.txn_access.proofs.CommitLemmas.{parted}
use Rattle.txn_access.proofs.Seen.{read_at, read_by, unmarked}

-- WHICH PATHS marks write, read in one of the ways
abbrev has_read : (Mark → Option (Option Node)) → Option Mark → Bool
has_read read None = false
has_read read (Some mark) = is_some (read mark)

read_has : (read : Mark → Option (Option Node)) (ms : Marks) (q : Path) → is_sorted path_cmp ms ≡ true → has_path q (edit_paths (edits_by read ms)) ≡ has_read read (mark_at ms q)
read_has read [] q s = refl
read_has read (e ∷ ms) q s =
    let parts = and_parts (below_all path_cmp e.0 ms) (is_sorted path_cmp ms) s in
    by (read e.1) refl (same_path q e.0) refl parts.0 (read_has read ms q parts.1)
  where
    by : (new : Option (Option Node)) → read e.1 ≡ new → (b : Bool) → same_path q e.0 ≡ b → below_all path_cmp e.0 ms ≡ true → has_path q (edit_paths (edits_by read ms)) ≡ has_read read (mark_at ms q)
        → has_path q (edit_paths (cons_option (edit_of e.0 new) (edits_by read ms))) ≡ has_read read (cond b (Some e.1) (mark_at ms q))
    by None r true t below more = more ∙ ap (has_read read) (ap (mark_at ms) (same_path-is q e.0 t) ∙ unmarked e.0 ms below) ∙ sym (ap is_some r)
    by None r false t below more = more
    by (Some new) r true t below more = ap (λ b. b || has_path q (edit_paths (edits_by read ms))) t ∙ sym (ap is_some r)
    by (Some new) r false t below more = ap (λ b. b || has_path q (edit_paths (edits_by read ms))) t ∙ more

either_way : (m : Option Mark) → has_read written m ≡ (has_read wrote m || has_read gone m)
either_way None = refl
either_way (Some Seen) = refl
either_way (Some (Changed old)) = refl
either_way (Some (Wrote others node)) = refl
either_way (Some (Gone others)) = refl
either_way (Some (Kept old)) = refl

unread : (m : Option Mark) (under : Option Node) → has_read written m ≡ false → read_by written m under ≡ under
unread None under h = refl
unread (Some Seen) under h = refl
unread (Some (Changed old)) under h = refl
unread (Some (Wrote others node)) under h = not_both refl h
unread (Some (Gone others)) under h = not_both refl h
unread (Some (Kept old)) under h = refl

-- a written path that is there afterwards is a changed one
changed_has : (before after : Tree) (q : Path) (ps : List Path) → has_path q ps ≡ true → is_present after q ≡ true → has_path q (changed_paths before ps after) ≡ true
changed_has before after q [] w h = not_both w refl
changed_has before after q (p ∷ ps) w h = by (same_path q p) refl w (λ v. changed_has before after q ps v h)
  where
    here : (a : Bool) → has_path q (change_at a true q) ≡ true
    here true = has_path-here q []
    here false = has_path-here q (parents q)

    by : (b : Bool) → same_path q p ≡ b → (b || has_path q ps) ≡ true → (has_path q ps ≡ true → has_path q (changed_paths before ps after) ≡ true) → has_path q (change_at (is_present before p) (is_present after p) p ++ changed_paths before ps after) ≡ true
    by true t v more =
        has_path-left q (change_at (is_present before p) (is_present after p) p) (changed_paths before ps after)
        (subst (λ r. has_path q (change_at (is_present before r) (is_present after r) r) ≡ true) (same_path-is q p t)
        (ap (λ b. has_path q (change_at (is_present before q) b q)) h ∙ here (is_present before q)))
    by false t v more = has_path-right q (change_at (is_present before p) (is_present after p) p) (changed_paths before ps after) (more v)

-- a path with a number is not among those of which none has one
none_has : (ps : List Path) (gens : Generations) (q : Path) → one_has ps gens ≡ false → has_path q ps ≡ true → is_some (find path_cmp q gens) ≡ false
none_has [] gens q h w = not_both w refl
none_has (p ∷ ps) gens q h w =
    let parts = or_parts (is_some (find path_cmp p gens)) (one_has ps gens) h in
    by (same_path q p) refl w parts.0 (λ v. none_has ps gens q parts.1 v)
  where
    by : (b : Bool) → same_path q p ≡ b → (b || has_path q ps) ≡ true → is_some (find path_cmp p gens) ≡ false → (has_path q ps ≡ true → is_some (find path_cmp q gens) ≡ false) → is_some (find path_cmp q gens) ≡ false
    by true t v no_number more = ap (λ r. is_some (find path_cmp r gens)) (same_path-is q p t) ∙ no_number
    by false t v no_number more = more v

there_by : {X : Type 0} (q : Path) (es : Entries X) → is_some (find path_cmp q es) ≡ has_path q (paths es)
there_by q [] = refl
there_by q (e ∷ es) = elim (same_path q e.0) as (λ b. is_some (cond b (Some e.1) (find path_cmp q es)) ≡ (b || has_path q (paths es))) [ true ↦ refl | false ↦ there_by q es ]

-- entries with the same keys stand in the same order
abbrev alone : List Path → Entries ℕ
alone [] = []
alone (p ∷ ps) = (p, 0) ∷ alone ps

keys_alone : {X : Type 0} (es : Entries X) → map {B = Path × ℕ} (λ e. (e.0, 0)) es ≡ alone (paths es)
keys_alone [] = refl
keys_alone (e ∷ es) = ap (λ (l : Entries ℕ). (e.0, 0) ∷ l) (keys_alone es)

sorted_by_keys : {X Y : Type 0} (es : Entries X) (fs : Entries Y) → paths es ≡ paths fs → is_sorted path_cmp es ≡ is_sorted path_cmp fs
sorted_by_keys es fs same =
    sym (sorted_map path_cmp (λ _. 0) es) ∙ ap (is_sorted path_cmp) (keys_alone es ∙ ap alone same ∙ sym (keys_alone fs)) ∙ sorted_map path_cmp (λ _. 0) fs

-- BOUNDS
all_within : (m : ℕ) (gens : Generations) → greatest gens ≤ m → AllByRecursion (λ e. e.1 ≤ m) gens
all_within m [] h = tt
all_within m (e ∷ es) h =
    let most = greater_is e.1 (greatest es) in
    (omega (arith, most, h), all_within m es (omega (arith, most, h)))

number_within : (m : ℕ) (gens : Generations) (p : Path) → AllByRecursion (λ e. e.1 ≤ m) gens → generation_of gens p ≤ m
number_within m gens p all = by (find path_cmp p gens) refl
  where
    by : (o : Option ℕ) → find path_cmp p gens ≡ o → or_zero o ≤ m
    by None h = omega arith
    by (Some n) h = all_found path_cmp (λ k. k ≤ m) p gens n all h

renumbered_within : (m : ℕ) (gens : Generations) (es : List Edit) → AllByRecursion (λ e. e.1 ≤ m) gens → AllByRecursion (λ e. e.1 ≤ m) (renumbered gens es)
renumbered_within m gens [] all = all
renumbered_within m gens (e ∷ es) all = renumbered_within m (renumbered_at gens e.0 e.1) es (at e.1)
  where
    at : (new : Option Node) → AllByRecursion (λ e. e.1 ≤ m) (renumbered_at gens e.0 new)
    at None = all_where path_cmp (λ n. n ≤ m) _ gens all
    at (Some node) = all_put path_cmp (λ n. n ≤ m) e.0 (generation_of gens e.0) gens (number_within m gens e.0 all) all

next_more : (n : ℕ) → n ≤ generation_max → n ≤ next_generation n
next_more n h = grind (arith, nat_tests)

pub renumbered_append : (gens : Generations) (es fs : List Edit) → renumbered gens (es ++ fs) ≡ renumbered (renumbered gens es) fs
renumbered_append gens [] fs = refl
renumbered_append gens (e ∷ es) fs = renumbered_append (renumbered_at gens e.0 e.1) es fs

-- the edits of a commit, in its order
abbrev pub commit_edits : Marks → List Edit
commit_edits ms = edits_by wrote ms ++ removals (gone_paths ms)

module _ (tree : Tree) (gens : Generations) (ms : Marks) (changed : List Path) (s : is_sorted path_cmp ms ≡ true) (was : IsTree tree) (keys : paths gens ≡ paths tree) (is : IsTree (committed tree ms)) (all : changed ≡ changed_paths tree (written_paths ms) (committed tree ms)) where
  abbrev after : Tree
  after = committed tree ms

  abbrev es : List Edit
  es = commit_edits ms

  abbrev mid : Generations
  mid = renumbered gens (commit_edits ms)

  edited_is : edited tree (commit_edits ms) ≡ committed tree ms
  edited_is = edited-append tree (edits_by wrote ms) (removals (gone_paths ms)) ∙ parted tree ms was.rising s

  same_paths : (q : Path) → has_path q (written_paths ms) ≡ has_path q (edit_paths (commit_edits ms))
  same_paths q =
      read_has written ms q s ∙ either_way (mark_at ms q)
      ∙ sym (ap (has_path q) (edit_paths-append (edits_by wrote ms) (removals (gone_paths ms)) ∙ ap (λ l. edit_paths (edits_by wrote ms) ++ l) (edit_paths-removals (gone_paths ms)))
      ∙ has_path-append q (edit_paths (edits_by wrote ms)) (gone_paths ms)
      ∙ (λ i. read_has wrote ms q s i || read_has gone ms q s i))

  rising : is_sorted path_cmp gens ≡ true
  rising = sorted_by_keys gens tree keys ∙ was.rising

  rising_mid : is_sorted path_cmp (renumbered gens (commit_edits ms)) ≡ true
  rising_mid = sorted_renumbered gens (commit_edits ms) rising

  pub numbers_are : (n : ℕ) → n ≡ next_generation (greatest gens) → restamped changed n (renumbered gens (commit_edits ms)) ≡ stamped gens tree (written_paths ms) (committed tree ms)
  numbers_are n e = by (written_paths ms) refl
    where
      whole : restamped changed n (renumbered gens (commit_edits ms)) ≡ numbered (changed_paths tree (written_paths ms) (committed tree ms)) gens (committed tree ms)
      whole =
          ap (λ k. restamped changed k (renumbered gens (commit_edits ms))) e
          ∙ edits_stamped tree gens (commit_edits ms) (written_paths ms) changed was.rising keys same_paths (λ q. ap (has_path q) (all ∙ ap (changed_paths tree (written_paths ms)) (sym edited_is)))
          ∙ ap (λ (t : Tree). numbered (changed_paths tree (written_paths ms) t) gens t) edited_is

      none_written : written_paths ms ≡ [] → restamped changed n (renumbered gens (commit_edits ms)) ≡ gens
      none_written w =
          unstamped changed n (renumbered gens (commit_edits ms)) rising_mid (ap (λ l. one_has l (renumbered gens (commit_edits ms))) (all ∙ ap (λ l. changed_paths tree l (committed tree ms)) w))
          ∙ same_maps path_cmp path_total path_exact (renumbered gens (commit_edits ms)) gens rising_mid rising
          (λ q. number_elsewhere (commit_edits ms) gens q (sym (same_paths q) ∙ ap (has_path q) w))

      by : (w : List Path) → written_paths ms ≡ w → restamped changed n (renumbered gens (commit_edits ms)) ≡ stamped gens tree w (committed tree ms)
      by [] h = none_written h
      by (p ∷ ps) h = whole ∙ ap (λ l. numbered (changed_paths tree l (committed tree ms)) gens (committed tree ms)) h

  -- THE COUNTER
  there_mid : (q : Path) → is_some (find path_cmp q (renumbered gens (commit_edits ms))) ≡ is_present (committed tree ms) q
  there_mid q =
      there_after (commit_edits ms) gens tree (λ r. there_by r gens ∙ ap (has_path r) keys ∙ sym (there_by r tree)) q
      ∙ ap (λ (t : Tree). is_present t q) edited_is

  alike : AlikeOutside changed tree (committed tree ms)
  alike = subst (λ l. AlikeOutside l tree (committed tree ms)) (sym all)
      (changed_alike tree (committed tree ms) (written_paths ms) (λ q h. read_at written tree ms q s ∙ unread (mark_at ms q) (node_at tree q) (sym (read_has written ms q s) ∙ h)))

  -- where no changed path is there afterwards, no path came or went
  module _ (none : one_has changed (renumbered gens (commit_edits ms)) ≡ false) where
    outside : (q : Path) → is_present (committed tree ms) q ≡ true → has_path q changed ≡ false
    outside q there = by (has_path q changed) refl
      where
        by : (b : Bool) → has_path q changed ≡ b → b ≡ false
        by true h = not_both there (sym (there_mid q) ∙ none_has changed (renumbered gens (commit_edits ms)) q none h)
        by false h = refl

    still_there : (ns : List Name) (p : Path) → is_present (committed tree ms) p ≡ true → is_present tree (p ++ ns) ≡ true → is_present (committed tree ms) (p ++ ns) ≡ true
    still_there [] p there before = subst (λ r. is_present (committed tree ms) r ≡ true) (sym (append-nil p)) there
    still_there (n ∷ ns) p there before =
        let way = child-way p n ns in
        let below = subst (λ r. is_present tree r ≡ true) (sym way) before in
        let next = sym (alike.children p n (outside p there)) ∙ present_above tree was (child p n) ns below in
        subst (λ r. is_present (committed tree ms) r ≡ true) way (still_there ns (child p n) next below)

    absent_after : (q : Path) → has_path q (edit_paths (commit_edits ms)) ≡ true → is_present (committed tree ms) q ≡ false
    absent_after q w = by (is_present (committed tree ms) q) refl
      where
        by : (b : Bool) → is_present (committed tree ms) q ≡ b → b ≡ false
        by true h = not_both (ap (has_path q) all ∙ changed_has tree (committed tree ms) q (written_paths ms) (same_paths q ∙ w) h) (outside q h)
        by false h = refl

    absent_before : (q : Path) → has_path q (edit_paths (commit_edits ms)) ≡ true → is_present tree q ≡ false
    absent_before q w = by (is_present tree q) refl
      where
        by : (b : Bool) → is_present tree q ≡ b → b ≡ false
        by true h = not_both (still_there q [] is.root h) (absent_after q w)
        by false h = refl

    no_number : (o u : Option ℕ) → is_some o ≡ false → is_some u ≡ false → o ≡ u
    no_number None None h k = refl
    no_number None (Some n) h k = not_both refl k
    no_number (Some m) u h k = not_both refl h

    still : renumbered gens (commit_edits ms) ≡ gens
    still = same_maps path_cmp path_total path_exact (renumbered gens (commit_edits ms)) gens rising_mid rising (λ q. by q (has_path q (edit_paths (commit_edits ms))) refl)
      where
        by : (q : Path) (b : Bool) → has_path q (edit_paths (commit_edits ms)) ≡ b → find path_cmp q (renumbered gens (commit_edits ms)) ≡ find path_cmp q gens
        by q true h =
            no_number (find path_cmp q (renumbered gens (commit_edits ms))) (find path_cmp q gens) (there_mid q ∙ absent_after q h)
            (there_by q gens ∙ ap (has_path q) keys ∙ sym (there_by q tree) ∙ absent_before q h)
        by q false h = number_elsewhere (commit_edits ms) gens q h

  pub counter_is : (counter : ℕ) → counter ≤ generation_max → counter ≡ greatest gens → counted changed counter (renumbered gens (commit_edits ms)) ≡ greatest (restamped changed (next_generation counter) (renumbered gens (commit_edits ms)))
  counter_is counter small same = by (one_has changed (renumbered gens (commit_edits ms))) refl
    where
      n : ℕ
      n = next_generation counter

      within : AllByRecursion (λ (e : Path × ℕ). e.1 ≤ next_generation counter) (renumbered gens (commit_edits ms))
      within = renumbered_within (next_generation counter) gens (commit_edits ms) (all_within (next_generation counter) gens (subst (λ m. m ≤ next_generation counter) same (next_more counter small)))

      by : (b : Bool) → one_has changed (renumbered gens (commit_edits ms)) ≡ b → cond b (next_generation counter) counter ≡ greatest (restamped changed (next_generation counter) (renumbered gens (commit_edits ms)))
      by true e =
          let least = reached changed (next_generation counter) (renumbered gens (commit_edits ms)) changed (λ q h. h) e in
          let most = greatest_within (next_generation counter) (restamped changed (next_generation counter) (renumbered gens (commit_edits ms)))
          (all_restamped changed (next_generation counter) (next_generation counter) (renumbered gens (commit_edits ms)) (omega arith) within) in
          omega (arith, least, most)
      by false e = same ∙ ap greatest (sym (unstamped changed (next_generation counter) (renumbered gens (commit_edits ms)) rising_mid e ∙ still e))
