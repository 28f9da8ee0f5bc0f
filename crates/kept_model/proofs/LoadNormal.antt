-- What was said of a transaction becomes marks over the tree, which fit.
use Rattle.std.specs.Prelude.{◌≡◌, ◌⊎◌, Bool, true, false, cond, not, List, [], ◌∷◌, ◌++◌, Option, Some, None, is_some, IfSome}
use Rattle.std.specs.List.{AllByRecursion}
use Rattle.std.specs.FinMap.{is_sorted}
use Rattle.std.proofs.Common.{sym, refl, ap, subst, ◌∙◌, inl, inr, ⊎_elim}
use Rattle.std.proofs.lemmas.Bool.{false≢true}
use Rattle.xs_model.specs.Paths.{Path, Name, path_cmp, same_path, has_path, child}
use Rattle.xs_model.specs.Trees.{Node, Tree, node_at, is_present, has_entry, IsTree}
use Rattle.xs_model.proofs.Maps.{not_both, not_Some, from_Some, all_of}
use Rattle.xs_model.proofs.PathLemmas.{path_total, path_exact, same_path-is, has_path-here, has_path-left, has_path-right}
use Rattle.xs_model.proofs.EditLemmas.{sorted_edits}
use Rattle.xs_model.proofs.TreeLemmas.{has_entries}
use Rattle.xs_model.proofs.WayLemmas.{parents-child}
use Rattle.machine_model.proofs.Lists.{all_append}
use Rattle.mark_model.specs.Marks.{Mark, Seen, Changed, Wrote, Gone, Kept, Marks, mark_at, is_accessed, is_changed, shown, written, edits_by, overlay, accessed_mark, noted_mark, access, note, access_all, note_all, AreOver}
use Rattle.mark_model.proofs.MarkLemmas.{remarked_if, mark_at-access_all, sorted_access_all, mark_at-note_all, sorted_note_all}
use Rattle.mark_model.proofs.MarkReadLemmas.{read_at, or_old, node_at-by}
use Rattle.mark_model.proofs.StoreMaps.{sorted_entries}
use Rattle.kept_model.specs.Said.{Said, Is, Saw}
use Rattle.kept_model.specs.Normal.{same_found, mark_by, marks_by, parent_or_root, parents_where, is_made, parents_looked_at, came_or_went, bool_differs, normal, is_orphan_in}
use Rattle.kept_model.specs.Sound.{IsSpelled, FoundFits, MarkFits, NodesFit, MarksFit}
use Rattle.kept_model.proofs.LoadMaps.{pairs_put, pairs_found, pairs_map}
use Rattle.kept_model.proofs.LoadPaths.{parents_spelled}
use Rattle.kept_model.proofs.LoadParts.{FoundGood, MarkGood, SaidGood}
use Rattle.kept_model.proofs.LoadSeen.{parent_is, root_is, child_has_parent}

-- MARKS THAT FIT
found_fits : (found : Option Node) → FoundGood found → FoundFits found
found_fits None h = tt
found_fits (Some node) h = h.fits

mark_fits : (mark : Mark) → MarkGood mark → MarkFits mark
mark_fits Seen h = tt
mark_fits (Changed old) h = found_fits old h
mark_fits (Wrote others node) h = h.fits
mark_fits (Gone others) h = tt
mark_fits (Kept old) h = found_fits old h

accessed_fits : (mark : Option Mark) → IfSome mark MarkFits → MarkFits (accessed_mark mark)
accessed_fits None h = tt
accessed_fits (Some Seen) h = tt
accessed_fits (Some (Changed old)) h = h
accessed_fits (Some (Wrote others node)) h = h
accessed_fits (Some (Gone others)) h = tt
accessed_fits (Some (Kept old)) h = h

noted_fits : (old : Option Node) (mark : Option Mark) → FoundFits old → IfSome mark MarkFits → MarkFits (noted_mark old mark)
noted_fits old None f h = f
noted_fits old (Some Seen) f h = f
noted_fits old (Some (Changed first)) f h = h
noted_fits old (Some (Wrote others node)) f h = h
noted_fits old (Some (Gone others)) f h = tt
noted_fits old (Some (Kept first)) f h = h

abbrev Fitting : Path → Mark → Type 0
Fitting p mark = IsSpelled p × MarkFits mark

there_fits : (marks : Marks) (p : Path) → MarksFit marks → IfSome (mark_at marks p) MarkFits
there_fits marks p h = by (mark_at marks p) refl
  where
    by : (m : Option Mark) → mark_at marks p ≡ m → IfSome m MarkFits
    by None e = tt
    by (Some mark) e = (pairs_found path_cmp path_exact Fitting p marks mark h e).1

node_fits : (tree : Tree) (p : Path) → NodesFit tree → FoundFits (node_at tree p)
node_fits tree p h = by (node_at tree p) refl
  where
    by : (o : Option Node) → node_at tree p ≡ o → FoundFits o
    by None e = tt
    by (Some node) e = (pairs_found path_cmp path_exact (λ q n. IsSpelled q × FoundFits (Some n)) p tree node h e).1

access_all_fits : (ps : List Path) (marks : Marks) → AllByRecursion IsSpelled ps → MarksFit marks → MarksFit (access_all ps marks)
access_all_fits [] marks s h = h
access_all_fits (p ∷ ps) marks s h =
    access_all_fits ps (access p marks) s.1 (pairs_put path_cmp path_exact Fitting p (accessed_mark (mark_at marks p)) marks (s.0, accessed_fits (mark_at marks p) (there_fits marks p h)) h)

note_all_fits : (tree : Tree) → NodesFit tree → (ps : List Path) (marks : Marks) → AllByRecursion IsSpelled ps → MarksFit marks → MarksFit (note_all tree ps marks)
note_all_fits tree nodes [] marks s h = h
note_all_fits tree nodes (p ∷ ps) marks s h =
    note_all_fits tree nodes ps (note p (node_at tree p) marks) s.1
    (pairs_put path_cmp path_exact Fitting p (noted_mark (node_at tree p) (mark_at marks p)) marks (s.0, noted_fits (node_at tree p) (mark_at marks p) (node_fits tree p nodes) (there_fits marks p h)) h)

-- THE PARENTS that marks ask for
if_spelled : (b : Bool) (p : Path) → IsSpelled p → AllByRecursion IsSpelled (cond b (parent_or_root p) [])
if_spelled true p h = parents_spelled p h
if_spelled false p h = tt

module _ (asks : Path → Mark → Bool) where
  where_spelled : (marks : Marks) → MarksFit marks → AllByRecursion IsSpelled (parents_where asks marks)
  where_spelled [] h = tt
  where_spelled (e ∷ marks) h = all_append IsSpelled (cond (asks e.0 e.1) (parent_or_root e.0) []) (parents_where asks marks) (if_spelled (asks e.0 e.1) e.0 h.0.0) (where_spelled marks h.1)

  parent_of : (p : Path) (n : Name) → parent_or_root (child p n) ≡ p ∷ []
  parent_of [] n = parents-child [] n
  parent_of (m ∷ p) n = parents-child (m ∷ p) n

  asked_here : (p q : Path) (n : Name) (mark : Mark) → q ≡ child p n → asks q mark ≡ true → has_path p (cond (asks q mark) (parent_or_root q) []) ≡ true
  asked_here p q n mark e a =
      ap (λ b. has_path p (cond b (parent_or_root q) [])) a
      ∙ ap (λ r. has_path p (parent_or_root r)) e
      ∙ ap (has_path p) (parent_of p n)
      ∙ has_path-here p []

  asked : (marks : Marks) (p : Path) (n : Name) (mark : Mark) → mark_at marks (child p n) ≡ Some mark → asks (child p n) mark ≡ true → has_path p (parents_where asks marks) ≡ true
  asked [] p n mark e a = not_Some e
  asked (f ∷ marks) p n mark e a =
      (elim (same_path (child p n) f.0) as (λ b. same_path (child p n) f.0 ≡ b → cond b (Some f.1) (mark_at marks (child p n)) ≡ Some mark → has_path p (cond (asks f.0 f.1) (parent_or_root f.0) [] ++ parents_where asks marks) ≡ true) [
        | true ↦ λ t g.
            let same : f.0 ≡ child p n = sym (same_path-is (child p n) f.0 t) in
            let here : asks f.0 f.1 ≡ true = ap (λ q. asks q f.1) same ∙ ap (asks (child p n)) (from_Some g) ∙ a in
            has_path-left p (cond (asks f.0 f.1) (parent_or_root f.0) []) (parents_where asks marks) (asked_here p f.0 n f.1 same here)
        | false ↦ λ t g. has_path-right p (cond (asks f.0 f.1) (parent_or_root f.0) []) (parents_where asks marks) (asked marks p n mark g a)
      ]) refl e

-- WHAT IS SHOWN stays as it was
shown_accessed : (b : Bool) (m : Option Mark) (old : Option Node) → or_old (read_at shown (remarked_if accessed_mark b m)) old ≡ or_old (read_at shown m) old
shown_accessed false m old = refl
shown_accessed true None old = refl
shown_accessed true (Some Seen) old = refl
shown_accessed true (Some (Changed first)) old = refl
shown_accessed true (Some (Wrote others node)) old = refl
shown_accessed true (Some (Gone others)) old = refl
shown_accessed true (Some (Kept first)) old = refl

shown_noted : (b : Bool) (m : Option Mark) (old : Option Node) → or_old (read_at shown (remarked_if (noted_mark old) b m)) old ≡ or_old (read_at shown m) old
shown_noted false m old = refl
shown_noted true None old = refl
shown_noted true (Some Seen) old = refl
shown_noted true (Some (Changed first)) old = refl
shown_noted true (Some (Wrote others node)) old = refl
shown_noted true (Some (Gone others)) old = refl
shown_noted true (Some (Kept first)) old = refl

-- a node that is shown has an entry
good_entry : (found : Option Node) (node : Node) → FoundGood found → found ≡ Some node → has_entry node.perms ≡ true
good_entry None node h e = not_Some e
good_entry (Some first) node h e = subst (λ n. has_entry n.perms ≡ true) (from_Some e) h.entry

shown_entry : (mark : Mark) (old : Option Node) (node : Node) → MarkGood mark → (old ≡ Some node → has_entry node.perms ≡ true) → or_old (shown mark) old ≡ Some node → has_entry node.perms ≡ true
shown_entry Seen old node h to e = to e
shown_entry (Changed first) old node h to e = good_entry first node h e
shown_entry (Wrote others new) old node h to e = good_entry (Some new) node h e
shown_entry (Gone others) old node h to e = not_Some e
shown_entry (Kept first) old node h to e = good_entry first node h e

-- WHAT MARKS WERE before parents were marked
abbrev is_node : Option Mark → Bool
is_node m = is_some (or_old (read_at written m) None)

noted_changed : (old : Option Node) (m : Option Mark) → is_changed (Some (noted_mark old m)) ≡ true
noted_changed old None = refl
noted_changed old (Some Seen) = refl
noted_changed old (Some (Changed first)) = refl
noted_changed old (Some (Wrote others node)) = refl
noted_changed old (Some (Gone others)) = refl
noted_changed old (Some (Kept first)) = refl

wrote_accessed : (b : Bool) (m : Option Mark) (node : Node) → remarked_if accessed_mark b m ≡ Some (Wrote false node) → m ≡ Some (Wrote false node)
wrote_accessed false m node e = e
wrote_accessed true None node e = absurd (false≢true (ap is_node e))
wrote_accessed true (Some Seen) node e = absurd (false≢true (ap is_node e))
wrote_accessed true (Some (Changed first)) node e = absurd (false≢true (ap is_node e))
wrote_accessed true (Some (Wrote others new)) node e = e
wrote_accessed true (Some (Gone others)) node e = absurd (false≢true (ap is_node e))
wrote_accessed true (Some (Kept first)) node e = absurd (false≢true (ap is_node e))

wrote_noted : (b : Bool) (old : Option Node) (m : Option Mark) (node : Node) → remarked_if (noted_mark old) b m ≡ Some (Wrote false node) → m ≡ Some (Wrote false node)
wrote_noted false old m node e = e
wrote_noted true old m node e = not_both (noted_changed old m) (ap is_changed e)

kept_noted : (b : Bool) (new : Option Node) (m : Option Mark) (old : Option Node) → remarked_if (noted_mark new) b m ≡ Some (Kept old) → (m ≡ Some (Kept old)) ⊎ (new ≡ old)
kept_noted false new m old e = inl e
kept_noted true new None old e = inr (ap (λ m. or_old (read_at shown m) None) e)
kept_noted true new (Some Seen) old e = absurd (false≢true (sym (ap is_accessed e)))
kept_noted true new (Some (Changed first)) old e = absurd (false≢true (sym (ap is_accessed e)))
kept_noted true new (Some (Wrote others node)) old e = absurd (false≢true (sym (ap is_accessed e)))
kept_noted true new (Some (Gone others)) old e = absurd (false≢true (sym (ap is_accessed e)))
kept_noted true new (Some (Kept first)) old e = inl e

looked_at : (b : Bool) (old : Option Node) (m : Option Mark) → is_accessed (remarked_if (noted_mark old) b (Some (accessed_mark m))) ≡ true
looked_at false old None = refl
looked_at false old (Some Seen) = refl
looked_at false old (Some (Changed first)) = refl
looked_at false old (Some (Wrote others node)) = refl
looked_at false old (Some (Gone others)) = refl
looked_at false old (Some (Kept first)) = refl
looked_at true old None = refl
looked_at true old (Some Seen) = refl
looked_at true old (Some (Changed first)) = refl
looked_at true old (Some (Wrote others node)) = refl
looked_at true old (Some (Gone others)) = refl
looked_at true old (Some (Kept first)) = refl

not_differs : (x y : Bool) → bool_differs x y ≡ false → x ≡ y
not_differs true true h = refl
not_differs true false h = not_both refl h
not_differs false true h = not_both refl h
not_differs false false h = refl

module _ (tree : Tree) (said : List (Path × Said)) where
  -- what loads of a path, where the path is no orphan in what the transaction sees
  pub record SaidRight (p : Path) (new : Said) : Type 0 where
    pub spelled : IsSpelled p
    pub good : SaidGood new
    pub fine : is_orphan_in (overlay tree (normal tree said)) p ≡ false

  record MarkRight (p : Path) (mark : Mark) : Type 0 where
    pub spelled : IsSpelled p
    pub good : MarkGood mark
    pub fine : is_orphan_in (overlay tree (normal tree said)) p ≡ false

  mark_good : (p : Path) (new : Said) → SaidGood new → MarkGood (mark_by tree p new)
  mark_good p (Is mark) h = h
  mark_good p (Saw found) h = elim (same_found found (node_at tree p)) as (λ b. MarkGood (cond b Seen (Changed found))) [ true ↦ tt | false ↦ h ]

  module _ (is : IsTree tree) (nodes : NodesFit tree) (rising : is_sorted path_cmp said ≡ true) (each : AllByRecursion (λ (g : Path × Said). SaidRight g.0 g.1) said) where
    abbrev first : Marks
    first = marks_by tree said

    abbrev looked : List Path
    looked = parents_where (is_made tree) first

    abbrev second : Marks
    second = parents_looked_at tree first

    abbrev changed : List Path
    changed = parents_where (came_or_went tree) second

    abbrev third : Marks
    third = normal tree said

    first_right : AllByRecursion (λ (g : Path × Mark). MarkRight g.0 g.1) first
    first_right = pairs_map SaidRight MarkRight (mark_by tree) (λ p new h. record { spelled = h.spelled; good = mark_good p new h.good; fine = h.fine }) said each

    right_at : (p : Path) (mark : Mark) → mark_at first p ≡ Some mark → MarkRight p mark
    right_at p mark e = pairs_found path_cmp path_exact MarkRight p first mark first_right e

    first_fits : (marks : Marks) → AllByRecursion (λ (g : Path × Mark). MarkRight g.0 g.1) marks → MarksFit marks
    first_fits [] h = tt
    first_fits (e ∷ marks) h = ((h.0.spelled, mark_fits e.1 h.0.good), first_fits marks h.1)

    second_fits : MarksFit second
    second_fits = access_all_fits looked first (where_spelled (is_made tree) first (first_fits first first_right)) (first_fits first first_right)

    pub normal_fits : MarksFit (normal tree said)
    normal_fits = note_all_fits tree nodes changed second (where_spelled (came_or_went tree) second second_fits) second_fits

    first_sorted : is_sorted path_cmp first ≡ true
    first_sorted = sorted_entries path_cmp (λ e. mark_by tree e.0 e.1) said ∙ rising

    third_sorted : is_sorted path_cmp third ≡ true
    third_sorted = sorted_note_all tree changed second (sorted_access_all looked first first_sorted)

    -- the marks at a path
    second_at : (p : Path) → mark_at second p ≡ remarked_if accessed_mark (has_path p looked) (mark_at first p)
    second_at p = mark_at-access_all looked first p

    third_at : (p : Path) → mark_at third p ≡ remarked_if (noted_mark (node_at tree p)) (has_path p changed) (mark_at second p)
    third_at p = mark_at-note_all tree changed second p

    abbrev seen : Tree
    seen = overlay tree (normal tree said)

    seen_at : (p : Path) → node_at seen p ≡ or_old (read_at shown (mark_at first p)) (node_at tree p)
    seen_at p =
        node_at-by shown tree third p third_sorted
        ∙ ap (λ m. or_old (read_at shown m) (node_at tree p)) (third_at p)
        ∙ shown_noted (has_path p changed) (mark_at second p) (node_at tree p)
        ∙ ap (λ m. or_old (read_at shown m) (node_at tree p)) (second_at p)
        ∙ shown_accessed (has_path p looked) (mark_at first p) (node_at tree p)

    -- where nothing was said the tree is seen
    unsaid : (p : Path) → mark_at first p ≡ None → is_present seen p ≡ is_present tree p
    unsaid p e = ap is_some (seen_at p ∙ ap (λ m. or_old (read_at shown m) (node_at tree p)) e)

    sees_root : (m : Option Mark) → mark_at first [] ≡ m → is_present seen [] ≡ true
    sees_root None e = unsaid [] e ∙ is.root
    sees_root (Some mark) e = root_is seen (right_at [] mark e).fine

    sees_above : (p : Path) (n : Name) (m : Option Mark) → mark_at first p ≡ m → is_present seen (child p n) ≡ true → is_present tree p ≡ true → is_present seen p ≡ true
    sees_above p n None e there h = unsaid p e ∙ h
    sees_above p n (Some mark) e there h = child_has_parent seen p n (right_at p mark e).fine there

    sees_parent : (p : Path) (n : Name) (m : Option Mark) → mark_at first (child p n) ≡ m → is_present seen (child p n) ≡ true → is_present seen p ≡ true
    sees_parent p n None e there = sees_above p n (mark_at first p) refl there (is.parents p n (sym (unsaid (child p n) e) ∙ there))
    sees_parent p n (Some mark) e there = parent_is seen p n (right_at (child p n) mark e).fine there

    sees_entry : (p : Path) (node : Node) (m : Option Mark) → mark_at first p ≡ m → or_old (read_at shown m) (node_at tree p) ≡ Some node → has_entry node.perms ≡ true
    sees_entry p node None e f = has_entries tree is p node f
    sees_entry p node (Some mark) e f = shown_entry mark (node_at tree p) node (right_at p mark e).good (has_entries tree is p node) f

    seen_sorted : is_sorted path_cmp seen ≡ true
    seen_sorted = sorted_edits tree (edits_by shown third) is.rising

    sees_tree : IsTree seen
    sees_tree = record {
      rising = seen_sorted;
      root = sees_root (mark_at first []) refl;
      parents = λ p n there. sees_parent p n (mark_at first (child p n)) refl there;
      perms = all_of path_cmp path_total (λ node. has_entry node.perms ≡ true) seen seen_sorted (λ p node e. sees_entry p node (mark_at first p) refl (sym (seen_at p) ∙ e));
    }

    -- who made a node looked at its parent
    parent_looked : (p : Path) → has_path p looked ≡ true → is_accessed (mark_at third p) ≡ true
    parent_looked p h =
        let marked : mark_at second p ≡ Some (accessed_mark (mark_at first p)) = second_at p ∙ ap (λ b. remarked_if accessed_mark b (mark_at first p)) h in
        ap is_accessed (third_at p ∙ ap (remarked_if (noted_mark (node_at tree p)) (has_path p changed)) marked)
        ∙ looked_at (has_path p changed) (node_at tree p) (mark_at first p)

    was_made : (p : Path) (n : Name) (node : Node) → mark_at third (child p n) ≡ Some (Wrote false node) → is_present tree (child p n) ≡ false → is_accessed (mark_at third p) ≡ true
    was_made p n node e gone =
        let c : Path = child p n in
        let later : mark_at second c ≡ Some (Wrote false node) = wrote_noted (has_path c changed) (node_at tree c) (mark_at second c) node (sym (third_at c) ∙ e) in
        let said_so : mark_at first c ≡ Some (Wrote false node) = wrote_accessed (has_path c looked) (mark_at first c) node (sym (second_at c) ∙ later) in
        parent_looked p (asked (is_made tree) first p n (Wrote false node) said_so (ap not gone))

    -- where a node came or went by others, they changed its parent
    parent_changed : (p : Path) → has_path p changed ≡ true → is_changed (mark_at third p) ≡ true
    parent_changed p h =
        ap is_changed (third_at p ∙ ap (λ b. remarked_if (noted_mark (node_at tree p)) b (mark_at second p)) h)
        ∙ noted_changed (node_at tree p) (mark_at second p)

    still_there : (p : Path) (n : Name) (old : Option Node) (b : Bool) → bool_differs (is_some old) (is_present tree (child p n)) ≡ b → mark_at second (child p n) ≡ Some (Kept old) → is_changed (mark_at third p) ≡ false → is_some old ≡ is_present tree (child p n)
    still_there p n old true d e free = not_both (parent_changed p (asked (came_or_went tree) second p n (Kept old) e d)) free
    still_there p n old false d e free = not_differs (is_some old) (is_present tree (child p n)) d

    had_come : (p : Path) (n : Name) (old : Option Node) → mark_at third (child p n) ≡ Some (Kept old) → is_changed (mark_at third p) ≡ false → is_some old ≡ is_present tree (child p n)
    had_come p n old e free =
        let c : Path = child p n in
        ⊎_elim
        (λ kept. still_there p n old (bool_differs (is_some old) (is_present tree c)) refl kept free)
        (λ new. ap is_some (sym new))
        (kept_noted (has_path c changed) (node_at tree c) (mark_at second c) old (sym (third_at c) ∙ e))

    pub normal_over : AreOver tree (normal tree said)
    normal_over = record { rising = third_sorted; seen = sees_tree; made = was_made; came = had_come }
