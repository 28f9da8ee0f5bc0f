-- The transaction with which marks go on keeps these marks, and is open over the tree.
use Rattle.std.specs.Prelude.{◌≡◌, ℕ, true, false, ◌&&◌, ◌||◌, List, ◌++◌, Option, Some, None, is_some}
use Rattle.std.specs.FinMap.{is_sorted}
use Rattle.std.proofs.Common.{sym, refl, ap, subst, ◌∙◌}
use Rattle.xs_model.specs.Paths.{Path, Name, path_cmp, has_path, child}
use Rattle.xs_model.specs.Trees.{Node, Tree, node_at, is_present, Edit, edited, edit_paths, IsTree}
use Rattle.xs_model.proofs.Maps.{not_both}
use Rattle.xs_model.proofs.PathLemmas.{has_path-append}
use Rattle.xs_model.proofs.EditLemmas.{sorted_edits}
use Rattle.machine_model.specs.Transactions.{Transaction, wrote, accessed}
use Rattle.machine_model.specs.Serial.{IsOpenOver}
use Rattle.mark_model.specs.Marks.{Mark, Seen, Changed, Wrote, Gone, Kept, Marks, mark_at, is_accessed, is_changed, shown, written, edits_by, overlay, AreOver}
use Rattle.mark_model.specs.Open.{mark_by, mark_of, marks_of, is_seen, is_others, begun}
use Rattle.mark_model.proofs.MarkLemmas.{same_marks}
use Rattle.mark_model.proofs.MarkReadLemmas.{read_at, test_at, or_old, node_at-by, has_path-by, has_path-picked}
use Rattle.mark_model.proofs.MarkOpenLemmas.{has_wrote, has_accessed, mark_at-of, sorted_of}
use Rattle.mark_model.proofs.MarkTellLemmas.{same_trees}

-- what the transaction sees where there may be a mark. `old` is what stands in the tree.
abbrev seen_with : Option Mark → Option Node → Option Node
seen_with m old = or_old (read_at written m) (or_old (read_at shown m) old)

-- the mark comes back
mark_back : (m : Option Mark) (old : Option Node) → mark_by (is_some (read_at written m) || false) (test_at is_seen m || (is_some (read_at written m) || false)) (test_at is_others m) (seen_with m old) ≡ m
mark_back None old = refl
mark_back (Some Seen) old = refl
mark_back (Some (Changed first)) old = refl
mark_back (Some (Wrote others node)) old = refl
mark_back (Some (Gone others)) old = refl
mark_back (Some (Kept first)) old = refl

-- what is written is seen
seen_last : (m : Option Mark) (old : Option Node) → seen_with m old ≡ or_old (read_at shown m) old
seen_last None old = refl
seen_last (Some Seen) old = refl
seen_last (Some (Changed first)) old = refl
seen_last (Some (Wrote others node)) old = refl
seen_last (Some (Gone others)) old = refl
seen_last (Some (Kept first)) old = refl

-- where others changed nothing, the tree with what was written is what is seen
seen_same : (m : Option Mark) (old : Option Node) → test_at is_others m ≡ false → seen_with m old ≡ or_old (read_at written m) old
seen_same None old h = refl
seen_same (Some Seen) old h = refl
seen_same (Some (Changed first)) old h = not_both refl h
seen_same (Some (Wrote others node)) old h = refl
seen_same (Some (Gone others)) old h = refl
seen_same (Some (Kept first)) old h = not_both refl h

-- where they did, a path that was not looked at is there in both or in neither
there_same : (m : Option Mark) (old : Option Node) → (test_at is_seen m && test_at is_others m) ≡ false → ((first : Option Node) → m ≡ Some (Kept first) → is_some first ≡ is_some old)
    → is_some (seen_with m old) ≡ is_some (or_old (read_at written m) old)
there_same None old h came = refl
there_same (Some Seen) old h came = refl
there_same (Some (Changed first)) old h came = not_both refl h
there_same (Some (Wrote others node)) old h came = refl
there_same (Some (Gone others)) old h came = refl
there_same (Some (Kept first)) old h came = came first refl

others_changed : (m : Option Mark) → test_at is_others m ≡ is_changed m
others_changed None = refl
others_changed (Some Seen) = refl
others_changed (Some (Changed first)) = refl
others_changed (Some (Wrote others node)) = refl
others_changed (Some (Gone others)) = refl
others_changed (Some (Kept first)) = refl

accessed_parts : (m : Option Mark) → (test_at is_seen m || is_some (read_at written m)) ≡ is_accessed m
accessed_parts None = refl
accessed_parts (Some Seen) = refl
accessed_parts (Some (Changed first)) = refl
accessed_parts (Some (Wrote others node)) = refl
accessed_parts (Some (Gone others)) = refl
accessed_parts (Some (Kept first)) = refl

-- a written path that is there, and that nobody else changed, has a node that was written
node_written : (m : Option Mark) (old : Option Node) → is_some (read_at written m) ≡ true → test_at is_others m ≡ false → is_some (seen_with m old) ≡ true → (node : Node) × (m ≡ Some (Wrote false node))
node_written None old w h there = not_both w refl
node_written (Some Seen) old w h there = not_both w refl
node_written (Some (Changed first)) old w h there = not_both w refl
node_written (Some (Wrote others node)) old w h there = (node, ap (λ b. Some (Wrote b node)) h)
node_written (Some (Gone others)) old w h there = not_both there refl
node_written (Some (Kept first)) old w h there = not_both w refl

module _ (tree : Tree) (marks : Marks) (n : ℕ) (rising : is_sorted path_cmp marks ≡ true) where
  abbrev t : Transaction
  t = begun tree marks n

  abbrev es : List Edit
  es = edits_by written marks

  seen_at : (p : Path) → node_at (edited (overlay tree marks) es) p ≡ seen_with (mark_at marks p) (node_at tree p)
  seen_at p = node_at-by written (overlay tree marks) marks p rising ∙ ap (or_old (read_at written (mark_at marks p))) (node_at-by shown tree marks p rising)

  wrote_at : (p : Path) → has_path p (wrote t) ≡ (is_some (read_at written (mark_at marks p)) || false)
  wrote_at p = has_wrote t p ∙ ap (λ b. b || false) (has_path-by written marks p rising)

  accessed_at : (p : Path) → has_path p (accessed t) ≡ (test_at is_seen (mark_at marks p) || (is_some (read_at written (mark_at marks p)) || false))
  accessed_at p =
      has_accessed t p
      ∙ ap (λ b. b || (has_path p (edit_paths es) || false)) (has_path-picked is_seen marks p rising)
      ∙ ap (λ b. test_at is_seen (mark_at marks p) || (b || false)) (has_path-by written marks p rising)

  others_at : (p : Path) → has_path p t.others ≡ test_at is_others (mark_at marks p)
  others_at p = has_path-picked is_others marks p rising

  mark_begun : (p : Path) → mark_of t p ≡ mark_at marks p
  mark_begun p =
      (λ i. mark_by (wrote_at p i) (accessed_at p i) (others_at p i) (seen_at p i))
      ∙ mark_back (mark_at marks p) (node_at tree p)

  pub begun_marks : marks_of t ≡ marks
  begun_marks = same_marks _ _ (sorted_of t) rising (λ p. mark_at-of t p ∙ mark_begun p)

-- OPEN OVER THE TREE
module _ (tree : Tree) (marks : Marks) (n : ℕ) (over : AreOver tree marks) where
  abbrev goes_on : Transaction
  goes_on = begun tree marks n

  abbrev edits : List Edit
  edits = edits_by written marks

  seen : (p : Path) → node_at (edited (overlay tree marks) edits) p ≡ seen_with (mark_at marks p) (node_at tree p)
  seen = seen_at tree marks n over.rising

  made : (p : Path) → node_at (edited tree edits) p ≡ or_old (read_at written (mark_at marks p)) (node_at tree p)
  made p = node_at-by written tree marks p over.rising

  with_edits : edited (overlay tree marks) edits ≡ overlay tree marks
  with_edits =
      same_trees _ _ (sorted_edits (overlay tree marks) edits over.seen.rising) over.seen.rising
      (λ p. seen p ∙ seen_last (mark_at marks p) (node_at tree p) ∙ sym (node_at-by shown tree marks p over.rising))

  others_none : (p : Path) → has_path p goes_on.others ≡ false → test_at is_others (mark_at marks p) ≡ false
  others_none p h = sym (others_at tree marks n over.rising p) ∙ h

  same_children : (p : Path) (name : Name) → has_path p goes_on.others ≡ false → (has_path (child p name) goes_on.prior.seen && has_path (child p name) goes_on.others) ≡ false
      → is_present (edited (overlay tree marks) edits) (child p name) ≡ is_present (edited tree edits) (child p name)
  same_children p name h x =
      let c : Path = child p name in
      ap is_some (seen c)
      ∙ there_same (mark_at marks c) (node_at tree c) (sym (λ i. has_path-picked is_seen marks c over.rising i && others_at tree marks n over.rising c i) ∙ x)
      (λ first e. over.came p name first e (sym (others_changed (mark_at marks p)) ∙ others_none p h))
      ∙ sym (ap is_some (made c))

  parent_accessed : (p : Path) (name : Name) → has_path (child p name) (edit_paths edits) ≡ true → has_path (child p name) goes_on.others ≡ false
      → is_present (edited (overlay tree marks) edits) (child p name) ≡ true → is_present tree (child p name) ≡ false → has_path p (goes_on.prior.seen ++ edit_paths edits) ≡ true
  parent_accessed p name w h there gone =
      let c : Path = child p name in
      let node = node_written (mark_at marks c) (node_at tree c) (sym (has_path-by written marks c over.rising) ∙ w) (others_none c h) (sym (ap is_some (seen c)) ∙ there) in
      has_path-append p goes_on.prior.seen (edit_paths edits)
      ∙ (λ i. has_path-picked is_seen marks p over.rising i || has_path-by written marks p over.rising i)
      ∙ accessed_parts (mark_at marks p)
      ∙ over.made p name node.0 node.1 gone

  pub begun_open : IsOpenOver tree goes_on
  begun_open = record {
    copy = over.seen;
    began = subst IsTree (sym with_edits) over.seen;
    nodes = λ p h. seen p ∙ seen_same (mark_at marks p) (node_at tree p) (others_none p h) ∙ sym (made p);
    children = same_children;
    parents = parent_accessed;
  }
