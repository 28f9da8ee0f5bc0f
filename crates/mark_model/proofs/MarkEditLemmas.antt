-- Edits that are made through marks of their own.
use Rattle.std.specs.Prelude.{◌≡◌, Bool, true, false, List, [], Option, Some, None, is_some}
use Rattle.std.specs.FinMap.{is_sorted}
use Rattle.std.proofs.Common.{sym, refl, ap, ◌∙◌}
use Rattle.xs_model.specs.Paths.{Path, path_cmp, has_path}
use Rattle.xs_model.specs.Trees.{Node, Tree, node_at, Edit, edited, edit_paths}
use Rattle.xs_model.proofs.EditLemmas.{node_at-elsewhere, sorted_edits}
use Rattle.mark_model.specs.Marks.{Mark, Marks, mark_at, shown, written, edits_by, accessed_mark, access_all, write_all, is_conflict}
use Rattle.mark_model.specs.Laws.{IsMadeByMarks}
use Rattle.mark_model.proofs.MarkLemmas.{remarked_if, written_if, mark_at-access_all, sorted_access_all, mark_at-write_all, sorted_write_all}
use Rattle.mark_model.proofs.MarkReadLemmas.{read_at, test_at, or_old, node_at-by, has_path-by}
use Rattle.mark_model.proofs.MarkTellLemmas.{same_trees, no_conflict}

-- the mark of a path that was looked at or not, and was given this node or not
abbrev own_mark : Bool → Bool → Option Node → Option Mark
own_mark looked wrote node = remarked_if accessed_mark looked (written_if wrote node None)

own_shown : (looked wrote : Bool) (node old : Option Node) → (wrote ≡ false → node ≡ old) → or_old (read_at shown (own_mark looked wrote node)) old ≡ node
own_shown true true None old same = refl
own_shown true true (Some node) old same = refl
own_shown true false there old same = sym (same refl)
own_shown false true None old same = refl
own_shown false true (Some node) old same = refl
own_shown false false there old same = sym (same refl)

own_made : (looked wrote : Bool) (node old : Option Node) → (wrote ≡ false → node ≡ old) → or_old (read_at written (own_mark looked wrote node)) old ≡ node
own_made true true None old same = refl
own_made true true (Some node) old same = refl
own_made true false there old same = sym (same refl)
own_made false true None old same = refl
own_made false true (Some node) old same = refl
own_made false false there old same = sym (same refl)

own_written : (looked wrote : Bool) (node : Option Node) → is_some (read_at written (own_mark looked wrote node)) ≡ wrote
own_written true true None = refl
own_written true true (Some node) = refl
own_written true false there = refl
own_written false true None = refl
own_written false true (Some node) = refl
own_written false false there = refl

own_free : (looked wrote : Bool) (node : Option Node) → test_at is_conflict (own_mark looked wrote node) ≡ false
own_free true true None = refl
own_free true true (Some node) = refl
own_free true false there = refl
own_free false true None = refl
own_free false true (Some node) = refl
own_free false false there = refl

module _ (tree : Tree) (es : List Edit) (touched : List Path) (rising : is_sorted path_cmp tree ≡ true) where
  abbrev marks : Marks
  marks = access_all touched (write_all es [])

  sorted : is_sorted path_cmp marks ≡ true
  sorted = sorted_access_all touched (write_all es []) (sorted_write_all es [] refl)

  mark_there : (p : Path) → mark_at marks p ≡ own_mark (has_path p touched) (has_path p (edit_paths es)) (node_at (edited tree es) p)
  mark_there p = mark_at-access_all touched (write_all es []) p ∙ ap (remarked_if accessed_mark (has_path p touched)) (mark_at-write_all tree es [] p)

  -- a tree that is read of the marks in one of the two ways
  read_tree : (read : Mark → Option (Option Node)) → ((looked wrote : Bool) (node old : Option Node) → (wrote ≡ false → node ≡ old) → or_old (read_at read (own_mark looked wrote node)) old ≡ node)
      → edited tree (edits_by read marks) ≡ edited tree es
  read_tree read own =
      same_trees _ _ (sorted_edits tree (edits_by read marks) rising) (sorted_edits tree es rising) (λ p.
      node_at-by read tree marks p sorted
      ∙ ap (λ m. or_old (read_at read m) (node_at tree p)) (mark_there p)
      ∙ own (has_path p touched) (has_path p (edit_paths es)) (node_at (edited tree es) p) (node_at tree p) (node_at-elsewhere tree es p))

  pub made_by_marks : IsMadeByMarks tree es touched
  made_by_marks = record {
    seen = read_tree shown own_shown;
    made = read_tree written own_made;
    paths = λ p. has_path-by written marks p sorted ∙ ap (λ m. is_some (read_at written m)) (mark_there p) ∙ own_written (has_path p touched) (has_path p (edit_paths es)) (node_at (edited tree es) p);
    free = no_conflict marks sorted (λ p. ap (test_at is_conflict) (mark_there p) ∙ own_free (has_path p touched) (has_path p (edit_paths es)) (node_at (edited tree es) p));
  }
