-- What an open transaction keeps is over the tree.
use Rattle.std.specs.Prelude.{◌≡◌, Bool, true, false, ◌||◌, ◌++◌, Option, Some, None, is_some}
use Rattle.std.proofs.Common.{sym, refl, ap, subst, ◌∙◌, append_assoc}
use Rattle.std.proofs.lemmas.Bool.{or_parts, or_left, or_right, and_left}
use Rattle.xs_model.specs.Paths.{Path, Name, has_path, child}
use Rattle.xs_model.specs.Trees.{Node, Tree, node_at, is_present, edited, edit_paths, IsTree}
use Rattle.xs_model.proofs.Maps.{not_both}
use Rattle.xs_model.proofs.PathLemmas.{has_path-left}
use Rattle.xs_model.proofs.EditLemmas.{node_at-elsewhere}
use Rattle.machine_model.specs.Transactions.{Transaction, run_on, after, wrote, accessed}
use Rattle.machine_model.specs.Serial.{IsOpenOver}
use Rattle.machine_model.proofs.RunLemmas.{run_list-elsewhere}
use Rattle.mark_model.specs.Marks.{Wrote, Kept, mark_at, is_accessed, is_changed, shown, written, AreOver}
use Rattle.mark_model.specs.Open.{mark_by, marks_of}
use Rattle.mark_model.proofs.MarkReadLemmas.{read_at, or_old}
use Rattle.mark_model.proofs.MarkOpenLemmas.{has_wrote, has_accessed, written_accessed, mark_at-of, sorted_of, changed-by}
use Rattle.mark_model.proofs.MarkTellLemmas.{shown_by, written_by, seen_through, after_tree}
use Rattle.mark_model.proofs.MarkMadeLemmas.{run_made}

accessed_by : (w l o : Bool) (there : Option Node) → (w ≡ true → l ≡ true) → is_accessed (mark_by w l o there) ≡ l
accessed_by true l o None h = sym (h refl)
accessed_by true l o (Some node) h = sym (h refl)
accessed_by false true true there h = refl
accessed_by false true false there h = refl
accessed_by false false true there h = refl
accessed_by false false false there h = refl

touched_part : (s e t w : Bool) → t ≡ true → (s || (e || (t || w))) ≡ true
touched_part s e t w h = or_right s _ (or_right e _ (or_left t w h))

module _ (t : Transaction) where
  -- WHAT THE MARK AT A PATH TELLS
  changed_at : (p : Path) → is_changed (mark_at (marks_of t) p) ≡ has_path p t.others
  changed_at p = ap is_changed (mark_at-of t p) ∙ changed-by (has_path p (wrote t)) (has_path p (accessed t)) (has_path p t.others) (node_at (after t) p)

  accessed_at : (p : Path) → is_accessed (mark_at (marks_of t) p) ≡ has_path p (accessed t)
  accessed_at p = ap is_accessed (mark_at-of t p) ∙ accessed_by (has_path p (wrote t)) (has_path p (accessed t)) (has_path p t.others) (node_at (after t) p) (written_accessed t p)

  wrote_at : (p : Path) → is_some (read_at written (mark_at (marks_of t) p)) ≡ has_path p (wrote t)
  wrote_at p = ap (λ m. is_some (read_at written m)) (mark_at-of t p) ∙ written_by (has_path p (wrote t)) (has_path p (accessed t)) (has_path p t.others) (node_at (after t) p)

  there_at : (p : Path) → or_old (read_at shown (mark_at (marks_of t) p)) (node_at (after t) p) ≡ node_at (after t) p
  there_at p =
      ap (λ m. or_old (read_at shown m) (node_at (after t) p)) (mark_at-of t p)
      ∙ shown_by (has_path p (wrote t)) (has_path p (accessed t)) (has_path p t.others) (node_at (after t) p) (node_at (after t) p) (λ w o. refl)

  run_accessed : (p : Path) → has_path p (run_on t.copy t).touched ≡ true → has_path p (accessed t) ≡ true
  run_accessed p h = has_accessed t p ∙ touched_part (has_path p t.prior.seen) (has_path p (edit_paths t.prior.edits)) (has_path p (run_on t.copy t).touched) (has_path p (run_on t.copy t).written) h

  prior_accessed : (p : Path) → has_path p (t.prior.seen ++ edit_paths t.prior.edits) ≡ true → has_path p (accessed t) ≡ true
  prior_accessed p h =
      let run = run_on t.copy t in
      subst (λ ps. has_path p ps ≡ true) (append_assoc t.prior.seen (edit_paths t.prior.edits) (run.touched ++ run.written))
      (has_path-left p (t.prior.seen ++ edit_paths t.prior.edits) (run.touched ++ run.written) h)

module _ (tree : Tree) (t : Transaction) (is : IsTree tree) (o : IsOpenOver tree t) where
  abbrev base : Tree
  base = edited t.copy t.prior.edits

  -- A CHILD THAT WAS MADE: the transaction brought it along, or one of its commands made it
  brought : (p : Path) (n : Name) (b : Bool) → has_path (child p n) (edit_paths t.prior.edits) ≡ b → has_path (child p n) t.others ≡ false → is_present tree (child p n) ≡ false → is_present base (child p n) ≡ true → has_path p (accessed t) ≡ true
  brought p n true w free gone there = prior_accessed t p (o.parents p n w free there gone)
  brought p n false w free gone there =
      not_both (sym (ap is_some (o.nodes (child p n) free ∙ node_at-elsewhere tree t.prior.edits (child p n) w)) ∙ there) gone

  made_by : (p : Path) (n : Name) (b : Bool) → is_present base (child p n) ≡ b → has_path (child p n) t.others ≡ false → is_present tree (child p n) ≡ false → is_present (after t) (child p n) ≡ true → has_path p (accessed t) ≡ true
  made_by p n true e free gone there = brought p n (has_path (child p n) (edit_paths t.prior.edits)) refl free gone e
  made_by p n false e free gone there = run_accessed t p (run_made base t.list o.began p n e there)

  made : (p : Path) (n : Name) (node : Node) → mark_at (marks_of t) (child p n) ≡ Some (Wrote false node) → is_present tree (child p n) ≡ false → is_accessed (mark_at (marks_of t) p) ≡ true
  made p n node e gone =
      let c : Path = child p n in
      let there : Some node ≡ node_at (after t) c = ap (λ m. or_old (read_at shown m) (node_at (after t) c)) (sym e) ∙ there_at t c in
      accessed_at t p
      ∙ made_by p n (is_present base c) refl (sym (changed_at t c) ∙ ap is_changed e) gone (ap is_some (sym there))

  -- A CHILD THAT OTHERS CHANGED
  came : (p : Path) (n : Name) (old : Option Node) → mark_at (marks_of t) (child p n) ≡ Some (Kept old) → is_changed (mark_at (marks_of t) p) ≡ false → is_some old ≡ is_present tree (child p n)
  came p n old e free =
      let c : Path = child p n in
      let there : old ≡ node_at (after t) c = ap (λ m. or_old (read_at shown m) (node_at (after t) c)) (sym e) ∙ there_at t c in
      let wrote_none = or_parts (has_path c (edit_paths t.prior.edits)) (has_path c (run_on t.copy t).written) (sym (has_wrote t c) ∙ sym (wrote_at t c) ∙ ap (λ m. is_some (read_at written m)) e) in
      let accessed_none = or_parts (has_path c t.prior.seen) _ (sym (has_accessed t c) ∙ sym (accessed_at t c) ∙ ap is_accessed e) in
      ap is_some (there ∙ run_list-elsewhere base t.list c wrote_none.1)
      ∙ o.children p n (sym (changed_at t p) ∙ free) (and_left _ (has_path c t.others) accessed_none.0)
      ∙ ap is_some (node_at-elsewhere tree t.prior.edits c wrote_none.0)

  pub open_over : AreOver tree (marks_of t)
  open_over = record {
    rising = sorted_of t;
    seen = subst IsTree (sym (seen_through tree t is o)) (after_tree tree t is o);
    made = made;
    came = came;
  }
