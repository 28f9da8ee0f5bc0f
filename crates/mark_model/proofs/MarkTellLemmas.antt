-- What the marks of a transaction tell of it: what it sees, whether it is in conflict, and what its commit makes.
use Rattle.std.specs.Prelude.{◌≡◌, Bool, true, false, cond, ◌&&◌, ◌||◌, List, [], ◌∷◌, Option, Some, None, is_some}
use Rattle.std.specs.List.{list_any, AllByRecursion}
use Rattle.std.specs.FinMap.{is_sorted}
use Rattle.std.proofs.Common.{sym, refl, ap, subst, ◌∙◌}
use Rattle.std.proofs.lemmas.Bool.{and_parts, and_from, or_left, or_right, or_from, false_from_ne_true}
use Rattle.xs_model.specs.Paths.{Path, path_cmp, same_path, has_path}
use Rattle.xs_model.specs.Trees.{Node, Tree, node_at, IsTree}
use Rattle.xs_model.proofs.Maps.{not_both, all_of, same_maps}
use Rattle.xs_model.proofs.PathLemmas.{path_total, path_exact, same_path-is, has_path-here}
use Rattle.xs_model.proofs.EditLemmas.{sorted_edits}
use Rattle.machine_model.specs.Transactions.{Transaction, run_on, after, wrote, accessed, is_in_conflict}
use Rattle.machine_model.specs.Serial.{RunsAlike, IsOpenOver}
use Rattle.machine_model.proofs.RunLemmas.{run_list-tree}
use Rattle.machine_model.proofs.OpenLemmas.{commit_tree, runs_alike}
use Rattle.mark_model.specs.Marks.{Mark, Marks, mark_at, shown, written, edits_by, overlay, committed, written_paths, is_conflict, has_conflict}
use Rattle.mark_model.specs.Open.{mark_by, marks_of}
use Rattle.mark_model.proofs.MarkReadLemmas.{read_at, test_at, or_old, node_at-by, has_path-by}
use Rattle.mark_model.proofs.MarkOpenLemmas.{mark_at-of, sorted_of, written_accessed, unchanged}

-- trees in order that answer alike are the same
pub same_trees : (a b : Tree) → is_sorted path_cmp a ≡ true → is_sorted path_cmp b ≡ true → ((p : Path) → node_at a p ≡ node_at b p) → a ≡ b
same_trees a b s t same = same_maps path_cmp path_total path_exact a b s t same

-- WHAT IS SEEN. `old` is what stands in the tree.
pub shown_by : (w l o : Bool) (there old : Option Node) → (w ≡ false → o ≡ false → there ≡ old) → or_old (read_at shown (mark_by w l o there)) old ≡ there
shown_by true l o None old same = refl
shown_by true l o (Some node) old same = refl
shown_by false true true there old same = refl
shown_by false true false there old same = sym (same refl refl)
shown_by false false true there old same = refl
shown_by false false false there old same = sym (same refl refl)

module _ (tree : Tree) (t : Transaction) (is : IsTree tree) (o : IsOpenOver tree t) where
  pub after_tree : IsTree (after t)
  after_tree = run_list-tree _ t.list o.began

  seen_at : (p : Path) → node_at (overlay tree (marks_of t)) p ≡ node_at (after t) p
  seen_at p =
      node_at-by shown tree (marks_of t) p (sorted_of t)
      ∙ ap (λ m. or_old (read_at shown m) (node_at tree p)) (mark_at-of t p)
      ∙ shown_by (has_path p (wrote t)) (has_path p (accessed t)) (has_path p t.others) (node_at (after t) p) (node_at tree p) (unchanged tree t o p)

  pub seen_through : overlay tree (marks_of t) ≡ after t
  seen_through = same_trees _ _ (sorted_edits tree (edits_by shown (marks_of t)) is.rising) after_tree.rising seen_at

-- WHAT IS WRITTEN
pub written_by : (w l o : Bool) (there : Option Node) → is_some (read_at written (mark_by w l o there)) ≡ w
written_by true l o None = refl
written_by true l o (Some node) = refl
written_by false true true there = refl
written_by false true false there = refl
written_by false false true there = refl
written_by false false false there = refl

pub written_known : (t : Transaction) (p : Path) → has_path p (written_paths (marks_of t)) ≡ has_path p (wrote t)
written_known t p =
    has_path-by written (marks_of t) p (sorted_of t)
    ∙ ap (λ m. is_some (read_at written m)) (mark_at-of t p)
    ∙ written_by (has_path p (wrote t)) (has_path p (accessed t)) (has_path p t.others) (node_at (after t) p)

-- what stands at a path after the commit
made_by : (w l o : Bool) (there old new : Option Node) → (w ≡ true → new ≡ there) → (w ≡ false → new ≡ old) → or_old (read_at written (mark_by w l o there)) old ≡ new
made_by true l o None old new at elsewhere = sym (at refl)
made_by true l o (Some node) old new at elsewhere = sym (at refl)
made_by false true true there old new at elsewhere = sym (elsewhere refl)
made_by false true false there old new at elsewhere = sym (elsewhere refl)
made_by false false true there old new at elsewhere = sym (elsewhere refl)
made_by false false false there old new at elsewhere = sym (elsewhere refl)

module _ (tree : Tree) (t : Transaction) (is : IsTree tree) (o : IsOpenOver tree t) (free : is_in_conflict t ≡ false) where
  alike : RunsAlike tree t
  alike = runs_alike tree t is o free

  committed_at : (p : Path) → node_at (committed tree (marks_of t)) p ≡ node_at (run_on tree t).tree p
  committed_at p =
      node_at-by written tree (marks_of t) p (sorted_of t)
      ∙ ap (λ m. or_old (read_at written m) (node_at tree p)) (mark_at-of t p)
      ∙ made_by (has_path p (wrote t)) (has_path p (accessed t)) (has_path p t.others) (node_at (after t) p) (node_at tree p) (node_at (run_on tree t).tree p)
      (λ w. alike.nodes p (written_accessed t p w)) (alike.elsewhere p)

  pub commits_agree : committed tree (marks_of t) ≡ (run_on tree t).tree
  commits_agree = same_trees _ _ (sorted_edits tree (edits_by written (marks_of t)) is.rising) (commit_tree tree t is o free).rising committed_at

-- CONFLICT. A mark that says so, and none that does
pub conflict_from : (marks : Marks) (p : Path) → test_at is_conflict (mark_at marks p) ≡ true → has_conflict marks ≡ true
conflict_from [] p = λ h. not_both h refl
conflict_from (e ∷ marks) p =
    elim (same_path p e.0) as (λ b. test_at is_conflict (cond b (Some e.1) (mark_at marks p)) ≡ true → (is_conflict e.1 || has_conflict marks) ≡ true) [
      | true ↦ λ h. or_left _ _ h
      | false ↦ λ h. or_right (is_conflict e.1) _ (conflict_from marks p h)
    ]

none_of : (marks : Marks) → AllByRecursion (λ (e : Path × Mark). is_conflict e.1 ≡ false) marks → has_conflict marks ≡ false
none_of [] h = refl
none_of (e ∷ marks) h = or_from _ _ h.0 (none_of marks h.1)

pub no_conflict : (marks : Marks) → is_sorted path_cmp marks ≡ true → ((p : Path) → test_at is_conflict (mark_at marks p) ≡ false) → has_conflict marks ≡ false
no_conflict marks s free = none_of marks (all_of path_cmp path_total (λ m. is_conflict m ≡ false) marks s (λ p m e. ap (test_at is_conflict) (sym e) ∙ free p))

-- a path that two lists share
some_common : (others ps : List Path) → list_any (λ p. has_path p others) ps ≡ true → (p : Path) × (has_path p ps ≡ true) × (has_path p others ≡ true)
some_common others [] h = not_both h refl
some_common others (q ∷ ps) h =
    elim (has_path q others) as (λ b. has_path q others ≡ b → (b || list_any (λ p. has_path p others) ps) ≡ true → (p : Path) × (has_path p (q ∷ ps) ≡ true) × (has_path p others ≡ true)) [
      | true ↦ λ e _. (q, has_path-here q ps, e)
      | false ↦ λ e later. let one = some_common others ps later in (one.0, or_right (same_path one.0 q) _ one.1, one.2)
    ] refl h

common_from : (others ps : List Path) (p : Path) → has_path p ps ≡ true → has_path p others ≡ true → list_any (λ p. has_path p others) ps ≡ true
common_from others [] p h o = not_both h refl
common_from others (q ∷ ps) p h o =
    elim (same_path p q) as (λ b. same_path p q ≡ b → (b || has_path p ps) ≡ true → (has_path q others || list_any (λ p. has_path p others) ps) ≡ true) [
      | true ↦ λ s _. or_left _ _ (subst (λ r. has_path r others ≡ true) (same_path-is p q s) o)
      | false ↦ λ s later. or_right (has_path q others) _ (common_from others ps p later o)
    ] refl h

conflict_by : (w l o : Bool) (there : Option Node) → (w ≡ true → l ≡ true) → test_at is_conflict (mark_by w l o there) ≡ (l && o)
conflict_by true true o None h = refl
conflict_by true true o (Some node) h = refl
conflict_by true false o there h = not_both (h refl) refl
conflict_by false true true there h = refl
conflict_by false true false there h = refl
conflict_by false false true there h = refl
conflict_by false false false there h = refl

module _ (t : Transaction) where
  conflict_at : (p : Path) → test_at is_conflict (mark_at (marks_of t) p) ≡ (has_path p (accessed t) && has_path p t.others)
  conflict_at p =
      ap (test_at is_conflict) (mark_at-of t p)
      ∙ conflict_by (has_path p (wrote t)) (has_path p (accessed t)) (has_path p t.others) (node_at (after t) p) (written_accessed t p)

  in_conflict : (b : Bool) → is_in_conflict t ≡ b → has_conflict (marks_of t) ≡ b
  in_conflict true e =
      let one = some_common t.others (accessed t) e in
      conflict_from (marks_of t) one.0 (conflict_at one.0 ∙ and_from _ _ one.1 one.2)
  in_conflict false e =
      no_conflict (marks_of t) (sorted_of t) (λ p.
      conflict_at p ∙ false_from_ne_true _ (λ both. let parts = and_parts _ _ both in not_both (common_from t.others (accessed t) p parts.0 parts.1) e))

  pub conflicts_agree : has_conflict (marks_of t) ≡ is_in_conflict t
  conflicts_agree = in_conflict (is_in_conflict t) refl
