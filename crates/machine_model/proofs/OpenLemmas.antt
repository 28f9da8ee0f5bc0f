-- An open transaction and the current tree: what is kept when others change the tree, and what its commands get of it.
use Rattle.std.specs.Prelude.{◌≡◌, Bool, true, false, ◌&&◌, ◌||◌, List, [], ◌∷◌, ◌++◌, Some, is_some}
use Rattle.std.specs.List.{list_any}
use Rattle.std.specs.FinMap.{is_sorted}
use Rattle.std.proofs.Common.{sym, refl, ap, subst, ◌∙◌, append_assoc}
use Rattle.std.proofs.lemmas.Bool.{or_parts}
use Rattle.xs_model.specs.Paths.{Name, Path, path_cmp, same_path, has_path, child}
use Rattle.xs_model.specs.Trees.{Node, Tree, node_at, is_present, has_entry, Edit, edited, edit_paths, IsTree}
use Rattle.xs_model.specs.Changes.{changed_paths}
use Rattle.xs_model.proofs.Maps.{not_both, all_of}
use Rattle.xs_model.proofs.PathLemmas.{path_total, same_path-is, has_path-append, has_path-left, has_path-right}
use Rattle.xs_model.proofs.EditLemmas.{node_at-elsewhere, node_at-written, sorted_edits}
use Rattle.xs_model.proofs.TreeLemmas.{has_entries}
use Rattle.xs_model.proofs.AlikeLemmas.{Misses, AlikeOutside, misses-left, misses-right}
use Rattle.xs_model.proofs.AnswerLemmas.{edited_alike}
use Rattle.xs_model.proofs.ChangeLemmas.{outside-both, changed_alike}
use Rattle.machine_model.specs.Transactions.{Transaction, run_on, after, wrote, accessed, is_in_conflict, with_others}
use Rattle.machine_model.specs.Serial.{RunsAlike, IsOpenOver}
use Rattle.machine_model.proofs.RunLemmas.{run_list-tree, run_list-elsewhere, SameEnding, same_ending}

-- NO CONFLICT
none_common : (others ps : List Path) → list_any (λ p. has_path p others) ps ≡ false → Misses others ps
none_common others [] h p e = not_both e refl
none_common others (q ∷ ps) h p e =
    let parts = or_parts (has_path q others) (list_any (λ p. has_path p others) ps) h in
    elim (same_path p q) as (λ b. same_path p q ≡ b → (b || has_path p ps) ≡ true → has_path p others ≡ false) [
      | true ↦ λ s _. ap (λ r. has_path r others) (same_path-is p q s) ∙ parts.0
      | false ↦ λ s f. none_common others ps parts.1 p f
    ] refl e

first_false : (a b c : Bool) → (a && (b || c)) ≡ false → (a && b) ≡ false
first_false false b c h = refl
first_false true b c h = (or_parts b c h).0

-- ANOTHER'S CHANGE
pub told_open : (before after : Tree) (written : List Path) (t : Transaction) → ((q : Path) → has_path q written ≡ false → node_at after q ≡ node_at before q)
    → IsOpenOver before t → IsOpenOver after (with_others (changed_paths before written after) t)
told_open before after written t frame o =
    let changed : List Path = changed_paths before written after in
    let alike : AlikeOutside changed (edited before t.prior.edits) (edited after t.prior.edits) = edited_alike changed before after t.prior.edits (changed_alike before after written frame) in
    record {
      copy = o.copy;
      began = o.began;
      nodes = λ p h. let parts = outside-both p t.others changed h in o.nodes p parts.0 ∙ alike.nodes p parts.1;
      children = λ p n h x.
          let parts = outside-both p t.others changed h in
          let c : Path = child p n in
          o.children p n parts.0 (first_false (has_path c t.prior.seen) (has_path c t.others) (has_path c changed) (ap (λ b. has_path c t.prior.seen && b) (sym (has_path-append c t.others changed)) ∙ x))
          ∙ alike.children p n parts.1;
      parents = λ p n w h there gone.
          let c : Path = child p n in
          let parts = outside-both c t.others changed h in
          o.parents p n w parts.0 there (ap is_some ((changed_alike before after written frame).nodes c parts.1) ∙ gone);
    }

-- THE CURRENT TREE UNDER A TRANSACTION WITHOUT CONFLICT
module _ (tree : Tree) (t : Transaction) (is : IsTree tree) (o : IsOpenOver tree t) (free : is_in_conflict t ≡ false) where
  abbrev es : List Edit
  es = t.prior.edits

  missed : Misses t.others (accessed t)
  missed = none_common t.others (accessed t) free

  seen_outside : (p : Path) → has_path p (t.prior.seen ++ edit_paths es) ≡ true → has_path p t.others ≡ false
  seen_outside p h = missed p (
      subst (λ ps. has_path p ps ≡ true) (append_assoc t.prior.seen (edit_paths es) _)
      (has_path-left p (t.prior.seen ++ edit_paths es) ((run_on t.copy t).touched ++ (run_on t.copy t).written) h))

  written_outside : (p : Path) → has_path p (edit_paths es) ≡ true → has_path p t.others ≡ false
  written_outside p h = seen_outside p (has_path-right p t.prior.seen (edit_paths es) h)

  seen_none : (p : Path) (b : Bool) → has_path p t.prior.seen ≡ b → (b && has_path p t.others) ≡ false
  seen_none p true e = seen_outside p (has_path-left p t.prior.seen (edit_paths es) e)
  seen_none p false e = refl

  base_alike : AlikeOutside t.others (edited t.copy es) (edited tree es)
  base_alike = record {
    nodes = o.nodes;
    children = λ p n h. o.children p n h (seen_none (child p n) (has_path (child p n) t.prior.seen) refl);
  }

  root_by : (b : Bool) → has_path [] (edit_paths es) ≡ b → is_present (edited tree es) [] ≡ true
  root_by true w = ap is_some (node_at-written tree t.copy es [] w) ∙ o.began.root
  root_by false w = ap is_some (node_at-elsewhere tree es [] w) ∙ is.root

  -- p was brought along too, so the copy and the tree agree on it
  parent_of_copy : (p : Path) (n : Name) → has_path p (t.prior.seen ++ edit_paths es) ≡ true → is_present (edited t.copy es) (child p n) ≡ true → is_present (edited tree es) p ≡ true
  parent_of_copy p n seen there = ap is_some (sym (o.nodes p (seen_outside p seen))) ∙ o.began.parents p n there

  parent_of_old : (p : Path) (n : Name) (b : Bool) → has_path p (edit_paths es) ≡ b → is_present (edited t.copy es) (child p n) ≡ true → is_present tree (child p n) ≡ true → is_present (edited tree es) p ≡ true
  parent_of_old p n true w there old = parent_of_copy p n (has_path-right p t.prior.seen (edit_paths es) w) there
  parent_of_old p n false w there old = ap is_some (node_at-elsewhere tree es p w) ∙ is.parents p n old

  -- p's child was brought along as written: it is in the copy, and in the current tree or not
  parent_of_written : (p : Path) (n : Name) (b : Bool) → is_present tree (child p n) ≡ b → has_path (child p n) (edit_paths es) ≡ true → is_present (edited t.copy es) (child p n) ≡ true → is_present (edited tree es) p ≡ true
  parent_of_written p n true old w there = parent_of_old p n (has_path p (edit_paths es)) refl there old
  parent_of_written p n false old w there = parent_of_copy p n (o.parents p n w (written_outside (child p n) w) there old) there

  parent_of_other : (p : Path) (n : Name) (b : Bool) → has_path p (edit_paths es) ≡ b → is_present tree (child p n) ≡ true → is_present (edited tree es) (child p n) ≡ true → is_present (edited tree es) p ≡ true
  parent_of_other p n true w old h =
      ap is_some (sym (o.nodes p (written_outside p w))) ∙ o.began.parents p n (base_alike.children p n (written_outside p w) ∙ h)
  parent_of_other p n false w old h = ap is_some (node_at-elsewhere tree es p w) ∙ is.parents p n old

  parent_by : (p : Path) (n : Name) (b : Bool) → has_path (child p n) (edit_paths es) ≡ b → is_present (edited tree es) (child p n) ≡ true → is_present (edited tree es) p ≡ true
  parent_by p n true w h = parent_of_written p n (is_present tree (child p n)) refl w (ap is_some (node_at-written t.copy tree es (child p n) w) ∙ h)
  parent_by p n false w h = parent_of_other p n (has_path p (edit_paths es)) refl (sym (ap is_some (node_at-elsewhere tree es (child p n) w)) ∙ h) h

  entry_by : (p : Path) (node : Node) (b : Bool) → has_path p (edit_paths es) ≡ b → node_at (edited tree es) p ≡ Some node → has_entry node.perms ≡ true
  entry_by p node true w e = has_entries (edited t.copy es) o.began p node (node_at-written t.copy tree es p w ∙ e)
  entry_by p node false w e = has_entries tree is p node (sym (node_at-elsewhere tree es p w) ∙ e)

  -- the current tree with what it brought along
  base_tree : IsTree (edited tree es)
  base_tree =
      let rising : is_sorted path_cmp (edited tree es) ≡ true = sorted_edits tree es is.rising in
      record {
        rising = rising;
        root = root_by (has_path [] (edit_paths es)) refl;
        parents = λ p n. parent_by p n (has_path (child p n) (edit_paths es)) refl;
        perms = all_of path_cmp path_total (λ node. has_entry node.perms ≡ true) (edited tree es) rising (λ p node. entry_by p node (has_path p (edit_paths es)) refl);
      }

  runs_missed : Misses t.others ((run_on t.copy t).touched ++ (run_on t.copy t).written)
  runs_missed = misses-right t.others (edit_paths es) _ (misses-right t.others t.prior.seen _ missed)

  same_run : SameEnding t.others (run_on t.copy t) (run_on tree t)
  same_run =
      same_ending t.others (edited t.copy es) (edited tree es) t.list base_alike o.began base_tree
      (misses-left t.others (run_on t.copy t).touched (run_on t.copy t).written runs_missed)
      (misses-right t.others (run_on t.copy t).touched (run_on t.copy t).written runs_missed)

  pub commit_tree : IsTree (run_on tree t).tree
  commit_tree = run_list-tree (edited tree es) t.list base_tree

  pub commit-elsewhere : (q : Path) → has_path q (wrote t) ≡ false → node_at (run_on tree t).tree q ≡ node_at tree q
  commit-elsewhere q h =
      let parts = outside-both q (edit_paths es) (run_on t.copy t).written h in
      run_list-elsewhere (edited tree es) t.list q (ap (has_path q) (sym same_run.written) ∙ parts.1) ∙ node_at-elsewhere tree es q parts.0

  -- THE LAW OF SERIAL COMMIT, for one transaction
  pub runs_alike : RunsAlike tree t
  runs_alike = record {
    replies = sym same_run.replies;
    written = sym same_run.written;
    nodes = λ p h. sym (same_run.alike.nodes p (missed p h));
    elsewhere = commit-elsewhere;
  }
