-- What stands at a path of a tree with marks: what its mark shows, or else what stands in the tree.
use Rattle.std.proofs.Common.{◌≡◌, Bool, true, false, cond, [], ◌∷◌, Option, Some, None, refl, sym, ap, ◌∙◌}
use Rattle.std.specs.Ordering.{is_eq, is_lt}
use Rattle.std.specs.List.{cons_option}
use Rattle.std.specs.FinMap.{is_sorted}
use Rattle.std.specs.FinMap.Entries.{below_all}
use Rattle.std.proofs.lemmas.Bool.{and_parts}
use Rattle.path_map.proofs.Rising.{is_less}
use Rattle.xs_model.specs.Paths.{Path, path_cmp, same_path}
use Rattle.xs_model.specs.Trees.{Node, Tree, node_at, edited_at, edited}
use Rattle.xs_model.proofs.Maps.{found_put, sorted_put, same_maps}
use Rattle.xs_model.proofs.PathLemmas.{path_total, path_exact, same_path-is}
use Rattle.xs_model.proofs.EditLemmas.{node_at-edited, node_at-edited_at, after_edits, sorted_edit, sorted_edits}
use Rattle.mark_model.specs.Marks.{Mark, Marks, mark_at, is_changed, shown, written, edit_of, edits_by, overlay, committed, written_mark, write}
use Rattle.txn_access.specs.Sights.{shown_over, seen_by, left_by}

-- a path before all marks has none
pub unmarked : (p : Path) (ms : Marks) → below_all path_cmp p ms ≡ true → mark_at ms p ≡ None
unmarked p [] h = refl
unmarked p (e ∷ ms) h =
    let parts = and_parts (is_lt (path_cmp p e.0)) (below_all path_cmp p ms) h in
    ap (λ o. cond (is_eq o) (Some e.1) (mark_at ms p)) (is_less (path_cmp p e.0) parts.0) ∙ unmarked p ms parts.1

-- by one of the two ways of reading marks
module _ (read : Mark → Option (Option Node)) where
  abbrev pub read_by : Option Mark → Option Node → Option Node
  read_by None under = under
  read_by (Some mark) under = shown_over (read mark) under

  absent : (q : Path) (e : Path × Mark) (ms : Marks) → same_path q e.0 ≡ true → below_all path_cmp e.0 ms ≡ true → mark_at ms q ≡ None
  absent q e ms t h = ap (mark_at ms) (same_path-is q e.0 t) ∙ unmarked e.0 ms h

  after_read : (ms : Marks) (q : Path) (old : Option Node) → is_sorted path_cmp ms ≡ true → after_edits (edits_by read ms) q old ≡ read_by (mark_at ms q) old
  after_read [] q old s = refl
  after_read (e ∷ ms) q old s =
      let parts = and_parts (below_all path_cmp e.0 ms) (is_sorted path_cmp ms) s in
      by (read e.1) refl (same_path q e.0) refl parts.0 (λ under. after_read ms q under parts.1)
    where
      by : (new : Option (Option Node)) → read e.1 ≡ new → (b : Bool) → same_path q e.0 ≡ b → below_all path_cmp e.0 ms ≡ true
          → ((under : Option Node) → after_edits (edits_by read ms) q under ≡ read_by (mark_at ms q) under)
          → after_edits (cons_option (edit_of e.0 new) (edits_by read ms)) q old ≡ read_by (cond b (Some e.1) (mark_at ms q)) old
      by None r true t below more = more old ∙ ap (λ m. read_by m old) (absent q e ms t below) ∙ sym (ap (λ n. shown_over n old) r)
      by None r false t below more = more old
      by (Some new) r true t below more =
          ap (λ b. after_edits (edits_by read ms) q (cond b new old)) t
          ∙ more new ∙ ap (λ m. read_by m new) (absent q e ms t below) ∙ sym (ap (λ n. shown_over n old) r)
      by (Some new) r false t below more = ap (λ b. after_edits (edits_by read ms) q (cond b new old)) t ∙ more old

  pub read_at : (tree : Tree) (ms : Marks) (q : Path) → is_sorted path_cmp ms ≡ true → node_at (edited tree (edits_by read ms)) q ≡ read_by (mark_at ms q) (node_at tree q)
  read_at tree ms q s = node_at-edited tree (edits_by read ms) q ∙ after_read ms q (node_at tree q) s

read_shown : (m : Option Mark) (under : Option Node) → read_by shown m under ≡ seen_by m under
read_shown None under = refl
read_shown (Some m) under = refl

pub seen_at : (tree : Tree) (ms : Marks) (q : Path) → is_sorted path_cmp ms ≡ true → node_at (overlay tree ms) q ≡ seen_by (mark_at ms q) (node_at tree q)
seen_at tree ms q s = read_at shown tree ms q s ∙ read_shown (mark_at ms q) (node_at tree q)

read_written : (m : Option Mark) (under : Option Node) → read_by written m under ≡ left_by m under
read_written None under = refl
read_written (Some m) under = refl

-- what a commit leaves
pub left_at : (tree : Tree) (ms : Marks) (q : Path) → is_sorted path_cmp ms ≡ true → node_at (committed tree ms) q ≡ left_by (mark_at ms q) (node_at tree q)
left_at tree ms q s = read_at written tree ms q s ∙ read_written (mark_at ms q) (node_at tree q)

-- A WRITE is seen as the edit
shows_new : (new : Option Node) (others : Bool) (under : Option Node) → seen_by (Some (written_mark new others)) under ≡ new
shows_new None others under = refl
shows_new (Some node) others under = refl

module _ (tree : Tree) (ms : Marks) (p : Path) (new : Option Node) (t : is_sorted path_cmp tree ≡ true) (s : is_sorted path_cmp ms ≡ true) where
  abbrev mark : Mark
  mark = written_mark new (is_changed (mark_at ms p))

  at : (q : Path) (b : Bool) → seen_by (cond b (Some mark) (mark_at ms q)) (node_at tree q) ≡ cond b new (seen_by (mark_at ms q) (node_at tree q))
  at q true = shows_new new (is_changed (mark_at ms p)) (node_at tree q)
  at q false = refl

  pub write_seen : overlay tree (write p new ms) ≡ edited_at (overlay tree ms) p new
  write_seen =
      same_maps path_cmp path_total path_exact (overlay tree (write p new ms)) (edited_at (overlay tree ms) p new)
      (sorted_edits tree (edits_by shown (write p new ms)) t)
      (sorted_edit (overlay tree ms) p new (sorted_edits tree (edits_by shown ms) t))
      (λ q. seen_at tree (write p new ms) q (sorted_put path_cmp path_total p mark ms s)
      ∙ ap (λ m. seen_by m (node_at tree q)) (found_put path_cmp path_total q p mark ms)
      ∙ at q (same_path q p)
      ∙ ap (λ n. cond (same_path q p) new n) (sym (seen_at tree ms q s))
      ∙ sym (node_at-edited_at (overlay tree ms) p new q))
