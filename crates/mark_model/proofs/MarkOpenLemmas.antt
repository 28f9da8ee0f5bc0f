-- Which mark a transaction has at a path, and how it follows its commands and the changes of others.
use Rattle.std.specs.Prelude.{◌≡◌, Bool, true, false, cond, ◌||◌, List, [], ◌∷◌, ◌++◌, Option, Some, None}
use Rattle.std.specs.FinMap.{is_sorted}
use Rattle.std.proofs.Common.{sym, refl, ap, ◌∙◌, append_assoc, append-nil}
use Rattle.std.proofs.lemmas.Bool.{or_parts}
use Rattle.xs_model.specs.Paths.{Path, path_cmp, has_path}
use Rattle.xs_model.specs.Trees.{Node, Tree, node_at, edited, edit_paths}
use Rattle.xs_model.specs.Commands.{Outcome}
use Rattle.xs_model.proofs.Maps.{not_both}
use Rattle.xs_model.proofs.PathLemmas.{has_path-append}
use Rattle.xs_model.proofs.EditLemmas.{node_at-elsewhere}
use Rattle.machine_model.specs.Transactions.{Transaction, Ran, outcome_on, run_list, run_on, after, wrote, accessed, with_command, with_others}
use Rattle.machine_model.specs.Serial.{IsOpenOver}
use Rattle.machine_model.proofs.RunLemmas.{run_list-elsewhere}
use Rattle.mark_model.specs.Marks.{Changed, Kept, mark_at, is_changed, accessed_mark, written_mark, noted_mark, access_all, write_all, note_all}
use Rattle.mark_model.specs.Open.{mark_by, mark_of, marks_of}
use Rattle.mark_model.specs.Stores.{edits_of}
use Rattle.mark_model.proofs.MarkLemmas.{same_marks, remarked_if, written_if, mark_at-marked, sorted_marked, mark_at-access_all, sorted_access_all, mark_at-write_all, sorted_write_all, mark_at-note_all, sorted_note_all}

-- SETS OF PATHS, by the answers of their parts
pub has_wrote : (t : Transaction) (p : Path) → has_path p (wrote t) ≡ (has_path p (edit_paths t.prior.edits) || has_path p (run_on t.copy t).written)
has_wrote t p = has_path-append p (edit_paths t.prior.edits) (run_on t.copy t).written

pub has_accessed : (t : Transaction) (p : Path) → has_path p (accessed t) ≡ (has_path p t.prior.seen || (has_path p (edit_paths t.prior.edits) || (has_path p (run_on t.copy t).touched || has_path p (run_on t.copy t).written)))
has_accessed t p =
    let seen = has_path p t.prior.seen in
    let edits = has_path p (edit_paths t.prior.edits) in
    let run = run_on t.copy t in
    has_path-append p t.prior.seen (edit_paths t.prior.edits ++ (run.touched ++ run.written))
    ∙ ap (λ b. seen || b) (has_path-append p (edit_paths t.prior.edits) (run.touched ++ run.written))
    ∙ ap (λ b. seen || (edits || b)) (has_path-append p run.touched run.written)

part_of : (s e t w : Bool) → (e || w) ≡ true → (s || (e || (t || w))) ≡ true
part_of true e t w h = refl
part_of false true t w h = refl
part_of false false true w h = refl
part_of false false false w h = h

-- a written path counts as accessed
pub written_accessed : (t : Transaction) (p : Path) → has_path p (wrote t) ≡ true → has_path p (accessed t) ≡ true
written_accessed t p h =
    has_accessed t p
    ∙ part_of (has_path p t.prior.seen) (has_path p (edit_paths t.prior.edits)) (has_path p (run_on t.copy t).touched) (has_path p (run_on t.copy t).written) (sym (has_wrote t p) ∙ h)

-- THE MARK AT A PATH, by whether it was written (w), looked at or written (l), and changed by others (o)
listed : (w l o : Bool) (node : Option Node) → (w ≡ true → l ≡ true) → cond (l || o) (mark_by w l o node) None ≡ mark_by w l o node
listed true true o there h = refl
listed true false o there h = not_both (h refl) refl
listed false true o there h = refl
listed false false true there h = refl
listed false false false there h = refl

pub mark_at-of : (t : Transaction) (p : Path) → mark_at (marks_of t) p ≡ mark_of t p
mark_at-of t p =
    mark_at-marked (mark_of t) (accessed t ++ t.others) p
    ∙ ap (λ b. cond b (mark_of t p) None) (has_path-append p (accessed t) t.others)
    ∙ listed (has_path p (wrote t)) (has_path p (accessed t)) (has_path p t.others) (node_at (after t) p) (written_accessed t p)

pub sorted_of : (t : Transaction) → is_sorted path_cmp (marks_of t) ≡ true
sorted_of t = sorted_marked (mark_of t) (accessed t ++ t.others)

pub changed-by : (w l o : Bool) (node : Option Node) → is_changed (mark_by w l o node) ≡ o
changed-by true l o None = refl
changed-by true l o (Some node) = refl
changed-by false true true there = refl
changed-by false true false there = refl
changed-by false false true there = refl
changed-by false false false there = refl

-- ONE MORE COMMAND
record Longer (tree : Tree) (list : List Ran) (ran : Ran) : Type 0 where
  tree_after : (run_list tree (list ++ ran ∷ [])).tree ≡ (outcome_on (run_list tree list).tree ran).tree
  touched : (run_list tree (list ++ ran ∷ [])).touched ≡ (run_list tree list).touched ++ (outcome_on (run_list tree list).tree ran).touched
  written : (run_list tree (list ++ ran ∷ [])).written ≡ (run_list tree list).written ++ (outcome_on (run_list tree list).tree ran).written

longer : (tree : Tree) (list : List Ran) (ran : Ran) → Longer tree list ran
longer tree [] ran = record { tree_after = refl; touched = append-nil (outcome_on tree ran).touched; written = append-nil (outcome_on tree ran).written }
longer tree (first ∷ list) ran =
    let one : Outcome = outcome_on tree first in
    let rest = longer one.tree list ran in
    let last : Outcome = outcome_on (run_list one.tree list).tree ran in
    record {
      tree_after = rest.tree_after;
      touched = ap (λ ps. one.touched ++ ps) rest.touched ∙ sym (append_assoc one.touched (run_list one.tree list).touched last.touched);
      written = ap (λ ps. one.written ++ ps) rest.written ∙ sym (append_assoc one.written (run_list one.tree list).written last.written);
    }

more_wrote : (e w v : Bool) → (e || (w || v)) ≡ ((e || w) || v)
more_wrote true w v = refl
more_wrote false w v = refl

more_accessed : (s e t w u v : Bool) → (s || (e || ((t || u) || (w || v)))) ≡ ((s || (e || (t || w))) || (u || v))
more_accessed true e t w u v = refl
more_accessed false true t w u v = refl
more_accessed false false true w u v = refl
more_accessed false false false true true v = refl
more_accessed false false false true false v = refl
more_accessed false false false false u v = refl

made_one : (w l o : Bool) (node : Option Node) → mark_by (w || true) l o node ≡ Some (written_mark node o)
made_one true l o None = refl
made_one true l o (Some node) = refl
made_one false l o None = refl
made_one false l o (Some node) = refl

looked_made : (u o : Bool) (node : Option Node) → remarked_if accessed_mark u (Some (written_mark node o)) ≡ Some (written_mark node o)
looked_made true o None = refl
looked_made true o (Some node) = refl
looked_made false o there = refl

looked_more : (w l o u : Bool) (node : Option Node) → mark_by (w || false) (l || (u || false)) o node ≡ remarked_if accessed_mark u (mark_by w l o node)
looked_more true l o true None = refl
looked_more true l o true (Some node) = refl
looked_more true l o false None = refl
looked_more true l o false (Some node) = refl
looked_more false true true true there = refl
looked_more false true true false there = refl
looked_more false true false true there = refl
looked_more false true false false there = refl
looked_more false false true true there = refl
looked_more false false true false there = refl
looked_more false false false true there = refl
looked_more false false false false there = refl

-- the mark after a command that looked at the path or not, and wrote it or not
one_more : (w l o u v : Bool) (first last : Option Node) → (v ≡ false → last ≡ first) → mark_by (w || v) (l || (u || v)) o last ≡ remarked_if accessed_mark u (written_if v last (mark_by w l o first))
one_more w l o u true first last same =
    made_one w (l || (u || true)) o last
    ∙ sym (looked_made u o last)
    ∙ ap (λ b. remarked_if accessed_mark u (Some (written_mark last b))) (sym (changed-by w l o first))
one_more w l o u false first last same = ap (mark_by (w || false) (l || (u || false)) o) (same refl) ∙ looked_more w l o u first

module _ (t : Transaction) (ran : Ran) where
  abbrev base : Tree
  base = edited t.copy t.prior.edits

  abbrev next : Outcome
  next = outcome_on (after t) ran

  grown : Longer base t.list ran
  grown = longer base t.list ran

  wrote_more : (p : Path) → has_path p (wrote (with_command ran t)) ≡ (has_path p (wrote t) || has_path p next.written)
  wrote_more p =
      let edits = has_path p (edit_paths t.prior.edits) in
      let run = run_on t.copy t in
      has_wrote (with_command ran t) p
      ∙ ap (λ ps. edits || has_path p ps) grown.written
      ∙ ap (λ b. edits || b) (has_path-append p run.written next.written)
      ∙ more_wrote edits (has_path p run.written) (has_path p next.written)
      ∙ ap (λ b. b || has_path p next.written) (sym (has_wrote t p))

  accessed_more : (p : Path) → has_path p (accessed (with_command ran t)) ≡ (has_path p (accessed t) || (has_path p next.touched || has_path p next.written))
  accessed_more p =
      let seen = has_path p t.prior.seen in
      let edits = has_path p (edit_paths t.prior.edits) in
      let run = run_on t.copy t in
      has_accessed (with_command ran t) p
      ∙ ap (λ ps. seen || (edits || (has_path p ps || has_path p (run_list base (t.list ++ ran ∷ [])).written))) grown.touched
      ∙ ap (λ ps. seen || (edits || (has_path p (run.touched ++ next.touched) || has_path p ps))) grown.written
      ∙ ap (λ b. seen || (edits || (b || has_path p (run.written ++ next.written)))) (has_path-append p run.touched next.touched)
      ∙ ap (λ b. seen || (edits || ((has_path p run.touched || has_path p next.touched) || b))) (has_path-append p run.written next.written)
      ∙ more_accessed seen edits (has_path p run.touched) (has_path p run.written) (has_path p next.touched) (has_path p next.written)
      ∙ ap (λ b. b || (has_path p next.touched || has_path p next.written)) (sym (has_accessed t p))

  mark_more : (p : Path) → mark_of (with_command ran t) p ≡ remarked_if accessed_mark (has_path p next.touched) (written_if (has_path p next.written) (node_at next.tree p) (mark_of t p))
  mark_more p =
      ap (λ b. mark_by b (has_path p (accessed (with_command ran t))) (has_path p t.others) (node_at (after (with_command ran t)) p)) (wrote_more p)
      ∙ ap (λ b. mark_by (has_path p (wrote t) || has_path p next.written) b (has_path p t.others) (node_at (after (with_command ran t)) p)) (accessed_more p)
      ∙ ap (λ tree. mark_by (has_path p (wrote t) || has_path p next.written) (has_path p (accessed t) || (has_path p next.touched || has_path p next.written)) (has_path p t.others) (node_at tree p)) grown.tree_after
      ∙ one_more (has_path p (wrote t)) (has_path p (accessed t)) (has_path p t.others) (has_path p next.touched) (has_path p next.written) (node_at (after t) p) (node_at next.tree p)
      (node_at-elsewhere (after t) (edits_of (after t) ran) p)

  marks_more : (p : Path) → mark_at (marks_of (with_command ran t)) p ≡ mark_at (access_all next.touched (write_all (edits_of (after t) ran) (marks_of t))) p
  marks_more p =
      let written = write_all (edits_of (after t) ran) (marks_of t) in
      mark_at-of (with_command ran t) p
      ∙ mark_more p
      ∙ ap (λ m. remarked_if accessed_mark (has_path p next.touched) (written_if (has_path p next.written) (node_at next.tree p) m)) (sym (mark_at-of t p))
      ∙ ap (remarked_if accessed_mark (has_path p next.touched)) (sym (mark_at-write_all (after t) (edits_of (after t) ran) (marks_of t) p))
      ∙ sym (mark_at-access_all next.touched written p)

  pub command_marks : marks_of (with_command ran t) ≡ access_all next.touched (write_all (edits_of (after t) ran) (marks_of t))
  command_marks =
      same_marks _ _ (sorted_of (with_command ran t))
      (sorted_access_all next.touched _ (sorted_write_all (edits_of (after t) ran) (marks_of t) (sorted_of t))) marks_more

-- OTHERS
-- the mark after others changed the path, or not. `old` is what stands in the tree.
noted_more : (w l o x : Bool) (node old : Option Node) → (w ≡ false → o ≡ false → node ≡ old) → mark_by w l (o || x) node ≡ remarked_if (noted_mark old) x (mark_by w l o node)
noted_more true l true true None old same = refl
noted_more true l true true (Some node) old same = refl
noted_more true l true false None old same = refl
noted_more true l true false (Some node) old same = refl
noted_more true l false true None old same = refl
noted_more true l false true (Some node) old same = refl
noted_more true l false false None old same = refl
noted_more true l false false (Some node) old same = refl
noted_more false true true true there old same = refl
noted_more false true true false there old same = refl
noted_more false true false true there old same = ap (λ n. Some (Changed n)) (same refl refl)
noted_more false true false false there old same = refl
noted_more false false true true there old same = refl
noted_more false false true false there old same = refl
noted_more false false false true there old same = ap (λ n. Some (Kept n)) (same refl refl)
noted_more false false false false there old same = refl

module _ (tree : Tree) (t : Transaction) (o : IsOpenOver tree t) where
  -- where it wrote nothing, and others changed nothing, it sees what stands in the tree
  pub unchanged : (p : Path) → has_path p (wrote t) ≡ false → has_path p t.others ≡ false → node_at (after t) p ≡ node_at tree p
  unchanged p w h =
      let parts = or_parts (has_path p (edit_paths t.prior.edits)) (has_path p (run_on t.copy t).written) (sym (has_wrote t p) ∙ w) in
      run_list-elsewhere (edited t.copy t.prior.edits) t.list p parts.1
      ∙ o.nodes p h
      ∙ node_at-elsewhere tree t.prior.edits p parts.0

  module _ (paths : List Path) where
    marks_noted : (p : Path) → mark_at (marks_of (with_others paths t)) p ≡ mark_at (note_all tree paths (marks_of t)) p
    marks_noted p =
        mark_at-of (with_others paths t) p
        ∙ ap (λ b. mark_by (has_path p (wrote t)) (has_path p (accessed t)) b (node_at (after t) p)) (has_path-append p t.others paths)
        ∙ noted_more (has_path p (wrote t)) (has_path p (accessed t)) (has_path p t.others) (has_path p paths) (node_at (after t) p) (node_at tree p) (unchanged p)
        ∙ ap (remarked_if (noted_mark (node_at tree p)) (has_path p paths)) (sym (mark_at-of t p))
        ∙ sym (mark_at-note_all tree paths (marks_of t) p)

    pub others_noted : marks_of (with_others paths t) ≡ note_all tree paths (marks_of t)
    others_noted = same_marks _ _ (sorted_of (with_others paths t)) (sorted_note_all tree paths (marks_of t) (sorted_of t)) marks_noted
