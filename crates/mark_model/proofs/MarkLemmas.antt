-- What stands at a path after marks became others, and that marks stay in order.
use Rattle.std.specs.Prelude.{◌≡◌, Bool, true, false, cond, ◌||◌, List, [], ◌∷◌, Option, Some, None}
use Rattle.std.specs.FinMap.{is_sorted}
use Rattle.std.proofs.Common.{sym, refl, ap, ◌∙◌}
use Rattle.xs_model.specs.Paths.{Path, path_cmp, same_path, has_path}
use Rattle.xs_model.specs.Trees.{Node, Tree, node_at, Edit, edited, edit_paths}
use Rattle.xs_model.proofs.Maps.{sorted_put, found_put, same_maps}
use Rattle.xs_model.proofs.PathLemmas.{path_total, path_exact, same_path-is}
use Rattle.xs_model.proofs.EditLemmas.{after_edits, node_at-edited, after-elsewhere}
use Rattle.mark_model.specs.Marks.{Mark, Seen, Changed, Wrote, Gone, Kept, Marks, mark_at, is_changed, remarked, accessed_mark, written_mark, noted_mark, access, write, note, access_all, write_all, note_all}
use Rattle.mark_model.specs.Open.{put_if, marked}

-- marks in order that answer alike are the same
pub same_marks : (a b : Marks) → is_sorted path_cmp a ≡ true → is_sorted path_cmp b ≡ true → ((p : Path) → mark_at a p ≡ mark_at b p) → a ≡ b
same_marks a b s t same = same_maps path_cmp path_total path_exact a b s t same

found_at : (p q : Path) (b : Bool) (x y : Path → Option Mark) → same_path p q ≡ b → cond b (x q) (y p) ≡ cond b (x p) (y p)
found_at p q true x y e = ap x (sym (same_path-is p q e))
found_at p q false x y e = refl

mark_at-remarked : (become : Path → Option Mark → Mark) (q : Path) (marks : Marks) (p : Path) → mark_at (remarked (become q) q marks) p ≡ cond (same_path p q) (Some (become p (mark_at marks p))) (mark_at marks p)
mark_at-remarked become q marks p =
    found_put path_cmp path_total p q (become q (mark_at marks q)) marks
    ∙ found_at p q (same_path p q) (λ r. Some (become r (mark_at marks r))) (mark_at marks) refl

sorted_remarked : (become : Option Mark → Mark) (p : Path) (marks : Marks) → is_sorted path_cmp marks ≡ true → is_sorted path_cmp (remarked become p marks) ≡ true
sorted_remarked become p marks h = sorted_put path_cmp path_total p (become (mark_at marks p)) marks h

-- A CHANGE THAT IS MADE TWICE is made once
abbrev pub remarked_if : (Option Mark → Mark) → Bool → Option Mark → Option Mark
remarked_if become b mark = cond b (Some (become mark)) mark

twice : (become : Option Mark → Mark) → ((mark : Option Mark) → become (Some (become mark)) ≡ become mark) → (b c : Bool) (mark : Option Mark) → remarked_if become c (remarked_if become b mark) ≡ remarked_if become (b || c) mark
twice become same true true mark = ap (λ m. Some m) (same mark)
twice become same true false mark = refl
twice become same false c mark = refl

accessed_twice : (mark : Option Mark) → accessed_mark (Some (accessed_mark mark)) ≡ accessed_mark mark
accessed_twice None = refl
accessed_twice (Some Seen) = refl
accessed_twice (Some (Changed old)) = refl
accessed_twice (Some (Wrote others node)) = refl
accessed_twice (Some (Gone others)) = refl
accessed_twice (Some (Kept old)) = refl

noted_twice : (old : Option Node) (mark : Option Mark) → noted_mark old (Some (noted_mark old mark)) ≡ noted_mark old mark
noted_twice old None = refl
noted_twice old (Some Seen) = refl
noted_twice old (Some (Changed first)) = refl
noted_twice old (Some (Wrote others node)) = refl
noted_twice old (Some (Gone others)) = refl
noted_twice old (Some (Kept first)) = refl

-- LOOKED AT
pub mark_at-access_all : (ps : List Path) (marks : Marks) (p : Path) → mark_at (access_all ps marks) p ≡ remarked_if accessed_mark (has_path p ps) (mark_at marks p)
mark_at-access_all [] marks p = refl
mark_at-access_all (q ∷ ps) marks p =
    mark_at-access_all ps (access q marks) p
    ∙ ap (remarked_if accessed_mark (has_path p ps)) (mark_at-remarked (λ _. accessed_mark) q marks p)
    ∙ twice accessed_mark accessed_twice (same_path p q) (has_path p ps) (mark_at marks p)

pub sorted_access_all : (ps : List Path) (marks : Marks) → is_sorted path_cmp marks ≡ true → is_sorted path_cmp (access_all ps marks) ≡ true
sorted_access_all [] marks h = h
sorted_access_all (p ∷ ps) marks h = sorted_access_all ps (access p marks) (sorted_remarked accessed_mark p marks h)

-- CHANGED BY OTHERS
pub mark_at-note_all : (tree : Tree) (ps : List Path) (marks : Marks) (p : Path) → mark_at (note_all tree ps marks) p ≡ remarked_if (noted_mark (node_at tree p)) (has_path p ps) (mark_at marks p)
mark_at-note_all tree [] marks p = refl
mark_at-note_all tree (q ∷ ps) marks p =
    mark_at-note_all tree ps (note q (node_at tree q) marks) p
    ∙ ap (remarked_if (noted_mark (node_at tree p)) (has_path p ps)) (mark_at-remarked (λ r. noted_mark (node_at tree r)) q marks p)
    ∙ twice (noted_mark (node_at tree p)) (noted_twice (node_at tree p)) (same_path p q) (has_path p ps) (mark_at marks p)

pub sorted_note_all : (tree : Tree) (ps : List Path) (marks : Marks) → is_sorted path_cmp marks ≡ true → is_sorted path_cmp (note_all tree ps marks) ≡ true
sorted_note_all tree [] marks h = h
sorted_note_all tree (p ∷ ps) marks h = sorted_note_all tree ps (note p (node_at tree p) marks) (sorted_remarked (noted_mark (node_at tree p)) p marks h)

-- WRITTEN
abbrev pub written_if : Bool → Option Node → Option Mark → Option Mark
written_if b node mark = cond b (Some (written_mark node (is_changed mark))) mark

pub changed-written : (node : Option Node) (others : Bool) → is_changed (Some (written_mark node others)) ≡ others
changed-written None others = refl
changed-written (Some node) others = refl

written_twice : (has : Bool) (first last : Option Node) (mark : Option Mark) → (has ≡ false → last ≡ first) → written_if has last (written_if true first mark) ≡ written_if true last mark
written_twice true first last mark same = ap (λ others. Some (written_mark last others)) (changed-written first (is_changed mark))
written_twice false first last mark same = ap (λ node. Some (written_mark node (is_changed mark))) (sym (same refl))

written_by_edits : (es : List Edit) (marks : Marks) (p : Path) (old : Option Node) → mark_at (write_all es marks) p ≡ written_if (has_path p (edit_paths es)) (after_edits es p old) (mark_at marks p)
written_by_edits [] marks p old = refl
written_by_edits (e ∷ es) marks p old =
    let has = has_path p (edit_paths es) in
    written_by_edits es (write e.0 e.1 marks) p (cond (same_path p e.0) e.1 old)
    ∙ ap (written_if has (after_edits es p (cond (same_path p e.0) e.1 old))) (mark_at-remarked (λ _ mark. written_mark e.1 (is_changed mark)) e.0 marks p)
    ∙ elim (same_path p e.0) as (λ b. written_if has (after_edits es p (cond b e.1 old)) (written_if b e.1 (mark_at marks p)) ≡ written_if (b || has) (after_edits es p (cond b e.1 old)) (mark_at marks p)) [
      | true ↦ written_twice has e.1 (after_edits es p e.1) (mark_at marks p) (after-elsewhere es p e.1)
      | false ↦ refl
    ]

-- what edits of any tree write at a path
pub mark_at-write_all : (tree : Tree) (es : List Edit) (marks : Marks) (p : Path) → mark_at (write_all es marks) p ≡ written_if (has_path p (edit_paths es)) (node_at (edited tree es) p) (mark_at marks p)
mark_at-write_all tree es marks p =
    written_by_edits es marks p (node_at tree p)
    ∙ ap (λ node. written_if (has_path p (edit_paths es)) node (mark_at marks p)) (sym (node_at-edited tree es p))

pub sorted_write_all : (es : List Edit) (marks : Marks) → is_sorted path_cmp marks ≡ true → is_sorted path_cmp (write_all es marks) ≡ true
sorted_write_all [] marks h = h
sorted_write_all (e ∷ es) marks h = sorted_write_all es (write e.0 e.1 marks) (sorted_remarked (λ mark. written_mark e.1 (is_changed mark)) e.0 marks h)

-- PATHS THAT ARE MARKED
sorted_put_if : (p : Path) (mark : Option Mark) (marks : Marks) → is_sorted path_cmp marks ≡ true → is_sorted path_cmp (put_if p mark marks) ≡ true
sorted_put_if p None marks h = h
sorted_put_if p (Some mark) marks h = sorted_put path_cmp path_total p mark marks h

pub sorted_marked : (mark : Path → Option Mark) (ps : List Path) → is_sorted path_cmp (marked mark ps) ≡ true
sorted_marked mark [] = refl
sorted_marked mark (p ∷ ps) = sorted_put_if p (mark p) (marked mark ps) (sorted_marked mark ps)

module _ (mark : Path → Option Mark) where
  none_there : (b c : Bool) (m : Option Mark) → (b ≡ true → m ≡ None) → cond c m None ≡ cond (b || c) m None
  none_there true true m e = refl
  none_there true false m e = sym (e refl)
  none_there false c m e = refl

  some_there : (b c : Bool) (m x : Option Mark) → (b ≡ true → m ≡ x) → cond b x (cond c m None) ≡ cond (b || c) m None
  some_there true c m x e = sym (e refl)
  some_there false c m x e = refl

  put_there : (p q : Path) (m : Option Mark) (marks : Marks) (has : Bool) → mark q ≡ m → mark_at marks p ≡ cond has (mark p) None → mark_at (put_if q m marks) p ≡ cond (same_path p q || has) (mark p) None
  put_there p q None marks has e h = h ∙ none_there (same_path p q) has (mark p) (λ s. ap mark (same_path-is p q s) ∙ e)
  put_there p q (Some m) marks has e h =
      found_put path_cmp path_total p q m marks
      ∙ ap (cond (same_path p q) (Some m)) h
      ∙ some_there (same_path p q) has (mark p) (Some m) (λ s. ap mark (same_path-is p q s) ∙ e)

  pub mark_at-marked : (ps : List Path) (p : Path) → mark_at (marked mark ps) p ≡ cond (has_path p ps) (mark p) None
  mark_at-marked [] p = refl
  mark_at-marked (q ∷ ps) p = put_there p q (mark q) (marked mark ps) (has_path p ps) refl (mark_at-marked ps p)
