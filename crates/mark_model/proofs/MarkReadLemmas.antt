-- What the edits that marks are leave at a path, and which paths marks pick.
use Rattle.std.specs.Prelude.{◌≡◌, Bool, true, false, cond, ◌&&◌, ◌||◌, List, [], ◌∷◌, Option, Some, None, is_some}
use Rattle.std.specs.List.{cons_option}
use Rattle.std.specs.FinMap.{is_sorted}
use Rattle.std.specs.Ordering.{is_eq, is_lt}
use Rattle.std.specs.declared.cmp.Ordering.{Ordering}
use Rattle.std.specs.declared.cmp.Ordering.TheVariants.{Less, Equal, Greater}
use Rattle.std.specs.FinMap.Entries.{below_all}
use Rattle.std.proofs.Common.{sym, refl, ap, subst, ◌∙◌}
use Rattle.std.proofs.lemmas.Bool.{and_parts}
use Rattle.xs_model.specs.Paths.{Path, path_cmp, same_path, has_path}
use Rattle.xs_model.specs.Trees.{Node, Tree, node_at, Edit, edited, edit_paths}
use Rattle.xs_model.proofs.Maps.{not_both}
use Rattle.xs_model.proofs.PathLemmas.{same_path-is}
use Rattle.xs_model.proofs.EditLemmas.{after_edits, node_at-edited}
use Rattle.mark_model.specs.Marks.{Mark, Marks, mark_at, edit_of, edits_by}
use Rattle.mark_model.specs.Open.{paths_by}

-- what a reading, or a test, says where there may be no mark
abbrev pub read_at : (Mark → Option (Option Node)) → Option Mark → Option (Option Node)
read_at read None = None
read_at read (Some mark) = read mark

abbrev pub test_at : (Mark → Bool) → Option Mark → Bool
test_at test None = false
test_at test (Some mark) = test mark

-- what was there, where a reading says nothing
abbrev pub or_old : Option (Option Node) → Option Node → Option Node
or_old None old = old
or_old (Some new) old = new

either : (b : Bool) (old : Option Node) → cond b old old ≡ old
either true old = refl
either false old = refl

or_none : (b : Bool) → (b || false) ≡ b
or_none true = refl
or_none false = refl

-- behind the first mark there is none at its path
less_misses : (o : Ordering) (mark : Mark) (later : Option Mark) → is_lt o ≡ true → cond (is_eq o) (Some mark) later ≡ later
less_misses Less mark later h = refl
less_misses Equal mark later h = not_both h refl
less_misses Greater mark later h = not_both h refl

none_below : (p : Path) (marks : Marks) → below_all path_cmp p marks ≡ true → mark_at marks p ≡ None
none_below p [] h = refl
none_below p (e ∷ marks) h =
    let parts = and_parts (is_lt (path_cmp p e.0)) (below_all path_cmp p marks) h in
    less_misses (path_cmp p e.0) e.1 (mark_at marks p) parts.0 ∙ none_below p marks parts.1

none_behind : (p q : Path) (marks : Marks) → below_all path_cmp q marks ≡ true → same_path p q ≡ true → mark_at marks p ≡ None
none_behind p q marks below e = none_below p marks (subst (λ r. below_all path_cmp r marks ≡ true) (sym (same_path-is p q e)) below)

module _ (read : Mark → Option (Option Node)) where
  -- THE EDITS
  first_edit : (p q : Path) (r : Option (Option Node)) (es : List Edit) (old : Option Node) → after_edits (cons_option (edit_of q r) es) p old ≡ after_edits es p (cond (same_path p q) (or_old r old) old)
  first_edit p q None es old = ap (after_edits es p) (sym (either (same_path p q) old))
  first_edit p q (Some new) es old = refl

  first_read : (b : Bool) (mark : Mark) (later : Option Mark) (old : Option Node) → (b ≡ true → later ≡ None) → or_old (read_at read later) (cond b (or_old (read mark) old) old) ≡ or_old (read_at read (cond b (Some mark) later)) old
  first_read true mark later old e = ap (λ m. or_old (read_at read m) (or_old (read mark) old)) (e refl)
  first_read false mark later old e = refl

  after-by : (marks : Marks) (p : Path) (old : Option Node) → is_sorted path_cmp marks ≡ true → after_edits (edits_by read marks) p old ≡ or_old (read_at read (mark_at marks p)) old
  after-by [] p old h = refl
  after-by (e ∷ marks) p old h =
      let parts = and_parts (below_all path_cmp e.0 marks) (is_sorted path_cmp marks) h in
      first_edit p e.0 (read e.1) (edits_by read marks) old
      ∙ after-by marks p (cond (same_path p e.0) (or_old (read e.1) old) old) parts.1
      ∙ first_read (same_path p e.0) e.1 (mark_at marks p) old (none_behind p e.0 marks parts.0)

  pub node_at-by : (tree : Tree) (marks : Marks) (p : Path) → is_sorted path_cmp marks ≡ true → node_at (edited tree (edits_by read marks)) p ≡ or_old (read_at read (mark_at marks p)) (node_at tree p)
  node_at-by tree marks p h = node_at-edited tree (edits_by read marks) p ∙ after-by marks p (node_at tree p) h

  -- and their paths
  first_path : (p q : Path) (r : Option (Option Node)) (es : List Edit) → has_path p (edit_paths (cons_option (edit_of q r) es)) ≡ ((same_path p q && is_some r) || has_path p (edit_paths es))
  first_path p q None es = elim (same_path p q) as (λ b. has_path p (edit_paths es) ≡ ((b && false) || has_path p (edit_paths es))) [ true ↦ refl | false ↦ refl ]
  first_path p q (Some new) es = elim (same_path p q) as (λ b. (b || has_path p (edit_paths es)) ≡ ((b && true) || has_path p (edit_paths es))) [ true ↦ refl | false ↦ refl ]

  first_has : (b : Bool) (mark : Mark) (later : Option Mark) → (b ≡ true → later ≡ None) → ((b && is_some (read mark)) || is_some (read_at read later)) ≡ is_some (read_at read (cond b (Some mark) later))
  first_has true mark later e = ap (λ m. is_some (read mark) || is_some (read_at read m)) (e refl) ∙ or_none (is_some (read mark))
  first_has false mark later e = refl

  pub has_path-by : (marks : Marks) (p : Path) → is_sorted path_cmp marks ≡ true → has_path p (edit_paths (edits_by read marks)) ≡ is_some (read_at read (mark_at marks p))
  has_path-by [] p h = refl
  has_path-by (e ∷ marks) p h =
      let parts = and_parts (below_all path_cmp e.0 marks) (is_sorted path_cmp marks) h in
      first_path p e.0 (read e.1) (edits_by read marks)
      ∙ ap (λ b. (same_path p e.0 && is_some (read e.1)) || b) (has_path-by marks p parts.1)
      ∙ first_has (same_path p e.0) e.1 (mark_at marks p) (none_behind p e.0 marks parts.0)

-- THE PATHS that a test picks
module _ (test : Mark → Bool) where
  first_picked : (p q : Path) (b : Bool) (ps : List Path) → has_path p (cons_option (cond b (Some q) None) ps) ≡ ((same_path p q && b) || has_path p ps)
  first_picked p q true ps = elim (same_path p q) as (λ s. (s || has_path p ps) ≡ ((s && true) || has_path p ps)) [ true ↦ refl | false ↦ refl ]
  first_picked p q false ps = elim (same_path p q) as (λ s. has_path p ps ≡ ((s && false) || has_path p ps)) [ true ↦ refl | false ↦ refl ]

  first_tested : (b : Bool) (mark : Mark) (later : Option Mark) → (b ≡ true → later ≡ None) → ((b && test mark) || test_at test later) ≡ test_at test (cond b (Some mark) later)
  first_tested true mark later e = ap (λ m. test mark || test_at test m) (e refl) ∙ or_none (test mark)
  first_tested false mark later e = refl

  pub has_path-picked : (marks : Marks) (p : Path) → is_sorted path_cmp marks ≡ true → has_path p (paths_by test marks) ≡ test_at test (mark_at marks p)
  has_path-picked [] p h = refl
  has_path-picked (e ∷ marks) p h =
      let parts = and_parts (below_all path_cmp e.0 marks) (is_sorted path_cmp marks) h in
      first_picked p e.0 (test e.1) (paths_by test marks)
      ∙ ap (λ b. (same_path p e.0 && test e.1) || b) (has_path-picked marks p parts.1)
      ∙ first_tested (same_path p e.0) e.1 (mark_at marks p) (none_behind p e.0 marks parts.0)
