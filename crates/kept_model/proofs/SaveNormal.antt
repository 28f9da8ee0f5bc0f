-- Marks over a tree are what normalisation makes of what a stream says of them, and no path of theirs is an orphan.
use Rattle.std.specs.Prelude.{◌≡◌, Bool, true, false, cond, not, ◌&&◌, ◌||◌, List, [], ◌∷◌, ◌++◌, Option, Some, None, is_some, filter_map}
use Rattle.std.specs.List.{AllByRecursion, list_all, cons_option}
use Rattle.std.specs.FinMap.{find, is_sorted}
use Rattle.std.proofs.Common.{sym, refl, ap, subst, ◌∙◌, append_assoc}
use Rattle.std.proofs.lemmas.Bool.{not-true, not_from_true}
use Rattle.xs_model.specs.Paths.{Path, Name, path_cmp, same_path, has_path, parents, child}
use Rattle.xs_model.specs.Trees.{Node, Tree, IsTree, node_at, is_present, child_name, children}
use Rattle.xs_model.specs.Requests.{is_root}
use Rattle.xs_model.proofs.Maps.{not_both}
use Rattle.xs_model.proofs.PathLemmas.{path_total, same_path-is, child_name-is}
use Rattle.xs_model.proofs.TreeLemmas.{has_entries}
use Rattle.xs_model.proofs.WayLemmas.{parents-child}
use Rattle.machine_model.proofs.Lists.{all_append, all_weaker}
use Rattle.mark_model.specs.Marks.{Mark, Seen, Changed, Wrote, Gone, Kept, Marks, mark_at, is_accessed, is_changed, shown, overlay, accessed_mark, noted_mark, access_all, note_all, AreOver}
use Rattle.mark_model.proofs.MarkLemmas.{same_marks, remarked_if, mark_at-access_all, sorted_access_all, mark_at-note_all, sorted_note_all}
use Rattle.mark_model.proofs.MarkReadLemmas.{read_at, or_old, node_at-by}
use Rattle.kept_model.specs.Normal.{mark_by, marks_by, parent_or_root, parents_where, is_made, parents_looked_at, bool_differs, came_or_went, parents_changed, normal, has_child, is_orphan_in}
use Rattle.kept_model.proofs.SaveLists.{keyed, before, find_here}
use Rattle.kept_model.proofs.SaveFields.{found_same, said_mark, HasEntries, MarkHasEntries}

-- PATHS. One that is not `/` is a child
as_child : (n : Name) (ns : List Name) → (p : Path) × (m : Name) × (n ∷ ns ≡ child p m)
as_child n [] = ([], n, refl)
as_child n (m ∷ ns) = let rest = as_child m ns in (n ∷ rest.0, rest.1, ap (λ q. n ∷ q) rest.2)

-- what holds of each parent
pub all_parents : (P : Path → Type 0) (p : Path) → ((q : Path) (n : Name) → p ≡ child q n → P q) → AllByRecursion P (parents p)
all_parents P [] up = tt
all_parents P (n ∷ ns) up = let c = as_child n ns in subst (λ ps. AllByRecursion P ps) (sym (ap parents c.2 ∙ parents-child c.0 c.1)) (up c.0 c.1 c.2, tt)

parent_holds : (P : Path → Type 0) (p : Path) → (p ≡ [] → P []) → ((q : Path) (n : Name) → p ≡ child q n → P q) → AllByRecursion P (parent_or_root p)
parent_holds P [] root up = (root refl, tt)
parent_holds P (n ∷ ns) root up = all_parents P (n ∷ ns) up

all_has : (P : Path → Type 0) (ps : List Path) → AllByRecursion P ps → (p : Path) → has_path p ps ≡ true → P p
all_has P [] h p e = not_both e refl
all_has P (q ∷ ps) h p e =
    elim (same_path p q) as (λ b. same_path p q ≡ b → (b || has_path p ps) ≡ true → P p) [
      | true ↦ λ t _. subst P (sym (same_path-is p q t)) h.0
      | false ↦ λ t later. all_has P ps h.1 p later
    ] refl e

-- ENTRIES of a list in order are found
module _ {X : Type 0} (all : List (Path × X)) (rising : is_sorted path_cmp all ≡ true) where
  each_from : (done todo : List (Path × X)) → done ++ todo ≡ all → AllByRecursion (λ (e : Path × X). find path_cmp e.0 all ≡ Some e.1) todo
  each_from done [] is = tt
  each_from done (e ∷ todo) is = (
    subst (λ es. find path_cmp e.0 es ≡ Some e.1) is
        (find_here path_cmp path_total e.0 e.1 done todo (before path_cmp path_total done e todo (subst (λ es. is_sorted path_cmp es ≡ true) (sym is) rising))),
    each_from (done ++ e ∷ []) todo (append_assoc done (e ∷ []) todo ∙ is),
  )

  pub each_found : AllByRecursion (λ (e : Path × X). find path_cmp e.0 all ≡ Some e.1) all
  each_found = each_from [] all refl

-- FIRST, marks are told apart by the node that stands there
mark_again : (tree : Tree) (p : Path) (mark : Mark) → mark_by tree p (said_mark tree p mark) ≡ mark
mark_again tree p Seen = ap (λ b. cond b Seen (Changed (node_at tree p))) (found_same (node_at tree p))
mark_again tree p (Changed old) = refl
mark_again tree p (Wrote others node) = refl
mark_again tree p (Gone others) = refl
mark_again tree p (Kept old) = refl

marks_again : (tree : Tree) (marks : Marks) → marks_by tree (keyed (λ e. said_mark tree e.0 e.1) marks) ≡ marks
marks_again tree [] = refl
marks_again tree (e ∷ marks) = λ i. (e.0, mark_again tree e.0 e.1 i) ∷ marks_again tree marks i

accessed_same : (mark : Option Mark) → is_accessed mark ≡ true → Some (accessed_mark mark) ≡ mark
accessed_same None h = not_both h refl
accessed_same (Some Seen) h = refl
accessed_same (Some (Changed old)) h = refl
accessed_same (Some (Wrote others node)) h = refl
accessed_same (Some (Gone others)) h = refl
accessed_same (Some (Kept old)) h = not_both h refl

noted_same : (old : Option Node) (mark : Option Mark) → is_changed mark ≡ true → Some (noted_mark old mark) ≡ mark
noted_same old None h = not_both h refl
noted_same old (Some Seen) h = not_both h refl
noted_same old (Some (Changed first)) h = refl
noted_same old (Some (Wrote others node)) h = ap (λ b. Some (Wrote b node)) (sym h)
noted_same old (Some (Gone others)) h = ap (λ b. Some (Gone b)) (sym h)
noted_same old (Some (Kept first)) h = refl

same_if : (become : Option Mark → Mark) (b : Bool) (mark : Option Mark) → (b ≡ true → Some (become mark) ≡ mark) → remarked_if become b mark ≡ mark
same_if become true mark same = same refl
same_if become false mark same = refl

both_differ : {A : Type 0} (b c : Bool) → b ≡ c → bool_differs b c ≡ true → A
both_differ true true e h = not_both h refl
both_differ true false e h = not_both refl e
both_differ false true e h = not_both e refl
both_differ false false e h = not_both h refl

module _ (tree : Tree) (is : IsTree tree) (marks : Marks) (over : AreOver tree marks) where
  all_asked : (P : Path → Type 0) (asks : Path → Mark → Bool) → ((p : Path) (mark : Mark) → mark_at marks p ≡ Some mark → asks p mark ≡ true → AllByRecursion P (parent_or_root p))
      → (es : Marks) → AllByRecursion (λ (e : Path × Mark). mark_at marks e.0 ≡ Some e.1) es → AllByRecursion P (parents_where asks es)
  all_asked P asks to [] h = tt
  all_asked P asks to (e ∷ es) h = all_append P (cond (asks e.0 e.1) (parent_or_root e.0) []) (parents_where asks es) (one (asks e.0 e.1) refl) (all_asked P asks to es h.1)
    where
      one : (b : Bool) → asks e.0 e.1 ≡ b → AllByRecursion P (cond b (parent_or_root e.0) [])
      one true t = to e.0 e.1 h.0 t
      one false t = tt

  -- SECOND, who made a node looked at its parent
  abbrev IsAccessedAt : Path → Type 0
  IsAccessedAt p = is_accessed (mark_at marks p) ≡ true

  made_accessed : (p : Path) (mark : Mark) → mark_at marks p ≡ Some mark → is_made tree p mark ≡ true → AllByRecursion IsAccessedAt (parent_or_root p)
  made_accessed p Seen found h = not_both h refl
  made_accessed p (Changed old) found h = not_both h refl
  made_accessed p (Wrote true node) found h = not_both h refl
  made_accessed p (Wrote false node) found h =
      let gone : is_present tree p ≡ false = not-true (is_present tree p) h in
      parent_holds IsAccessedAt p
      (λ e. not_both (subst (λ q. is_present tree q ≡ true) (sym e) is.root) gone)
      (λ q n e. over.made q n node (subst (λ r. mark_at marks r ≡ Some (Wrote false node)) e found) (subst (λ r. is_present tree r ≡ false) e gone))
  made_accessed p (Gone others) found h = not_both h refl
  made_accessed p (Kept old) found h = not_both h refl

  looked_same : parents_looked_at tree marks ≡ marks
  looked_same =
      let ps = parents_where (is_made tree) marks in
      same_marks (access_all ps marks) marks (sorted_access_all ps marks over.rising) over.rising
      (λ p. mark_at-access_all ps marks p
      ∙ same_if accessed_mark (has_path p ps) (mark_at marks p)
      (λ h. accessed_same (mark_at marks p) (all_has IsAccessedAt ps (all_asked IsAccessedAt (is_made tree) made_accessed marks (each_found marks over.rising)) p h)))

  -- THIRD, where a node came or went by others, they changed its parent
  abbrev IsChangedAt : Path → Type 0
  IsChangedAt p = is_changed (mark_at marks p) ≡ true

  came_changed : (p : Path) (mark : Mark) → mark_at marks p ≡ Some mark → came_or_went tree p mark ≡ true → AllByRecursion IsChangedAt (parent_or_root p)
  came_changed p Seen found h = not_both h refl
  came_changed p (Changed old) found h = not_both h refl
  came_changed p (Wrote others node) found h = not_both h refl
  came_changed p (Gone others) found h = not_both h refl
  came_changed p (Kept old) found h =
      parent_holds IsChangedAt p
      (λ e. ap is_changed (subst (λ r. mark_at marks r ≡ Some (Kept old)) e found))
      (λ q n e. by q n e (is_changed (mark_at marks q)) refl)
    where
      by : (q : Path) (n : Name) → p ≡ child q n → (b : Bool) → is_changed (mark_at marks q) ≡ b → b ≡ true
      by q n e true t = refl
      by q n e false t =
          both_differ (is_some old) (is_present tree (child q n))
          (over.came q n old (subst (λ r. mark_at marks r ≡ Some (Kept old)) e found) t)
          (subst (λ r. bool_differs (is_some old) (is_present tree r) ≡ true) e h)

  changed_same : parents_changed tree marks ≡ marks
  changed_same =
      let ps = parents_where (came_or_went tree) marks in
      same_marks (note_all tree ps marks) marks (sorted_note_all tree ps marks over.rising) over.rising
      (λ p. mark_at-note_all tree ps marks p
      ∙ same_if (noted_mark (node_at tree p)) (has_path p ps) (mark_at marks p)
      (λ h. noted_same (node_at tree p) (mark_at marks p) (all_has IsChangedAt ps (all_asked IsChangedAt (came_or_went tree) came_changed marks (each_found marks over.rising)) p h)))

  pub normal_same : normal tree (keyed (λ e. said_mark tree e.0 e.1) marks) ≡ marks
  normal_same =
      ap (λ ms. parents_changed tree (parents_looked_at tree ms)) (marks_again tree marks)
      ∙ ap (parents_changed tree) looked_same
      ∙ changed_same

  -- THE NODES that marks tell of have entries
  shown_at : (p : Path) (mark : Mark) → mark_at marks p ≡ Some mark → node_at (overlay tree marks) p ≡ or_old (shown mark) (node_at tree p)
  shown_at p mark found = node_at-by shown tree marks p over.rising ∙ ap (λ m. or_old (read_at shown m) (node_at tree p)) found

  entries_at : (p : Path) (found : Option Node) → node_at (overlay tree marks) p ≡ found → HasEntries found
  entries_at p None e = tt
  entries_at p (Some node) e = has_entries (overlay tree marks) over.seen p node e

  pub mark_entries : (p : Path) (mark : Mark) → mark_at marks p ≡ Some mark → MarkHasEntries tree p mark
  mark_entries p Seen found = entries_at p (node_at tree p) (shown_at p Seen found)
  mark_entries p (Changed old) found = entries_at p old (shown_at p (Changed old) found)
  mark_entries p (Wrote others node) found = entries_at p (Some node) (shown_at p (Wrote others node) found)
  mark_entries p (Gone others) found = tt
  mark_entries p (Kept old) found = entries_at p old (shown_at p (Kept old) found)

-- NO ORPHANS in a tree
module _ (seen : Tree) (is : IsTree seen) (p : Path) where
  all_true : (ps : List Path) → AllByRecursion (λ q. is_present seen q ≡ true) ps → list_all (is_present seen) ps ≡ true
  all_true [] h = refl
  all_true (q ∷ ps) h = ap (λ b. b && list_all (is_present seen) ps) h.0 ∙ all_true ps h.1

  no_child : (es : Tree) → AllByRecursion (λ (e : Path × Node). child_name p e.0 ≡ None) es → has_child (filter_map (λ (e : Path × Node). child_name p e.0) es) ≡ false
  no_child [] h = refl
  no_child (e ∷ es) h = ap (λ o. has_child (cons_option o (filter_map (λ (f : Path × Node). child_name p f.0) es))) h.0 ∙ no_child es h.1

  none_by : is_present seen p ≡ false → (e : Path × Node) → node_at seen e.0 ≡ Some e.1 → (o : Option Name) → child_name p e.0 ≡ o → o ≡ None
  none_by gone e found None t = refl
  none_by gone e found (Some n) t =
      not_both (is.parents p n (subst (λ q. is_present seen q ≡ true) (child_name-is p e.0 n t) (ap is_some found))) gone

  childless : is_present seen p ≡ false → has_child (children seen p) ≡ false
  childless gone =
      no_child seen (all_weaker (λ (e : Path × Node). node_at seen e.0 ≡ Some e.1) (λ (e : Path × Node). child_name p e.0 ≡ None) (λ e found. none_by gone e found (child_name p e.0) refl) seen (each_found seen is.rising))

  not_root : (q : Path) → is_present seen q ≡ false → is_root q ≡ false
  not_root [] gone = not_both is.root gone
  not_root (n ∷ ns) gone = refl

  pub not_orphan : is_orphan_in seen p ≡ false
  not_orphan = by (is_present seen p) refl
    where
      by : (b : Bool) → is_present seen p ≡ b → cond b (not (list_all (is_present seen) (parents p))) (cond (is_root p) true (has_child (children seen p))) ≡ false
      by true t =
          not_from_true _ (all_true (parents p) (all_parents (λ q. is_present seen q ≡ true) p (λ q n e. is.parents q n (subst (λ r. is_present seen r ≡ true) e t))))
      by false t = ap (λ b. cond b true (has_child (children seen p))) (not_root p t) ∙ childless t
