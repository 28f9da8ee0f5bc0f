-- Removing paths from the last to the first.
use Rattle.std.specs.Prelude.{◌≡◌, Bool, true, false, cond, not, List, [], ◌∷◌, ◌++◌, None, Option, is_some}
use Rattle.std.specs.Ordering.{is_lt}
use Rattle.std.specs.FinMap.Entries.{where_key}
use Rattle.std.proofs.Common.{sym, refl, ap, subst, ◌∙◌, append_assoc, append-nil, inl, inr}
use Rattle.xs_model.specs.Paths.{Path, Name, path_cmp, same_path, has_path, child, is_below}
use Rattle.xs_model.specs.Requests.{is_root}
use Rattle.xs_model.specs.Trees.{Node, Tree, IsTree, node_at, is_present, children, all_below, edited, edited_at}
use Rattle.xs_model.specs.Commands.{removals}
use Rattle.xs_model.proofs.Maps.{not_both}
use Rattle.xs_model.proofs.PathLemmas.{path_total, is_below-child}
use Rattle.xs_model.proofs.EditLemmas.{node_at-edited}
use Rattle.xs_model.proofs.TreeLemmas.{after-removals}
use Rattle.tree_ops.specs.Rising.{Rises}
use Rattle.tree_ops.specs.Fits.{FitsRemovals, IsRemoving}
use Rattle.tree_ops.proofs.RisingLemmas.{no_item, not_itself}
use Rattle.tree_ops.proofs.MemberLemmas.{Has, all_has, has_append, has_later, not_back, stands_before, stands_behind}
use Rattle.tree_ops.proofs.BelowLemmas.{of_has, has_of, has_below, below_has, below_rise, no_children}
use Rattle.tree_ops.proofs.WalkLemmas.{below_cmp}

-- SWAPS. Two removals
swap_by : (s t : Path → Bool) (e : Path × Node) (tree : Tree) → where_key path_cmp s (where_key path_cmp t tree) ≡ where_key path_cmp t (where_key path_cmp s tree) → (x y : Bool) → s e.0 ≡ x → t e.0 ≡ y
    → where_key path_cmp s (cond y (e ∷ where_key path_cmp t tree) (where_key path_cmp t tree)) ≡ where_key path_cmp t (cond x (e ∷ where_key path_cmp s tree) (where_key path_cmp s tree))
swap_by s t e tree ih true true p q =
    ap (λ c. cond c (e ∷ where_key path_cmp s (where_key path_cmp t tree)) (where_key path_cmp s (where_key path_cmp t tree))) p
    ∙ ap (λ es. e ∷ es) ih
    ∙ ap (λ c. cond c (e ∷ where_key path_cmp t (where_key path_cmp s tree)) (where_key path_cmp t (where_key path_cmp s tree))) (sym q)
swap_by s t e tree ih true false p q =
    ih ∙ ap (λ c. cond c (e ∷ where_key path_cmp t (where_key path_cmp s tree)) (where_key path_cmp t (where_key path_cmp s tree))) (sym q)
swap_by s t e tree ih false true p q =
    ap (λ c. cond c (e ∷ where_key path_cmp s (where_key path_cmp t tree)) (where_key path_cmp s (where_key path_cmp t tree))) p ∙ ih
swap_by s t e tree ih false false p q = ih

where_swap : (s t : Path → Bool) (tree : Tree) → where_key path_cmp s (where_key path_cmp t tree) ≡ where_key path_cmp t (where_key path_cmp s tree)
where_swap s t [] = refl
where_swap s t (e ∷ tree) = swap_by s t e tree (where_swap s t tree) (s e.0) (t e.0) refl refl

pub removal_swap : (tree : Tree) (p : Path) (gone : List Path) → edited_at (edited tree (removals gone)) p None ≡ edited (edited_at tree p None) (removals gone)
removal_swap tree p [] = refl
removal_swap tree p (g ∷ gone) =
    removal_swap (edited_at tree g None) p gone
    ∙ ap (λ t. edited t (removals gone)) (where_swap (λ q. not (same_path p q)) (λ q. not (same_path g q)) tree)

-- THE NEXT PATH that is removed, the last of those that are left
pub record IsLast (tree now : Tree) (left : List Path) (p : Path) (gone : List Path) (m : Name) (top : Path) : Type 0 where
  pub is : IsTree tree
  pub parts : left ++ p ∷ gone ≡ all_below tree (m ∷ top)
  pub made : now ≡ edited tree (removals gone)

root_below : (m : Name) (top p : Path) → is_below (m ∷ top) p ≡ true → is_root p ≡ false
root_below m top [] h = not_both h refl
root_below m top (n ∷ p) h = refl

middle : (left : List Path) (p : Path) (gone : List Path) → Has p (left ++ p ∷ gone)
middle left p gone = has_later p left (p ∷ gone) (inl refl)

has_no : (p : Path) (ps : List Path) → (Has p ps → ⊥) → has_path p ps ≡ false
has_no p ps none = by (has_path p ps) refl
  where
    by : (b : Bool) → has_path p ps ≡ b → b ≡ false
    by true e = absurd (none (has_of p ps e))
    by false e = refl

child_behind : (p : Path) (m : Name) → is_lt (path_cmp p (child p m)) ≡ true
child_behind p m = ap (λ q. is_lt (path_cmp q (child p m))) (sym (append-nil p)) ∙ ap is_lt (below_cmp p [] (m ∷ []))

module _ (tree now : Tree) (left : List Path) (p : Path) (gone : List Path) (m : Name) (top : Path) (last : IsLast tree now left p gone m top) where
  here : (is_below (m ∷ top) p ≡ true) × (is_present tree p ≡ true)
  here = below_has tree (m ∷ top) p (subst (Has p) last.parts (middle left p gone))

  rises : Rises path_cmp (left ++ p ∷ gone)
  rises = subst (Rises path_cmp) (sym last.parts) (below_rise tree (m ∷ top) last.is.rising)

  pub last_below : is_root p ≡ false
  last_below = root_below m top p here.0

  at_now : (q : Path) → node_at now q ≡ cond (has_path q gone) None (node_at tree q)
  at_now q = ap (λ t. node_at t q) last.made ∙ node_at-edited tree (removals gone) q ∙ after-removals gone q (node_at tree q)

  not_gone : has_path p gone ≡ false
  not_gone = has_no p gone (λ h. not_both (all_has (λ r. is_lt (path_cmp p r) ≡ true) p gone (stands_behind path_cmp path_total left p gone rises) h) (not_itself path_cmp path_total p))

  pub last_present : is_present now p ≡ true
  last_present = ap is_some (at_now p ∙ ap (λ b. cond b None (node_at tree p)) not_gone) ∙ here.1

  child_gone : (k : Name) → Has (child p k) (left ++ p ∷ gone) → Has (child p k) gone
  child_gone k h = elim (has_append (child p k) left (p ∷ gone) h) as (λ _. Has (child p k) gone) [
    | inl before ↦ not_both (stands_before path_cmp path_total left p gone rises (child p k) before) (not_back path_cmp path_total p (child p k) (child_behind p k))
    | inr after ↦ elim after as (λ _. Has (child p k) gone) [
      | inl same ↦ not_both (child_behind p k) (ap (λ q. is_lt (path_cmp p q)) same ∙ not_itself path_cmp path_total p)
      | inr later ↦ later
    ]
  ]

  present_before : (b : Bool) (o : Option Node) → is_some (cond b None o) ≡ true → (is_some o ≡ true) × (b ≡ false)
  present_before true o h = not_both h refl
  present_before false o h = (h, refl)

  pub last_childless : children now p ≡ []
  last_childless = no_children now p (λ k there.
      let old = present_before (has_path (child p k) gone) (node_at tree (child p k)) (sym (ap is_some (at_now (child p k))) ∙ there) in
      let has = subst (Has (child p k)) (sym last.parts) (has_below tree (m ∷ top) (child p k) (is_below-child (m ∷ top) p k here.0) old.0) in
      not_both (of_has (child p k) gone (child_gone k has)) old.1)

no_middle : {A : Type 0} (left : List Path) (p : Path) (gone : List Path) → [] ≡ left ++ p ∷ gone → A
no_middle [] p gone e = no_item e
no_middle (q ∷ left) p gone e = no_item e

removal_of : (tree : Tree) (paths left : List Path) (p : Path) (gone : List Path) → FitsRemovals tree paths → paths ≡ left ++ p ∷ gone → (m : Name) × (top : Path) × IsTree tree × (left ++ p ∷ gone ≡ all_below tree (m ∷ top))
removal_of tree [] left p gone fits e = no_middle left p gone e
removal_of tree (q ∷ paths) left p gone fits e = (fits.0, fits.1, fits.2, sym e ∙ fits.3)

pub last_is : (tree now : Tree) (paths old left : List Path) (p : Path) → FitsRemovals tree paths → (removed : IsRemoving tree paths old now) → old ≡ left ++ p ∷ [] → (m : Name) × (top : Path) × IsLast tree now left p removed.gone m top
last_is tree now paths old left p fits removed pop =
    let parts : paths ≡ left ++ p ∷ removed.gone = removed.parts ∙ ap (λ ps. ps ++ removed.gone) pop ∙ append_assoc left (p ∷ []) removed.gone in
    let of = removal_of tree paths left p removed.gone fits parts in
    (of.0, of.1, record { is = of.2; parts = of.3; made = removed.made })

abbrev pub removed_more : (tree now new : Tree) (paths old left : List Path) (p : Path) → IsRemoving tree paths old now → old ≡ left ++ p ∷ [] → new ≡ edited_at now p None → IsRemoving tree paths left new
removed_more tree now new paths old left p removed pop made = record {
  gone = p ∷ removed.gone;
  parts = removed.parts ∙ ap (λ ps. ps ++ removed.gone) pop ∙ append_assoc left (p ∷ []) removed.gone;
  made = made ∙ ap (λ t. edited_at t p None) removed.made ∙ removal_swap tree p removed.gone;
}
