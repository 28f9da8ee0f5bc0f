-- The children of a path, and the paths at and below one, as members.
use Rattle.std.specs.Prelude.{◌≡◌, ◌⊎◌, Bool, true, false, cond, ◌||◌, List, [], ◌∷◌, Option, Some, None, is_some}
use Rattle.std.specs.List.{AllByRecursion, cons_option}
use Rattle.std.specs.Ordering.{is_lt}
use Rattle.std.specs.FinMap.{is_sorted}
use Rattle.std.specs.FinMap.Entries.{below_all}
use Rattle.std.proofs.Common.{sym, refl, ap, subst, ◌∙◌, inl, inr}
use Rattle.std.proofs.lemmas.Bool.{and_parts, and_from}
use Rattle.xs_model.specs.Paths.{Name, Path, name_cmp, path_cmp, same_path, has_path, child, is_below}
use Rattle.xs_model.specs.Trees.{Node, Tree, IsTree, is_present, node_at, child_name, children, all_below}
use Rattle.xs_model.proofs.Maps.{not_both, from_Some}
use Rattle.xs_model.proofs.PathLemmas.{name_total, same_path-is, same_path-itself, child_name-is, child_name-child}
use Rattle.xs_model.proofs.TreeLemmas.{has_path-all_below}
use Rattle.node_tree.specs.Names.{names_above, first_name}
use Rattle.tree_ops.proofs.AboveLemmas.{is_above}
use Rattle.tree_ops.specs.Rising.{Rises}
use Rattle.tree_ops.proofs.MemberLemmas.{Has, kept_has, least_kept, has_kept}
use Rattle.tree_ops.proofs.ChildLemmas.{children_rise, above_is, split_first}

-- MEMBERS of lists of paths
pub has_of : (p : Path) (ps : List Path) → has_path p ps ≡ true → Has p ps
has_of p [] h = not_both h refl
has_of p (q ∷ ps) h =
    elim (same_path p q) as (λ b. same_path p q ≡ b → (b || has_path p ps) ≡ true → Has p (q ∷ ps)) [
      | true ↦ λ e k. inl (same_path-is p q e)
      | false ↦ λ e k. inr (has_of p ps k)
    ] refl h

or_true : (b : Bool) → (b || true) ≡ true
or_true true = refl
or_true false = refl

pub of_has : (p : Path) (ps : List Path) → Has p ps → has_path p ps ≡ true
of_has p [] h = absurd h
of_has p (q ∷ ps) (inl e) = ap (λ b. b || has_path p ps) (ap (same_path p) (sym e) ∙ same_path-itself p)
of_has p (q ∷ ps) (inr h) = ap (λ b. same_path p q || b) (of_has p ps h) ∙ or_true (same_path p q)

-- CHILDREN
has_here : (o : Option Name) (m : Name) (ns : List Name) → o ≡ Some m → Has m (cons_option o ns)
has_here None m ns e = not_both (ap is_some e) refl
has_here (Some n) m ns e = inl (sym (from_Some e))

has_there : (o : Option Name) (m : Name) (ns : List Name) → Has m ns → Has m (cons_option o ns)
has_there None m ns h = h
has_there (Some n) m ns h = inr h

pub has_child : (tree : Tree) (p : Path) (m : Name) → is_present tree (child p m) ≡ true → Has m (children tree p)
has_child [] p m h = not_both h refl
has_child (e ∷ tree) p m h =
    elim (same_path (child p m) e.0) as (λ b. same_path (child p m) e.0 ≡ b → is_some (cond b (Some e.1) (node_at tree (child p m))) ≡ true → Has m (children (e ∷ tree) p)) [
      | true ↦ λ is k. has_here (child_name p e.0) m (children tree p) (ap (child_name p) (sym (same_path-is (child p m) e.0 is)) ∙ child_name-child p m)
      | false ↦ λ is k. has_there (child_name p e.0) m (children tree p) (has_child tree p m k)
    ] refl h

either : (b : Bool) (node : Node) (o : Option Node) → is_some o ≡ true → is_some (cond b (Some node) o) ≡ true
either true node o h = refl
either false node o h = h

has_cases : (o : Option Name) (m : Name) (ns : List Name) → Has m (cons_option o ns) → (o ≡ Some m) ⊎ Has m ns
has_cases None m ns h = inr h
has_cases (Some n) m ns (inl e) = inl (ap Some (sym e))
has_cases (Some n) m ns (inr h) = inr h

pub child_has : (tree : Tree) (p : Path) (m : Name) → Has m (children tree p) → is_present tree (child p m) ≡ true
child_has [] p m h = absurd h
child_has (e ∷ tree) p m h =
    elim (has_cases (child_name p e.0) m (children tree p) h) as (λ _. is_present (e ∷ tree) (child p m) ≡ true) [
      | inl is ↦ ap (λ b. is_some (cond b (Some e.1) (node_at tree (child p m)))) (ap (same_path (child p m)) (child_name-is p e.0 m is) ∙ same_path-itself (child p m))
      | inr k ↦ either (same_path (child p m) e.0) e.1 (node_at tree (child p m)) (child_has tree p m k)
    ]

-- the next child that a look-up finds, or that there is none
pub record IsChild (tree : Tree) (p : Path) (leaf n : Name) : Type 0 where
  pub present : is_present tree (child p n) ≡ true
  pub above : is_above leaf n ≡ true
  pub least : (m : Name) → is_present tree (child p m) ≡ true → is_above leaf m ≡ true → is_lt (name_cmp m n) ≡ false

pub child_found : (tree : Tree) → IsTree tree → (p : Path) (leaf n : Name) → first_name (names_above leaf (children tree p)) ≡ Some n → IsChild tree p leaf n
child_found tree is p leaf n found =
    let parts = split_first (names_above leaf (children tree p)) n found in
    let kept = sym (above_is leaf (children tree p)) ∙ parts.1 in
    let has = kept_has (is_above leaf) n (children tree p) (subst (Has n) (sym kept) (inl refl)) in
    record {
      present = child_has tree p n has.0;
      above = has.1;
      least = λ m there above. least_kept name_cmp name_total (is_above leaf) (children tree p) (children_rise tree p is.rising) n parts.0 kept m (has_child tree p m there) above;
    }

first_none : (m : Name) (ns : List Name) → first_name ns ≡ None → Has m ns → ⊥
first_none m [] e h = h
first_none m (n ∷ ns) e h = not_both refl (ap is_some e)

pub child_none : (tree : Tree) (p : Path) (leaf : Name) → first_name (names_above leaf (children tree p)) ≡ None → (m : Name) → is_present tree (child p m) ≡ true → is_above leaf m ≡ true → ⊥
child_none tree p leaf none m there above =
    first_none m (names_above leaf (children tree p)) none (subst (Has m) (sym (above_is leaf (children tree p))) (has_kept (is_above leaf) m (children tree p) (has_child tree p m there) above))

pub no_children : (tree : Tree) (p : Path) → ((m : Name) → is_present tree (child p m) ≡ true → ⊥) → children tree p ≡ []
no_children tree p none = by (children tree p) (λ m h. none m (child_has tree p m h))
  where
    by : (ns : List Name) → ((m : Name) → Has m ns → ⊥) → ns ≡ []
    by [] h = refl
    by (n ∷ ns) h = absurd (h n (inl refl))

-- ALL AT AND BELOW A PATH
later_paths : (top p : Path) (tree : Tree) → below_all path_cmp p tree ≡ true → AllByRecursion (λ q. is_lt (path_cmp p q) ≡ true) (all_below tree top)
later_paths top p [] h = tt
later_paths top p (e ∷ tree) h =
    let parts = and_parts (is_lt (path_cmp p e.0)) (below_all path_cmp p tree) h in
    elim (is_below top e.0) as (λ b. AllByRecursion (λ q. is_lt (path_cmp p q) ≡ true) (cons_option (cond b (Some e.0) None) (all_below tree top))) [
      | true ↦ (parts.0, later_paths top p tree parts.1)
      | false ↦ later_paths top p tree parts.1
    ]

pub below_rise : (tree : Tree) (top : Path) → is_sorted path_cmp tree ≡ true → Rises path_cmp (all_below tree top)
below_rise [] top h = tt
below_rise (e ∷ tree) top h =
    let parts = and_parts (below_all path_cmp e.0 tree) (is_sorted path_cmp tree) h in
    elim (is_below top e.0) as (λ b. Rises path_cmp (cons_option (cond b (Some e.0) None) (all_below tree top))) [
      | true ↦ (later_paths top e.0 tree parts.0, below_rise tree top parts.1)
      | false ↦ below_rise tree top parts.1
    ]

pub has_below : (tree : Tree) (top q : Path) → is_below top q ≡ true → is_present tree q ≡ true → Has q (all_below tree top)
has_below tree top q below there = has_of q (all_below tree top) (has_path-all_below top q tree ∙ and_from (is_below top q) (is_present tree q) below there)

pub below_has : (tree : Tree) (top q : Path) → Has q (all_below tree top) → (is_below top q ≡ true) × (is_present tree q ≡ true)
below_has tree top q h =
    let parts = and_parts (is_below top q) (is_present tree q) (sym (has_path-all_below top q tree) ∙ of_has q (all_below tree top) h) in
    (parts.0, parts.1)
