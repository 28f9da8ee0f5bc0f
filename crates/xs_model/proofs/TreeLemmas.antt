-- Edits that keep a tree a tree.
use Rattle.std.specs.Prelude.{◌≡◌, Bool, true, false, cond, ◌&&◌, ◌||◌, List, [], ◌∷◌, Option, Some, None, is_some, ℕ}
use Rattle.std.specs.List.{AllByRecursion, cons_option}
use Rattle.std.proofs.Common.{sym, refl, ap, subst, ◌∙◌}
use Rattle.std.proofs.lemmas.Bool.{and_right}
use Rattle.xs_model.specs.declared.perm.Perm.{Perm}
use Rattle.xs_model.specs.Paths.{Name, Path, path_cmp, same_path, has_path, child, is_below}
use Rattle.xs_model.specs.Trees.{Node, Tree, node_at, is_present, has_entry, all_below, edited_at, edited, edit_paths, IsTree, new_tree}
use Rattle.xs_model.specs.Commands.{creation, removals}
use Rattle.xs_model.proofs.Maps.{not_both, all_found, all_put, all_where}
use Rattle.xs_model.proofs.PathLemmas.{same_path-is, same_path-itself, is_below-child}
use Rattle.xs_model.proofs.EditLemmas.{node_at-edited_at, node_at-edited, after_edits, sorted_edit, sorted_edits}
use Rattle.xs_model.proofs.WayLemmas.{way_below, child-same}

pub has_entries : (tree : Tree) → IsTree tree → (p : Path) (node : Node) → node_at tree p ≡ Some node → has_entry node.perms ≡ true
has_entries tree is p node e = all_found path_cmp (λ node. has_entry node.perms ≡ true) p tree node is.perms e

-- SET ONE NODE
some_or : (b : Bool) (node : Node) (old : Option Node) → is_some old ≡ true → is_some (cond b (Some node) old) ≡ true
some_or true node old h = refl
some_or false node old h = h

pub present_still : (tree : Tree) (p q : Path) (node : Node) → is_present tree q ≡ true → is_present (edited_at tree p (Some node)) q ≡ true
present_still tree p q node h = ap is_some (node_at-edited_at tree p (Some node) q) ∙ some_or (same_path q p) node (node_at tree q) h

pub present_now : (tree : Tree) (p : Path) (node : Node) → is_present (edited_at tree p (Some node)) p ≡ true
present_now tree p node = ap is_some (node_at-edited_at tree p (Some node) p) ∙ ap (λ b. is_some (cond b (Some node) (node_at tree p))) (same_path-itself p)

-- the parent of p is present
abbrev pub HasParent : Tree → Path → Type 0
HasParent tree p = (q : Path) (n : Name) → p ≡ child q n → is_present tree q ≡ true

parent_by : (tree : Tree) → IsTree tree → (p : Path) (node : Node) → HasParent tree p → (q : Path) (n : Name) (b : Bool) → same_path (child q n) p ≡ b → is_some (cond b (Some node) (node_at tree (child q n))) ≡ true → is_present tree q ≡ true
parent_by tree is p node up q n true e h = up q n (sym (same_path-is (child q n) p e))
parent_by tree is p node up q n false e h = is.parents q n h

pub set_node : (tree : Tree) → IsTree tree → (p : Path) (node : Node) → has_entry node.perms ≡ true → HasParent tree p → IsTree (edited_at tree p (Some node))
set_node tree is p node entry up = record {
  rising = sorted_edit tree p (Some node) is.rising;
  root = present_still tree p [] node is.root;
  parents = λ q n h. present_still tree p q node (parent_by tree is p node up q n (same_path (child q n) p) refl (sym (ap is_some (node_at-edited_at tree p (Some node) (child q n))) ∙ h));
  perms = all_put path_cmp (λ node. has_entry node.perms ≡ true) p node tree entry is.perms;
}

pub set_present : (tree : Tree) → IsTree tree → (p : Path) (node : Node) → has_entry node.perms ≡ true → is_present tree p ≡ true → IsTree (edited_at tree p (Some node))
set_present tree is p node entry h = set_node tree is p node entry (λ q n e. is.parents q n (subst (λ r. is_present tree r ≡ true) e h))

pub set_child : (tree : Tree) → IsTree tree → (p : Path) (n : Name) (node : Node) → has_entry node.perms ≡ true → is_present tree p ≡ true → IsTree (edited_at tree (child p n) (Some node))
set_child tree is p n node entry h = set_node tree is (child p n) node entry (λ q m e. subst (λ r. is_present tree r ≡ true) (child-same p q n m e) h)

-- CREATE ON A WAY DOWN
pub create : (tree : Tree) → IsTree tree → (p : Path) (ns : List Name) (perms : List Perm) (value : List ℕ) → has_entry perms ≡ true → is_present tree p ≡ true → IsTree (edited tree (creation perms value (way_below p ns)))
create tree is p [] perms value entry h = is
create tree is p (n ∷ []) perms value entry h = set_child tree is p n (record { value = value; perms = perms }) entry h
create tree is p (n ∷ m ∷ ns) perms value entry h =
    let node : Node = record { value = []; perms = perms } in
    create (edited_at tree (child p n) (Some node)) (set_child tree is p n node entry h) (child p n) (m ∷ ns) perms value entry (present_now tree (child p n) node)

-- REMOVE A NODE AND ALL BELOW IT
none_either : (b : Bool) → ◌≡◌ {A = Option Node} (cond b None None) None
none_either true = refl
none_either false = refl

pub after-removals : (ps : List Path) (q : Path) (old : Option Node) → after_edits (removals ps) q old ≡ cond (has_path q ps) None old
after-removals [] q old = refl
after-removals (p ∷ ps) q old =
    elim (same_path q p) as (λ b. after_edits (removals ps) q (cond b None old) ≡ cond (b || has_path q ps) None old) [
      | true ↦ after-removals ps q None ∙ none_either (has_path q ps)
      | false ↦ after-removals ps q old
    ]

pub edit_paths-removals : (ps : List Path) → edit_paths (removals ps) ≡ ps
edit_paths-removals [] = refl
edit_paths-removals (p ∷ ps) = ap (λ qs. p ∷ qs) (edit_paths-removals ps)

kept_head : (q k : Path) (b : Bool) (ps : List Path) → has_path q (cons_option (cond b (Some k) None) ps) ≡ ((b && same_path q k) || has_path q ps)
kept_head q k true ps = refl
kept_head q k false ps = refl

both_below : (b c x y : Bool) (node : Node) (old : Option Node) → (c ≡ true → x ≡ b) → y ≡ is_some old → ((b && c) || (x && y)) ≡ (x && is_some (cond c (Some node) old))
both_below true true x y node old to e = ap (λ z. z && true) (sym (to refl))
both_below false true x y node old to e = ap (λ z. z && y) (to refl) ∙ ap (λ z. z && true) (sym (to refl))
both_below true false x y node old to e = ap (λ z. x && z) e
both_below false false x y node old to e = ap (λ z. x && z) e

pub has_path-all_below : (p q : Path) (tree : Tree) → has_path q (all_below tree p) ≡ (is_below p q && is_present tree q)
has_path-all_below p q [] = sym (and_right (is_below p q) false refl)
has_path-all_below p q (e ∷ tree) =
    kept_head q e.0 (is_below p e.0) (all_below tree p)
    ∙ ap (λ b. (is_below p e.0 && same_path q e.0) || b) (has_path-all_below p q tree)
    ∙ both_below (is_below p e.0) (same_path q e.0) (is_below p q) (is_present tree q) e.1 (node_at tree q) (λ t. ap (is_below p) (same_path-is q e.0 t)) refl

pub node_at-removed : (tree : Tree) (p q : Path) → node_at (edited tree (removals (all_below tree p))) q ≡ cond (is_below p q && is_present tree q) None (node_at tree q)
node_at-removed tree p q = node_at-edited tree (removals (all_below tree p)) q ∙ after-removals (all_below tree p) q (node_at tree q) ∙ ap (λ b. cond b None (node_at tree q)) (has_path-all_below p q tree)

cleared : (b : Bool) (old : Option Node) → cond (b && is_some old) None old ≡ cond b None old
cleared true None = refl
cleared true (Some node) = refl
cleared false old = refl

-- nothing is left at or below p, and all else stays
pub node_at-after_rm : (tree : Tree) (p q : Path) → node_at (edited tree (removals (all_below tree p))) q ≡ cond (is_below p q) None (node_at tree q)
node_at-after_rm tree p q = node_at-removed tree p q ∙ cleared (is_below p q) (node_at tree q)

not_at_root : (m : Name) (p : Path) → is_below (m ∷ p) [] ≡ false
not_at_root m p = refl

left_up : (a b : Bool) (x y : Option Node) → (a ≡ true → b ≡ true) → (is_some y ≡ true → is_some x ≡ true) → is_some (cond b None y) ≡ true → is_some (cond a None x) ≡ true
left_up a true x y up to h = not_both h refl
left_up true false x y up to h = not_both (up refl) refl
left_up false false x y up to h = to h

all_edited : (tree : Tree) (ps : List Path) → AllByRecursion (λ (e : Path × Node). has_entry e.1.perms ≡ true) tree → AllByRecursion (λ (e : Path × Node). has_entry e.1.perms ≡ true) (edited tree (removals ps))
all_edited tree [] h = h
all_edited tree (p ∷ ps) h = all_edited (edited_at tree p None) ps (all_where path_cmp (λ node. has_entry node.perms ≡ true) _ tree h)

pub remove : (tree : Tree) → IsTree tree → (m : Name) (p : Path) → IsTree (edited tree (removals (all_below tree (m ∷ p))))
remove tree is m p =
    let path : Path = m ∷ p in
    let new = edited tree (removals (all_below tree path)) in
    record {
      rising = sorted_edits tree (removals (all_below tree path)) is.rising;
      root = ap is_some (node_at-after_rm tree path []) ∙ is.root;
      parents = λ q n h. ap is_some (node_at-after_rm tree path q) ∙ left_up (is_below path q) (is_below path (child q n)) (node_at tree q) (node_at tree (child q n)) (is_below-child path q n) (is.parents q n) (sym (ap is_some (node_at-after_rm tree path (child q n))) ∙ h);
      perms = all_edited tree (all_below tree path) is.perms;
    }

alone : (p : Path) (n : Name) → is_present new_tree (child p n) ≡ false
alone [] n = refl
alone (m ∷ p) n = refl

pub new_tree-is : IsTree new_tree
new_tree-is = record {
  rising = refl;
  root = refl;
  parents = λ p n h. not_both h (alone p n);
  perms = (refl, tt);
}
