-- A tree stays one where a path below a node that is there gets a node, and where one without children is taken away.
use Rattle.std.proofs.Common.{◌≡◌, Bool, true, false, cond, not, ◌&&◌, ◌||◌, [], ◌∷◌, Option, Some, None, is_some, refl, sym, ap, ◌∙◌}
use Rattle.std.specs.declared.cmp.Ordering.TheVariants.{Less, Equal, Greater}
use Rattle.std.specs.FinMap.{put, find}
use Rattle.std.specs.FinMap.Entries.{by_order, is_sorted-put, find-put}
use Rattle.std.specs.List.{list_all, cons_option, AllByRecursion}
use Rattle.xs_model.specs.Paths.{Path, Name, path_cmp, same_path, child, parents}
use Rattle.xs_model.specs.Requests.{is_root}
use Rattle.xs_model.specs.Trees.{Tree, Node, IsTree, node_at, is_present, children, child_name, edited_at, has_entry}
use Rattle.xs_model.proofs.Maps.{not_both, not_Some, all_where}
use Rattle.xs_model.proofs.PathLemmas.{path_total, same_path-is, child_name-child}
use Rattle.xs_model.proofs.EditLemmas.{node_at-edited_at, sorted_edit}
use Rattle.xs_model.proofs.WayLemmas.{parents-child}
use Rattle.node_tree.specs.KeptTree.{has_parent}
use Rattle.path_map.proofs.Rising.{holds, is_true}

module _ (tree : Tree) (p : Path) (node : Node) where
  -- what is there afterwards: the path, and what was there
  is_present-put : (q : Path) → is_present (put path_cmp p node tree) q ≡ (same_path q p || is_present tree q)
  is_present-put q =
      ap is_some (find-put path_cmp path_total q p node tree)
      ∙ elim (same_path q p) as (λ b. is_some (cond b (Some node) (find path_cmp q tree)) ≡ (b || is_present tree q)) [ true ↦ refl | false ↦ refl ]

  stays : (q : Path) → is_present tree q ≡ true → is_present (put path_cmp p node tree) q ≡ true
  stays q h = is_present-put q ∙ ap (λ b. same_path q p || b) h ∙ elim (same_path q p) as (λ b. b || true ≡ true) [ true ↦ refl | false ↦ refl ]

  -- each node's parent
  above : (q : Path) (n : Name) → IsTree tree → has_parent tree p ≡ true → is_present (put path_cmp p node tree) (child q n) ≡ true → is_present tree q ≡ true
  above q n h parent e =
      elim (same_path (child q n) p) as (λ b. same_path (child q n) p ≡ b → b || is_present tree (child q n) ≡ true → is_present tree q ≡ true) [
        | true ↦ λ is _. let own : child q n ≡ p = same_path-is (child q n) p is in
            lone (is_present tree q) (ap (list_all (is_present tree)) (sym (parents-child q n) ∙ ap parents own) ∙ parent)
        | false ↦ λ is there. h.parents q n there
      ] refl (sym (is_present-put (child q n)) ∙ e)
    where
      lone : (b : Bool) → b && true ≡ true → b ≡ true
      lone true h = refl
      lone false h = cc

has_entries : (tree : Tree) (p : Path) (node : Node) → AllByRecursion (λ e. has_entry e.1.perms ≡ true) tree → has_entry node.perms ≡ true → AllByRecursion (λ e. has_entry e.1.perms ≡ true) (put path_cmp p node tree)
has_entries [] p node h k = (k, tt)
has_entries (e ∷ es) p node h k =
    elim (path_cmp p e.0) as (λ o. AllByRecursion (λ e. has_entry e.1.perms ≡ true) (by_order o ((p, node) ∷ e ∷ es) ((e.0, node) ∷ es) (e ∷ put path_cmp p node es))) [
      | Less ↦ (k, h)
      | Equal ↦ (k, h.1)
      | Greater ↦ (h.0, has_entries es p node h.1 k)
    ]

pub IsTree-put : (tree : Tree) (p : Path) (node : Node) → IsTree tree → has_parent tree p ≡ true → has_entry node.perms ≡ true → IsTree (put path_cmp p node tree)
IsTree-put tree p node h parent entry = record {
  rising = is_true _ (is_sorted-put path_cmp path_total p node tree (holds _ h.rising));
  root = stays tree p node [] h.root;
  parents = λ q n there. stays tree p node q (above tree p node q n h parent there);
  perms = has_entries tree p node h.perms entry;
}

-- `/` alone
only_root : (q : Path) (n : Name) (node : Node) → is_present (([], node) ∷ []) (child q n) ≡ true → is_present (([], node) ∷ []) q ≡ true
only_root [] n node h = refl
only_root (m ∷ q) n node h = cc

pub IsTree-root : (node : Node) → has_entry node.perms ≡ true → IsTree (([], node) ∷ [])
IsTree-root node entry = record { rising = refl; root = refl; parents = λ q n h. only_root q n node h; perms = (entry, tt) }

-- A PATH IS TAKEN AWAY
abbrev without : Path → Tree → Tree
without p tree = edited_at tree p None

childless : (es : Tree) (p : Path) (n : Name) → children es p ≡ [] → is_present es (child p n) ≡ true → ⊥
childless [] p n none h = cc
childless (e ∷ es) p n none h = by (λ k g. childless es p n k g) (same_path (child p n) e.0) refl (child_name p e.0) refl none h
  where
    by : (children es p ≡ [] → is_present es (child p n) ≡ true → ⊥) → (b : Bool) → same_path (child p n) e.0 ≡ b → (o : Option Name) → child_name p e.0 ≡ o → cons_option o (children es p) ≡ [] → is_some (cond b (Some e.1) (node_at es (child p n))) ≡ true → ⊥
    by more b s (Some m) t none h = cc
    by more true s None t none h = not_Some (sym t ∙ ap (child_name p) (sym (same_path-is (child p n) e.0 s)) ∙ child_name-child p n)
    by more false s None t none h = more none h

module _ (tree : Tree) (p : Path) where
  other : (q : Path) → (q ≡ p → ⊥) → same_path q p ≡ false
  other q differs = by (same_path q p) refl
    where
      by : (b : Bool) → same_path q p ≡ b → b ≡ false
      by true e = absurd (differs (same_path-is q p e))
      by false e = refl

  was : (q : Path) → is_present (without p tree) q ≡ true → is_present tree q ≡ true
  was q h = by (same_path q p) (sym (ap is_some (node_at-edited_at tree p None q)) ∙ h)
    where
      by : (b : Bool) → is_some (cond b None (node_at tree q)) ≡ true → is_present tree q ≡ true
      by true e = cc
      by false e = e

  remains : (q : Path) → (q ≡ p → ⊥) → is_present tree q ≡ true → is_present (without p tree) q ≡ true
  remains q differs h = ap is_some (node_at-edited_at tree p None q) ∙ ap (λ b. is_some (cond b None (node_at tree q))) (other q differs) ∙ h

  pub IsTree-without : IsTree tree → is_root p ≡ false → children tree p ≡ [] → IsTree (without p tree)
  IsTree-without is below none = record {
    rising = sorted_edit tree p None is.rising;
    root = remains [] (λ e. not_both (ap is_root (sym e)) below) is.root;
    parents = λ q n h. let there : is_present tree (child q n) ≡ true = was (child q n) h in
        remains q (λ e. childless tree p n none (ap (λ r. is_present tree (child r n)) (sym e) ∙ there)) (is.parents q n there);
    perms = all_where path_cmp (λ (node : Node). has_entry node.perms ≡ true) _ tree is.perms;
  }
