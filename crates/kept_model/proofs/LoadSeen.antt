-- What a tree has where a path is no orphan in it.
use Rattle.std.specs.Prelude.{◌≡◌, Bool, true, false, cond, not, ◌&&◌, List, [], ◌∷◌, Option, Some, None, is_some}
use Rattle.std.specs.List.{list_all, cons_option}
use Rattle.std.proofs.Common.{sym, refl, ap, ◌∙◌}
use Rattle.std.proofs.lemmas.Bool.{and_parts}
use Rattle.xs_model.specs.Paths.{Path, Name, same_path, child, parents}
use Rattle.xs_model.specs.Trees.{Tree, node_at, is_present, child_name, children}
use Rattle.xs_model.specs.Requests.{is_root}
use Rattle.xs_model.proofs.Maps.{not_both}
use Rattle.xs_model.proofs.PathLemmas.{same_path-is, child_name-child}
use Rattle.xs_model.proofs.WayLemmas.{parents-child}
use Rattle.kept_model.specs.Normal.{has_child, is_orphan_in}

-- whether a path leaves a node without its parent, by whether it is there
abbrev orphan_by : Tree → Path → Bool → Bool
orphan_by seen p there = cond there (not (list_all (is_present seen) (parents p))) (cond (is_root p) true (has_child (children seen p)))

not_true : (b : Bool) → not b ≡ false → b ≡ true
not_true true h = refl
not_true false h = not_both refl h

-- it is there, and then its parent is
pub parent_is : (seen : Tree) (p : Path) (n : Name) → is_orphan_in seen (child p n) ≡ false → is_present seen (child p n) ≡ true → is_present seen p ≡ true
parent_is seen p n h there =
    let up : not (list_all (is_present seen) (parents (child p n))) ≡ false = sym (ap (orphan_by seen (child p n)) there) ∙ h in
    let all : (is_present seen p && true) ≡ true = sym (ap (list_all (is_present seen)) (parents-child p n)) ∙ not_true (list_all (is_present seen) (parents (child p n))) up in
    (and_parts (is_present seen p) true all).0

pub root_is : (seen : Tree) → is_orphan_in seen [] ≡ false → is_present seen [] ≡ true
root_is seen =
    elim (is_present seen []) as (λ b. orphan_by seen [] b ≡ false → b ≡ true) [
      | true ↦ λ h. refl
      | false ↦ λ h. not_both refl h
    ]

child_kept : (o : Option Name) (ns : List Name) → has_child ns ≡ true → has_child (cons_option o ns) ≡ true
child_kept None ns h = h
child_kept (Some n) ns h = refl

child_listed : (seen : Tree) (p : Path) (n : Name) → is_present seen (child p n) ≡ true → has_child (children seen p) ≡ true
child_listed [] p n h = not_both h refl
child_listed (e ∷ seen) p n h =
    (elim (same_path (child p n) e.0) as (λ b. same_path (child p n) e.0 ≡ b → is_some (cond b (Some e.1) (node_at seen (child p n))) ≡ true → has_child (cons_option (child_name p e.0) (children seen p)) ≡ true) [
      | true ↦ λ t g. ap (λ o. has_child (cons_option o (children seen p))) (ap (child_name p) (sym (same_path-is (child p n) e.0 t)) ∙ child_name-child p n)
      | false ↦ λ t g. child_kept (child_name p e.0) (children seen p) (child_listed seen p n g)
    ]) refl h

by_children : (root children : Bool) → cond root true children ≡ false → children ≡ false
by_children true children h = not_both refl h
by_children false children h = h

-- a child of it is there, and then it is
pub child_has_parent : (seen : Tree) (p : Path) (n : Name) → is_orphan_in seen p ≡ false → is_present seen (child p n) ≡ true → is_present seen p ≡ true
child_has_parent seen p n h there =
    (elim (is_present seen p) as (λ b. orphan_by seen p b ≡ false → b ≡ true) [
      | true ↦ λ g. refl
      | false ↦ λ g. not_both (child_listed seen p n there) (by_children (is_root p) (has_child (children seen p)) g)
    ]) h
