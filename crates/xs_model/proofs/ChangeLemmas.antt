-- Two trees are alike outside the changed paths of a change from one to the other.
use Rattle.std.specs.Prelude.{◌≡◌, Bool, true, false, ◌||◌, List, [], ◌∷◌, ◌++◌, Option, Some, None, is_some}
use Rattle.std.proofs.Common.{sym, refl, ap, subst, ◌∙◌}
use Rattle.std.proofs.lemmas.Bool.{or_parts, or_right}
use Rattle.xs_model.specs.Paths.{Name, Path, has_path, same_path, child, parents}
use Rattle.xs_model.specs.Trees.{Node, Tree, node_at, is_present}
use Rattle.xs_model.specs.Changes.{change_at, changed_paths}
use Rattle.xs_model.proofs.Maps.{not_both}
use Rattle.xs_model.proofs.PathLemmas.{has_path-append, has_path-here, same_path-is}
use Rattle.xs_model.proofs.WayLemmas.{parents-child}
use Rattle.xs_model.proofs.AlikeLemmas.{AlikeOutside}

pub outside-both : (p : Path) (ps qs : List Path) → has_path p (ps ++ qs) ≡ false → (has_path p ps ≡ false) × (has_path p qs ≡ false)
outside-both p ps qs h = or_parts _ _ (sym (has_path-append p ps qs) ∙ h)

absent_both : (p : Path) (a b : Bool) → has_path p (change_at a b p) ≡ false → (a ≡ false) × (b ≡ false)
absent_both p false false h = (refl, refl)
absent_both p false true h = not_both (has_path-here p (parents p)) h
absent_both p true false h = not_both (has_path-here p (parents p)) h
absent_both p true true h = not_both (has_path-here p []) h

parent_listed : (p : Path) (n : Name) → has_path p (child p n ∷ parents (child p n)) ≡ true
parent_listed p n = ap (λ ps. has_path p (child p n ∷ ps)) (parents-child p n) ∙ or_right (same_path p (child p n)) _ (has_path-here p [])

same_both : (p : Path) (n : Name) (a b : Bool) → has_path p (change_at a b (child p n)) ≡ false → a ≡ b
same_both p n false false h = refl
same_both p n false true h = not_both (parent_listed p n) h
same_both p n true false h = not_both (parent_listed p n) h
same_both p n true true h = refl

module _ (before after : Tree) where
  -- a written path that is not among the changed ones is absent before and after
  both_absent : (p : Path) (ps : List Path) → has_path p ps ≡ true → has_path p (changed_paths before ps after) ≡ false → (is_present before p ≡ false) × (is_present after p ≡ false)
  both_absent p [] w h = not_both w refl
  both_absent p (q ∷ ps) w h =
      let parts = outside-both p (change_at (is_present before q) (is_present after q) q) (changed_paths before ps after) h in
      elim (same_path p q) as (λ b. same_path p q ≡ b → (b || has_path p ps) ≡ true → (is_present before p ≡ false) × (is_present after p ≡ false)) [
        | true ↦ λ e _. absent_both p (is_present before p) (is_present after p) (subst (λ r. has_path p (change_at (is_present before r) (is_present after r) r) ≡ false) (sym (same_path-is p q e)) parts.0)
        | false ↦ λ e v. both_absent p ps v parts.1
      ] refl w

  -- a written child of a path that is not among them is present before and after, or neither
  both_present : (p : Path) (n : Name) (ps : List Path) → has_path (child p n) ps ≡ true → has_path p (changed_paths before ps after) ≡ false → is_present before (child p n) ≡ is_present after (child p n)
  both_present p n [] w h = not_both w refl
  both_present p n (q ∷ ps) w h =
      let parts = outside-both p (change_at (is_present before q) (is_present after q) q) (changed_paths before ps after) h in
      elim (same_path (child p n) q) as (λ b. same_path (child p n) q ≡ b → (b || has_path (child p n) ps) ≡ true → is_present before (child p n) ≡ is_present after (child p n)) [
        | true ↦ λ e _. same_both p n (is_present before (child p n)) (is_present after (child p n)) (subst (λ r. has_path p (change_at (is_present before r) (is_present after r) r) ≡ false) (sym (same_path-is (child p n) q e)) parts.0)
        | false ↦ λ e v. both_present p n ps v parts.1
      ] refl w

  both_None : (o u : Option Node) → is_some o ≡ false → is_some u ≡ false → o ≡ u
  both_None None None a b = refl
  both_None None (Some node) a b = not_both refl b
  both_None (Some node) u a b = not_both refl a

  module _ (written : List Path) (frame : (q : Path) → has_path q written ≡ false → node_at after q ≡ node_at before q) where
    same_node : (p : Path) (b : Bool) → has_path p written ≡ b → has_path p (changed_paths before written after) ≡ false → node_at before p ≡ node_at after p
    same_node p true w h = let absent = both_absent p written w h in both_None (node_at before p) (node_at after p) absent.0 absent.1
    same_node p false w h = sym (frame p w)

    same_child : (p : Path) (n : Name) (b : Bool) → has_path (child p n) written ≡ b → has_path p (changed_paths before written after) ≡ false → is_present before (child p n) ≡ is_present after (child p n)
    same_child p n true w h = both_present p n written w h
    same_child p n false w h = sym (ap is_some (frame (child p n) w))

    pub changed_alike : AlikeOutside (changed_paths before written after) before after
    changed_alike = record {
      nodes = λ p h. same_node p (has_path p written) refl h;
      children = λ p n h. same_child p n (has_path (child p n) written) refl h;
    }
