use Rattle.std.proofs.Common.{◌≡◌, ◌≤◌, [], ◌∷◌, refl, sym, ap, subst, ◌∙◌, arith}
use Rattle.std.specs.FinMap.{put}
use Rattle.std.specs.List.{AllByRecursion}
use Rattle.path_map.specs.Map.{Entries}
use Rattle.xs_model.specs.Paths.{Path, path_cmp}
use Rattle.xs_model.specs.Perms.{new_root_perms}
use Rattle.xs_model.specs.Trees.{Node, IsTree}
use Rattle.xs_model.specs.Generations.{generation_max}
use Rattle.node_tree.specs.KeptTree.{nodes_of, gens_of}
use Rattle.node_tree.specs.declared.entry.Entry.{Entry}
use Rattle.node_tree.proofs.Entries.{entry}
use Rattle.node_tree.proofs.Shape.{IsTree-root}
use Rattle.node_tree.proofs.Tree.new.Goals as goal

pub invariant_of-result : goal.invariant_of-result
invariant_of-result c =
    let path : Path = c.in_ok-path.path in
    let one : c.put.new.self.entries ≡ ([], entry (record { value = []; perms = new_root_perms }) 0) ∷ [] =
    c.put.ensures.entries ∙ (λ i. put path_cmp (c.in_ok-path.ensures i) (entry (c.in_ok-node.ensures i) 0) ((c.in_ok-reserve.ensures.same ∙ ap (λ m. m.entries) c.new-map.ensures) i)) in
    subst (λ (es : Entries Entry). record { tree : IsTree (nodes_of es); numbers : AllByRecursion (λ e. e.1 ≤ generation_max) (gens_of es); counter : 0 ≤ generation_max }) (sym one)
    record { tree = IsTree-root _ refl; numbers = (omega arith, tt); counter = omega arith }
