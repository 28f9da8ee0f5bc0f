use Rattle.std.proofs.Common.{◌≡◌, ◌≤◌, not, [], None, sym, ap, subst, ◌∙◌, false}
use Rattle.std.specs.List.{AllByRecursion}
use Rattle.path_map.specs.Map.{Entries, without}
use Rattle.xs_model.specs.Paths.{Path, path_cmp, same_path}
use Rattle.xs_model.specs.Requests.{is_root}
use Rattle.xs_model.specs.Trees.{Tree, IsTree, children, edited_at}
use Rattle.xs_model.specs.Generations.{Generations, generation_max}
use Rattle.xs_model.proofs.Maps.{all_where}
use Rattle.node_tree.specs.KeptTree.{KeptTree, nodes_of, gens_of}
use Rattle.node_tree.specs.declared.entry.Entry.{Entry}
use Rattle.node_tree.proofs.Entries.{nodes_without, gens_without, some_entry}
use Rattle.node_tree.proofs.Shape.{IsTree-without}
use Rattle.node_tree.proofs.TreeView.remove.Goals as goal

tree_after : (es fs : Entries Entry) (p : Path) (t : KeptTree) → IsTree (nodes_of es) → is_root p ≡ false → children t.nodes p ≡ [] → nodes_of es ≡ t.nodes → fs ≡ without p es → IsTree (nodes_of fs)
tree_after es fs p t is below none same e =
    subst IsTree (sym (ap nodes_of e ∙ nodes_without p es)) (IsTree-without (nodes_of es) p is below (ap (λ (n : Tree). children n p) same ∙ none))

pub invariant_of-self : goal.invariant_of-self
invariant_of-self c =
    let es = c.self.inside.map.entries in
    record {
      tree = tree_after c.self.inside.map.entries c.remove.new.self.entries c.args.path c.args.self.now c.self.invariant.tree c.requires.below c.requires.childless (ap (λ (t : KeptTree). t.nodes) c.self.view_is) c.remove.ensures.entries;
      numbers = subst (λ (g : Generations). AllByRecursion (λ e. e.1 ≤ generation_max) g) (sym (ap gens_of c.remove.ensures.entries ∙ gens_without c.args.path es)) (all_where path_cmp (λ n. n ≤ generation_max) (λ q. not (same_path c.args.path q)) (gens_of es) c.self.invariant.numbers);
      counter = c.self.invariant.counter;
    }

pub returns-clause-nodes : goal.returns-clause-nodes
returns-clause-nodes c =
    ap nodes_of c.remove.ensures.entries ∙ nodes_without c.args.path c.self.inside.map.entries ∙ ap (λ (t : KeptTree). edited_at t.nodes c.args.path None) c.self.view_is

pub returns-clause-made : goal.returns-clause-made
returns-clause-made c = record {
  nodes = ap nodes_of c.remove.ensures.entries ∙ nodes_without c.args.path c.self.inside.map.entries ∙ ap (λ (t : KeptTree). edited_at t.nodes c.args.path None) c.self.view_is;
  gens = ap gens_of c.remove.ensures.entries ∙ gens_without c.args.path c.self.inside.map.entries ∙ ap (λ (t : KeptTree). without c.args.path t.gens) c.self.view_is;
  counter = ap (λ (t : KeptTree). t.counter) c.self.view_is;
}

pub returns-clause-spare : goal.returns-clause-spare
returns-clause-spare c =
    subst (λ n. n ≤ c.remove.new.self.spare) (ap (λ (t : KeptTree). t.spare) c.self.view_is) (c.remove.ensures.spare (some_entry c.remove.new.self.entries (tree_after c.self.inside.map.entries c.remove.new.self.entries c.args.path c.args.self.now c.self.invariant.tree c.requires.below c.requires.childless (ap (λ (t : KeptTree). t.nodes) c.self.view_is) c.remove.ensures.entries)))
