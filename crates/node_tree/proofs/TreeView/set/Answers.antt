use Rattle.std.proofs.Common.{◌≡◌, ℕ, ◌≤◌, true, Some, None, sym, ap, subst, ◌∙◌, arith}
use Rattle.std.specs.List.{AllByRecursion}
use Rattle.std.specs.FinMap.{find, put}
use Rattle.path_map.specs.Map.{Entries}
use Rattle.xs_model.specs.Paths.{Path, path_cmp}
use Rattle.xs_model.specs.Trees.{Tree, Node, IsTree, has_entry, edited_at}
use Rattle.xs_model.specs.Generations.{Generations, generation_max, generation_of}
use Rattle.node_tree.specs.KeptTree.{KeptTree, nodes_of, gens_of, has_parent}
use Rattle.node_tree.specs.declared.entry.Entry.{Entry}
use Rattle.node_tree.proofs.Entries.{entry, nodes_put, gens_put, numbers_put, number_there, number_absent, number_small}
use Rattle.node_tree.proofs.Shape.{IsTree-put}
use Rattle.node_tree.proofs.TreeView.set.Goals as goal

tree_put : (p : Path) (node : Node) (n : ℕ) (es : Entries Entry) → IsTree (nodes_of es) → has_parent (nodes_of es) p ≡ true → has_entry node.perms ≡ true → IsTree (nodes_of (put path_cmp p (entry node n) es))
tree_put p node n es is parent one = subst IsTree (sym (nodes_put p node n es)) (IsTree-put (nodes_of es) p node is parent one)

gens_set : (p : Path) (node : Node) (n : ℕ) (es : Entries Entry) → generation_of (gens_of es) p ≡ n → gens_of (put path_cmp p (entry node n) es) ≡ put path_cmp p (generation_of (gens_of es) p) (gens_of es)
gens_set p node n es h = gens_put p node n es ∙ ap (λ m. put path_cmp p m (gens_of es)) (sym h)

abbrev set_gens : Path → KeptTree → Generations
set_gens p t = put path_cmp p (generation_of t.gens p) t.gens

pub invariant_of-self : goal.invariant_of-self
invariant_of-self c =
    let es = c.self.inside.map.entries in
    let parent = subst (λ (t : KeptTree). has_parent t.nodes c.args.path ≡ true) (sym c.self.view_is) c.requires.parent in
    record {
      tree = tree_put c.args.path c.args.node c.in-Some.entry.now.generation es c.self.invariant.tree parent c.requires.entry;
      numbers = numbers_put c.args.path c.args.node c.in-Some.entry.now.generation es (number_small c.args.path es c.in-Some.entry.now c.self.invariant.numbers c.in-Some.ensures.value) c.self.invariant.numbers;
      counter = c.self.invariant.counter;
    }

pub returns-in-Some-clause-nodes : goal.returns-in-Some-clause-nodes
returns-in-Some-clause-nodes c =
    nodes_put c.args.path c.args.node c.in-Some.entry.now.generation c.self.inside.map.entries ∙ ap (λ (t : KeptTree). edited_at t.nodes c.args.path (Some c.args.node)) c.self.view_is

pub returns-in-Some-clause-made : goal.returns-in-Some-clause-made
returns-in-Some-clause-made c =
    let es = c.self.inside.map.entries in
    let n = c.in-Some.entry.now.generation in
    record {
      nodes = nodes_put c.args.path c.args.node n es ∙ ap (λ (t : KeptTree). edited_at t.nodes c.args.path (Some c.args.node)) c.self.view_is;
      gens = gens_set c.args.path c.args.node n es (number_there c.args.path es c.in-Some.entry.now c.in-Some.ensures.value) ∙ ap (set_gens c.args.path) c.self.view_is;
      counter = ap (λ (t : KeptTree). t.counter) c.self.view_is;
    }

pub invariant_of-self-2 : goal.invariant_of-self-2
invariant_of-self-2 c =
    let es = c.self.inside.map.entries in
    let parent = subst (λ (t : KeptTree). has_parent t.nodes c.args.path ≡ true) (sym c.self.view_is) c.requires.parent in
    record {
      tree = subst (λ (t : Entries Entry). IsTree (nodes_of t)) (sym c.put.ensures.entries) (tree_put c.args.path c.args.node 0 es c.self.invariant.tree parent c.requires.entry);
      numbers = subst (λ (t : Entries Entry). AllByRecursion (λ e. e.1 ≤ generation_max) (gens_of t)) (sym c.put.ensures.entries) (numbers_put c.args.path c.args.node 0 es (omega arith) c.self.invariant.numbers);
      counter = c.self.invariant.counter;
    }

pub returns-clause-nodes : goal.returns-clause-nodes
returns-clause-nodes c =
    ap nodes_of c.put.ensures.entries ∙ nodes_put c.args.path c.args.node 0 c.self.inside.map.entries ∙ ap (λ (t : KeptTree). edited_at t.nodes c.args.path (Some c.args.node)) c.self.view_is

pub returns-clause-made : goal.returns-clause-made
returns-clause-made c =
    let es = c.self.inside.map.entries in
    record {
      nodes = ap nodes_of c.put.ensures.entries ∙ nodes_put c.args.path c.args.node 0 es ∙ ap (λ (t : KeptTree). edited_at t.nodes c.args.path (Some c.args.node)) c.self.view_is;
      gens = ap gens_of c.put.ensures.entries ∙ gens_set c.args.path c.args.node 0 es (number_absent c.args.path es c.in_default.ensures.value) ∙ ap (set_gens c.args.path) c.self.view_is;
      counter = ap (λ (t : KeptTree). t.counter) c.self.view_is;
    }
