use Rattle.std.proofs.Common.{◌≡◌, ℕ, ◌≤◌, true, max, is_some, sym, ap, subst, ◌∙◌, arith}
use Rattle.std.specs.FinMap.{find, put}
use Rattle.xs_model.specs.Paths.{Path, path_cmp}
use Rattle.xs_model.specs.Trees.{Tree, IsTree, is_present}
use Rattle.xs_model.specs.Generations.{Generations, generation_max, greater}
use Rattle.node_tree.specs.KeptTree.{KeptTree, nodes_of, gens_of}
use Rattle.node_tree.proofs.Entries.{entry, present_is, nodes_stay, gens_put, numbers_put, greater_is}
use Rattle.node_tree.proofs.Tree.regenerate.Goals as goal

pub returns-in-None-clause-found : goal.returns-in-None-clause-found
returns-in-None-clause-found c =
    let p = c.args.path.now in
    ap is_some c.in-None.ensures.value ∙ sym (present_is p c.self.inside.map.entries) ∙ ap (λ (t : KeptTree). is_present t.nodes p) c.self.view_is

pub invariant_of-self-2 : goal.invariant_of-self-2
invariant_of-self-2 c =
    let p = c.args.path.now in
    let es = c.self.inside.map.entries in
    record {
      tree = subst IsTree (sym (nodes_stay p c.in-Some.entry.now c.args.generation es c.self.invariant.tree c.in-Some.ensures.value)) c.self.invariant.tree;
      numbers = numbers_put p c.in-Some.entry.now.node c.args.generation es c.requires c.self.invariant.numbers;
      counter = omega (arith, c.max-self-inside.ensures, c.requires, c.self.invariant.counter);
    }

pub returns-clause-found : goal.returns-clause-found
returns-clause-found c =
    let p = c.args.path.now in
    ap is_some c.in-Some.ensures.value ∙ sym (present_is p c.self.inside.map.entries) ∙ ap (λ (t : KeptTree). is_present t.nodes p) c.self.view_is

abbrev whole : Tree → Generations → ℕ → ℕ → ℕ → KeptTree
whole nodes gens counter spare kept = record { nodes = nodes; gens = gens; counter = counter; spare = spare; kept = kept }

pub returns-clause-after : goal.returns-clause-after
returns-clause-after c =
    let p = c.args.path.now in
    let n = c.args.generation in
    let es = c.self.inside.map.entries in
    let e = c.in-Some.entry.now in
    let s = c.self.inside.map.spare in
    let k = c.self.inside.map.kept in
    let m = c.max-self-inside.result in
    ap (λ (t : Tree). whole t (gens_of (put path_cmp p (entry e.node n) es)) m s k) (nodes_stay p e n es c.self.invariant.tree c.in-Some.ensures.value)
    ∙ ap (λ (g : Generations). whole (nodes_of es) g m s k) (gens_put p e.node n es)
    ∙ ap (λ x. whole (nodes_of es) (put path_cmp p n (gens_of es)) x s k) (c.max-self-inside.ensures ∙ greater_is c.self.inside.counter n)
    ∙ ap (λ (t : KeptTree). record t { gens = put path_cmp p n t.gens; counter = greater t.counter n }) c.self.view_is
