use Rattle.std.proofs.Common.{◌≡◌, ℕ, ◌≤◌, Bool, List, cond, true, false, sym, ap, subst, ◌∙◌}
use Rattle.std.specs.List.{AllByRecursion}
use Rattle.path_map.specs.Map.{Map, Entries}
use Rattle.xs_model.specs.Paths.{Path}
use Rattle.xs_model.specs.Trees.{Tree, IsTree}
use Rattle.xs_model.specs.Generations.{Generations, generation_max, greatest, numbered, next_generation}
use Rattle.node_tree.specs.KeptTree.{KeptTree, nodes_of, gens_of}
use Rattle.node_tree.specs.Numbers.{restamped, counted, with_numbers, one_has}
use Rattle.node_tree.specs.declared.entry.Entry.{Entry}
use Rattle.node_tree.proofs.Entries.{rising_entries, rising_gens}
use Rattle.node_tree.proofs.Stamped.{gens_stamped, nodes_stamped, all_restamped, next_small, counted_is, numbered_is}
use Rattle.node_tree.proofs.Tree.stamp.Goals as goal

nodes_after : (m k : Map Entry) (ps : List Path) (n x : ℕ) → IsTree (nodes_of m.entries) → k ≡ record m { entries = with_numbers ps n m.entries } → n ≡ next_generation x → nodes_of k.entries ≡ nodes_of m.entries
nodes_after m k ps n x is made e = ap (λ (r : Map Entry). nodes_of r.entries) made ∙ nodes_stamped ps n m.entries (rising_entries m.entries is)

gens_after : (m k : Map Entry) (ps : List Path) (n x : ℕ) → IsTree (nodes_of m.entries) → k ≡ record m { entries = with_numbers ps n m.entries } → n ≡ next_generation x → gens_of k.entries ≡ restamped ps (next_generation x) (gens_of m.entries)
gens_after m k ps n x is made e =
    ap (λ (r : Map Entry). gens_of r.entries) made ∙ gens_stamped ps n m.entries (rising_entries m.entries is) ∙ ap (λ y. restamped ps y (gens_of m.entries)) e

chosen_small : (b : Bool) (r n x : ℕ) → r ≡ cond b n x → n ≡ next_generation x → x ≤ generation_max → r ≤ generation_max
chosen_small true r n x h e small = subst (λ y. y ≤ generation_max) (sym (h ∙ e)) (next_small x)
chosen_small false r n x h e small = subst (λ y. y ≤ generation_max) (sym h) small

pub invariant_of-self : goal.invariant_of-self
invariant_of-self c =
    let m = c.self.inside.map in
    let k = c.stamp_all-found.new.map in
    let n = c.next_generation-number.result in
    let x = c.self.inside.counter in
    record {
      tree = subst IsTree (sym (nodes_after m k c.args.changed.now n x c.self.invariant.tree c.stamp_all-found.ensures.map c.next_generation-number.ensures)) c.self.invariant.tree;
      numbers = subst (λ (g : Generations). AllByRecursion (λ e. e.1 ≤ generation_max) g) (sym (gens_after m k c.args.changed.now n x c.self.invariant.tree c.stamp_all-found.ensures.map c.next_generation-number.ensures)) (all_restamped c.args.changed.now (next_generation x) generation_max (gens_of m.entries) (next_small x) c.self.invariant.numbers);
      counter = chosen_small c.stamp_all-found.result c.chosen-self-inside.result n x c.chosen-self-inside.ensures c.next_generation-number.ensures c.self.invariant.counter;
    }

pub returns-clause-nodes : goal.returns-clause-nodes
returns-clause-nodes c =
    nodes_after c.self.inside.map c.stamp_all-found.new.map c.args.changed.now c.next_generation-number.result c.self.inside.counter c.self.invariant.tree c.stamp_all-found.ensures.map c.next_generation-number.ensures
    ∙ ap (λ (t : KeptTree). t.nodes) c.self.view_is

pub returns-clause-gens : goal.returns-clause-gens
returns-clause-gens c =
    gens_after c.self.inside.map c.stamp_all-found.new.map c.args.changed.now c.next_generation-number.result c.self.inside.counter c.self.invariant.tree c.stamp_all-found.ensures.map c.next_generation-number.ensures
    ∙ ap (λ (t : KeptTree). restamped c.args.changed.now (next_generation t.counter) t.gens) c.self.view_is

counter_after : (m : Map Entry) (ps : List Path) (found : Bool) (r n x : ℕ) → r ≡ cond found n x → n ≡ next_generation x → found ≡ one_has ps (gens_of m.entries) → r ≡ counted ps x (gens_of m.entries)
counter_after m ps found r n x h e f = h ∙ (λ i. cond (f i) (e i) x)

pub returns-clause-counter : goal.returns-clause-counter
returns-clause-counter c =
    counter_after c.self.inside.map c.args.changed.now c.stamp_all-found.result c.chosen-self-inside.result c.next_generation-number.result c.self.inside.counter c.chosen-self-inside.ensures c.next_generation-number.ensures c.stamp_all-found.ensures.found
    ∙ ap (λ (t : KeptTree). counted c.args.changed.now t.counter t.gens) c.self.view_is

pub returns-clause-numbered : goal.returns-clause-numbered
returns-clause-numbered c = λ same.
    let same_inside = subst (λ (t : KeptTree). t.counter ≡ greatest t.gens) (sym c.self.view_is) same in
    gens_after c.self.inside.map c.stamp_all-found.new.map c.args.changed.now c.next_generation-number.result c.self.inside.counter c.self.invariant.tree c.stamp_all-found.ensures.map c.next_generation-number.ensures
    ∙ numbered_is c.args.changed.now c.self.inside.counter c.self.inside.map.entries c.self.invariant.tree same_inside
    ∙ ap (λ (t : KeptTree). numbered c.args.changed.now t.gens t.nodes) c.self.view_is

pub returns-clause-greatest : goal.returns-clause-greatest
returns-clause-greatest c = λ same.
    let same_inside = subst (λ (t : KeptTree). t.counter ≡ greatest t.gens) (sym c.self.view_is) same in
    counter_after c.self.inside.map c.args.changed.now c.stamp_all-found.result c.chosen-self-inside.result c.next_generation-number.result c.self.inside.counter c.chosen-self-inside.ensures c.next_generation-number.ensures c.stamp_all-found.ensures.found
    ∙ counted_is c.args.changed.now c.self.inside.counter (gens_of c.self.inside.map.entries) (rising_gens c.self.inside.map.entries c.self.invariant.tree) c.self.invariant.counter same_inside
    ∙ ap greatest (sym (gens_after c.self.inside.map c.stamp_all-found.new.map c.args.changed.now c.next_generation-number.result c.self.inside.counter c.self.invariant.tree c.stamp_all-found.ensures.map c.next_generation-number.ensures))
