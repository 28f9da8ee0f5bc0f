use Rattle.std.proofs.Common.{◌≡◌, List, Option, Some, None, Ok, IfSome, Bor, sym, ap, subst, ◌∙◌}
use Rattle.std.specs.Option.{option_copied}
use Rattle.path_map.specs.Map.{Entries}
use Rattle.path_map.specs.Marks.{first_below, first_past}
use Rattle.xs_model.specs.Paths.{Path, Name, child, text, path_of, names_below}
use Rattle.xs_model.specs.Trees.{Tree, IsTree, children}
use Rattle.node_tree.specs.KeptTree.{KeptTree, nodes_of}
use Rattle.node_tree.specs.Names.{first_name, names_above}
use Rattle.node_tree.specs.declared.entry.Entry.{Entry}
use Rattle.node_tree.proofs.ChildAbove.{next_child, next_is, name_to}
use Rattle.node_tree.proofs.Entries.{past_mapped}
use Rattle.node_tree.proofs.TreeView.child_after.Goals as goal

told : (p : Path) (leaf : Name) (es : Entries Entry) (t : KeptTree) → IsTree (nodes_of es) → nodes_of es ≡ t.nodes → name_to p (first_past p leaf es) ≡ first_name (names_above leaf (children t.nodes p))
told p leaf es t is view =
    ap (name_to p) (past_mapped es p leaf) ∙ sym (next_child (nodes_of es) p leaf is) ∙ ap (λ (n : Tree). first_name (names_above leaf (children n p))) view

pub returns-in-Some-clause-name : goal.returns-in-Some-clause-name
returns-in-Some-clause-name c =
    c.name_below.ensures.name ∙ ap (name_to c.args.path.now) c.in-Some.ensures.next
    ∙ told c.args.path.now c.args.leaf.now c.self.inside.map.entries c.args.self.now c.self.invariant.tree (ap (λ (t : KeptTree). t.nodes) c.self.view_is)

-- what is found is the child, and its text reads as its path
child_spelled : (p q : Path) (name : Option (Bor Name)) → option_copied name ≡ first_below (names_below p q) → IfSome name (λ n. path_of (text q) 0 ≡ Ok q) → ((n : Name) → first_below (names_below p q) ≡ Some n → q ≡ child p n) → IfSome name (λ n. path_of (text (child p n.now)) 0 ≡ Ok (child p n.now))
child_spelled p q None e h is = tt
child_spelled p q (Some n) e h is = subst (λ r. path_of (text r) 0 ≡ Ok r) (is n.now (sym e)) h

pub returns-in-Some-clause-spelled : goal.returns-in-Some-clause-spelled
returns-in-Some-clause-spelled c =
    let p = c.args.path.now in
    let leaf = c.args.leaf.now in
    let es = c.self.inside.map.entries in
    let found = sym (c.in-Some.ensures.next ∙ past_mapped es p leaf) in
    child_spelled p c.in-Some.next.now c.name_below.result c.name_below.ensures.name c.name_below.ensures.spelled
    (λ n e. next_is (nodes_of es) p leaf c.self.invariant.tree c.in-Some.next.now n found e)

pub returns-in-None-clause-name : goal.returns-in-None-clause-name
returns-in-None-clause-name c =
    ap (name_to c.args.path.now) c.in-None.ensures.next
    ∙ told c.args.path.now c.args.leaf.now c.self.inside.map.entries c.args.self.now c.self.invariant.tree (ap (λ (t : KeptTree). t.nodes) c.self.view_is)
