use Rattle.std.proofs.Common.{◌≡◌, sym, ap, subst, ◌∙◌, List, ℕ, Some, None}
use Rattle.xs_model.specs.Paths.{Path}
use Rattle.xs_model.specs.Trees.{children}
use Rattle.xs_model.proofs.PathLemmas.{same_path-is}
use Rattle.node_tree.specs.Names.{names_above, first_name}
use Rattle.tree_ops.specs.Walks.{IsNext}
use Rattle.tree_ops.proofs.WalkLemmas.{passed_start, next_found, next_none, step_up}
use Rattle.tree_ops.proofs.BelowLemmas.{child_found, child_none}
use Rattle.tree_ops.proofs.NameLemmas.{filled_name}
use Rattle.tree_ops.proofs.removing.next_below.Goals as goal

pub up-init : goal.up-init
up-init g c =
    rw (c.in_ok-up.ensures, c.new-leaf.ensures) (passed_start (g.V.View.nodes c.args.view.now) c.args.top.now c.args.at.now c.requires.below)

pub returns-in-Some : goal.returns-in-Some
returns-in-Some g c =
    let tree = g.V.View.nodes c.args.view.now in
    let name = c.in-Some.name.now in
    let found : first_name (names_above c.up.leaf (children tree c.up.up)) ≡ Some name =
    ap (λ (l : List ℕ). first_name (names_above l (children tree c.up.up))) (sym c.as_slice.ensures) ∙ sym c.in-Some.ensures.name
    in
    let next = next_found tree c.requires.tree c.args.top.now c.args.at.now c.up.up c.up.leaf name c.up.invariant
    (child_found tree c.requires.tree c.up.up c.up.leaf name found) (filled_name c.up.up name c.in-Some.ensures.spelled)
    in
    subst (λ (q : Path). IsNext tree c.args.top.now c.args.at.now (Some q)) (sym c.in_ok-child.ensures) next

pub returns-then-eq : goal.returns-then-eq
returns-then-eq g c =
    let tree = g.V.View.nodes c.args.view.now in
    let none : first_name (names_above c.up.leaf (children tree c.up.up)) ≡ None =
    ap (λ (l : List ℕ). first_name (names_above l (children tree c.up.up))) (sym c.as_slice.ensures) ∙ sym c.in_default.ensures.name
    in
    next_none tree c.requires.tree c.args.top.now c.args.at.now c.up.up c.up.leaf c.up.invariant
    (child_none tree c.up.up c.up.leaf none) (same_path-is c.up.up c.args.top.now (sym c.eq.ensures ∙ c.if-eq.true))

pub up-preserved : goal.up-preserved
up-preserved g c =
    let tree = g.V.View.nodes c.args.view.now in
    let none : first_name (names_above c.up.leaf (children tree c.up.up)) ≡ None =
    ap (λ (l : List ℕ). first_name (names_above l (children tree c.up.up))) (sym c.as_slice.ensures) ∙ sym c.in_default.ensures.name
    in
    step_up tree c.requires.tree c.args.top.now c.args.at.now c.up.up c.pop.new.self c.up.leaf c.in_ok-leaf.leaf c.pop.result c.up.invariant
    (child_none tree c.up.up c.up.leaf none) (sym c.eq.ensures ∙ c.if-eq.false) (c.in_ok-leaf.ensures ∙ c.leaf-in-up.ensures) c.pop.ensures.parent
