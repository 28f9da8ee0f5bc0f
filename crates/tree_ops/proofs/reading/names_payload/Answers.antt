use Rattle.std.proofs.Common.{◌≡◌, ◌++◌, sym, subst, arith, List, ℕ}
use Rattle.xs_model.specs.Messages.{strings}
use Rattle.xs_model.specs.Trees.{children}
use Rattle.node_tree.specs.Names.{names_above}
use Rattle.tree_ops.proofs.NameLemmas.{next_name, fewer_names, strings_on}
use Rattle.tree_ops.proofs.reading.names_payload.Goals as goal

pub names-smaller : goal.names-smaller
names-smaller g c =
    let tree = g.V.View.nodes c.args.view.now in
    let next = next_name tree c.child_after.ensures.tree c.args.path.now c.names.last.now c.in-Some.name.now (sym c.in-Some.ensures.name) c.in-Some.ensures.spelled in
    omega (arith, fewer_names (children tree c.args.path.now) c.names.last.now c.in-Some.name.now next)

pub names-preserved : goal.names-preserved
names-preserved g c =
    let tree = g.V.View.nodes c.args.view.now in
    let next = next_name tree c.child_after.ensures.tree c.args.path.now c.names.last.now c.in-Some.name.now (sym c.in-Some.ensures.name) c.in-Some.ensures.spelled in
    let more = strings_on c.names.payload (children tree c.args.path.now) c.names.last.now c.in-Some.name.now next c.names.invariant in
    subst (λ (p : List ℕ). p ++ strings (names_above c.in-Some.name.now (children tree c.args.path.now)) ≡ strings (children tree c.args.path.now)) (sym c.in_ok-push_string.ensures) more
