use Rattle.std.proofs.Common.{sym, arith}
use Rattle.xs_model.specs.Trees.{children}
use Rattle.tree_ops.proofs.NameLemmas.{next_name, fewer_names}
use Rattle.tree_ops.proofs.PartLemmas.{place_on}
use Rattle.tree_ops.proofs.parts.place.Goals as goal

pub names-smaller : goal.names-smaller
names-smaller g c =
    let tree = g.V.View.nodes c.args.view.now in
    let next = next_name tree c.child_after.ensures.tree c.args.path.now c.names.last.now c.in-Some.name.now (sym c.in-Some.ensures.name) c.in-Some.ensures.spelled in
    omega (arith, fewer_names (children tree c.args.path.now) c.names.last.now c.in-Some.name.now next)

pub names-preserved : goal.names-preserved
names-preserved g c =
    let tree = g.V.View.nodes c.args.view.now in
    let next = next_name tree c.child_after.ensures.tree c.args.path.now c.names.last.now c.in-Some.name.now (sym c.in-Some.ensures.name) c.in-Some.ensures.spelled in
    place_on (children tree c.args.path.now) c.args.offset c.names.last.now c.in-Some.name.now c.names.left c.names.invariant next (omega (arith, c.if-left-name.false))
