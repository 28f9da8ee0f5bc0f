use Rattle.std.proofs.Common.{◌≤◌, ◌<◌, ◌+◌, ◌++◌, List, ℕ, length, drop, sym, ap, subst, ◌∙◌, arith}
use Rattle.std.proofs.lemmas.Bool.{leb-true, leb-false}
use Rattle.xs_model.specs.Messages.{string, strings}
use Rattle.xs_model.specs.Trees.{children}
use Rattle.xs_model.specs.Commands.{part_of_list}
use Rattle.node_tree.specs.Names.{names_above}
use Rattle.tree_ops.proofs.NameLemmas.{next_name, fewer_names}
use Rattle.tree_ops.proofs.PartLemmas.{IsGiving, name_clean, given_all, given_one}
use Rattle.tree_ops.proofs.parts.names_from.Goals as goal

pub returns-then-is_full : goal.returns-then-is_full
returns-then-is_full g c =
    let tree = g.V.View.nodes c.args.view.now in
    let names = children tree c.args.path.now in
    let next = next_name tree c.child_after.ensures.tree c.args.path.now c.names.last.now c.in-Some.name.now (sym c.in-Some.ensures.name) c.in-Some.ensures.spelled in
    let full : 4096 ≤ length c.names.payload + length c.from_byte-rest.result.now =
    leb-true 4096 (length c.names.payload + length c.from_byte-rest.result.now) (sym c.if-is_full.ensures) in
    given_all names _ c.names.payload c.names.last.now c.in-Some.name.now c.names.passed c.names.invariant next (name_clean c.args.path.now c.in-Some.name.now c.in-Some.ensures.spelled)
    (subst (λ (r : List ℕ). 4096 ≤ length c.names.payload + length r) c.from_byte-rest.ensures full)

pub names-smaller : goal.names-smaller
names-smaller g c =
    let tree = g.V.View.nodes c.args.view.now in
    let next = next_name tree c.child_after.ensures.tree c.args.path.now c.names.last.now c.in-Some.name.now (sym c.in-Some.ensures.name) c.in-Some.ensures.spelled in
    omega (arith, fewer_names (children tree c.args.path.now) c.names.last.now c.in-Some.name.now next)

pub names-preserved : goal.names-preserved
names-preserved g c =
    let tree = g.V.View.nodes c.args.view.now in
    let names = children tree c.args.path.now in
    let next = next_name tree c.child_after.ensures.tree c.args.path.now c.names.last.now c.in-Some.name.now (sym c.in-Some.ensures.name) c.in-Some.ensures.spelled in
    let whole = part_of_list c.args.head (drop c.args.passed (strings (names_above c.args.last.now names))) in
    let fits : length c.names.payload + length c.from_byte-rest.result.now < 4096 =
    leb-false 4096 (length c.names.payload + length c.from_byte-rest.result.now) (sym c.if-is_full.ensures) in
    let given = given_one names whole c.names.payload c.names.last.now c.in-Some.name.now c.names.passed c.names.invariant next
    (subst (λ (r : List ℕ). length c.names.payload + length r < 4096) c.from_byte-rest.ensures fits) in
    subst (λ (p : List ℕ). IsGiving names whole p c.in-Some.name.now 0)
    (sym (c.in_ok-push_string.ensures ∙ ap (λ (r : List ℕ). c.names.payload ++ string r) c.from_byte-rest.ensures)) given
