use Rattle.std.proofs.Common.{true, refl, sym, ap, ◌∙◌}
use Rattle.std.specs.Option.{option_map}
use Rattle.node_tree.proofs.ChildAbove.{name_to}
use Rattle.txn_access.proofs.PresenceLemmas.{is_step, some_mapped, own_alone, own_before, none_step, equal_step, greater_step}
use Rattle.txn_access.proofs.presence.search_step.Goals as goal

pub returns-in_default : goal.returns-in_default
returns-in_default c =
    let tree = c.args.tree.now.nodes in
    let ms = c.args.map.now.entries in
    let p = c.args.path.now in
    let leaf = c.args.leaf.now in
    let own = c.child_after-own.result in
    is_step tree ms p leaf c.found.result c.is_some.result c.found.ensures.passed c.found.ensures.found
    (c.is_some.ensures ∙ some_mapped own ∙ own_alone tree ms p leaf c.is_kept.ensures.tree c.is_rising.ensures (ap (name_to p) (sym c.in_default.ensures.next)) (option_map (λ n. n.now) own) c.child_after-own.ensures.name)

pub returns-in_default-name_below : goal.returns-in_default-name_below
returns-in_default-name_below c =
    let tree = c.args.tree.now.nodes in
    let ms = c.args.map.now.entries in
    let p = c.args.path.now in
    let leaf = c.args.leaf.now in
    let own = c.child_after-own.result in
    is_step tree ms p leaf c.found-in_default-name_below.result c.is_some-in_default-name_below.result c.found-in_default-name_below.ensures.passed c.found-in_default-name_below.ensures.found
    (c.is_some-in_default-name_below.ensures ∙ some_mapped own ∙ own_alone tree ms p leaf c.is_kept.ensures.tree c.is_rising.ensures (ap (name_to p) (sym c.in-Some.ensures.next) ∙ sym c.in_default-name_below.ensures.name) (option_map (λ n. n.now) own) c.child_after-own.ensures.name)

pub returns-in_default-own : goal.returns-in_default-own
returns-in_default-own c =
    none_step c.args.tree.now.nodes c.args.map.now.entries c.args.path.now c.args.leaf.now c.is_kept.ensures.tree c.is_rising.ensures
    c.in-Some.marked.now c.in-Some-name_below.name.now c.in-Some.ensures.next c.in-Some-name_below.ensures.name
    c.in_default-own.ensures.name c.in-Some-name_below.ensures.spelled c.in-Some-name_below.name refl c.shows_marked.result c.shows_marked.ensures c.at_name.result c.at_name.ensures.passed c.at_name.ensures.found

pub returns-in-Less : goal.returns-in-Less
returns-in-Less c =
    let tree = c.args.tree.now.nodes in
    let ms = c.args.map.now.entries in
    let p = c.args.path.now in
    let leaf = c.args.leaf.now in
    is_step tree ms p leaf c.found-in-Less.result true c.found-in-Less.ensures.passed c.found-in-Less.ensures.found
    (own_before tree ms p leaf c.is_kept.ensures.tree c.is_rising.ensures
    c.in-Some.marked.now c.in-Some-name_below.name.now c.in-Some.ensures.next c.in-Some-name_below.ensures.name
    c.in-Some-own.own.now c.in-Some-own.ensures.name c.in-Less.ensures)

pub returns-in-Equal : goal.returns-in-Equal
returns-in-Equal c =
    equal_step c.args.tree.now.nodes c.args.map.now.entries c.args.path.now c.args.leaf.now c.is_kept.ensures.tree c.is_rising.ensures
    c.in-Some.marked.now c.in-Some-name_below.name.now c.in-Some.ensures.next c.in-Some-name_below.ensures.name
    c.in-Some-own.own.now c.in-Some-own.ensures.name c.in-Equal.ensures
    c.in-Some-name_below.ensures.spelled c.in-Some-name_below.name refl c.shows_marked-in-Equal.result c.shows_marked-in-Equal.ensures c.at_name-in-Equal.result c.at_name-in-Equal.ensures.passed c.at_name-in-Equal.ensures.found

pub returns-in-Greater : goal.returns-in-Greater
returns-in-Greater c =
    greater_step c.args.tree.now.nodes c.args.map.now.entries c.args.path.now c.args.leaf.now c.is_kept.ensures.tree c.is_rising.ensures
    c.in-Some.marked.now c.in-Some-name_below.name.now c.in-Some.ensures.next c.in-Some-name_below.ensures.name
    c.in-Some-own.own.now c.in-Some-own.ensures.name c.in-Greater.ensures
    c.in-Some-name_below.ensures.spelled c.in-Some-name_below.name refl c.shows_marked-in-Greater.result c.shows_marked-in-Greater.ensures c.at_name-in-Greater.result c.at_name-in-Greater.ensures.passed c.at_name-in-Greater.ensures.found
