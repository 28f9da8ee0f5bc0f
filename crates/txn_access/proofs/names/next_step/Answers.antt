use Rattle.std.proofs.Common.{true, false, Some, sym, ap, ◌∙◌}
use Rattle.std.specs.Option.{option_map}
use Rattle.node_tree.proofs.ChildAbove.{name_to}
use Rattle.txn_access.specs.Steps.{is_seen}
use Rattle.txn_access.proofs.StepLemmas.{found_step, passed_step, own_found, less_found, equal_found, equal_passed, greater_found, greater_passed, marked_spelled}
use Rattle.txn_access.proofs.names.next_step.Goals as goal

pub returns-in_default : goal.returns-in_default
returns-in_default c =
    let tree = c.args.tree.now.nodes in
    let ms = c.args.map.now.entries in
    let p = c.args.path.now in
    let leaf = c.args.leaf.now in
    let own = c.child_after-own.result in
    found_step tree ms p leaf c.found.result own c.found.ensures.passed c.found.ensures.found record {
      name = own_found tree ms p leaf c.is_kept.ensures.tree c.requires c.is_rising.ensures (option_map (λ n. n.now) own) c.child_after-own.ensures.name (ap (name_to p) (sym c.in_default.ensures.next));
      spelled = c.child_after-own.ensures.spelled;
    }

pub returns-in_default-name_below : goal.returns-in_default-name_below
returns-in_default-name_below c =
    let tree = c.args.tree.now.nodes in
    let ms = c.args.map.now.entries in
    let p = c.args.path.now in
    let leaf = c.args.leaf.now in
    let own = c.child_after-own.result in
    found_step tree ms p leaf c.found-in_default-name_below.result own c.found-in_default-name_below.ensures.passed c.found-in_default-name_below.ensures.found record {
      name = own_found tree ms p leaf c.is_kept.ensures.tree c.requires c.is_rising.ensures (option_map (λ n. n.now) own) c.child_after-own.ensures.name (ap (name_to p) (sym c.in-Some.ensures.next) ∙ sym c.in_default-name_below.ensures.name);
      spelled = c.child_after-own.ensures.spelled;
    }

pub returns-in-Less : goal.returns-in-Less
returns-in-Less c =
    let tree = c.args.tree.now.nodes in
    let ms = c.args.map.now.entries in
    let p = c.args.path.now in
    let leaf = c.args.leaf.now in
    let own = c.child_after-own.result in
    found_step tree ms p leaf c.found-in-Less.result own c.found-in-Less.ensures.passed c.found-in-Less.ensures.found record {
      name = less_found tree ms p leaf c.is_kept.ensures.tree c.requires c.is_rising.ensures (option_map (λ n. n.now) own) c.child_after-own.ensures.name c.in-Some.marked.now c.in-Some-name_below.name.now c.in-Some.ensures.next c.in-Some-name_below.ensures.name c.in-Less.ensures;
      spelled = c.child_after-own.ensures.spelled;
    }

pub returns-then-is_seen : goal.returns-then-is_seen
returns-then-is_seen c =
    let tree = c.args.tree.now.nodes in
    let ms = c.args.map.now.entries in
    let p = c.args.path.now in
    let leaf = c.args.leaf.now in
    let own = c.child_after-own.result in
    found_step tree ms p leaf c.found-then-is_seen.result own c.found-then-is_seen.ensures.passed c.found-then-is_seen.ensures.found record {
      name = equal_found tree ms p leaf c.is_kept.ensures.tree c.requires c.is_rising.ensures (option_map (λ n. n.now) own) c.child_after-own.ensures.name c.in-Some.marked.now c.in-Some-name_below.name.now c.in-Some.ensures.next c.in-Some-name_below.ensures.name c.in-Equal.ensures
          (ap (λ m. is_seen m true) (sym c.mark_on-mark.ensures) ∙ sym c.is_seen.ensures ∙ c.if-is_seen.true);
      spelled = c.child_after-own.ensures.spelled;
    }

pub returns-else-is_seen : goal.returns-else-is_seen
returns-else-is_seen c =
    let tree = c.args.tree.now.nodes in
    let ms = c.args.map.now.entries in
    let p = c.args.path.now in
    let leaf = c.args.leaf.now in
    let own = c.child_after-own.result in
    passed_step tree ms p leaf c.passed.result c.in-Some-name_below.name c.passed.ensures.passed
    (equal_passed tree ms p leaf c.is_kept.ensures.tree c.requires c.is_rising.ensures (option_map (λ n. n.now) own) c.child_after-own.ensures.name c.in-Some.marked.now c.in-Some-name_below.name.now c.in-Some.ensures.next c.in-Some-name_below.ensures.name c.in-Some-name_below.ensures.spelled c.in-Equal.ensures
    (ap (λ m. is_seen m true) (sym c.mark_on-mark.ensures) ∙ sym c.is_seen.ensures ∙ c.if-is_seen.false))

pub returns-then-is_seen-2 : goal.returns-then-is_seen-2
returns-then-is_seen-2 c =
    let tree = c.args.tree.now.nodes in
    let ms = c.args.map.now.entries in
    let p = c.args.path.now in
    let leaf = c.args.leaf.now in
    let own = c.child_after-own.result in
    let shown = ap (λ m. is_seen m false) (sym c.mark_on-mark.ensures) ∙ sym c.is_seen-in-Greater.ensures ∙ c.if-is_seen-2.true in
    found_step tree ms p leaf c.found-then-is_seen-2.result (Some c.in-Some-name_below.name) c.found-then-is_seen-2.ensures.passed c.found-then-is_seen-2.ensures.found record {
      name = sym (greater_found tree ms p leaf c.is_kept.ensures.tree c.requires c.is_rising.ensures (option_map (λ n. n.now) own) c.child_after-own.ensures.name c.in-Some.marked.now c.in-Some-name_below.name.now c.in-Some.ensures.next c.in-Some-name_below.ensures.name c.in-Greater.ensures shown);
      spelled = marked_spelled tree ms p leaf c.is_kept.ensures.tree c.requires c.is_rising.ensures (option_map (λ n. n.now) own) c.child_after-own.ensures.name c.in-Some.marked.now c.in-Some-name_below.name.now c.in-Some.ensures.next c.in-Some-name_below.ensures.name shown c.in-Some-name_below.ensures.spelled;
    }

pub returns-else-is_seen-2 : goal.returns-else-is_seen-2
returns-else-is_seen-2 c =
    let tree = c.args.tree.now.nodes in
    let ms = c.args.map.now.entries in
    let p = c.args.path.now in
    let leaf = c.args.leaf.now in
    let own = c.child_after-own.result in
    passed_step tree ms p leaf c.passed-else-is_seen-2.result c.in-Some-name_below.name c.passed-else-is_seen-2.ensures.passed
    (greater_passed tree ms p leaf c.is_kept.ensures.tree c.requires c.is_rising.ensures (option_map (λ n. n.now) own) c.child_after-own.ensures.name c.in-Some.marked.now c.in-Some-name_below.name.now c.in-Some.ensures.next c.in-Some-name_below.ensures.name c.in-Some-name_below.ensures.spelled c.in-Greater.ensures
    (ap (λ m. is_seen m false) (sym c.mark_on-mark.ensures) ∙ sym c.is_seen-in-Greater.ensures ∙ c.if-is_seen-2.false))
