use Rattle.std.proofs.Common.{sym, ap, ◌∙◌}
use Rattle.xs_model.specs.Trees.{Node, has_entry}
use Rattle.watch_events.proofs.EventLemmas.{node_has_entry}
use Rattle.watch_events.proofs.change.perms_at.Goals as goal

pub returns-in-Some-clause-entry : goal.returns-in-Some-clause-entry
returns-in-Some-clause-entry g c =
    let entry = node_has_entry (g.B.Nodes.nodes c.args.after.now) c.args.path.now c.in-Some.node.now c.node.ensures.tree (sym c.in-Some.ensures.node) in
    ap (λ (node : Node). has_entry node.perms) c.node-in-Some.view_is ∙ entry

pub returns-in-Some-node-clause-entry : goal.returns-in-Some-node-clause-entry
returns-in-Some-node-clause-entry g c =
    let entry = node_has_entry (g.A.Nodes.nodes c.args.before.now) c.args.path.now c.in-Some-node.node.now c.node-in-None.ensures.tree (sym c.in-Some-node.ensures.node) in
    ap (λ (node : Node). has_entry node.perms) c.node-in-Some-node.view_is ∙ entry
