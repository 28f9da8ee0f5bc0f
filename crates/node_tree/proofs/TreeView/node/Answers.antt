use Rattle.std.proofs.Common.{sym, ap, ◌∙◌}
use Rattle.std.specs.Option.{option_map}
use Rattle.xs_model.specs.Trees.{node_at}
use Rattle.node_tree.specs.KeptTree.{KeptTree}
use Rattle.node_tree.proofs.Entries.{node_found, node_of}
use Rattle.node_tree.proofs.TreeView.node.Goals as goal

pub returns-in-Some-clause-node : goal.returns-in-Some-clause-node
returns-in-Some-clause-node c =
    let p = c.args.path.now in
    ap (option_map node_of) c.in-Some.ensures.value ∙ sym (node_found p c.self.inside.map.entries) ∙ ap (λ (t : KeptTree). node_at t.nodes p) c.self.view_is

pub returns-in-None-clause-node : goal.returns-in-None-clause-node
returns-in-None-clause-node c =
    let p = c.args.path.now in
    ap (option_map node_of) c.in-None.ensures.value ∙ sym (node_found p c.self.inside.map.entries) ∙ ap (λ (t : KeptTree). node_at t.nodes p) c.self.view_is
