use Rattle.std.proofs.Common.{ap, ◌∙◌}
use Rattle.path_map.specs.Marks.{path_behind}
use Rattle.node_tree.specs.KeptTree.{KeptTree}
use Rattle.node_tree.proofs.Entries.{behind_mapped}
use Rattle.node_tree.proofs.Tree.next_after.Goals as goal

pub returns : goal.returns
returns c =
    c.next_after.ensures ∙ behind_mapped c.self.inside.map.entries c.args.path.now ∙ ap (λ (t : KeptTree). path_behind t.nodes c.args.path.now) c.self.view_is
