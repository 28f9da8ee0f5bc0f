use Rattle.std.proofs.Common.{sym, ap, ◌∙◌}
use Rattle.xs_model.specs.Trees.{Node, has_entry}
use Rattle.xs_model.proofs.TreeLemmas.{has_entries}
use Rattle.tree_ops.proofs.RunLemmas.{near_present, path_present}
use Rattle.tree_ops.proofs.commands.answered.Goals as goal

pub present-node-requires : goal.present-node-requires
present-node-requires g c =
    near_present (g.V.View.nodes c.args.view.now) c.requires.tree c.args.command.now.path c.index-way-0.result c.args.way.now c.requires.way c.index-way-0.is

pub rights-rights-requires : goal.rights-rights-requires
rights-rights-requires g c =
    ap (λ (n : Node). has_entry n.perms) c.node.view_is
    ∙ has_entries (g.V.View.nodes c.args.view.now) c.requires.tree c.index-way-0.result c.present-node.result.now c.present-node.ensures

pub permitted-requires-clause-there : goal.permitted-requires-clause-there
permitted-requires-clause-there g c = λ none.
    path_present (g.V.View.nodes c.args.view.now) c.requires.tree c.args.command.now.path c.args.way.now c.requires.way (sym c.from_place.ensures ∙ none)
