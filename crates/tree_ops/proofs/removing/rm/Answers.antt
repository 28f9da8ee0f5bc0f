use Rattle.std.proofs.Common.{sym, ◌∙◌}
use Rattle.std.proofs.lemmas.Result.{IfOk-weaker}
use Rattle.xs_model.specs.Trees.{all_below}
use Rattle.tree_ops.proofs.RemovalLemmas.{one_absent}
use Rattle.tree_ops.proofs.removing.rm.Goals as goal

pub returns-in-1 : goal.returns-in-1
returns-in-1 g c =
    IfOk-weaker c.rm_leaf.result _ _ (λ answer is. is ∙ sym (one_absent c.args.rights c.args.absent.now (all_below (g.V.View.nodes c.args.view.now) c.args.path.now) c.in-1.is)) c.rm_leaf.ensures
