use Rattle.std.proofs.Common.{◌∙◌, sym}
use Rattle.std.proofs.lemmas.Result.{IfOk-weaker}
use Rattle.tree_ops.proofs.SightLemmas.{alone_seen, way_seen}
use Rattle.tree_ops.proofs.look.look.Goals as goal

pub returns-then-is_there-clause-way : goal.returns-then-is_there-clause-way
returns-then-is_there-clause-way g c =
    let seen = alone_seen (g.V.View.nodes c.args.view.now) c.is_there.ensures.tree c.args.path.now (sym c.if-is_there.ensures.found) in
    IfOk-weaker c.alone.result _ _ (λ way is. is ∙ sym seen) c.alone.ensures

pub returns-clause-way : goal.returns-clause-way
returns-clause-way g c =
    let seen = way_seen (g.V.View.nodes c.args.view.now) c.is_there.ensures.tree c.args.path.now c.in_ok-names.names c.in_ok-names.ensures in
    IfOk-weaker c.reversed.result _ _ (λ way is. is ∙ c.in_ok-ups.ensures ∙ sym seen) c.reversed.ensures
