use Rattle.std.proofs.Common.{[], sym, subst}
use Rattle.xs_model.specs.Commands.{removals}
use Rattle.tree_ops.specs.Answers.{edits_of, sets}
use Rattle.tree_ops.specs.declared.answer.Edits.{Edits}
use Rattle.tree_ops.proofs.edits.make.Goals as goal

pub returns-in_ok-reserve-in-Sets-clause-made : goal.returns-in_ok-reserve-in-Sets-clause-made
returns-in_ok-reserve-in-Sets-clause-made g c =
    subst (λ (e : Edits). g.V.View.made c.args.view.now (edits_of e) c.set_all.new.view) (sym c.in-Sets.is)
    (g.met.V.View.made_more c.args.view.now c.reserve.new.self c.set_all.new.view [] (sets c.in-Sets.entries.items) c.in_ok-reserve-in-Sets.ensures.made c.set_all.ensures.made)

pub returns-in_ok-reserve-in-Removals-clause-made : goal.returns-in_ok-reserve-in-Removals-clause-made
returns-in_ok-reserve-in-Removals-clause-made g c =
    subst (λ (e : Edits). g.V.View.made c.args.view.now (edits_of e) c.remove_all.new.view) (sym c.in-Removals.is)
    (g.met.V.View.made_more c.args.view.now c.reserve-in-Removals.new.self c.remove_all.new.view [] (removals c.in-Removals.paths.items) c.in_ok-reserve-in-Removals.ensures.made c.remove_all.ensures.made)
