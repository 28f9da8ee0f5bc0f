use Rattle.std.proofs.Common.{Some, None, ap, sym, ◌∙◌}
use Rattle.mark_model.specs.Marks.{first_conflict}
use Rattle.txn_access.proofs.Conflicts.{conflict_from}
use Rattle.txn_access.proofs.marks.conflict.Goals as goal

pub returns-in-Some : goal.returns-in-Some
returns-in-Some c =
    sym (conflict_from c.args.parts.now c.loop-part.part-index c.part-item.result (Some c.in-Some.path.now) c.loop-part-test.true c.part-item.is (c.in-Some.ensures ∙ ap first_conflict c.entries.ensures)) ∙ c.loop-part.invariant

pub loop-part-preserved : goal.loop-part-preserved
loop-part-preserved c =
    sym (conflict_from c.args.parts.now c.loop-part.part-index c.part-item.result None c.loop-part-test.true c.part-item.is (c.in_default.ensures ∙ ap first_conflict c.entries.ensures)) ∙ c.loop-part.invariant
