use Rattle.std.proofs.Common.{sym, ◌∙◌}
use Rattle.mig_records.proofs.Steps.{entries_more}
use Rattle.mig_records.proofs.reading.entries_in.Goals as goal

pub loop-number-preserved : goal.loop-number-preserved
loop-number-preserved c =
    let more = entries_more c.loop-number.perms c.args.count c.loop-number.number c.args.bytes.now c.loop-number-test.true in
    rw (c.in_ok-push.ensures.ok, c.entry_in.ensures, c.behind.ensures) (sym more ∙ c.loop-number.invariant)
