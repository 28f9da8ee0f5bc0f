use Rattle.std.proofs.Common.{sym, subst}
use Rattle.kept_model.specs.Sound.{MarksFit}
use Rattle.mig_save.proofs.RecordSizes.{all_at}
use Rattle.mig_save.proofs.sizes.add_marks_in.Goals as goal

pub add_entries-requires-clause-marks : goal.add_entries-requires-clause-marks
add_entries-requires-clause-marks c =
    subst MarksFit (sym c.entries.ensures)
    (rw c.entry-item.is (all_at (λ e. MarksFit e.1.marks) c.args.txns.now c.loop-entry.entry-index c.entry-item.result c.loop-entry-test.true c.requires.marks))
