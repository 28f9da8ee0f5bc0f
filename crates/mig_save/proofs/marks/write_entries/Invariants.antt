use Rattle.std.proofs.Common.{◌≡◌, ◌++◌, length}
use Rattle.kept_model.specs.Sound.{MarksFit}
use Rattle.mig_save.specs.Texts.{marks_text}
use Rattle.mig_save.proofs.marks.write_entries.Given as goal

-- so far, and what is left
abbrev pub invariant-marks : goal.invariant-marks
invariant-marks l = record {
  text : l.out ++ marks_text l.tree.nodes l.conn l.tx l.left ≡ l.fn.out ++ marks_text l.tree.nodes l.conn l.tx l.fn.entries;
  fit : MarksFit l.left;
}

abbrev pub decreases-marks : goal.decreases-marks
decreases-marks l = length l.left
