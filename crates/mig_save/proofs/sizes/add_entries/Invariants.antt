use Rattle.std.proofs.Common.{◌≡◌, ℕ, ◌+◌, length}
use Rattle.kept_model.specs.Sound.{MarksFit}
use Rattle.mig_save.specs.Texts.{marks_text}
use Rattle.mig_save.proofs.sizes.add_entries.Given as goal

-- so far, and what is left
abbrev pub invariant-marks : goal.invariant-marks
invariant-marks l = record {
  size : (c tx : ℕ) → l.total + length (marks_text l.tree.nodes c tx l.left) ≡ l.fn.count + length (marks_text l.tree.nodes c tx l.fn.entries);
  fit : MarksFit l.left;
}

abbrev pub decreases-marks : goal.decreases-marks
decreases-marks l = length l.left
