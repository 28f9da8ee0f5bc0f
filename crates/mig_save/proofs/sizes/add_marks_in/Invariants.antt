use Rattle.std.proofs.Common.{◌≡◌, ◌+◌, length, take, ℕ}
use Rattle.mig_save.specs.Texts.{txns_text}
use Rattle.mig_save.proofs.sizes.add_marks_in.Given as goal

abbrev pub invariant-loop-entry : goal.invariant-loop-entry
invariant-loop-entry l = (c : ℕ) → l.total ≡ l.fn.count + length (txns_text l.tree.nodes c (take l.entry-index l.txns))
