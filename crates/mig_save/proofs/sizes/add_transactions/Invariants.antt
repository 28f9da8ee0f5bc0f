use Rattle.std.proofs.Common.{◌≡◌, ◌+◌, length, take}
use Rattle.mig_save.specs.Texts.{all_transactions_text}
use Rattle.mig_save.proofs.sizes.add_transactions.Given as goal

abbrev pub invariant-loop-entry : goal.invariant-loop-entry
invariant-loop-entry l = l.total ≡ l.fn.count + length (all_transactions_text (take l.entry-index l.conns) l.rows.txns)
