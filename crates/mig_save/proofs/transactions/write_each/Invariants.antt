use Rattle.std.proofs.Common.{◌≡◌, ◌++◌, take}
use Rattle.mig_save.specs.Texts.{transactions_text}
use Rattle.mig_save.proofs.transactions.write_each.Given as goal

abbrev pub invariant-loop-entry : goal.invariant-loop-entry
invariant-loop-entry l = l.out ≡ l.fn.out ++ transactions_text l.conn (take l.entry-index l.txns)
