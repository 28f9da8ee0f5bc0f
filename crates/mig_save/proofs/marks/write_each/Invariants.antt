use Rattle.std.proofs.Common.{◌≡◌, ◌++◌, take}
use Rattle.mig_save.specs.Texts.{txns_text}
use Rattle.mig_save.proofs.marks.write_each.Given as goal

abbrev pub invariant-loop-entry : goal.invariant-loop-entry
invariant-loop-entry l = l.out ≡ l.fn.out ++ txns_text l.tree.nodes l.conn (take l.entry-index l.txns)
