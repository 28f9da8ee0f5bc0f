use Rattle.std.proofs.Common.{◌≡◌, ◌++◌, drop}
use Rattle.txn_access.proofs.copies.copy_chunk.Given as goal

-- so far, and what is left
abbrev pub invariant-loop-entry : goal.invariant-loop-entry
invariant-loop-entry l = l.map.entries ++ drop l.entry-index l.entries ≡ l.fn.map.entries ++ l.entries
