use Rattle.std.proofs.Common.{◌≡◌, drop}
use Rattle.mark_model.specs.Marks.{first_conflict}
use Rattle.txn_access.proofs.marks.conflict_in.Given as goal

-- none of those before has one
abbrev pub invariant-loop-entry : goal.invariant-loop-entry
invariant-loop-entry l = first_conflict (drop l.entry-index l.entries) ≡ first_conflict l.entries
