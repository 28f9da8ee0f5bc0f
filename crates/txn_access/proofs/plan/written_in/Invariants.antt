use Rattle.std.proofs.Common.{◌≡◌, ◌++◌, drop}
use Rattle.mark_model.specs.Marks.{written_paths}
use Rattle.txn_access.proofs.plan.written_in.Given as goal

-- so far, and what is left
abbrev pub invariant-loop-entry : goal.invariant-loop-entry
invariant-loop-entry l = l.paths ++ written_paths (drop l.entry-index l.entries) ≡ l.fn.paths ++ written_paths l.entries
