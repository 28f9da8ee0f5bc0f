use Rattle.std.proofs.Common.{◌≡◌, ◌++◌, drop}
use Rattle.txn_access.specs.Plans.{changes}
use Rattle.txn_access.proofs.plan.changed_in.Given as goal

-- so far, and what is left
abbrev pub invariant-loop-entry : goal.invariant-loop-entry
invariant-loop-entry l = l.paths ++ changes l.tree.nodes (drop l.entry-index l.entries) ≡ l.fn.paths ++ changes l.tree.nodes l.entries
