use Rattle.std.proofs.Common.{◌≡◌, ◌++◌, drop}
use Rattle.txn_access.proofs.txn.copies.Given as goal

-- so far, and what is left
abbrev pub invariant-loop-path : goal.invariant-loop-path
invariant-loop-path l = l.paths ++ drop l.path-index l.from ≡ l.from
