use Rattle.std.proofs.Common.{◌≡◌, ◌++◌, drop}
use Rattle.path_map.specs.Chunks.{joined}
use Rattle.txn_access.specs.Plans.{changes}
use Rattle.txn_access.proofs.plan.changed.Given as goal

-- so far, and what is left
abbrev pub invariant-loop-part : goal.invariant-loop-part
invariant-loop-part l = l.paths ++ changes l.tree.nodes (joined (drop l.part-index l.parts)) ≡ changes l.tree.nodes (joined l.parts)
