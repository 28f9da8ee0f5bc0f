use Rattle.txn_access.specs.Steps.{IsStep, steps_left}
use Rattle.txn_access.proofs.names.child_above.Given as goal

-- the step at hand is one from the leaf
abbrev pub invariant-passed : goal.invariant-passed
invariant-passed l = IsStep l.tree.nodes l.map.entries l.path l.leaf l.next

abbrev pub decreases-passed : goal.decreases-passed
decreases-passed l = steps_left l.path l.map.entries l.next.passed
