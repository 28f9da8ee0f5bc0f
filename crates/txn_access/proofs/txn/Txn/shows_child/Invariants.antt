use Rattle.std.proofs.Common.{[]}
use Rattle.txn_access.specs.Presence.{IsSearch}
use Rattle.txn_access.specs.Steps.{steps_left}
use Rattle.txn_access.proofs.txn.Txn.shows_child.Given as goal

-- the step at hand is one of the search for any child
abbrev pub invariant-passed : goal.invariant-passed
invariant-passed l = IsSearch l.tree.nodes l.self.marks l.path [] l.step

abbrev pub decreases-passed : goal.decreases-passed
decreases-passed l = steps_left l.path l.self.marks l.step.passed
