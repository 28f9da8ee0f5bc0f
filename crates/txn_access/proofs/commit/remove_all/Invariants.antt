use Rattle.std.proofs.Common.{vec_len}
use Rattle.txn_access.specs.Plans.{IsRemoved}
use Rattle.txn_access.proofs.commit.remove_all.Given as goal

abbrev pub invariant-left : goal.invariant-left
invariant-left l = IsRemoved l.fn.tree l.fn.gone.items l.left.items l.tree

abbrev pub decreases-left : goal.decreases-left
decreases-left l = vec_len l.left
