use Rattle.std.proofs.Common.{◌≡◌, ◌++◌, length}
use Rattle.kept_model.specs.Normal.{parents_where}
use Rattle.txn_normal.specs.Rules.{asks}
use Rattle.txn_normal.proofs.parents.parents_where.Given as goal

-- so far, and what is left
abbrev pub invariant-left : goal.invariant-left
invariant-left l = l.paths ++ parents_where (asks l.rule l.tree.nodes) l.left ≡ parents_where (asks l.rule l.tree.nodes) l.txn.marks

abbrev pub decreases-left : goal.decreases-left
decreases-left l = length l.left
