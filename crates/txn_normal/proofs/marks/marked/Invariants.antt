use Rattle.std.proofs.Common.{◌≡◌, ◌++◌, length}
use Rattle.kept_model.specs.Normal.{marks_by}
use Rattle.txn_normal.proofs.marks.marked.Given as goal

-- so far, and what is left
abbrev pub invariant-left : goal.invariant-left
invariant-left l = l.txn.marks ++ marks_by l.tree.nodes l.left.entries ≡ marks_by l.tree.nodes l.fn.said.entries

abbrev pub decreases-left : goal.decreases-left
decreases-left l = length l.left.entries
