use Rattle.std.proofs.Common.{◌≡◌, length, reverse}
use Rattle.mig_load.specs.Settled.{first_orphan}
use Rattle.mig_load.proofs.settling.first_orphan.Given as goal

-- no path so far leaves one
abbrev pub invariant-left : goal.invariant-left
invariant-left l = first_orphan l.tree.nodes l.rows.txns (reverse l.left.items) ≡ first_orphan l.tree.nodes l.rows.txns l.fn.pending.items

abbrev pub decreases-left : goal.decreases-left
decreases-left l = length l.left.items
