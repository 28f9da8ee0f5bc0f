use Rattle.std.proofs.Common.{◌≡◌, length, reverse}
use Rattle.mig_load.proofs.SettleLemmas.{IsSettledTo}
use Rattle.mig_load.proofs.settling.settle_conn.Given as goal

-- the transactions that are not left are open, joined to the tree
abbrev pub invariant-left : goal.invariant-left
invariant-left l = record {
  settled : IsSettledTo l.tree.nodes l.conn l.fn.opens l.fn.rows.txns l.rows.txns (reverse l.left.items);
  queues : l.rows.queues ≡ l.fn.rows.queues;
}

abbrev pub decreases-left : goal.decreases-left
decreases-left l = length l.left.items
