use Rattle.std.proofs.Common.{◌≡◌, length, reverse}
use Rattle.mig_load.proofs.SettleConnsLemmas.{AreSettledTo}
use Rattle.mig_load.proofs.settling.settle_conns.Given as goal

-- the transactions of the connections that are not left are open, joined to the tree
abbrev pub invariant-left : goal.invariant-left
invariant-left l = record {
  settled : AreSettledTo l.tree.nodes l.fn.saids.items l.fn.rows.txns l.rows.txns (reverse l.left.items);
  queues : l.rows.queues ≡ l.fn.rows.queues;
}

abbrev pub decreases-left : goal.decreases-left
decreases-left l = length l.left.items
