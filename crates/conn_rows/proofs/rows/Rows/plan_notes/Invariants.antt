use Rattle.std.proofs.Common.{◌≡◌, ◌-◌}
use Rattle.conn_rows.specs.Rows.{opens_of, from_id}
use Rattle.conn_rows.proofs.RowLemmas.{AreQuietOrBusy, queues_in, txns_in}
use Rattle.conn_rows.proofs.NotedRows.{PlannedBelow}
use Rattle.conn_rows.proofs.rows.Rows.plan_notes.Given as goal

abbrev pub invariant-conns : goal.invariant-conns
invariant-conns l = record {
  planned : PlannedBelow l.tree.nodes l.changed (from_id l.at) l.self-inside.rows.entries;
  quiet : AreQuietOrBusy l.self-inside.busy.entries l.self-inside.rows.entries;
  same : opens_of (txns_in l.self-inside.rows.entries) ≡ opens_of l.fn.self.txns;
  queues : queues_in l.self-inside.rows.entries ≡ l.fn.self.queues;
}

abbrev pub decreases-conns : goal.decreases-conns
decreases-conns l = 4294967296 - from_id l.at
