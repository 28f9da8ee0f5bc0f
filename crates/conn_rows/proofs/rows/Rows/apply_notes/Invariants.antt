use Rattle.std.proofs.Common.{◌≡◌, ◌-◌}
use Rattle.conn_rows.specs.Rows.{from_id}
use Rattle.conn_rows.proofs.RowLemmas.{AreQuietOrBusy, queues_in}
use Rattle.conn_rows.proofs.NotedRows.{RoomFrom, finished_rows, applied_all}
use Rattle.conn_rows.proofs.rows.Rows.apply_notes.Given as goal

abbrev pub invariant-conns : goal.invariant-conns
invariant-conns l = record {
  finished : finished_rows (from_id l.at) l.self-inside.rows.entries ≡ applied_all l.fn.self.txns;
  room : RoomFrom (from_id l.at) l.self-inside.rows.entries;
  quiet : AreQuietOrBusy l.self-inside.busy.entries l.self-inside.rows.entries;
  queues : queues_in l.self-inside.rows.entries ≡ l.fn.self.queues;
}

abbrev pub decreases-conns : goal.decreases-conns
decreases-conns l = 4294967296 - from_id l.at
