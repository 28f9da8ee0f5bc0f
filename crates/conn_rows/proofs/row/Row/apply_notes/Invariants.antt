use Rattle.std.proofs.Common.{◌≡◌, ◌≤◌, ◌<◌, ◌-◌}
use Rattle.std.specs.List.{AllByRecursion}
use Rattle.conn_rows.specs.Rows.{applied_in, HasRoomToNote}
use Rattle.conn_rows.proofs.NoteLemmas.{finished_in}
use Rattle.conn_rows.proofs.row.Row.apply_notes.Given as goal

abbrev pub invariant-txns : goal.invariant-txns
invariant-txns l = record {
  finished : finished_in l.at l.self-inside.txns.entries ≡ applied_in l.fn.self.txns;
  room : AllByRecursion (λ e. l.at < e.0 → HasRoomToNote e.1) l.self-inside.txns.entries;
  positive : AllByRecursion (λ e. 1 ≤ e.0) l.self-inside.txns.entries;
  queue : l.self-inside.queue ≡ l.fn.self.queue;
}

abbrev pub decreases-txns : goal.decreases-txns
decreases-txns l = 4294967296 - l.at
