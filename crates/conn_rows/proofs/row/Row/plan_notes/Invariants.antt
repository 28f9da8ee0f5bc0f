use Rattle.std.proofs.Common.{◌≡◌, ◌≤◌, ◌-◌}
use Rattle.std.specs.List.{AllByRecursion}
use Rattle.txn_access.specs.Txns.{Plans}
use Rattle.conn_rows.specs.Rows.{opens_in}
use Rattle.conn_rows.proofs.row.Row.plan_notes.Given as goal

abbrev pub invariant-txns : goal.invariant-txns
invariant-txns l = record {
  planned : AllByRecursion (λ e. e.0 ≤ l.at → Plans l.tree.nodes l.changed e.1) l.self-inside.txns.entries;
  positive : AllByRecursion (λ e. 1 ≤ e.0) l.self-inside.txns.entries;
  same : opens_in l.self-inside.txns.entries ≡ opens_in l.fn.self.txns;
  queue : l.self-inside.queue ≡ l.fn.self.queue;
}

abbrev pub decreases-txns : goal.decreases-txns
decreases-txns l = 4294967296 - l.at
