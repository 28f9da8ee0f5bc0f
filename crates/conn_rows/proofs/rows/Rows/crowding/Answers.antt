use Rattle.std.proofs.Common.{◌≤◌, length, sym, subst}
use Rattle.std.specs.List.{AllByRecursion}
use Rattle.machine_model.specs.declared.bounds.TheConstants.{CROWD_LIMIT}
use Rattle.conn_rows.specs.Rows.{Rows}
use Rattle.conn_rows.proofs.SeenLemmas.{all_of_queues}
use Rattle.conn_rows.proofs.rows.Rows.crowding.Goals as goal

pub crowding-requires-clause-positive : goal.crowding-requires-clause-positive
crowding-requires-clause-positive c =
    all_of_queues (λ e. 1 ≤ e.0) c.self.inside.rows.entries (subst (λ (r : Rows). AllByRecursion (λ e. 1 ≤ e.0) r.queues) (sym c.self.view_is) c.requires.positive)

pub crowding-requires-clause-short : goal.crowding-requires-clause-short
crowding-requires-clause-short c =
    all_of_queues (λ e. length e.1.bytes ≤ CROWD_LIMIT) c.self.inside.rows.entries
    (subst (λ (r : Rows). AllByRecursion (λ e. length e.1.bytes ≤ CROWD_LIMIT) r.queues) (sym c.self.view_is) c.requires.short)
