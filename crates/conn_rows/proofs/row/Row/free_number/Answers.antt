use Rattle.std.proofs.Common.{◌≡◌, subst}
use Rattle.machine_model.proofs.LimitLemmas.{least_free-is}
use Rattle.machine_model.specs.Connections.{least_free}
use Rattle.machine_model.specs.Limits.{IsLeastFree}
use Rattle.conn_rows.proofs.LeastFree.{same_free}
use Rattle.conn_rows.specs.Rows.{Row}
use Rattle.conn_rows.proofs.row.Row.free_number.Goals as goal

pub returns-clause-value : goal.returns-clause-value
returns-clause-value c =
    let txns = c.self.inside.txns.entries in
    let l = c.least_free.ensures.least in
    let found : IsLeastFree c.least_free.result txns = record { positive = l.positive; free = l.free; least = l.least } in
    subst (λ (row : Row). c.least_free.result ≡ least_free row.txns) c.self.view_is
    (same_free c.least_free.result (least_free txns) txns found (least_free-is txns c.least_free.ensures.rising c.self.invariant))
