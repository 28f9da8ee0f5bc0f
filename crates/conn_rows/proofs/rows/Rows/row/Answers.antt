use Rattle.std.proofs.Common.{sym, ap, ◌∙◌}
use Rattle.std.specs.Ordering.{nat_cmp}
use Rattle.std.specs.FinMap.{find}
use Rattle.std.specs.Option.{option_map}
use Rattle.conn_rows.specs.Rows.{Row, Rows}
use Rattle.conn_rows.proofs.RowLemmas.{found_queue, found_txns}
use Rattle.conn_rows.proofs.rows.Rows.row.Goals as goal

pub returns-clause-queue : goal.returns-clause-queue
returns-clause-queue c =
    let rows = c.self.inside.rows.entries in
    ap (option_map (λ (row : Row). row.queue)) c.get.ensures.value
    ∙ sym (found_queue c.args.conn rows)
    ∙ ap (λ (r : Rows). find nat_cmp c.args.conn r.queues) c.self.view_is

pub returns-clause-txns : goal.returns-clause-txns
returns-clause-txns c =
    let rows = c.self.inside.rows.entries in
    ap (option_map (λ (row : Row). row.txns)) c.get.ensures.value
    ∙ sym (found_txns c.args.conn rows)
    ∙ ap (λ (r : Rows). find nat_cmp c.args.conn r.txns) c.self.view_is
