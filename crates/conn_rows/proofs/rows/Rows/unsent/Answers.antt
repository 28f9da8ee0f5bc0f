use Rattle.std.proofs.Common.{length, Some, sym, ap, ◌∙◌}
use Rattle.std.specs.Option.{option_map}
use Rattle.std.specs.Ordering.{nat_cmp}
use Rattle.std.specs.FinMap.{find}
use Rattle.out_queues.specs.Queues.{Queue}
use Rattle.conn_rows.specs.Rows.{Rows}
use Rattle.conn_rows.proofs.RowLemmas.{queue_there, queue_absent}
use Rattle.conn_rows.proofs.rows.Rows.unsent.Goals as goal

pub returns-in_err-row : goal.returns-in_err-row
returns-in_err-row c =
    c.from_residual.ensures ∙ sym (ap (option_map (λ (queue : Queue). length queue.bytes)) (queue_absent c.args.conn c.self.inside.rows.entries c.in_err-row.ensures.value))
    ∙ ap (λ (rows : Rows). option_map (λ (queue : Queue). length queue.bytes) (find nat_cmp c.args.conn rows.queues)) c.self.view_is

pub returns : goal.returns
returns c =
    ap Some c.unsent.ensures ∙ sym (ap (option_map (λ (queue : Queue). length queue.bytes)) (queue_there c.args.conn c.in_ok-row.row.now c.self.inside.rows.entries c.in_ok-row.ensures.value))
    ∙ ap (λ (rows : Rows). option_map (λ (queue : Queue). length queue.bytes) (find nat_cmp c.args.conn rows.queues)) c.self.view_is
