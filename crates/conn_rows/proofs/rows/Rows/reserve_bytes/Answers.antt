use Rattle.std.proofs.Common.{sym, ap, subst, ◌∙◌}
use Rattle.std.specs.Ordering.{nat_cmp}
use Rattle.std.proofs.lemmas.Result.{on_ok_weaker}
use Rattle.xs_model.proofs.Maps.{not_Some, sorted_map}
use Rattle.conn_rows.specs.Queued.{HasRoom, unsent_of, rests_of}
use Rattle.conn_rows.specs.Rows.{Row, Rows}
use Rattle.conn_rows.proofs.UnsentBytes.{unsent_kept, rests_kept, room_put}
use Rattle.conn_rows.proofs.RowLemmas.{queues_in, put_queues, queue_there, queue_absent, quiet_put, same_txns}
use Rattle.conn_rows.proofs.rows.Rows.reserve_bytes.Goals as goal

pub returns-in_default-clause-ok : goal.returns-in_default-clause-ok
returns-in_default-clause-ok c = λ queue there. not_Some (sym (queue_absent c.args.conn c.self.inside.rows.entries c.in_default.ensures.value) ∙ there)

pub invariant_of-self-2 : goal.invariant_of-self-2
invariant_of-self-2 c =
    quiet_put c.self.inside.busy.entries c.args.conn c.in-Some.row.now c.reserve.new.self c.self.inside.rows.entries c.in-Some.ensures.value c.reserve.ensures.txns c.self.invariant

pub returns-clause-ok : goal.returns-clause-ok
returns-clause-ok c =
    let rows = c.self.inside.rows.entries in
    on_ok_weaker c.reserve.result (λ room. subst (HasRoom c.args.conn c.args.bytes) (sym (put_queues c.args.conn c.reserve.new.self rows)) (room_put c.args.conn c.args.bytes c.reserve.new.self.queue (queues_in rows) room)) c.reserve.ensures.ok

pub returns-clause-bytes : goal.returns-clause-bytes
returns-clause-bytes c =
    let rows = c.self.inside.rows.entries in
    ap unsent_of (put_queues c.args.conn c.reserve.new.self rows)
    ∙ unsent_kept c.args.conn c.in-Some.row.now.queue c.reserve.new.self.queue (queues_in rows) (sorted_map nat_cmp (λ (row : Row). row.queue) rows ∙ c.get_mut.ensures.rising)
    (queue_there c.args.conn c.in-Some.row.now rows c.in-Some.ensures.value) c.reserve.ensures.bytes
    ∙ ap (λ (r : Rows). unsent_of r.queues) c.self.view_is

pub returns-clause-rests : goal.returns-clause-rests
returns-clause-rests c =
    let rows = c.self.inside.rows.entries in
    ap rests_of (put_queues c.args.conn c.reserve.new.self rows)
    ∙ rests_kept c.args.conn c.in-Some.row.now.queue c.reserve.new.self.queue (queues_in rows) (sorted_map nat_cmp (λ (row : Row). row.queue) rows ∙ c.get_mut.ensures.rising)
    (queue_there c.args.conn c.in-Some.row.now rows c.in-Some.ensures.value) c.reserve.ensures.rest
    ∙ ap (λ (r : Rows). rests_of r.queues) c.self.view_is

pub returns-clause-txns : goal.returns-clause-txns
returns-clause-txns c =
    same_txns c.args.conn c.in-Some.row.now c.reserve.new.self c.self.inside.rows.entries c.get_mut.ensures.rising c.in-Some.ensures.value c.reserve.ensures.txns
    ∙ ap (λ (r : Rows). r.txns) c.self.view_is
