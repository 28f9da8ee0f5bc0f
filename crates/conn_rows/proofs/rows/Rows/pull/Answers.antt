use Rattle.std.proofs.Common.{None, drop, refl, sym, ap, ◌∙◌, subst}
use Rattle.std.specs.Option.{option_map}
use Rattle.std.specs.Ordering.{nat_cmp}
use Rattle.std.specs.FinMap.{put}
use Rattle.out_queues.specs.Queues.{Queue}
use Rattle.xs_model.specs.Wholes.{rest_after}
use Rattle.conn_rows.specs.Queued.{Moves, PulledFrom, unsent_of, rests_of}
use Rattle.conn_rows.specs.Rows.{Rows}
use Rattle.conn_rows.proofs.UnsentBytes.{unsent_found, unsent_put, rests_found, rests_put}
use Rattle.conn_rows.proofs.RowLemmas.{queues_in, put_queues, queue_there, queue_absent, quiet_put, same_txns}
use Rattle.conn_rows.proofs.rows.Rows.pull.Goals as goal

pub returns-in_err-row-clause-pulled : goal.returns-in_err-row-clause-pulled
returns-in_err-row-clause-pulled c =
    let queues = queues_in c.self.inside.rows.entries in
    subst (λ o. PulledFrom c.args.self.now.queues c.args.conn c.args.into.now queues c.args.into.now o) (sym c.from_residual.ensures)
    (subst (λ (r : Rows). PulledFrom r.queues c.args.conn c.args.into.now queues c.args.into.now None) c.self.view_is
    (queue_absent c.args.conn c.self.inside.rows.entries c.in_err-row.ensures.value, (refl, refl)))

pub invariant_of-self-2 : goal.invariant_of-self-2
invariant_of-self-2 c =
    quiet_put c.self.inside.busy.entries c.args.conn c.in_ok-row.row.now c.pull.new.self c.self.inside.rows.entries c.in_ok-row.ensures.value c.pull.ensures.txns c.self.invariant

pub returns-clause-pulled : goal.returns-clause-pulled
returns-clause-pulled c =
    let rows = c.self.inside.rows.entries in
    let bytes = c.in_ok-row.row.now.queue.bytes in
    let rest = c.in_ok-row.row.now.queue.rest in
    let is = queue_there c.args.conn c.in_ok-row.row.now rows c.in_ok-row.ensures.value in
    subst (λ (r : Rows). Moves r.queues c.args.conn c.args.into.now (queues_in (put nat_cmp c.args.conn c.pull.new.self rows)) c.pull.new.into c.pull.result) c.self.view_is (record {
      bytes = bytes;
      there = unsent_found c.args.conn (queues_in rows) ∙ ap (option_map (λ (q : Queue). q.bytes)) is;
      count = c.pull.ensures.count;
      taken = c.pull.ensures.taken;
      unsent = ap unsent_of (put_queues c.args.conn c.pull.new.self rows) ∙ unsent_put c.args.conn c.pull.new.self.queue (queues_in rows) (drop c.pull.result bytes) c.pull.ensures.bytes;
      rest = rest;
      was = rests_found c.args.conn (queues_in rows) ∙ ap (option_map (λ (q : Queue). q.rest)) is;
      rests = ap rests_of (put_queues c.args.conn c.pull.new.self rows) ∙ rests_put c.args.conn c.pull.new.self.queue (queues_in rows) (rest_after rest c.pull.result bytes) c.pull.ensures.rest;
    })

pub returns-clause-txns : goal.returns-clause-txns
returns-clause-txns c =
    same_txns c.args.conn c.in_ok-row.row.now c.pull.new.self c.self.inside.rows.entries c.get_mut.ensures.rising c.in_ok-row.ensures.value c.pull.ensures.txns
    ∙ ap (λ (r : Rows). r.txns) c.self.view_is
