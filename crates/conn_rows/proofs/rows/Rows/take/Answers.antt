use Rattle.std.proofs.Common.{◌==◌, not, ℕ, List, cond, sym, ap, ◌∙◌, subst}
use Rattle.std.specs.Ordering.{nat_cmp}
use Rattle.std.specs.FinMap.{find, put}
use Rattle.std.specs.FinMap.Entries.{where_key}
use Rattle.conn_rows.specs.Rows.{Txns, Rows, txns_of}
use Rattle.conn_rows.proofs.RowLemmas.{AreQuietOrBusy, txns_in, put_txns, txns_there, txns_absent, same_txns, same_queues, quiet_put, quiet_taken, is_busy, where_absent}
use Rattle.conn_rows.proofs.rows.Rows.take.Goals as goal

pub returns-in_err-row-clause-found : goal.returns-in_err-row-clause-found
returns-in_err-row-clause-found c =
    c.from_residual.ensures
    ∙ sym (ap (λ (txns : Txns). find nat_cmp c.args.tx txns) (txns_absent c.args.conn c.self.inside.rows.entries c.in_err-row.ensures.value))
    ∙ ap (λ (rows : Rows). find nat_cmp c.args.tx (txns_of c.args.conn rows.txns)) c.self.view_is

pub invariant_of-self-in_err-txn : goal.invariant_of-self-in_err-txn
invariant_of-self-in_err-txn c =
    quiet_put c.self.inside.busy.entries c.args.conn c.in_ok-row.row.now c.take.new.self c.self.inside.rows.entries c.in_ok-row.ensures.value
    (c.take.ensures.closed ∙ where_absent c.args.tx c.in_ok-row.row.now.txns (sym c.in_err-txn.ensures.found)) c.self.invariant

pub returns-in_err-txn-clause-found : goal.returns-in_err-txn-clause-found
returns-in_err-txn-clause-found c =
    c.from_residual-in_err-txn.ensures ∙ c.in_err-txn.ensures.found
    ∙ sym (ap (λ (txns : Txns). find nat_cmp c.args.tx txns) (txns_there c.args.conn c.in_ok-row.row.now c.self.inside.rows.entries c.in_ok-row.ensures.value))
    ∙ ap (λ (rows : Rows). find nat_cmp c.args.tx (txns_of c.args.conn rows.txns)) c.self.view_is

pub returns-in_err-txn-clause-absent : goal.returns-in_err-txn-clause-absent
returns-in_err-txn-clause-absent c = λ _.
    same_txns c.args.conn c.in_ok-row.row.now c.take.new.self c.self.inside.rows.entries c.get_mut.ensures.rising c.in_ok-row.ensures.value
    (c.take.ensures.closed ∙ where_absent c.args.tx c.in_ok-row.row.now.txns (sym c.in_err-txn.ensures.found))
    ∙ ap (λ (r : Rows). r.txns) c.self.view_is

pub returns-in_err-txn-clause-queues : goal.returns-in_err-txn-clause-queues
returns-in_err-txn-clause-queues c =
    same_queues c.args.conn c.in_ok-row.row.now c.take.new.self c.self.inside.rows.entries c.get_mut.ensures.rising c.in_ok-row.ensures.value c.take.ensures.queue
    ∙ ap (λ (r : Rows). r.queues) c.self.view_is

pub invariant_of-self-2 : goal.invariant_of-self-2
invariant_of-self-2 c =
    let busy = c.self.inside.busy.entries in
    let rows = c.self.inside.rows.entries in
    subst (λ (b : List (ℕ × Unit {0})). AreQuietOrBusy b (put nat_cmp c.args.conn c.take.new.self rows))
    (sym (c.settle.ensures ∙ ap (λ n. cond (n == 0) (where_key nat_cmp (λ key. not (c.args.conn == key)) busy) busy) c.open_count.ensures))
    (quiet_taken busy c.args.conn c.take.new.self rows c.get_mut.ensures.rising
    (is_busy busy c.args.conn c.in_ok-row.row.now rows c.args.tx c.in_ok-txn.txn c.in_ok-row.ensures.value (sym c.in_ok-txn.ensures.found) c.self.invariant) c.self.invariant)

pub returns-clause-found : goal.returns-clause-found
returns-clause-found c =
    c.in_ok-txn.ensures.found
    ∙ sym (ap (λ (txns : Txns). find nat_cmp c.args.tx txns) (txns_there c.args.conn c.in_ok-row.row.now c.self.inside.rows.entries c.in_ok-row.ensures.value))
    ∙ ap (λ (rows : Rows). find nat_cmp c.args.tx (txns_of c.args.conn rows.txns)) c.self.view_is

pub returns-clause-closed : goal.returns-clause-closed
returns-clause-closed c = λ _.
    let rows = c.self.inside.rows.entries in
    put_txns c.args.conn c.take.new.self rows
    ∙ ap (λ (t : Txns). put nat_cmp c.args.conn t (txns_in rows)) (c.take.ensures.closed ∙ sym (ap (λ (t : Txns). where_key nat_cmp (λ key. not (c.args.tx == key)) t) (txns_there c.args.conn c.in_ok-row.row.now rows c.in_ok-row.ensures.value)))
    ∙ ap (λ (r : Rows). put nat_cmp c.args.conn (where_key nat_cmp (λ key. not (c.args.tx == key)) (txns_of c.args.conn r.txns)) r.txns) c.self.view_is

pub returns-clause-queues : goal.returns-clause-queues
returns-clause-queues c =
    same_queues c.args.conn c.in_ok-row.row.now c.take.new.self c.self.inside.rows.entries c.get_mut.ensures.rising c.in_ok-row.ensures.value c.take.ensures.queue
    ∙ ap (λ (r : Rows). r.queues) c.self.view_is
