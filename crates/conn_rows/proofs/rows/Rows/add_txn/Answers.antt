use Rattle.std.proofs.Common.{ℕ, List, is_some, sym, ap, ◌∙◌, subst}
use Rattle.std.specs.Option.{option_map}
use Rattle.std.specs.Ordering.{nat_cmp}
use Rattle.std.specs.FinMap.{find, put}
use Rattle.xs_model.proofs.Maps.{not_both}
use Rattle.mark_model.specs.Stores.{Opens, no_marks}
use Rattle.conn_rows.specs.Rows.{Txns, Row, Rows, opens_in, opens_of, txns_of}
use Rattle.conn_rows.proofs.IdEntries.{put_map}
use Rattle.conn_rows.proofs.NoteLemmas.{on_err_any}
use Rattle.conn_rows.proofs.RowLemmas.{AreQuietOrBusy, txns_in, put_txns, found_txns, txns_there, same_txns, same_queues, quiet_put, quiet_opened}
use Rattle.conn_rows.proofs.rows.Rows.add_txn.Goals as goal

pub add_txn-requires-clause-free : goal.add_txn-requires-clause-free
add_txn-requires-clause-free c =
    sym (ap (λ (t : Txns). find nat_cmp c.args.tx t) (txns_there c.args.conn c.in-Some.row.now c.self.inside.rows.entries c.in-Some.ensures.value))
    ∙ ap (λ (r : Rows). find nat_cmp c.args.tx (txns_of c.args.conn r.txns)) c.self.view_is ∙ c.requires.free

pub returns-in_default-clause-ok : goal.returns-in_default-clause-ok
returns-in_default-clause-ok c =
    not_both c.requires.there (sym (ap (λ (r : Rows). is_some (find nat_cmp c.args.conn r.txns)) c.self.view_is)
    ∙ ap is_some (found_txns c.args.conn c.self.inside.rows.entries ∙ ap (option_map (λ (row : Row). row.txns)) (sym c.in_default.ensures.value)))

pub invariant_of-self-in_err-add_txn : goal.invariant_of-self-in_err-add_txn
invariant_of-self-in_err-add_txn c =
    let rows = c.self.inside.rows.entries in
    subst (λ (b : List (ℕ × Unit {0})). AreQuietOrBusy b (put nat_cmp c.args.conn c.add_txn.new.self rows)) (sym c.reserve.ensures.same)
    (quiet_put c.self.inside.busy.entries c.args.conn c.in-Some.row.now c.add_txn.new.self rows c.in-Some.ensures.value c.in_err-add_txn.ensures.err c.self.invariant)

pub returns-in_err-add_txn-clause-err : goal.returns-in_err-add_txn-clause-err
returns-in_err-add_txn-clause-err c =
    on_err_any c.from_residual-in_err-add_txn.result
    (same_txns c.args.conn c.in-Some.row.now c.add_txn.new.self c.self.inside.rows.entries c.get_mut.ensures.rising c.in-Some.ensures.value c.in_err-add_txn.ensures.err
    ∙ ap (λ (r : Rows). r.txns) c.self.view_is)

pub returns-in_err-add_txn-clause-queues : goal.returns-in_err-add_txn-clause-queues
returns-in_err-add_txn-clause-queues c =
    same_queues c.args.conn c.in-Some.row.now c.add_txn.new.self c.self.inside.rows.entries c.get_mut.ensures.rising c.in-Some.ensures.value c.add_txn.ensures.queue
    ∙ ap (λ (r : Rows). r.queues) c.self.view_is

pub invariant_of-self-2 : goal.invariant_of-self-2
invariant_of-self-2 c =
    let rows = c.self.inside.rows.entries in
    subst (λ (b : List (ℕ × Unit {0})). AreQuietOrBusy b (put nat_cmp c.args.conn c.add_txn.new.self rows)) (sym (c.put.ensures.entries ∙ ap (put nat_cmp c.args.conn tt) c.reserve.ensures.same))
    (quiet_opened c.self.inside.busy.entries c.args.conn c.add_txn.new.self rows c.self.invariant)

pub returns-clause-ok : goal.returns-clause-ok
returns-clause-ok c =
    let rows = c.self.inside.rows.entries in
    put_txns c.args.conn c.add_txn.new.self rows
    ∙ ap (λ (t : Txns). put nat_cmp c.args.conn t (txns_in rows))
    (c.in_ok-add_txn.ensures.ok ∙ sym (ap (put nat_cmp c.args.tx c.args.txn) (txns_there c.args.conn c.in-Some.row.now rows c.in-Some.ensures.value)))
    ∙ ap (λ (r : Rows). put nat_cmp c.args.conn (put nat_cmp c.args.tx c.args.txn (txns_of c.args.conn r.txns)) r.txns) c.self.view_is

pub returns-clause-queues : goal.returns-clause-queues
returns-clause-queues c =
    same_queues c.args.conn c.in-Some.row.now c.add_txn.new.self c.self.inside.rows.entries c.get_mut.ensures.rising c.in-Some.ensures.value c.add_txn.ensures.queue
    ∙ ap (λ (r : Rows). r.queues) c.self.view_is
