use Rattle.std.proofs.Common.{◌≡◌, ℕ, List, ◌++◌, length, Some, sym, ap, ◌∙◌, subst}
use Rattle.std.specs.Ordering.{nat_cmp}
use Rattle.std.specs.FinMap.{find, put}
use Rattle.xs_model.proofs.Maps.{not_Some, sorted_map}
use Rattle.conn_rows.specs.Queued.{HasRoom, unsent_of, rests_of}
use Rattle.conn_rows.specs.Rows.{Row, Rows}
use Rattle.conn_rows.proofs.UnsentBytes.{unsent_pushed, unsent_absent, rests_kept}
use Rattle.conn_rows.proofs.RowLemmas.{queues_in, put_queues, queue_there, queue_absent, quiet_put, same_txns}
use Rattle.conn_rows.proofs.rows.Rows.push.Goals as goal

pub returns-in_default-clause-bytes : goal.returns-in_default-clause-bytes
returns-in_default-clause-bytes c =
    let queues = queues_in c.self.inside.rows.entries in
    subst (λ (r : Rows). (bytes : List ℕ) → find nat_cmp c.args.conn (unsent_of r.queues) ≡ Some bytes → unsent_of queues ≡ put nat_cmp c.args.conn (bytes ++ c.args.message.now) (unsent_of r.queues)) c.self.view_is
    (λ bytes found. not_Some (sym (unsent_absent c.args.conn queues (sym (queue_absent c.args.conn c.self.inside.rows.entries c.in_default.ensures.value))) ∙ found))

pub push-requires-clause-room : goal.push-requires-clause-room
push-requires-clause-room c =
    subst (λ (r : Rows). HasRoom c.args.conn (length c.args.message.now) r.queues) (sym c.self.view_is) c.requires.room
    c.in-Some.row.now.queue (queue_there c.args.conn c.in-Some.row.now c.self.inside.rows.entries c.in-Some.ensures.value)

pub invariant_of-self-2 : goal.invariant_of-self-2
invariant_of-self-2 c =
    quiet_put c.self.inside.busy.entries c.args.conn c.in-Some.row.now c.push.new.self c.self.inside.rows.entries c.in-Some.ensures.value c.push.ensures.txns c.self.invariant

pub returns-clause-bytes : goal.returns-clause-bytes
returns-clause-bytes c =
    let rows = c.self.inside.rows.entries in
    subst (λ (r : Rows). (bytes : List ℕ) → find nat_cmp c.args.conn (unsent_of r.queues) ≡ Some bytes → unsent_of (queues_in (put nat_cmp c.args.conn c.push.new.self rows)) ≡ put nat_cmp c.args.conn (bytes ++ c.args.message.now) (unsent_of r.queues)) c.self.view_is
    (λ bytes found. ap unsent_of (put_queues c.args.conn c.push.new.self rows)
    ∙ unsent_pushed c.args.conn c.in-Some.row.now.queue c.push.new.self.queue c.args.message.now (queues_in rows)
    (sym (queue_there c.args.conn c.in-Some.row.now rows c.in-Some.ensures.value)) c.push.ensures.bytes bytes found)

pub returns-clause-rests : goal.returns-clause-rests
returns-clause-rests c =
    let rows = c.self.inside.rows.entries in
    ap rests_of (put_queues c.args.conn c.push.new.self rows)
    ∙ rests_kept c.args.conn c.in-Some.row.now.queue c.push.new.self.queue (queues_in rows) (sorted_map nat_cmp (λ (row : Row). row.queue) rows ∙ c.get_mut.ensures.rising)
    (queue_there c.args.conn c.in-Some.row.now rows c.in-Some.ensures.value) c.push.ensures.rest
    ∙ ap (λ (r : Rows). rests_of r.queues) c.self.view_is

pub returns-clause-absent : goal.returns-clause-absent
returns-clause-absent c = λ absent.
    not_Some (sym absent ∙ sym (ap (λ (r : Rows). find nat_cmp c.args.conn r.queues) c.self.view_is)
    ∙ queue_there c.args.conn c.in-Some.row.now c.self.inside.rows.entries c.in-Some.ensures.value)

pub returns-clause-txns : goal.returns-clause-txns
returns-clause-txns c =
    same_txns c.args.conn c.in-Some.row.now c.push.new.self c.self.inside.rows.entries c.get_mut.ensures.rising c.in-Some.ensures.value c.push.ensures.txns
    ∙ ap (λ (r : Rows). r.txns) c.self.view_is
