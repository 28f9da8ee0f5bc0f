use Rattle.std.proofs.Common.{◌≤◌, sym, ap, subst, ◌∙◌}
use Rattle.std.specs.List.{AllByRecursion}
use Rattle.conn_rows.specs.Queued.{unsent_of, rests_of}
use Rattle.conn_rows.specs.Rows.{Rows}
use Rattle.conn_rows.specs.Sending.{joined_by}
use Rattle.conn_rows.proofs.SeenLemmas.{all_of_queues, sent_bytes, sent_rests, sent_txns, quiet_same}
use Rattle.conn_rows.proofs.rows.Rows.send.Goals as goal

pub send-requires-clause-positive : goal.send-requires-clause-positive
send-requires-clause-positive c =
    all_of_queues (λ e. 1 ≤ e.0) c.self.inside.rows.entries (subst (λ (r : Rows). AllByRecursion (λ e. 1 ≤ e.0) r.queues) (sym c.self.view_is) c.requires.positive)

pub invariant_of-self : goal.invariant_of-self
invariant_of-self c =
    let new = c.send.new.rows.entries in
    let old = c.self.inside.rows.entries in
    quiet_same c.self.inside.busy.entries new old (sent_txns c.args.conn c.args.reply.now c.args.owed.now new old c.send.ensures.seen) c.self.invariant

pub returns-clause-bytes : goal.returns-clause-bytes
returns-clause-bytes c =
    sent_bytes c.args.conn c.args.reply.now c.args.owed.now c.send.new.rows.entries c.self.inside.rows.entries c.send.ensures.seen
    ∙ ap (λ (r : Rows). joined_by c.args.conn c.args.reply.now c.args.owed.now (unsent_of r.queues)) c.self.view_is

pub returns-clause-rests : goal.returns-clause-rests
returns-clause-rests c =
    sent_rests c.args.conn c.args.reply.now c.args.owed.now c.send.new.rows.entries c.self.inside.rows.entries c.send.ensures.seen
    ∙ ap (λ (r : Rows). rests_of r.queues) c.self.view_is

pub returns-clause-txns : goal.returns-clause-txns
returns-clause-txns c =
    sent_txns c.args.conn c.args.reply.now c.args.owed.now c.send.new.rows.entries c.self.inside.rows.entries c.send.ensures.seen ∙ ap (λ (r : Rows). r.txns) c.self.view_is
