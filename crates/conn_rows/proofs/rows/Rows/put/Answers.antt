use Rattle.std.proofs.Common.{[], inl, sym, ap, ◌∙◌, subst}
use Rattle.std.specs.Ordering.{nat_cmp}
use Rattle.std.specs.FinMap.{put}
use Rattle.out_queues.specs.Queues.{Queue}
use Rattle.conn_rows.specs.Rows.{Txns, Rows}
use Rattle.conn_rows.proofs.RowLemmas.{IsQuietOrBusy, AreQuietOrBusy, queues_in, txns_in, put_queues, put_txns, all_entry}
use Rattle.conn_rows.proofs.rows.Rows.put.Goals as goal

pub invariant_of-self : goal.invariant_of-self
invariant_of-self c =
    let busy = c.self.inside.busy.entries in
    subst (AreQuietOrBusy busy) (sym c.put.ensures.entries)
    (all_entry (IsQuietOrBusy busy) c.args.conn c.of-row.result (inl c.of-row.ensures.txns) c.self.inside.rows.entries c.self.invariant)

pub returns-clause-queues : goal.returns-clause-queues
returns-clause-queues c =
    let rows = c.self.inside.rows.entries in
    ap queues_in c.put.ensures.entries ∙ put_queues c.args.conn c.of-row.result rows
    ∙ ap (λ (queue : Queue). put nat_cmp c.args.conn queue (queues_in rows)) c.of-row.ensures.queue
    ∙ ap (λ (r : Rows). put nat_cmp c.args.conn c.args.queue r.queues) c.self.view_is

pub returns-clause-txns : goal.returns-clause-txns
returns-clause-txns c =
    let rows = c.self.inside.rows.entries in
    ap txns_in c.put.ensures.entries ∙ put_txns c.args.conn c.of-row.result rows
    ∙ ap (λ (txns : Txns). put nat_cmp c.args.conn txns (txns_in rows)) c.of-row.ensures.txns
    ∙ ap (λ (r : Rows). put nat_cmp c.args.conn [] r.txns) c.self.view_is
