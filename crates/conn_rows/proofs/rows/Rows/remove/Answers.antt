use Rattle.std.proofs.Common.{◌==◌, not, ℕ, List, sym, ap, ◌∙◌, subst}
use Rattle.std.specs.Ordering.{nat_cmp}
use Rattle.std.specs.FinMap.Entries.{where_key}
use Rattle.conn_rows.specs.Rows.{Row, Rows}
use Rattle.conn_rows.proofs.IdEntries.{where_map}
use Rattle.conn_rows.proofs.RowLemmas.{AreQuietOrBusy, queues_in, txns_in, quiet_without}
use Rattle.conn_rows.proofs.rows.Rows.remove.Goals as goal

pub invariant_of-self : goal.invariant_of-self
invariant_of-self c =
    subst (λ (rows : List (ℕ × Row)). AreQuietOrBusy c.remove-2.new.self.entries rows) (sym c.remove.ensures.after)
    (subst (λ (busy : List (ℕ × Unit {0})). AreQuietOrBusy busy (where_key nat_cmp (λ key. not (c.args.conn == key)) c.self.inside.rows.entries)) (sym c.remove-2.ensures.after)
    (quiet_without c.self.inside.busy.entries c.args.conn c.self.inside.rows.entries c.self.invariant))

pub returns-clause-queues : goal.returns-clause-queues
returns-clause-queues c =
    ap queues_in c.remove.ensures.after ∙ where_map (λ (row : Row). row.queue) (λ key. not (c.args.conn == key)) c.self.inside.rows.entries
    ∙ ap (λ (r : Rows). where_key nat_cmp (λ key. not (c.args.conn == key)) r.queues) c.self.view_is

pub returns-clause-txns : goal.returns-clause-txns
returns-clause-txns c =
    ap txns_in c.remove.ensures.after ∙ where_map (λ (row : Row). row.txns) (λ key. not (c.args.conn == key)) c.self.inside.rows.entries
    ∙ ap (λ (r : Rows). where_key nat_cmp (λ key. not (c.args.conn == key)) r.txns) c.self.view_is
