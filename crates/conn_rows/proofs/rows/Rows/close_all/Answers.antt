use Rattle.std.proofs.Common.{◌≡◌, ℕ, ◌==◌, not, [], List, is_some, true, inl, sym, ap, subst, ◌∙◌, ne_eqb}
use Rattle.std.specs.Option.{option_map}
use Rattle.std.specs.Ordering.{nat_cmp}
use Rattle.std.specs.FinMap.{find, put}
use Rattle.std.specs.FinMap.Entries.{where_key}
use Rattle.xs_model.proofs.Maps.{not_both}
use Rattle.conn_rows.specs.Rows.{Txns, Row, Rows}
use Rattle.conn_rows.proofs.WalkLemmas.{all_changed}
use Rattle.conn_rows.proofs.RowLemmas.{IsQuietOrBusy, AreQuietOrBusy, txns_in, found_txns, put_txns, same_queues, busy_less}
use Rattle.conn_rows.proofs.rows.Rows.close_all.Goals as goal

pub unreachable-requires : goal.unreachable-requires
unreachable-requires c =
    let rows = c.self.inside.rows.entries in
    not_both (subst (λ (r : Rows). is_some (find nat_cmp c.args.conn r.txns) ≡ true) (sym c.self.view_is) c.requires.there)
    (ap is_some (found_txns c.args.conn rows ∙ ap (option_map (λ (row : Row). row.txns)) (sym c.in_default.ensures.value)))

pub invariant_of-self : goal.invariant_of-self
invariant_of-self c =
    let conn = c.args.conn in
    let busy = c.self.inside.busy.entries in
    let left : List (ℕ × Unit {0}) = where_key nat_cmp (λ key. not (conn == key)) busy in
    subst (λ (b : List (ℕ × Unit {0})). AreQuietOrBusy b (put nat_cmp conn c.close_all.new.self c.self.inside.rows.entries)) (sym c.remove.ensures.after)
    (all_changed conn c.close_all.new.self (IsQuietOrBusy busy) (IsQuietOrBusy left) (λ e apart q. busy_less conn busy e (ne_eqb e.0 conn apart) q) (inl c.close_all.ensures.txns)
    c.self.inside.rows.entries c.get_mut.ensures.rising c.self.invariant)

pub returns-clause-txns : goal.returns-clause-txns
returns-clause-txns c =
    let rows = c.self.inside.rows.entries in
    put_txns c.args.conn c.close_all.new.self rows
    ∙ ap (λ (t : Txns). put nat_cmp c.args.conn t (txns_in rows)) c.close_all.ensures.txns
    ∙ ap (λ (r : Rows). put nat_cmp c.args.conn [] r.txns) c.self.view_is

pub returns-clause-queues : goal.returns-clause-queues
returns-clause-queues c =
    same_queues c.args.conn c.in-Some.row.now c.close_all.new.self c.self.inside.rows.entries c.get_mut.ensures.rising c.in-Some.ensures.value c.close_all.ensures.queue
    ∙ ap (λ (r : Rows). r.queues) c.self.view_is
