use Rattle.std.proofs.Common.{◌≤◌, sym, ap, subst, ◌∙◌}
use Rattle.std.specs.List.{AllByRecursion}
use Rattle.conn_rows.specs.Queued.{unsent_of, rests_of}
use Rattle.conn_rows.specs.Rows.{Rows}
use Rattle.conn_rows.proofs.SeenLemmas.{all_of_queues, same_bytes, same_rests, same_seen_txns, quiet_same}
use Rattle.conn_rows.proofs.rows.Rows.reserve_all.Goals as goal

pub reserve_all-requires : goal.reserve_all-requires
reserve_all-requires c = record {
  positive = all_of_queues (λ e. 1 ≤ e.0) c.self.inside.rows.entries (subst (λ (r : Rows). AllByRecursion (λ e. 1 ≤ e.0) r.queues) (sym c.self.view_is) c.requires.positive);
}

pub invariant_of-self : goal.invariant_of-self
invariant_of-self c =
    let new = c.reserve_all.new.rows.entries in
    let old = c.self.inside.rows.entries in
    quiet_same c.self.inside.busy.entries new old (same_seen_txns new old c.reserve_all.ensures.seen) c.self.invariant

pub returns-clause-bytes : goal.returns-clause-bytes
returns-clause-bytes c =
    same_bytes c.reserve_all.new.rows.entries c.self.inside.rows.entries c.reserve_all.ensures.seen ∙ ap (λ (r : Rows). unsent_of r.queues) c.self.view_is

pub returns-clause-rests : goal.returns-clause-rests
returns-clause-rests c =
    same_rests c.reserve_all.new.rows.entries c.self.inside.rows.entries c.reserve_all.ensures.seen ∙ ap (λ (r : Rows). rests_of r.queues) c.self.view_is

pub returns-clause-txns : goal.returns-clause-txns
returns-clause-txns c =
    same_seen_txns c.reserve_all.new.rows.entries c.self.inside.rows.entries c.reserve_all.ensures.seen ∙ ap (λ (r : Rows). r.txns) c.self.view_is
