use Rattle.std.proofs.Common.{◌≡◌, ℕ, List, true, is_some, sym, subst, ap, ◌∙◌}
use Rattle.std.specs.List.{AllByRecursion}
use Rattle.std.specs.Ordering.{nat_cmp}
use Rattle.std.specs.FinMap.{find}
use Rattle.kept_model.specs.States.{ConnectionOf}
use Rattle.kept_model.specs.Said.{Said}
use Rattle.conn_table.specs.Tables.{Specs}
use Rattle.mig_load.specs.Came.{Saids, connections_in}
use Rattle.mig_load.specs.CameView.{tables_of}
use Rattle.mig_load.specs.Settled.{settled_opens}
use Rattle.mig_load.specs.SettledTables.{IsSettled}
use Rattle.mig_load.proofs.SettledTablesLemmas.{nothing_open, rising_before, all_there, are_settled}
use Rattle.mig_load.proofs.connections.Connections.settle.Goals as goal

pub settle_conns-requires-clause-there : goal.settle_conns-requires-clause-there
settle_conns-requires-clause-there c =
    let txns = c.self.inside.rows.txns in
    subst (λ (saids : Saids). AllByRecursion (λ e. is_some (find nat_cmp e.0 txns) ≡ true) saids) (sym c.into_vec.ensures.entries)
    (all_there (tables_of c.self.inside) txns c.is_table.ensures.rising c.self.invariant)

pub settle_conns-requires-clause-kept : goal.settle_conns-requires-clause-kept
settle_conns-requires-clause-kept c = rising_before (tables_of c.self.inside) c.self.inside.rows.txns c.is_table.ensures.rising c.self.invariant

pub settle_conns-requires-clause-quiet : goal.settle_conns-requires-clause-quiet
settle_conns-requires-clause-quiet c = nothing_open (tables_of c.self.inside) c.self.inside.rows.txns c.is_table.ensures.rising c.self.invariant

pub returns : goal.returns
returns c =
    let tree = c.args.tree.now.nodes in
    let t = tables_of c.self.inside in
    let now = c.settle_conns.new.rows.txns in
    let queues = c.settle_conns.new.rows.queues in
    let opened = c.in_ok-settle_conns.ensures.ok ∙ ap (λ (saids : Saids). settled_opens tree saids c.self.inside.rows.txns) c.into_vec.ensures.entries in
    subst (λ (conns : List (ℕ × ConnectionOf Said)). IsSettled tree conns c.into_conns.result t.watched queues now t.ins) c.self.view_is
    (subst (λ (specs : Specs). IsSettled tree (connections_in t) specs t.watched queues now t.ins) (sym c.into_conns.ensures.conns)
    (are_settled tree t c.self.inside.rows.txns now queues c.is_table.ensures.rising c.self.invariant opened c.settle_conns.ensures.queues))
