use Rattle.std.proofs.Common.{◌≤◌, ◌==◌, not, sym, subst}
use Rattle.std.specs.List.{AllByRecursion}
use Rattle.std.specs.Ordering.{nat_cmp}
use Rattle.xs_model.proofs.Maps.{keys_where}
use Rattle.conn_rows.specs.Rows.{Txns}
use Rattle.conn_rows.proofs.row.Row.take.Goals as goal

pub invariant_of-self : goal.invariant_of-self
invariant_of-self c =
    subst (λ (txns : Txns). AllByRecursion (λ e. 1 ≤ e.0) txns) (sym c.take.ensures.after)
    (keys_where nat_cmp (λ i. 1 ≤ i) (λ key. not (c.args.tx == key)) c.self.inside.txns.entries c.self.invariant)
