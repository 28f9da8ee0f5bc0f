use Rattle.std.proofs.Common.{◌≤◌, sym}
use Rattle.std.specs.Ordering.{nat_cmp}
use Rattle.std.specs.FinMap.{nat_cmp-IsAntisymmetric}
use Rattle.xs_model.proofs.Maps.{keys_put, keys_found}
use Rattle.conn_rows.proofs.row.Row.txn_mut.Goals as goal

pub invariant_of-self-lent : goal.invariant_of-self-lent
invariant_of-self-lent c = λ w.
    let txns = c.self.inside.txns.entries in
    keys_put nat_cmp (λ i. 1 ≤ i) c.args.tx w txns
    (keys_found nat_cmp (λ i. 1 ≤ i) nat_cmp-IsAntisymmetric c.args.tx txns c.in_ok-txn.txn.now c.self.invariant (sym c.in_ok-txn.ensures.value)) c.self.invariant
