use Rattle.std.proofs.Common.{◌≤◌, sym, ap, ◌∙◌, subst}
use Rattle.std.specs.List.{AllByRecursion}
use Rattle.std.specs.Ordering.{nat_cmp}
use Rattle.std.specs.FinMap.{put}
use Rattle.std.proofs.lemmas.Result.{on_ok_weaker, on_err_weaker}
use Rattle.xs_model.proofs.Maps.{keys_put}
use Rattle.conn_rows.specs.Rows.{Row, Txns}
use Rattle.conn_rows.proofs.NoteLemmas.{either_way}
use Rattle.conn_rows.proofs.row.Row.add_txn.Goals as goal

pub invariant_of-self : goal.invariant_of-self
invariant_of-self c =
    let is_positive = λ (txns : Txns). AllByRecursion (λ e. 1 ≤ e.0) txns in
    either_way c.add.result
    (on_ok_weaker c.add.result (λ is. subst is_positive (sym is) (keys_put nat_cmp (λ i. 1 ≤ i) c.args.tx c.args.txn c.self.inside.txns.entries c.requires.positive c.self.invariant)) c.add.ensures.ok)
    (on_err_weaker c.add.result (λ is. subst is_positive (sym is) c.self.invariant) c.add.ensures.err)
