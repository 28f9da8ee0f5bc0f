use Rattle.std.proofs.Common.{ℕ, List, ◌≤◌, sym, subst}
use Rattle.std.specs.List.{AllByRecursion}
use Rattle.std.specs.Ordering.{nat_cmp}
use Rattle.std.proofs.lemmas.Result.{on_ok_weaker, on_err_weaker}
use Rattle.xs_model.proofs.Maps.{keys_put}
use Rattle.kept_model.specs.States.{TransactionOf}
use Rattle.kept_model.specs.Said.{Said}
use Rattle.conn_rows.proofs.NoteLemmas.{either_way}
use Rattle.mig_load.proofs.opens.Opens.open.Goals as goal

pub invariant_of-self : goal.invariant_of-self
invariant_of-self c =
    let are_positive = λ (txns : List (ℕ × TransactionOf Said)). AllByRecursion (λ e. 1 ≤ e.0) txns in
    either_way c.add.result
    (on_ok_weaker c.add.result (λ is. subst are_positive (sym is) (keys_put nat_cmp (λ i. 1 ≤ i) c.args.tx c.new.result c.self.inside.txns.entries c.requires.positive c.self.invariant)) c.add.ensures.ok)
    (on_err_weaker c.add.result (λ is. subst are_positive (sym is) c.self.invariant) c.add.ensures.err)
