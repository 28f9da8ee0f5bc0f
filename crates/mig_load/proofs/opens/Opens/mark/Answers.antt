use Rattle.std.proofs.Common.{◌≤◌, sym, ap, ◌∙◌}
use Rattle.std.specs.Ordering.{nat_cmp}
use Rattle.std.specs.FinMap.{put, nat_cmp-IsAntisymmetric}
use Rattle.std.proofs.lemmas.Result.{on_err_weaker}
use Rattle.xs_model.proofs.Maps.{keys_put, keys_found}
use Rattle.mark_model.proofs.StoreMaps.{put_found}
use Rattle.kept_model.specs.States.{TransactionOf}
use Rattle.kept_model.specs.Said.{Said}
use Rattle.mig_load.proofs.opens.Opens.mark.Goals as goal

pub invariant_of-self : goal.invariant_of-self
invariant_of-self c = c.self.invariant

pub invariant_of-self-2 : goal.invariant_of-self-2
invariant_of-self-2 c =
    let txns = c.self.inside.txns.entries in
    let positive = keys_found nat_cmp (λ i. 1 ≤ i) nat_cmp-IsAntisymmetric c.args.tx txns c.in-Some.opened.now c.self.invariant (sym c.in-Some.ensures.value) in
    keys_put nat_cmp (λ i. 1 ≤ i) c.args.tx c.mark.new.self txns positive c.self.invariant

pub returns-clause-err : goal.returns-clause-err
returns-clause-err c =
    let txns = c.self.inside.txns.entries in
    on_err_weaker c.mark.result (λ same.
    ap (λ (t : TransactionOf Said). put nat_cmp c.args.tx t txns) same
    ∙ put_found c.args.tx c.in-Some.opened.now txns c.in-Some.ensures.rising (sym c.in-Some.ensures.value)
    ∙ c.self.view_is) c.mark.ensures.err
