use Rattle.std.proofs.Common.{◌≡◌, refl, subst}
use Rattle.kept_model.specs.Normal.{normal_state}
use Rattle.kept_model.specs.Loading.{Loading}
use Rattle.store_parts.specs.Kept.{kept_in}
use Rattle.store_parts.specs.States.{state_of}
use Rattle.mig_load.specs.LoadingView.{loading_view}
use Rattle.mig_load.proofs.SettledTablesLemmas.{state_settled}
use Rattle.mig_load.proofs.parts.settled.Goals as goal

pub returns-clause-state : goal.returns-clause-state
returns-clause-state c =
    let inside = c.loading.inside in
    let kept = kept_in (record { conns = c.in_ok-conns.conns; watchers = c.in_ok-conns.watchers; rows = c.in_ok-conns.rows; tree = c.into_tree-tree.result; globals = inside.globals }) in
    subst (λ (loading : Loading). state_of kept c.in_ok-conns.ins.entries ≡ normal_state loading.state) c.loading.view_is
    (state_settled (loading_view inside).state kept c.in_ok-conns.ins.entries c.in_ok-conns.rows.queues c.in_ok-conns.rows.txns c.in_ok-conns.ensures
    c.into_tree-tree.ensures.nodes c.into_tree-tree.ensures.gens refl refl refl refl)
