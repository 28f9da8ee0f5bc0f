use Rattle.std.proofs.Common.{inr, refl, sym, ◌∙◌}
use Rattle.store_parts.specs.Kept.{kept_in}
use Rattle.mig_load.proofs.StepLemmas.{at_ok}
use Rattle.mig_load.proofs.OrphanLemmas.{state_told, orphan_told}
use Rattle.mig_load.proofs.parts.load_parts.Goals as goal

pub returns-in-Some-clause-told : goal.returns-in-Some-clause-told
returns-in-Some-clause-told c =
    let parts = c.in_ok-parts.parts in
    let e = c.in_ok-parts.ensures.ok in
    inr (orphan_told c.args.bytes.now c.in_ok-loading.loading (kept_in parts) c.in_ok-parts.ins.entries parts.rows.txns c.in_ok-parts.pending.items c.in_ok-loading.ensures.told
    (at_ok _ c.settled.result (parts, c.in_ok-parts.ins, c.in_ok-parts.pending) e c.settled.ensures.state) (at_ok _ c.settled.result (parts, c.in_ok-parts.ins, c.in_ok-parts.pending) e c.settled.ensures.pending) refl (at_ok _ c.settled.result (parts, c.in_ok-parts.ins, c.in_ok-parts.pending) e c.settled.ensures.txns)
    c.in-Some.rec (sym c.first_orphan.ensures ∙ c.in-Some.is))

pub returns-clause-told : goal.returns-clause-told
returns-clause-told c =
    let parts = c.in_ok-parts.parts in
    let e = c.in_ok-parts.ensures.ok in
    state_told c.args.bytes.now c.in_ok-loading.loading (kept_in parts) c.in_ok-parts.ins.entries parts.rows.txns c.in_ok-parts.pending.items c.in_ok-loading.ensures.told
    (at_ok _ c.settled.result (parts, c.in_ok-parts.ins, c.in_ok-parts.pending) e c.settled.ensures.state) (at_ok _ c.settled.result (parts, c.in_ok-parts.ins, c.in_ok-parts.pending) e c.settled.ensures.pending) refl (at_ok _ c.settled.result (parts, c.in_ok-parts.ins, c.in_ok-parts.pending) e c.settled.ensures.txns)
    (sym c.first_orphan.ensures ∙ c.in_default.is)
