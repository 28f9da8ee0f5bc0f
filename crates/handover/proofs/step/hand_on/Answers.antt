use Rattle.std.proofs.Common.{◌≡◌, List, ℕ, sym, ap, subst, ◌∙◌}
use Rattle.tree_ops.proofs.RemovalLemmas.{from_ok}
use Rattle.kept_model.specs.States.{State}
use Rattle.kept_model.specs.Images.{image}
use Rattle.kept_model.specs.Normal.{state_of_bytes}
use Rattle.kept_model.proofs.SaveImages.{image_tells}
use Rattle.store_parts.specs.States.{state_of}
use Rattle.handover.specs.Hands.{Told, HasHanded}
use Rattle.handover.proofs.SameLemmas.{goes_on, for_memory}
use Rattle.handover.proofs.step.hand_on.Goals as goal

pub unloaded-requires : goal.unloaded-requires
unloaded-requires g c =
    let ins = c.args.ins.now.entries in
    let state : State = state_of c.args.old.now ins in
    let bytes : c.as_slice-2.result.now ≡ image state = c.as_slice-2.ensures ∙ c.in_ok-got.ensures.0 ∙ c.as_slice.ensures ∙ c.requires.image in
    for_memory c.as_slice-2.result.now state c.in-Err.fault bytes (image_tells state (c.is_sound.ensures.state ins c.requires.inboxes))
    (c.load.ensures.fault c.in-Err.fault c.in-Err.is)

pub returns-in-Ok-clause-succeeds : goal.returns-in-Ok-clause-succeeds
returns-in-Ok-clause-succeeds g c =
    let old = c.args.old.now in
    let ins = c.args.ins.now.entries in
    let new = c.in-Ok.daemon in
    let loaded = c.in-Ok.loaded.entries in
    let state : State = state_of old ins in
    let put : c.as_slice.result.now ≡ image state = c.as_slice.ensures ∙ c.requires.image in
    let passed = c.in_ok-got.ensures in
    let told : Told = record { puts = g.V.Vault.puts c.args.vault.now; gets = g.V.Vault.gets c.args.vault.now; faults = g.V.Vault.faults c.args.vault.now; honest = g.V.Vault.honest c.args.vault.now } in
    let told_new : Told = record { puts = g.V.Vault.puts c.through.new.vault; gets = g.V.Vault.gets c.through.new.vault; faults = g.V.Vault.faults c.through.new.vault; honest = g.V.Vault.honest c.through.new.vault } in
    let same : state_of new loaded ≡ state =
    from_ok (state_of new loaded) state
    (sym c.in-Ok.ensures.ok ∙ ap state_of_bytes (c.as_slice-2.ensures ∙ passed.0 ∙ put) ∙ image_tells state (c.is_sound.ensures.state ins c.requires.inboxes)) in (
      goes_on old ins new loaded same c.is_sound.ensures.ids c.is_sound-in-Ok.ensures.ids c.is_sound.ensures.store c.in-Ok.ensures.named,
      subst (λ (string : List ℕ). HasHanded string told told_new) put passed.1,
    )
