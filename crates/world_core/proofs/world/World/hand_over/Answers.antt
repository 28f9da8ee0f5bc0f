use Rattle.std.proofs.Common.{refl, sym, subst, take}
use Rattle.world_model.specs.declared.Said.TheVariants.{Handed}
use Rattle.handover.specs.Hands.{Told}
use Rattle.world_core.specs.Handovers.{HandsOver}
use Rattle.world_core.specs.Stands.{Kept}
use Rattle.world_core.proofs.HandLemmas.{goes_on, handed_over, refused_over}
use Rattle.world_core.proofs.world.World.hand_over.Goals as goal

pub returns-in-Ok : goal.returns-in-Ok
returns-in-Ok g c =
    let vault : Told = record { puts = g.V.Vault.puts c.args.vault.now; gets = g.V.Vault.gets c.args.vault.now; faults = g.V.Vault.faults c.args.vault.now; honest = g.V.Vault.honest c.args.vault.now } in
    let vault_new : Told = record { puts = g.V.Vault.puts c.successor.new.vault; gets = g.V.Vault.gets c.successor.new.vault; faults = g.V.Vault.faults c.successor.new.vault; honest = g.V.Vault.honest c.successor.new.vault } in
    let old : Kept = record { daemon = c.self.inside.daemon; inboxes = c.self.inside.seats.ins.entries; guests = c.self.inside.seats.guests.entries; rings = c.self.inside.seats.rings.entries; taken = take c.self.inside.count c.self.inside.bytes } in
    let new : Kept = record { daemon = c.in-Ok.daemon; inboxes = c.in-Ok.ins.entries; guests = c.self.inside.seats.guests.entries; rings = c.self.inside.seats.rings.entries; taken = take c.self.inside.count c.self.inside.bytes } in
    let next = c.in-Ok.ensures.succeeds in
    subst (λ k. HandsOver k vault Handed new vault_new) c.self.view_is
    (handed_over old new vault vault_new (goes_on old new next.0.store next.0.inboxes refl refl) next.1)

pub returns-in-Err : goal.returns-in-Err
returns-in-Err g c =
    let vault : Told = record { puts = g.V.Vault.puts c.args.vault.now; gets = g.V.Vault.gets c.args.vault.now; faults = g.V.Vault.faults c.args.vault.now; honest = g.V.Vault.honest c.args.vault.now } in
    let vault_new : Told = record { puts = g.V.Vault.puts c.successor.new.vault; gets = g.V.Vault.gets c.successor.new.vault; faults = g.V.Vault.faults c.successor.new.vault; honest = g.V.Vault.honest c.successor.new.vault } in
    let old : Kept = record { daemon = c.self.inside.daemon; inboxes = c.self.inside.seats.ins.entries; guests = c.self.inside.seats.guests.entries; rings = c.self.inside.seats.rings.entries; taken = take c.self.inside.count c.self.inside.bytes } in
    subst (λ k. HandsOver k vault c.refused.result k vault_new) c.self.view_is
    (subst (λ s. HandsOver old vault s old vault_new) (sym c.refused.ensures)
    (refused_over old vault vault_new c.in-Err.refusal c.in-Err.ensures.succeeds))
