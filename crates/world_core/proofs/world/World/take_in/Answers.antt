use Rattle.std.proofs.Common.{◌≡◌, refl, sym, ap, subst, ◌∙◌, take, arith}
use Rattle.std.specs.Ordering.{nat_cmp}
use Rattle.std.specs.FinMap.{find, put}
use Rattle.world_model.specs.declared.Said.TheVariants as said
use Rattle.world_model.specs.Worlds.{intake_ring, dropped}
use Rattle.world_core.specs.Stands.{Kept, Acts}
use Rattle.world_core.proofs.DoLemmas.{acts_without_inbox, same_kept}
use Rattle.conn_rows.proofs.IdEntries.{put_again}
use Rattle.world_core.proofs.InLemmas.{took_in, dropped_in}
use Rattle.world_core.proofs.ShortLemmas.{short_put, short_at}
use Rattle.world_core.proofs.world.World.take_in.Goals as goal

pub returns-in_default-get_mut : goal.returns-in_default-get_mut
returns-in_default-get_mut c =
    let new : Kept = record { daemon = c.self.inside.daemon; inboxes = c.self.inside.seats.ins.entries; guests = put nat_cmp c.from.result c.in-Some.guest.now c.self.inside.seats.guests.entries; rings = c.self.inside.seats.rings.entries; taken = take c.self.inside.count c.self.inside.bytes } in
    subst (λ k. Acts k c.args.domid c.args.conn (intake_ring c.args.domid c.args.max) new said.Gone) c.self.view_is
    (acts_without_inbox _ new c.args.domid c.args.conn (intake_ring c.args.domid c.args.max) said.Gone (sym c.in_default-get_mut.ensures.value))

pub returns-in-Ok : goal.returns-in-Ok
returns-in-Ok c =
    let new : Kept = record { daemon = c.self.inside.daemon; inboxes = put nat_cmp c.args.conn c.intake.new.inbox c.self.inside.seats.ins.entries; guests = put nat_cmp c.from.result c.intake.new.self c.self.inside.seats.guests.entries; rings = c.self.inside.seats.rings.entries; taken = take c.self.inside.count c.self.inside.bytes } in
    subst (λ k. Acts k c.args.domid c.args.conn (intake_ring c.args.domid c.args.max) new (said.Took c.in-Ok.count)) c.self.view_is
    (took_in _ new c.args.domid c.args.conn c.args.max c.in-Some.guest.now c.in-Some-get_mut.inbox.now (ap (λ k. find nat_cmp k c.self.inside.seats.guests.entries) (sym c.from.ensures) ∙ sym c.in-Some.ensures.value) (sym c.in-Some-get_mut.ensures.value)
    c.in-Ok.count c.intake.new.inbox c.intake.new.self c.in-Ok.ensures.count c.in-Ok.ensures.inbox c.in-Ok.ensures.after refl refl (ap (λ k. put nat_cmp k c.intake.new.self c.self.inside.seats.guests.entries) c.from.ensures) refl)

pub returns-in-Err : goal.returns-in-Err
returns-in-Err c =
    let there = ap (λ k. find nat_cmp k c.self.inside.seats.guests.entries) (sym c.from.ensures) ∙ sym c.in-Some.ensures.value in
    let guests : put nat_cmp c.from.result c.intake.new.self c.self.inside.seats.guests.entries ≡ c.self.inside.seats.guests.entries =
    ap (λ g. put nat_cmp c.from.result g c.self.inside.seats.guests.entries) c.in-Err.ensures.err.0
    ∙ put_again c.from.result c.in-Some.guest.now c.self.inside.seats.guests.entries c.in-Some.ensures.rising (sym c.in-Some.ensures.value) in
    let inboxes : put nat_cmp c.args.conn c.intake.new.inbox c.self.inside.seats.ins.entries ≡ c.self.inside.seats.ins.entries =
    ap (λ i. put nat_cmp c.args.conn i c.self.inside.seats.ins.entries) c.in-Err.ensures.err.1
    ∙ put_again c.args.conn c.in-Some-get_mut.inbox.now c.self.inside.seats.ins.entries c.in-Some-get_mut.ensures.rising (sym c.in-Some-get_mut.ensures.value) in
    let old : Kept = record { daemon = c.self.inside.daemon; inboxes = c.self.inside.seats.ins.entries; guests = c.self.inside.seats.guests.entries; rings = c.self.inside.seats.rings.entries; taken = take c.self.inside.count c.self.inside.bytes } in
    let mid : Kept = record { daemon = c.self.inside.daemon; inboxes = put nat_cmp c.args.conn c.intake.new.inbox c.self.inside.seats.ins.entries; guests = put nat_cmp c.from.result c.intake.new.self c.self.inside.seats.guests.entries; rings = c.self.inside.seats.rings.entries; taken = take c.self.inside.count c.self.inside.bytes } in
    let drops : Acts old c.args.domid c.args.conn (dropped c.args.domid 2 (said.DroppedIndex c.in-Err.bad.prod c.in-Err.bad.cons)) c.drop_for_index.new.self c.drop_for_index.result =
    subst (λ k. Acts k c.args.domid c.args.conn (dropped c.args.domid 2 (said.DroppedIndex c.in-Err.bad.prod c.in-Err.bad.cons)) c.drop_for_index.new.self c.drop_for_index.result) (same_kept old mid refl inboxes guests refl refl) c.drop_for_index.ensures in
    subst (λ k. Acts k c.args.domid c.args.conn (intake_ring c.args.domid c.args.max) c.drop_for_index.new.self c.drop_for_index.result) c.self.view_is
    (dropped_in old c.drop_for_index.new.self c.args.domid c.args.conn c.args.max c.in-Some.guest.now c.in-Some-get_mut.inbox.now there (sym c.in-Some-get_mut.ensures.value)
    c.drop_for_index.result c.in-Err.bad _ c.in-Err.ensures.count drops)

-- an inbox is no longer than before, or than a message
pub invariant_of-self-in-Ok : goal.invariant_of-self-in-Ok
invariant_of-self-in-Ok c =
    let was = short_at 16777216 c.self.inside.seats.ins.entries c.self.invariant.inboxes c.args.conn c.in-Some-get_mut.inbox.now (sym c.in-Some-get_mut.ensures.value) in
    record {
      count = c.self.invariant.count;
      spare = c.self.invariant.spare;
      inboxes = short_put 16777216 c.self.inside.seats.ins.entries c.self.invariant.inboxes _ c.args.conn c.intake.new.inbox refl (c.intake.ensures.short 16777216 (omega arith) was);
    }

pub invariant_of-self-in-Err : goal.invariant_of-self-in-Err
invariant_of-self-in-Err c =
    let was = short_at 16777216 c.self.inside.seats.ins.entries c.self.invariant.inboxes c.args.conn c.in-Some-get_mut.inbox.now (sym c.in-Some-get_mut.ensures.value) in
    record {
      count = c.self.invariant.count;
      spare = c.self.invariant.spare;
      inboxes = short_put 16777216 c.self.inside.seats.ins.entries c.self.invariant.inboxes _ c.args.conn c.intake.new.inbox refl (c.intake.ensures.short 16777216 (omega arith) was);
    }
