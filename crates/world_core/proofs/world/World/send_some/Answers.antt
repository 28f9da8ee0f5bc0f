use Rattle.std.proofs.Common.{◌≡◌, ◌≤◌, sym, subst, ◌∙◌, take, length, replicate, arith}
use Rattle.std.proofs.lemmas.List.{length-take-le}
use Rattle.world_model.specs.declared.Said.TheVariants as said
use Rattle.daemon.specs.Submits.{Pulls}
use Rattle.world_core.specs.Stands.{Kept}
use Rattle.world_core.specs.Parts.{SendsSome}
use Rattle.world_core.proofs.OutLemmas.{sends, taken_twice, not_gone, not_nothing}
use Rattle.world_core.proofs.world.World.send_some.Goals as goal

pub returns-in-Got : goal.returns-in-Got
returns-in-Got c =
    let into = take c.args.most (replicate 1024 0) in
    let long : length into ≡ c.args.most = length-take-le c.args.most (replicate 1024 0) c.requires.most.1 in
    let pulls : Pulls c.self.inside.daemon c.args.conn into c.in-Got.count (take c.args.most c.pull.new.piece) c.pull.new.daemon = c.in-Got.ensures in
    let short : c.in-Got.count ≤ c.args.most = omega (arith, pulls.count, long) in
    subst (λ k. SendsSome k c.args.domid c.args.conn c.args.most c.reply.new.self (said.Sent c.in-Got.count)) c.self.view_is
    (sends _ c.reply.new.self c.args.domid c.args.conn c.args.most c.in-Got.count into (take c.args.most c.pull.new.piece) c.first.result.now
    (subst (λ k. Pulls c.self.inside.daemon c.args.conn into c.in-Got.count (take c.args.most c.pull.new.piece) k) (sym c.reply.ensures.same.0) pulls) long
    (c.first.ensures ∙ sym (taken_twice c.in-Got.count c.args.most c.pull.new.piece short)) c.reply.ensures.same.1 c.reply.ensures.guest c.reply.ensures.same.2)

pub returns-in-Nothing : goal.returns-in-Nothing
returns-in-Nothing c =
    let new : Kept = record { daemon = c.pull.new.daemon; inboxes = c.self.inside.seats.ins.entries; guests = c.self.inside.seats.guests.entries; rings = c.self.inside.seats.rings.entries; taken = take c.self.inside.count c.self.inside.bytes } in
    subst (λ k. SendsSome k c.args.domid c.args.conn c.args.most new said.NoneQueued) c.self.view_is
    (not_nothing _ new c.args.domid c.args.conn c.args.most said.NoneQueued c.in-Nothing.ensures.0)

pub returns-in-Gone : goal.returns-in-Gone
returns-in-Gone c =
    let new : Kept = record { daemon = c.pull.new.daemon; inboxes = c.self.inside.seats.ins.entries; guests = c.self.inside.seats.guests.entries; rings = c.self.inside.seats.rings.entries; taken = take c.self.inside.count c.self.inside.bytes } in
    subst (λ k. SendsSome k c.args.domid c.args.conn c.args.most new said.Gone) c.self.view_is
    (not_gone _ new c.args.domid c.args.conn c.args.most said.Gone c.in-Gone.ensures.0)
