use Rattle.std.proofs.Common.{◌≡◌, refl, inl, inr, sym, ap, subst, ◌∙◌, take}
use Rattle.xs_model.specs.Requests.{all_types}
use Rattle.world_model.specs.declared.Said.TheVariants as said
use Rattle.world_model.specs.Worlds.{do_message}
use Rattle.id_map.specs.Maps.{Map}
use Rattle.daemon.specs.Submits.{Submits}
use Rattle.world_core.specs.Stands.{ActsOrNone}
use Rattle.world_core.specs.Seats.{tables_of}
use Rattle.world_core.proofs.DoLemmas.{same_kept, kept_with, same_seats, acts_without_inbox, acts_done, acts_held, acts_crowded, acts_gone}
use Rattle.world_core.proofs.ShortLemmas.{short_same, short_behind}
use Rattle.world_core.proofs.world.World.submit.Goals as goal

-- what is kept once room was made is what was kept before
pub returns-then-is_err : goal.returns-then-is_err
returns-then-is_err c =
    let taken = take c.self.inside.count c.self.inside.bytes in
    let mid = kept_with c.self.inside.daemon c.make_room.new.self taken in
    let is : mid ≡ c.args.self.now = same_seats c.self.inside.daemon c.self.inside.seats c.make_room.new.self taken c.make_room.ensures.same ∙ c.self.view_is in
    inl (refl, is)

pub returns-in_default : goal.returns-in_default
returns-in_default c =
    let taken = take c.self.inside.count c.self.inside.bytes in
    let mid = kept_with c.self.inside.daemon c.make_room.new.self taken in
    let is : mid ≡ c.args.self.now = same_seats c.self.inside.daemon c.self.inside.seats c.make_room.new.self taken c.make_room.ensures.same ∙ c.self.view_is in
    subst (λ k. ActsOrNone k c.args.domid c.args.conn (do_message all_types c.args.len) mid said.Gone) is
    (inr (acts_without_inbox mid mid c.args.domid c.args.conn (do_message all_types c.args.len) said.Gone (sym c.in_default.ensures.value)))

pub returns-in-Ok-Done : goal.returns-in-Ok-Done
returns-in-Ok-Done c =
    let taken = take c.self.inside.count c.self.inside.bytes in
    let mid = kept_with c.self.inside.daemon c.make_room.new.self taken in
    let new = kept_with c.submit.new.self c.follow.new.self taken in
    let is : mid ≡ c.args.self.now = same_seats c.self.inside.daemon c.self.inside.seats c.make_room.new.self taken c.make_room.ensures.same ∙ c.self.view_is in
    let takes = subst (Submits c.self.inside.daemon c.args.conn (take c.args.len c.bytes.result.now) c.submit.new.self) c.in-Ok-Done.field-0-is c.in-Ok-Done.ensures.ok in
    subst (λ k. ActsOrNone k c.args.domid c.args.conn (do_message all_types c.args.len) new said.Done) is
    (inr (acts_done mid new c.args.domid c.args.conn c.args.len c.in-Some.inbox.now (take c.args.len c.bytes.result.now) (sym c.in-Some.ensures.value) (ap (take c.args.len) c.bytes.ensures)
    c.in-Ok-Done.door takes c.follow.ensures.sound (tables_of c.skip_front.new.self) c.skip_front.ensures.inbox (ap (λ (m : Map _). m.entries) c.skip_front.ensures.guests) (ap (λ (m : Map _). m.entries) c.skip_front.ensures.rings) c.follow.ensures.follows))

pub returns-in-Ok-Held : goal.returns-in-Ok-Held
returns-in-Ok-Held c =
    let taken = take c.self.inside.count c.self.inside.bytes in
    let mid = kept_with c.self.inside.daemon c.make_room.new.self taken in
    let new = kept_with c.submit.new.self c.make_room.new.self taken in
    let is : mid ≡ c.args.self.now = same_seats c.self.inside.daemon c.self.inside.seats c.make_room.new.self taken c.make_room.ensures.same ∙ c.self.view_is in
    let holds = subst (Submits c.self.inside.daemon c.args.conn (take c.args.len c.bytes.result.now) c.submit.new.self) c.in-Ok-Held.field-0-is c.in-Ok-Held.ensures.ok in
    subst (λ k. ActsOrNone k c.args.domid c.args.conn (do_message all_types c.args.len) new (said.Held c.in-Ok-Held.unsent)) is
    (inr (acts_held mid new c.args.domid c.args.conn c.args.len c.in-Some.inbox.now (take c.args.len c.bytes.result.now) (sym c.in-Some.ensures.value) (ap (take c.args.len) c.bytes.ensures)
    c.submit.new.self c.in-Ok-Held.unsent holds (same_kept mid new holds.same refl refl refl refl)))

pub returns-in-Ok-Crowded : goal.returns-in-Ok-Crowded
returns-in-Ok-Crowded c =
    let taken = take c.self.inside.count c.self.inside.bytes in
    let mid = kept_with c.self.inside.daemon c.make_room.new.self taken in
    let new = kept_with c.submit.new.self c.make_room.new.self taken in
    let is : mid ≡ c.args.self.now = same_seats c.self.inside.daemon c.self.inside.seats c.make_room.new.self taken c.make_room.ensures.same ∙ c.self.view_is in
    let crowds = subst (Submits c.self.inside.daemon c.args.conn (take c.args.len c.bytes.result.now) c.submit.new.self) c.in-Ok-Crowded.field-0-is c.in-Ok-Crowded.ensures.ok in
    subst (λ k. ActsOrNone k c.args.domid c.args.conn (do_message all_types c.args.len) new (said.Crowded c.in-Ok-Crowded.conn)) is
    (inr (λ w at stands h conn. acts_crowded mid new c.args.domid c.args.conn c.args.len c.in-Some.inbox.now (take c.args.len c.bytes.result.now) (sym c.in-Some.ensures.value) (ap (take c.args.len) c.bytes.ensures)
    c.submit.new.self c.in-Ok-Crowded.conn crowds (same_kept mid new (crowds w.machine stands.store).same refl refl refl refl) w at stands h conn))

pub returns-in-Ok-Gone : goal.returns-in-Ok-Gone
returns-in-Ok-Gone c =
    let taken = take c.self.inside.count c.self.inside.bytes in
    let mid = kept_with c.self.inside.daemon c.make_room.new.self taken in
    let new = kept_with c.submit.new.self c.make_room.new.self taken in
    let is : mid ≡ c.args.self.now = same_seats c.self.inside.daemon c.self.inside.seats c.make_room.new.self taken c.make_room.ensures.same ∙ c.self.view_is in
    let gone = subst (Submits c.self.inside.daemon c.args.conn (take c.args.len c.bytes.result.now) c.submit.new.self) c.in-Ok-Gone.field-0-is c.in-Ok-Gone.ensures.ok in
    subst (λ k. ActsOrNone k c.args.domid c.args.conn (do_message all_types c.args.len) new said.Gone) is
    (inr (acts_gone mid new c.args.domid c.args.conn c.args.len c.in-Some.inbox.now (take c.args.len c.bytes.result.now) (sym c.in-Some.ensures.value) (ap (take c.args.len) c.bytes.ensures) said.Gone gone.0))

-- the inbox without its first message, and a new one is empty
pub invariant_of-self-in-Ok-Done : goal.invariant_of-self-in-Ok-Done
invariant_of-self-in-Ok-Done c =
    let made = short_same 16777216 c.self.inside.seats.ins.entries c.self.invariant.inboxes c.make_room.new.self.ins.entries c.make_room.ensures.same.inboxes in
    let there = sym c.in-Some.ensures.value in
    let left = short_behind 16777216 c.make_room.new.self.ins.entries made c.skip_front.new.self.ins.entries c.args.conn c.args.len c.in-Some.inbox.now there (c.skip_front.ensures.inbox c.in-Some.inbox.now there) in
    record {
      count = c.self.invariant.count;
      spare = c.follow.ensures.spare;
      inboxes = c.follow.ensures.short 16777216 left;
    }
