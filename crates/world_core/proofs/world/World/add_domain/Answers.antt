use Rattle.std.proofs.Common.{◌≡◌, refl, sym, ap, subst, ◌∙◌, take, is_some}
use Rattle.std.specs.Ordering.{nat_cmp}
use Rattle.std.specs.FinMap.{put}
use Rattle.conn_table.specs.Tables.{ring_id}
use Rattle.world_laws.proofs.EntryLemmas.{none_of}
use Rattle.world_model.specs.Worlds.{Guest}
use Rattle.world_core.specs.Stands.{Kept, AddsDomain}
use Rattle.world_core.specs.Seats.{IsSeated, tables_of}
use Rattle.world_core.proofs.DoLemmas.{kept_with, same_seats}
use Rattle.world_core.proofs.AddLemmas.{adds_page, adds_connection}
use Rattle.world_core.proofs.ShortLemmas.{short_same, short_empty}
use Rattle.world_core.proofs.world.World.add_domain.Goals as goal

pub returns-then-is_some-clause-ok : goal.returns-then-is_some-clause-ok
returns-then-is_some-clause-ok c =
    let taken = take c.self.inside.count c.self.inside.bytes in
    let mid = kept_with c.self.inside.daemon c.make_room.new.self taken in
    let new : Kept = record { daemon = c.self.inside.daemon; inboxes = c.make_room.new.self.ins.entries; guests = c.put.new.self.entries; rings = c.make_room.new.self.rings.entries; taken = taken } in
    let is : mid ≡ c.args.self.now = same_seats c.self.inside.daemon c.self.inside.seats c.make_room.new.self taken c.make_room.ensures.same ∙ c.self.view_is in
    let ring = ap (ring_id c.args.domid) (sym c.conns.ensures.value) ∙ sym c.by_domid.ensures.ring in
    subst (λ k. AddsDomain k c.args.domid c.args.start new) is
    (adds_page mid new c.args.domid c.args.start (ap is_some ring ∙ sym c.is_some.ensures ∙ c.if-is_some.true) refl refl
    (c.put.ensures.entries ∙ ap (λ k. put nat_cmp k c.fresh-guest.result c.make_room.new.self.guests.entries) c.from.ensures ∙ ap (λ (g : Guest). put nat_cmp c.args.domid g c.make_room.new.self.guests.entries) c.fresh-guest.ensures) refl)

pub connect-requires-clause-none : goal.connect-requires-clause-none
connect-requires-clause-none c =
    let ring = ap (ring_id c.args.domid) (sym c.conns.ensures.value) ∙ sym c.by_domid.ensures.ring in
    none_of (ring_id c.args.domid c.self.inside.daemon.specs) (ap is_some ring ∙ sym c.is_some.ensures ∙ c.if-is_some.false)

pub returns-clause-ok : goal.returns-clause-ok
returns-clause-ok c =
    let taken = take c.self.inside.count c.self.inside.bytes in
    let mid = kept_with c.self.inside.daemon c.make_room.new.self taken in
    let new = kept_with c.connect.new.daemon c.seat.new.self taken in
    let is : mid ≡ c.args.self.now = same_seats c.self.inside.daemon c.self.inside.seats c.make_room.new.self taken c.make_room.ensures.same ∙ c.self.view_is in
    let ring = ap (ring_id c.args.domid) (sym c.conns.ensures.value) ∙ sym c.by_domid.ensures.ring in
    subst (λ k. AddsDomain k c.args.domid c.args.start new) is
    (adds_connection mid new c.args.domid c.args.start c.in_ok-conn.conn (none_of (ring_id c.args.domid c.self.inside.daemon.specs) (ap is_some ring ∙ sym c.is_some.ensures ∙ c.if-is_some.false)) c.in_ok-conn.ensures.id c.in_ok-conn.ensures.ok
    (subst (λ (g : Guest). IsSeated c.args.domid c.in_ok-conn.conn g (tables_of c.make_room.new.self) (tables_of c.seat.new.self)) c.fresh-guest.ensures c.seat.ensures.seated))

pub invariant_of-self-2 : goal.invariant_of-self-2
invariant_of-self-2 c =
    let made = short_same 16777216 c.self.inside.seats.ins.entries c.self.invariant.inboxes c.make_room.new.self.ins.entries c.make_room.ensures.same.inboxes in
    record {
      count = c.self.invariant.count;
      spare = c.seat.ensures.spare;
      inboxes = short_empty 16777216 c.make_room.new.self.ins.entries made c.seat.new.self.ins.entries c.in_ok-conn.conn c.seat.ensures.seated.inboxes;
    }
