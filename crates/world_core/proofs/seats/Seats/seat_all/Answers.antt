use Rattle.std.proofs.Common.{refl, sym, ap, ◌∙◌}
use Rattle.world_model.specs.Worlds.{with_fresh_guests}
use Rattle.world_core.specs.Guests.{ring_domids, with_rings}
use Rattle.world_core.proofs.BeginLemmas.{all_above, none_left, fewer_left, pages_left, rings_left}
use Rattle.world_core.proofs.seats.Seats.seat_all.Goals as goal

pub loop-next-init : goal.loop-next-init
loop-next-init c =
    let all = all_above c.args.conns.now c.requires.ids in
    record {
      guests = ap (λ es. with_fresh_guests (ring_domids es) c.args.self.now.guests.entries) all;
      rings = ap (λ es. with_rings es c.args.self.now.rings.entries) all;
      ins = refl;
      spare = refl;
    }

pub loop-next-preserved : goal.loop-next-preserved
loop-next-preserved c = record {
  guests = pages_left c.args.conns.now c.loop-next.id c.in-Some.next c.in-Some.ensures.next c.in-Some.ensures.walk c.loop-next.self.guests.entries c.seat_ring.new.self.guests.entries c.in_ok-seat_ring.ensures.guests ∙ c.loop-next.invariant.guests;
  rings = rings_left c.args.conns.now c.loop-next.id c.in-Some.next c.in-Some.ensures.next c.in-Some.ensures.walk c.loop-next.self.rings.entries c.seat_ring.new.self.rings.entries c.in_ok-seat_ring.ensures.rings ∙ c.loop-next.invariant.rings;
  ins = c.seat_ring.ensures.ins ∙ c.loop-next.invariant.ins;
  spare = c.seat_ring.ensures.spare ∙ c.loop-next.invariant.spare;
}

pub loop-next-smaller : goal.loop-next-smaller
loop-next-smaller c = fewer_left c.args.conns.now c.loop-next.id c.in-Some.next c.in-Some.ensures.next c.in-Some.ensures.walk

pub returns : goal.returns
returns c =
    let none = sym (none_left _ c.in_default.ensures.next) in
    record {
      guests = ap (λ es. with_fresh_guests (ring_domids es) c.loop-next.self.guests.entries) none ∙ c.loop-next.invariant.guests;
      rings = ap (λ es. with_rings es c.loop-next.self.rings.entries) none ∙ c.loop-next.invariant.rings;
      ins = c.loop-next.invariant.ins;
      spare = c.loop-next.invariant.spare;
    }
