use Rattle.std.specs.Prelude.{◌≡◌, length}
use Rattle.world_model.specs.Worlds.{with_fresh_guests}
use Rattle.id_map.specs.Ids.{above}
use Rattle.world_core.specs.Guests.{ring_domids, with_rings}
use Rattle.world_core.proofs.seats.Seats.seat_all.Given as goal

-- what is left to seat, seated onto what is there, is all seated
abbrev pub invariant-loop-next : goal.invariant-loop-next
invariant-loop-next l = record {
  guests : with_fresh_guests (ring_domids (above l.id l.conns)) l.self.guests.entries ≡ with_fresh_guests (ring_domids l.conns) l.initial.self.guests.entries;
  rings : with_rings (above l.id l.conns) l.self.rings.entries ≡ with_rings l.conns l.initial.self.rings.entries;
  ins : l.self.ins ≡ l.initial.self.ins;
  spare : l.self.spare ≡ l.initial.self.spare;
}

abbrev pub decreases-loop-next : goal.decreases-loop-next
decreases-loop-next l = length (above l.id l.conns)
