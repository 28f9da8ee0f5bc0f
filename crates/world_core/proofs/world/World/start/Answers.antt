use Rattle.std.proofs.Common.{refl, ap, ◌∙◌}
use Rattle.world_model.specs.Worlds.{with_fresh_guests}
use Rattle.id_map.specs.Maps.{Map}
use Rattle.world_core.specs.Guests.{ring_domids, with_rings}
use Rattle.world_core.proofs.BeginLemmas.{begins}
use Rattle.world_core.proofs.BegunLemmas.{begun_stands}
use Rattle.world_core.proofs.world.World.start.Goals as goal

pub returns-clause-begins : goal.returns-clause-begins
returns-clause-begins c =
    begins c.args.daemon c.args.ins.entries _ refl (ap (λ (m : Map _). m.entries) (c.in_ok-seat_all.ensures.ins ∙ c.new-seats.ensures.ins))
    (c.in_ok-seat_all.ensures.guests ∙ ap (λ specs. with_fresh_guests (ring_domids specs) c.new-seats.result.guests.entries) c.conns.ensures.value ∙ ap (with_fresh_guests (ring_domids c.args.daemon.specs)) c.new-seats.ensures.guests)
    (c.in_ok-seat_all.ensures.rings ∙ ap (λ specs. with_rings specs c.new-seats.result.rings.entries) c.conns.ensures.value ∙ ap (with_rings c.args.daemon.specs) c.new-seats.ensures.rings)

pub returns-clause-begun : goal.returns-clause-begun
returns-clause-begun c =
    begun_stands c.args.daemon c.args.ins.entries (c.is_sound.ensures.state c.args.ins.entries c.requires.short) c.is_sound.ensures.ids c.conns.ensures.sound.table c.requires.named _
    (returns-clause-begins c)
