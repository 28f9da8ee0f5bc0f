-- Who is served, by what is kept of a world.
use Rattle.std.proofs.Common.{◌≡◌, ℕ, List, Option, Some, None, refl, sym, ap, ◌∙◌}
use Rattle.std.specs.Ordering.{nat_cmp}
use Rattle.std.specs.FinMap.{find}
use Rattle.std.specs.Option.{option_map}
use Rattle.xs_model.proofs.Maps.{found_map, from_Some, not_Some}
use Rattle.machine_model.specs.Connections.{ring_of}
use Rattle.world_model.specs.Worlds.{World, Guest, Channel, Served, served, served_at, served_by, served_with}
use Rattle.world_core.specs.Stands.{Kept, StandsFor}
use Rattle.world_core.specs.Parts.{Serves}
use Rattle.world_core.proofs.StandLemmas.{inbox, unsent, rest_in}

-- the parts of what is served, in the world and in what is kept
pub record Parts (old : Kept) (w : World) (d : ℕ) (at : Served) : Type 0 where
  pub ring : ring_of d w.machine.conns ≡ Some at.conn
  pub channel : find nat_cmp at.conn w.channels ≡ Some at.channel
  pub guest : find nat_cmp d old.guests ≡ Some at.guest
  pub inbox : find nat_cmp at.conn old.inboxes ≡ Some at.channel.inbox
  pub unsent : find nat_cmp at.conn old.daemon.unsent ≡ Some at.channel.unsent
  pub rest : find nat_cmp at.conn old.daemon.rests ≡ Some at.channel.rest

record Looked (w : World) (o : Option ℕ) (d : ℕ) (at : Served) : Type 0 where
  ring : o ≡ Some at.conn
  guest : find nat_cmp d w.guests ≡ Some at.guest
  channel : find nat_cmp at.conn w.channels ≡ Some at.channel

of_channel : (c : ℕ) (guest : Guest) (o : Option Channel) (at : Served) → served_with c guest o ≡ Some at → (at.conn ≡ c) × (at.guest ≡ guest) × (o ≡ Some at.channel)
of_channel c guest None at h = not_Some h
of_channel c guest (Some channel) at h =
    let same = sym (from_Some h) in
    (ap (λ (s : Served). s.conn) same, ap (λ (s : Served). s.guest) same, ap (λ (s : Served). Some s.channel) (sym same))

of_guest : (w : World) (c : ℕ) (o : Option Guest) (at : Served) → served_by w c o ≡ Some at → (at.conn ≡ c) × (o ≡ Some at.guest) × (find nat_cmp c w.channels ≡ Some at.channel)
of_guest w c None at h = not_Some h
of_guest w c (Some guest) at h =
    let parts = of_channel c guest (find nat_cmp c w.channels) at h in
    (parts.0, ap (λ (g : Guest). Some g) (sym parts.1), parts.2)

of_ring : (w : World) (d : ℕ) (o : Option ℕ) (at : Served) → served_at w d o ≡ Some at → Looked w o d at
of_ring w d None at h = not_Some h
of_ring w d (Some c) at h =
    let parts = of_guest w c (find nat_cmp d w.guests) at h in
    record {
      ring = ap (λ (n : ℕ). Some n) (sym parts.0);
      guest = parts.1;
      channel = ap (λ (n : ℕ). find nat_cmp n w.channels) parts.0 ∙ parts.2;
    }

inbox_of : (old : Kept) (w : World) (c : ℕ) → StandsFor old w → find nat_cmp c old.inboxes ≡ option_map inbox (find nat_cmp c w.channels)
inbox_of old w c stands = ap (find nat_cmp c) (sym stands.inboxes) ∙ found_map nat_cmp inbox c w.channels

unsent_of : (old : Kept) (w : World) (c : ℕ) → StandsFor old w → find nat_cmp c old.daemon.unsent ≡ option_map unsent (find nat_cmp c w.channels)
unsent_of old w c stands = ap (find nat_cmp c) (sym stands.unsent) ∙ found_map nat_cmp unsent c w.channels

rest_of : (old : Kept) (w : World) (c : ℕ) → StandsFor old w → find nat_cmp c old.daemon.rests ≡ option_map rest_in (find nat_cmp c w.channels)
rest_of old w c stands = ap (find nat_cmp c) (sym stands.rests) ∙ found_map nat_cmp rest_in c w.channels

pub parts_of : (old : Kept) (w : World) (d : ℕ) (at : Served) → StandsFor old w → served w d ≡ Some at → Parts old w d at
parts_of old w d at stands h =
    let looked = of_ring w d (ring_of d w.machine.conns) at h in
    record {
      ring = looked.ring;
      channel = looked.channel;
      guest = ap (find nat_cmp d) (sym stands.guests) ∙ looked.guest;
      inbox = inbox_of old w at.conn stands ∙ ap (option_map inbox) looked.channel;
      unsent = unsent_of old w at.conn stands ∙ ap (option_map unsent) looked.channel;
      rest = rest_of old w at.conn stands ∙ ap (option_map rest_in) looked.channel;
    }

-- WHO IS SERVED, by the look-ups
pub none_without_ring : (w : World) (d : ℕ) → ring_of d w.machine.conns ≡ None → served w d ≡ None
none_without_ring w d ring = ap (served_at w d) ring

pub none_without_guest : (old : Kept) (w : World) (d c : ℕ) → StandsFor old w → ring_of d w.machine.conns ≡ Some c → find nat_cmp d old.guests ≡ None → served w d ≡ None
none_without_guest old w d c stands ring guest =
    ap (served_at w d) ring ∙ ap (served_by w c) (ap (find nat_cmp d) stands.guests ∙ guest)

no_channel : (o : Option Channel) → option_map inbox o ≡ None → o ≡ None
no_channel None h = refl
no_channel (Some channel) h = not_Some (sym h)

a_channel : (o : Option Channel) (i : List ℕ) → option_map inbox o ≡ Some i → (channel : Channel) × (o ≡ Some channel)
a_channel None i h = not_Some h
a_channel (Some channel) i h = (channel, refl)

pub none_without_inbox : (old : Kept) (w : World) (d c : ℕ) (guest : Guest) → StandsFor old w → ring_of d w.machine.conns ≡ Some c → find nat_cmp d old.guests ≡ Some guest → find nat_cmp c old.inboxes ≡ None → served w d ≡ None
none_without_inbox old w d c guest stands ring there inbox =
    ap (served_at w d) ring ∙ ap (served_by w c) (ap (find nat_cmp d) stands.guests ∙ there)
    ∙ ap (served_with c guest) (no_channel (find nat_cmp c w.channels) (sym (inbox_of old w c stands) ∙ inbox))

pub some_with_all : (old : Kept) (w : World) (d c : ℕ) (guest : Guest) (bytes : List ℕ) → StandsFor old w → ring_of d w.machine.conns ≡ Some c → find nat_cmp d old.guests ≡ Some guest → find nat_cmp c old.inboxes ≡ Some bytes → Serves old d c w
some_with_all old w d c guest bytes stands ring there inbox =
    let channel = a_channel (find nat_cmp c w.channels) bytes (sym (inbox_of old w c stands) ∙ inbox) in
    record {
      at = record { conn = c; guest = guest; channel = channel.0 };
      served = ap (served_at w d) ring ∙ ap (served_by w c) (ap (find nat_cmp d) stands.guests ∙ there) ∙ ap (served_with c guest) channel.1;
      conn = refl;
    }
