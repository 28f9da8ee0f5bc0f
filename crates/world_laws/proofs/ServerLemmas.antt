-- Intake and out: bytes go between a page and its connection's channel, and an account stays sound.
use Rattle.std.specs.Prelude.{◌≡◌, ℕ, ◌≤◌, ◌==◌, true, false, List, [], ◌++◌, length, take, drop, min, Option, Some, None, is_some}
use Rattle.std.specs.Ordering.{nat_cmp}
use Rattle.std.specs.FinMap.{find, put}
use Rattle.std.proofs.Common.{sym, refl, ap, subst, ◌∙◌, inl, inr, arith, eqb-true, ne_eqb, length-take}
use Rattle.std.proofs.lemmas.Bool.{cases_Bool, eqb-false}
use Rattle.xs_model.proofs.Maps.{from_Some}
use Rattle.machine_model.specs.Connections.{ring_of}
use Rattle.machine_model.specs.History.{Life}
use Rattle.world_model.specs.declared.Said.TheVariants as said
use Rattle.world_model.specs.Rings.{Page, free, held, put_all, take_some, with_request, with_reply}
use Rattle.world_model.specs.Fronts.{intake}
use Rattle.xs_model.specs.Wholes.{rest_after}
use Rattle.world_model.specs.Worlds.{World, Guest, Channel, Intake, Out, Told, told, with_page, with_channel, Served, served_with, served_by, served_at, for_served, server_event, took, sent_some}
use Rattle.world_model.specs.Served.{PageLog, Account}
use Rattle.world_laws.proofs.EntryLemmas.{not_none, found_same, found_other}
use Rattle.world_laws.proofs.ConnLemmas.{ends, ring_ends}
use Rattle.world_laws.proofs.FlowLemmas.{Flows, flows_took, flows_sent, filled_held, intake_within}
use Rattle.world_laws.proofs.SoundLemmas.{IsLeft, IsLive, State, Fits, Sound, After, quiet}

-- a domain's connection, with its page and its bytes
pub record IsServed (w : World) (d : ℕ) (at : Served) : Type 0 where
  pub ring : ring_of d w.machine.conns ≡ Some at.conn
  pub guest : find nat_cmp d w.guests ≡ Some at.guest
  pub channel : find nat_cmp at.conn w.channels ≡ Some at.channel

module _ (P : Told → Type 0) (w : World) (d : ℕ) (act : World → Served → Told) (gone : P (told w said.Gone)) (there : (at : Served) → IsServed w d at → P (act w at)) where
  with_channel_by : (c : ℕ) (guest : Guest) (o : Option Channel) → ring_of d w.machine.conns ≡ Some c → find nat_cmp d w.guests ≡ Some guest → find nat_cmp c w.channels ≡ o → P (for_served act w (served_with c guest o))
  with_channel_by c guest None r g e = gone
  with_channel_by c guest (Some channel) r g e = there (record { conn = c; guest = guest; channel = channel }) (record { ring = r; guest = g; channel = e })

  with_guest_by : (c : ℕ) (o : Option Guest) → ring_of d w.machine.conns ≡ Some c → find nat_cmp d w.guests ≡ o → P (for_served act w (served_by w c o))
  with_guest_by c None r e = gone
  with_guest_by c (Some guest) r e = with_channel_by c guest (find nat_cmp c w.channels) r e refl

  with_ring_by : (o : Option ℕ) → ring_of d w.machine.conns ≡ o → P (for_served act w (served_at w d o))
  with_ring_by None e = gone
  with_ring_by (Some c) e = with_guest_by c (find nat_cmp d w.guests) e refl

  pub server_cases : P (server_event d act w)
  server_cases = with_ring_by (ring_of d w.machine.conns) refl

module _ (w : World) (d : ℕ) (at : Served) (fits : Fits w) (is : IsServed w d at) (page : Page) (channel : Channel) where
  abbrev w' : World
  w' = with_channel at.conn channel (with_page d page at.guest w)

  abbrev new : Guest
  new = record { page = page; outbox = at.guest.outbox }

  own_ends : ends w.machine.conns at.conn ≡ Some (Some d)
  own_ends = ring_ends w.machine.conns fits.ids.rising d at.conn is.ring

  fits_server : Fits w'
  fits_server = record {
    ids = fits.ids;
    rings = fits.rings;
    pages = λ c e h. elim (cases_Bool (e == d)) [
      | inl t ↦ subst (λ k. is_some (find nat_cmp k (put nat_cmp d new w.guests)) ≡ true) (sym (eqb-true e d t)) (ap is_some (found_same d new w.guests))
      | inr apart ↦ ap is_some (found_other e d new w.guests apart) ∙ fits.pages c e h
    ];
    channels = λ c. elim (cases_Bool (c == at.conn)) [
      | inl t ↦ subst (λ k. is_some (find nat_cmp k (put nat_cmp at.conn channel w.channels)) ≡ is_some (find nat_cmp k w.machine.conns)) (sym (eqb-true c at.conn t))
          (ap is_some (found_same at.conn channel w.channels) ∙ sym (ap is_some is.channel) ∙ fits.channels at.conn)
      | inr apart ↦ ap is_some (found_other c at.conn channel w.channels apart) ∙ fits.channels c
    ];
  }

  module _ (log : PageLog) (life : Life) where
    -- a page that its connection left is not served
    left_state : IsLeft w log life → State w' log life
    left_state l = elim (cases_Bool (log.domid == d)) [
      | inl t ↦ not_none is.ring (subst (λ k. ring_of k w.machine.conns ≡ None) (eqb-true log.domid d t) l.ringless)
      | inr apart ↦ inr (inl (record {
        there = l.there;
        closed = l.closed;
        ringless = l.ringless;
        guest = l.guest;
        found = found_other log.domid d new w.guests apart ∙ l.found;
        leaves = l.leaves;
      }))
    ]

    own_live : log.domid ≡ d → ((p g i o : List ℕ) → Flows at.guest.page at.channel p g i o → Flows page channel p g i o) → IsLive w log life → IsLive w' log life
    own_live same keeps l =
        let conn : life.conn ≡ at.conn = fits.rings life.conn at.conn d (l.ring ∙ ap (λ k. Some (Some k)) same) own_ends in
        let is_guest : l.guest ≡ at.guest = from_Some (sym l.found ∙ ap (λ k. find nat_cmp k w.guests) same ∙ is.guest) in
        let is_channel : l.channel ≡ at.channel = from_Some (sym l.channel_found ∙ ap (λ k. find nat_cmp k w.channels) conn ∙ is.channel) in
        record {
          there = l.there;
          opened = l.opened;
          ring = l.ring;
          guest = new;
          found = ap (λ k. find nat_cmp k (put nat_cmp d new w.guests)) same ∙ found_same d new w.guests;
          channel = channel;
          channel_found = ap (λ k. find nat_cmp k (put nat_cmp at.conn channel w.channels)) conn ∙ found_same at.conn channel w.channels;
          flows = λ u. keeps log.put log.got life.inputs life.outputs
              (subst (λ (g : Guest). Flows g.page at.channel log.put log.got life.inputs life.outputs) is_guest
              (subst (λ ch. Flows l.guest.page ch log.put log.got life.inputs life.outputs) is_channel (l.flows u)));
        }

    other_live : (log.domid == d) ≡ false → IsLive w log life → IsLive w' log life
    other_live apart l =
        let elsewhere : (life.conn == at.conn) ≡ false =
        ne_eqb life.conn at.conn (λ same. eqb-false log.domid d apart (from_Some (from_Some (sym l.ring ∙ ap (ends w.machine.conns) same ∙ own_ends))))
        in
        record {
          there = l.there;
          opened = l.opened;
          ring = l.ring;
          guest = l.guest;
          found = found_other log.domid d new w.guests apart ∙ l.found;
          channel = l.channel;
          channel_found = found_other life.conn at.conn channel w.channels elsewhere ∙ l.channel_found;
          flows = l.flows;
        }

    server_state : ((p g i o : List ℕ) → Flows at.guest.page at.channel p g i o → Flows page channel p g i o) → State w log life → State w' log life
    server_state keeps s = elim s [
      | inl p ↦ inl p
      | inr q ↦ elim q [
        | inl l ↦ left_state l
        | inr l ↦ elim (cases_Bool (log.domid == d)) [
          | inl t ↦ inr (inr (own_live (eqb-true log.domid d t) keeps l))
          | inr apart ↦ inr (inr (other_live apart l))
        ]
      ]
    ]

module _ (types : List ℕ) (a : Account) (s : Sound a) (d : ℕ) (at : Served) (is : IsServed a.world d at) where
  -- more is taken than is there only where the ring holds nothing good
  took_flows : (max : ℕ) (p g i o : List ℕ) →
      let n = intake at.channel.inbox (take max (held at.guest.page.request)) in
      Flows at.guest.page at.channel p g i o
      → Flows (with_request (take_some n at.guest.page.request) at.guest.page) (record { inbox = at.channel.inbox ++ take n (held at.guest.page.request); unsent = at.channel.unsent; rest = at.channel.rest }) p g i o
  took_flows max p g i o f =
      let whole = held at.guest.page.request in
      let some = intake_within at.channel.inbox (take max whole) in
      let many = filled_held at.guest.page.request f.good.request in
      flows_took at.guest.page at.channel p g i o f (intake at.channel.inbox (take max whole)) (omega (arith, length-take max whole))

  pub took_after : (max : ℕ) → let n = intake at.channel.inbox (take max (held at.guest.page.request)) in After types a (Intake d max) (took d n a.world at)
  took_after max =
      let n = intake at.channel.inbox (take max (held at.guest.page.request)) in
      let page = with_request (take_some n at.guest.page.request) at.guest.page in
      let channel : Channel = record { inbox = at.channel.inbox ++ take n (held at.guest.page.request); unsent = at.channel.unsent; rest = at.channel.rest } in
      quiet types a s (Intake d max) (put nat_cmp d (record { page = page; outbox = at.guest.outbox }) a.world.guests) (put nat_cmp at.conn channel a.world.channels) (said.Took n) [] []
      (fits_server a.world d at s.fits is page channel)
      (λ log life t. server_state a.world d at s.fits is page channel log life (took_flows max) t)

  pub sent_after : (max : ℕ) → After types a (Out d max) (sent_some d (min max (min (length at.channel.unsent) (free at.guest.page.reply))) a.world at)
  sent_after max =
      let n = min max (min (length at.channel.unsent) (free at.guest.page.reply)) in
      let bytes = take n at.channel.unsent in
      let few : length bytes ≤ free at.guest.page.reply = omega (arith, length-take n at.channel.unsent) in
      let page = with_reply (put_all bytes at.guest.page.reply) at.guest.page in
      let rest = rest_after at.channel.rest n at.channel.unsent in
      let channel : Channel = record { inbox = at.channel.inbox; unsent = drop n at.channel.unsent; rest = rest } in
      quiet types a s (Out d max) (put nat_cmp d (record { page = page; outbox = at.guest.outbox }) a.world.guests) (put nat_cmp at.conn channel a.world.channels) (said.Sent n) [] []
      (fits_server a.world d at s.fits is page channel)
      (λ log life t. server_state a.world d at s.fits is page channel log life (λ p g i o f. flows_sent at.guest.page at.channel p g i o f n rest few) t)
