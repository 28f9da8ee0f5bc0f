-- Bytes that come in: from a request ring to an inbox.
use Rattle.std.proofs.Common.{◌≡◌, ℕ, true, false, cond, List, ◌++◌, take, Result, Ok, Err, Some, refl, sym, ap, subst, ◌∙◌}
use Rattle.std.specs.Ordering.{nat_cmp}
use Rattle.std.specs.FinMap.{find, put}
use Rattle.xs_model.proofs.Maps.{from_Some}
use Rattle.ring_index.specs.Answers.{unless_bad}
use Rattle.ring_index.specs.declared.index.BadIndex.{BadIndex}
use Rattle.world_model.specs.declared.Said.{Said}
use Rattle.world_model.specs.declared.Said.TheVariants as said
use Rattle.world_model.specs.Rings.{Ring, is_bad, held, take_some, with_request}
use Rattle.world_model.specs.Fronts.{intake}
use Rattle.world_model.specs.Worlds.{World, Guest, Served, served, with_guest, with_channel, took, intake_ring, dropped, dropped_for_index}
use Rattle.world_core.specs.Guests.{with_page_of}
use Rattle.world_core.specs.Stands.{Kept, StandsFor, Follows, Acts}
use Rattle.world_core.proofs.StandLemmas.{guest_changed, inbox_changed}
use Rattle.world_core.proofs.ServedLemmas.{parts_of}

record Good (ring : Ring) (n m : ℕ) : Type 0 where
  good : is_bad ring ≡ false
  is : n ≡ m

from_ok : {n m : ℕ} → ◌≡◌ {A = Result ℕ BadIndex} (Ok n) (Ok m) → n ≡ m
from_ok {n = n} e = ap (λ (r : Result ℕ BadIndex). elim r as (λ _. ℕ) [ Ok k ↦ k | Err b ↦ n ]) e

from_err : {x y : BadIndex} → ◌≡◌ {A = Result ℕ BadIndex} (Err x) (Err y) → x ≡ y
from_err {x = x} e = ap (λ (r : Result ℕ BadIndex). elim r as (λ _. BadIndex) [ Ok k ↦ x | Err b ↦ b ]) e

good_ring : (ring : Ring) (n m : ℕ) → Ok n ≡ unless_bad ring m → Good ring n m
good_ring ring n m e = elim (is_bad ring) as (λ b. is_bad ring ≡ b → ◌≡◌ {A = Result ℕ BadIndex} (Ok n) (cond b (Err (record { prod = ring.prod; cons = ring.cons })) (Ok m)) → Good ring n m) [
  | true ↦ λ b k. cc
  | false ↦ λ b k. record { good = b; is = from_ok k }
] refl e

bad_ring : (ring : Ring) (bad : BadIndex) (m : ℕ) → Err bad ≡ unless_bad ring m → (is_bad ring ≡ true) × (bad ≡ record { prod = ring.prod; cons = ring.cons })
bad_ring ring bad m e = elim (is_bad ring) as (λ b. is_bad ring ≡ b → ◌≡◌ {A = Result ℕ BadIndex} (Err bad) (cond b (Err (record { prod = ring.prod; cons = ring.cons })) (Ok m)) → (is_bad ring ≡ true) × (bad ≡ record { prod = ring.prod; cons = ring.cons })) [
  | true ↦ λ b k. (b, from_err k)
  | false ↦ λ b k. cc
] refl e

module _ (old new : Kept) (d c max : ℕ) (guest : Guest) (inbox : List ℕ) (there : find nat_cmp d old.guests ≡ Some guest) (held_in : find nat_cmp c old.inboxes ≡ Some inbox) where
  guest_is : (w : World) (at : Served) → StandsFor old w → served w d ≡ Some at → guest ≡ at.guest
  guest_is w at stands h = from_Some (sym there ∙ (parts_of old w d at stands h).guest)

  inbox_is : (w : World) (at : Served) → StandsFor old w → served w d ≡ Some at → at.conn ≡ c → inbox ≡ at.channel.inbox
  inbox_is w at stands h conn = from_Some (sym held_in ∙ ap (λ k. find nat_cmp k old.inboxes) (sym conn) ∙ (parts_of old w d at stands h).inbox)

  pub took_in : (n : ℕ) (inbox_new : List ℕ) (guest_new : Guest) → Ok n ≡ unless_bad guest.page.request (intake inbox (take max (held guest.page.request))) → inbox_new ≡ inbox ++ take n (held guest.page.request) → guest_new ≡ with_page_of (with_request (take_some n guest.page.request)) guest → new.daemon ≡ old.daemon → new.inboxes ≡ put nat_cmp c inbox_new old.inboxes → new.guests ≡ put nat_cmp d guest_new old.guests → new.rings ≡ old.rings → Acts old d c (intake_ring d max) new (said.Took n)
  took_in n inbox_new guest_new count fed after same_daemon inboxes guests rings w at stands h conn =
      let parts = parts_of old w d at stands h in
      let g = guest_is w at stands h in
      let i = inbox_is w at stands h conn in
      let ring = good_ring guest.page.request n (intake inbox (take max (held guest.page.request))) count in
      let is : n ≡ intake at.channel.inbox (take max (held at.guest.page.request)) =
      ring.is ∙ ap (λ (x : Guest). intake inbox (take max (held x.page.request))) g ∙ ap (λ l. intake l (take max (held at.guest.page.request))) i in
      let page : Guest = with_page_of (with_request (take_some n at.guest.page.request)) at.guest in
      let guest_now : guest_new ≡ page = after ∙ ap (λ (x : Guest). with_page_of (with_request (take_some n x.page.request)) x) g in
      let inbox_now : inbox_new ≡ at.channel.inbox ++ take n (held at.guest.page.request) =
      fed ∙ ap (λ (x : Guest). inbox ++ take n (held x.page.request)) g ∙ ap (λ l. l ++ take n (held at.guest.page.request)) i in
      let mid : Kept = record { daemon = old.daemon; inboxes = old.inboxes; guests = new.guests; rings = old.rings; taken = old.taken } in
      let on_guest : StandsFor mid (with_guest d page w) = guest_changed old mid w d page stands refl refl (guests ∙ ap (λ x. put nat_cmp d x old.guests) guest_now) refl in
      let both : StandsFor new (with_channel at.conn (record { inbox = at.channel.inbox ++ take n (held at.guest.page.request); unsent = at.channel.unsent; rest = at.channel.rest }) (with_guest d page w)) =
      inbox_changed mid new (with_guest d page w) at.conn at.channel (at.channel.inbox ++ take n (held at.guest.page.request)) on_guest parts.channel same_daemon
      (inboxes ∙ ap (λ k. put nat_cmp k inbox_new old.inboxes) (sym conn) ∙ ap (λ l. put nat_cmp at.conn l old.inboxes) inbox_now) refl rings
      in
      subst (λ b. Follows new (said.Took n) (cond b (dropped_for_index d at.guest.page.request w at) (took d (intake at.channel.inbox (take max (held at.guest.page.request))) w at)))
      (sym (ap (λ (x : Guest). is_bad x.page.request) (sym g) ∙ ring.good))
      (subst (λ k. Follows new (said.Took n) (took d k w at)) is (record { says = refl; stands = both; taken = λ k e. cc }))

  pub dropped_in : (answer : Said) (bad : BadIndex) (m : ℕ) → Err bad ≡ unless_bad guest.page.request m → Acts old d c (dropped d 2 (said.DroppedIndex bad.prod bad.cons)) new answer → Acts old d c (intake_ring d max) new answer
  dropped_in answer bad m count acts w at stands h conn =
      let g = guest_is w at stands h in
      let ring = bad_ring guest.page.request bad m count in
      subst (λ b. Follows new answer (cond b (dropped_for_index d at.guest.page.request w at) (took d (intake at.channel.inbox (take max (held at.guest.page.request))) w at)))
      (sym (ap (λ (x : Guest). is_bad x.page.request) (sym g) ∙ ring.0))
      (subst (λ (b : BadIndex). Follows new answer (dropped d 2 (said.DroppedIndex b.prod b.cons) w at))
      (ring.1 ∙ ap (λ (x : Guest). record { prod = x.page.request.prod; cons = x.page.request.cons }) g) (acts w at stands h conn))
