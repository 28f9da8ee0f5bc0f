-- A guest's own events keep an account sound.
use Rattle.std.specs.Prelude.{◌≡◌, ℕ, ◌≤◌, ◌==◌, Bool, true, false, cond, ◌&&◌, List, [], ◌++◌, length, take, drop, min, Option, Some, None, is_some}
use Rattle.std.specs.Ordering.{nat_cmp}
use Rattle.std.specs.FinMap.{find, put}
use Rattle.std.proofs.Common.{sym, refl, ap, subst, ◌∙◌, inl, inr, arith, eqb-true, length-take}
use Rattle.std.proofs.lemmas.Bool.{cases_Bool, and_from, and_left, and_right, cond-true, cond-false}
use Rattle.xs_model.proofs.Maps.{not_both, from_Some}
use Rattle.machine_model.specs.History.{Life}
use Rattle.world_model.specs.declared.Said.{Said}
use Rattle.world_model.specs.declared.Said.TheVariants as said
use Rattle.world_model.specs.declared.Which.{Which}
use Rattle.world_model.specs.Rings.{Page, free, filled, held, put_all, take_some, with_request, with_reply, poked}
use Rattle.world_model.specs.Worlds.{World, Guest, Channel, Event, Send, Put, Take, Poke, ShowPage, Handover, told, with_guest, with_page, queued, put_at_most, got_at_most, page_words, for_guest, event_with}
use Rattle.world_model.specs.Served.{PageLog, Account, put_more, got_more, poked_now, on_page, log_change}
use Rattle.world_laws.proofs.EntryLemmas.{not_none, found_same, found_other}
use Rattle.world_laws.proofs.FlowLemmas.{Flows, Leaves, flows_put, flows_got, leaves_put, leaves_got}
use Rattle.world_laws.proofs.SoundLemmas.{IsLeft, IsLive, State, Fits, Sound, After, quiet}

-- a log with more put and got, or a poke
abbrev edited : (List ℕ → List ℕ) → (List ℕ → List ℕ) → (Bool → Bool) → PageLog → PageLog
edited put got poke log =
    record { domid = log.domid; life = log.life; put = put log.put; got = got log.got; is_poked = poke log.is_poked; is_there = log.is_there }

-- another page of a domain
fits_guest : (w : World) (d : ℕ) (new : Guest) → Fits w → Fits (with_guest d new w)
fits_guest w d new f = record {
  ids = f.ids;
  rings = f.rings;
  pages = λ c e h. elim (cases_Bool (e == d)) [
    | inl t ↦ subst (λ k. is_some (find nat_cmp k (put nat_cmp d new w.guests)) ≡ true) (sym (eqb-true e d t)) (ap is_some (found_same d new w.guests))
    | inr apart ↦ ap is_some (found_other e d new w.guests apart) ∙ f.pages c e h
  ];
  channels = f.channels;
}

-- what a change of a page and of its log keeps
record Keeps (old new : Page) (put got : List ℕ → List ℕ) (poke : Bool → Bool) : Type 0 where
  still : (b : Bool) → poke b ≡ false → b ≡ false
  flows : (b : Bool) → poke b ≡ false → (channel : Channel) (p g inputs outputs : List ℕ) → Flows old channel p g inputs outputs → Flows new channel (put p) (got g) inputs outputs
  leaves : (b : Bool) → poke b ≡ false → (p g inputs outputs : List ℕ) → Leaves old p g inputs outputs → Leaves new (put p) (got g) inputs outputs

module _ (w : World) (d : ℕ) (old new : Guest) (found : find nat_cmp d w.guests ≡ Some old) (put_to got_to : List ℕ → List ℕ) (poke : Bool → Bool) (keeps : Keeps old.page new.page put_to got_to poke) where
  abbrev w' : World
  w' = with_guest d new w

  -- a log of that page
  same_left : (log : PageLog) (life : Life) → log.domid ≡ d → IsLeft w log life → IsLeft w' (edited put_to got_to poke log) life
  same_left log life at l =
      let is_old : l.guest ≡ old = from_Some (sym l.found ∙ ap (λ k. find nat_cmp k w.guests) at ∙ found) in
      record {
        there = l.there;
        closed = l.closed;
        ringless = l.ringless;
        guest = new;
        found = ap (λ k. find nat_cmp k (put nat_cmp d new w.guests)) at ∙ found_same d new w.guests;
        leaves = λ u. keeps.leaves log.is_poked u log.put log.got life.inputs life.outputs (subst (λ (g : Guest). Leaves g.page log.put log.got life.inputs life.outputs) is_old (l.leaves (keeps.still log.is_poked u)));
      }

  same_live : (log : PageLog) (life : Life) → log.domid ≡ d → IsLive w log life → IsLive w' (edited put_to got_to poke log) life
  same_live log life at l =
      let is_old : l.guest ≡ old = from_Some (sym l.found ∙ ap (λ k. find nat_cmp k w.guests) at ∙ found) in
      record {
        there = l.there;
        opened = l.opened;
        ring = l.ring;
        guest = new;
        found = ap (λ k. find nat_cmp k (put nat_cmp d new w.guests)) at ∙ found_same d new w.guests;
        channel = l.channel;
        channel_found = l.channel_found;
        flows = λ u. keeps.flows log.is_poked u l.channel log.put log.got life.inputs life.outputs (subst (λ (g : Guest). Flows g.page l.channel log.put log.got life.inputs life.outputs) is_old (l.flows (keeps.still log.is_poked u)));
      }

  -- a log of another
  other_left : (log : PageLog) (life : Life) → (log.domid == d) ≡ false → IsLeft w log life → IsLeft w' log life
  other_left log life apart l = record {
    there = l.there;
    closed = l.closed;
    ringless = l.ringless;
    guest = l.guest;
    found = found_other log.domid d new w.guests apart ∙ l.found;
    leaves = l.leaves;
  }

  other_live : (log : PageLog) (life : Life) → (log.domid == d) ≡ false → IsLive w log life → IsLive w' log life
  other_live log life apart l = record {
    there = l.there;
    opened = l.opened;
    ring = l.ring;
    guest = l.guest;
    found = found_other log.domid d new w.guests apart ∙ l.found;
    channel = l.channel;
    channel_found = l.channel_found;
    flows = l.flows;
  }

  abbrev here : PageLog → PageLog
  here = on_page d (edited put_to got_to poke)

  is_same : (log : PageLog) → log.is_there ≡ true → (log.domid == d) ≡ true → here log ≡ edited put_to got_to poke log
  is_same log there t = cond-true (log.is_there && log.domid == d) (edited put_to got_to poke log) log (and_from log.is_there (log.domid == d) there t)

  is_other : (log : PageLog) → (log.is_there && log.domid == d) ≡ false → here log ≡ log
  is_other log e = cond-false (log.is_there && log.domid == d) (edited put_to got_to poke log) log e

  page_state : (log : PageLog) (life : Life) → State w log life → State w' (here log) life
  page_state log life s = elim s [
    | inl p ↦ subst (λ l. State w' l life) (sym (is_other log (and_left log.is_there (log.domid == d) p.gone))) (inl p)
    | inr q ↦ elim q [
      | inl l ↦ elim (cases_Bool (log.domid == d)) [
        | inl t ↦ subst (λ x. State w' x life) (sym (is_same log l.there t)) (inr (inl (same_left log life (eqb-true log.domid d t) l)))
        | inr f ↦ subst (λ x. State w' x life) (sym (is_other log (and_right log.is_there (log.domid == d) f))) (inr (inl (other_left log life f l)))
      ]
      | inr l ↦ elim (cases_Bool (log.domid == d)) [
        | inl t ↦ subst (λ x. State w' x life) (sym (is_same log l.there t)) (inr (inr (same_live log life (eqb-true log.domid d t) l)))
        | inr f ↦ subst (λ x. State w' x life) (sym (is_other log (and_right log.is_there (log.domid == d) f))) (inr (inr (other_live log life f l)))
      ]
    ]
  ]

-- a domain that has no page
module _ (w : World) (d : ℕ) (change : PageLog → PageLog) (none : find nat_cmp d w.guests ≡ None) where
  no_page : (log : PageLog) (guest : Guest) → find nat_cmp log.domid w.guests ≡ Some guest → (log.is_there && log.domid == d) ≡ false
  no_page log guest found = elim (cases_Bool (log.domid == d)) [
    | inl t ↦ not_none found (ap (λ k. find nat_cmp k w.guests) (eqb-true log.domid d t) ∙ none)
    | inr f ↦ and_right log.is_there (log.domid == d) f
  ]

  as_it_was : (log : PageLog) → (log.is_there && log.domid == d) ≡ false → on_page d change log ≡ log
  as_it_was log e = cond-false (log.is_there && log.domid == d) (change log) log e

  gone_state : (log : PageLog) (life : Life) → State w log life → State w (on_page d change log) life
  gone_state log life s = subst (λ x. State w x life) (sym (as_it_was log (elim s [
    | inl p ↦ and_left log.is_there (log.domid == d) p.gone
    | inr q ↦ elim q [ inl l ↦ no_page log l.guest l.found | inr l ↦ no_page log l.guest l.found ]
  ]))) s

-- THE EVENTS
module _ (types : List ℕ) (a : Account) (s : Sound a) where
  -- the world stays, and the logs change where the domain has no page: not at all
  gone_after : (e : Event) (d : ℕ) (change : PageLog → PageLog) → ((log : PageLog) → log_change e (told a.world said.Gone) log ≡ on_page d change log) → find nat_cmp d a.world.guests ≡ None → After types a e (told a.world said.Gone)
  gone_after e d change is none =
      quiet types a s e a.world.guests a.world.channels said.Gone [] [] s.fits
      (λ log life t. subst (λ x. State a.world x life) (sym (is log)) (gone_state a.world d change none log life t))

  -- the world stays, and so do the logs
  pub still_after : (e : Event) (say : Said) → ((log : PageLog) → log_change e (told a.world say) log ≡ log) → After types a e (told a.world say)
  still_after e say is = quiet types a s e a.world.guests a.world.channels say [] [] s.fits (λ log life t. subst (λ x. State a.world x life) (sym (is log)) t)

  send_after : (d : ℕ) (bytes : List ℕ) (found : Option Guest) → find nat_cmp d a.world.guests ≡ found → After types a (Send d bytes) (for_guest (queued d bytes) a.world found)
  send_after d bytes None e = still_after (Send d bytes) said.Gone (λ log. refl)
  send_after d bytes (Some guest) e =
      let new : Guest = record { page = guest.page; outbox = guest.outbox ++ bytes } in
      let keeps : Keeps guest.page guest.page (λ p. p) (λ g. g) (λ b. b) = record { still = λ b u. u; flows = λ b u channel p g i o f. f; leaves = λ b u p g i o l. l } in
      quiet types a s (Send d bytes) (put nat_cmp d new a.world.guests) a.world.channels (said.Queued (length bytes)) [] [] (fits_guest a.world d new s.fits)
      (λ log life t. subst (λ x. State (with_guest d new a.world) x life) (unchanged d log) (page_state a.world d guest new e (λ p. p) (λ g. g) (λ b. b) keeps log life t))
    where
      unchanged : (d : ℕ) (log : PageLog) → on_page d (edited (λ p. p) (λ g. g) (λ b. b)) log ≡ log
      unchanged d log = elim (log.is_there && log.domid == d) as (λ b. cond b log log ≡ log) [ true ↦ refl | false ↦ refl ]

  put_after : (d max : ℕ) (found : Option Guest) → find nat_cmp d a.world.guests ≡ found → After types a (Put d max) (for_guest (put_at_most d max) a.world found)
  put_after d max None e = gone_after (Put d max) d (put_more []) (λ log. refl) e
  put_after d max (Some guest) e =
      let n = min max (min (length guest.outbox) (free guest.page.request)) in
      let bytes = take n guest.outbox in
      let fits : length bytes ≤ free guest.page.request = omega (arith, length-take n guest.outbox) in
      let new : Guest = record { page = with_request (put_all bytes guest.page.request) guest.page; outbox = drop n guest.outbox } in
      let keeps : Keeps guest.page new.page (λ p. p ++ bytes) (λ g. g) (λ b. b) = record {
        still = λ b u. u;
        flows = λ b u channel p g i o f. flows_put guest.page channel p g i o f bytes fits;
        leaves = λ b u p g i o l. leaves_put guest.page p g i o l bytes fits;
      }
      in
      quiet types a s (Put d max) (put nat_cmp d new a.world.guests) a.world.channels (said.Put n) bytes [] (fits_guest a.world d new s.fits)
      (page_state a.world d guest new e (λ p. p ++ bytes) (λ g. g) (λ b. b) keeps)

  take_after : (d max : ℕ) (found : Option Guest) → find nat_cmp d a.world.guests ≡ found → After types a (Take d max) (for_guest (got_at_most d max) a.world found)
  take_after d max None e = gone_after (Take d max) d (got_more []) (λ log. refl) e
  take_after d max (Some guest) e =
      let n = min max (filled guest.page.reply) in
      let there : n ≤ filled guest.page.reply = omega arith in
      let bytes = take n (held guest.page.reply) in
      let new : Guest = record { page = with_reply (take_some n guest.page.reply) guest.page; outbox = guest.outbox } in
      let keeps : Keeps guest.page new.page (λ p. p) (λ g. g ++ bytes) (λ b. b) = record {
        still = λ b u. u;
        flows = λ b u channel p g i o f. flows_got guest.page channel p g i o f n there;
        leaves = λ b u p g i o l. leaves_got guest.page p g i o l n there;
      }
      in
      quiet types a s (Take d max) (put nat_cmp d new a.world.guests) a.world.channels (said.Got n) [] bytes (fits_guest a.world d new s.fits)
      (page_state a.world d guest new e (λ p. p) (λ g. g ++ bytes) (λ b. b) keeps)

  poke_after : (d : ℕ) (which : Which) (v : ℕ) (found : Option Guest) → find nat_cmp d a.world.guests ≡ found → After types a (Poke d which v) (for_guest (λ u guest. told (with_page d (poked which v guest.page) guest u) said.Poked) a.world found)
  poke_after d which v None e = gone_after (Poke d which v) d poked_now (λ log. refl) e
  poke_after d which v (Some guest) e =
      let new : Guest = record { page = poked which v guest.page; outbox = guest.outbox } in
      let keeps : Keeps guest.page new.page (λ p. p) (λ g. g) (λ b. true) = record {
        still = λ b u. not_both refl u;
        flows = λ b u channel p g i o f. not_both refl u;
        leaves = λ b u p g i o l. not_both refl u;
      }
      in
      quiet types a s (Poke d which v) (put nat_cmp d new a.world.guests) a.world.channels said.Poked [] [] (fits_guest a.world d new s.fits)
      (page_state a.world d guest new e (λ p. p) (λ g. g) (λ b. true) keeps)

  show_after : (d : ℕ) (found : Option Guest) → After types a (ShowPage d) (for_guest (λ v guest. told v (page_words guest.page)) a.world found)
  show_after d None = still_after (ShowPage d) said.Gone (λ log. refl)
  show_after d (Some guest) = still_after (ShowPage d) (page_words guest.page) (λ log. refl)

  pub guest_sent : (d : ℕ) (bytes : List ℕ) → After types a (Send d bytes) (event_with types (Send d bytes) a.world)
  guest_sent d bytes = send_after d bytes (find nat_cmp d a.world.guests) refl

  pub guest_put : (d max : ℕ) → After types a (Put d max) (event_with types (Put d max) a.world)
  guest_put d max = put_after d max (find nat_cmp d a.world.guests) refl

  pub guest_took : (d max : ℕ) → After types a (Take d max) (event_with types (Take d max) a.world)
  guest_took d max = take_after d max (find nat_cmp d a.world.guests) refl

  pub guest_poked : (d : ℕ) (which : Which) (v : ℕ) → After types a (Poke d which v) (event_with types (Poke d which v) a.world)
  guest_poked d which v = poke_after d which v (find nat_cmp d a.world.guests) refl

  pub page_shown : (d : ℕ) → After types a (ShowPage d) (event_with types (ShowPage d) a.world)
  page_shown d = show_after d (find nat_cmp d a.world.guests)

  pub handed_over : After types a Handover (event_with types Handover a.world)
  handed_over = still_after Handover said.Handed (λ log. refl)
