-- The account of events tells of their run.
use Rattle.std.specs.Prelude.{◌≡◌, ℕ, ◌==◌, Bool, true, false, cond, List, [], ◌∷◌, ◌++◌, length, take, min, nat_le, Option, Some, None, ◌⊎◌}
use Rattle.std.specs.Ordering.{nat_cmp}
use Rattle.std.specs.FinMap.{find}
use Rattle.std.proofs.Common.{sym, refl, ap, ◌∙◌, inl, inr}
use Rattle.machine_model.specs.Machine.{Item, Asked, Lost, step_with}
use Rattle.machine_model.specs.History.{Past, past_after, run_with, crowded}
use Rattle.machine_model.specs.declared.bounds.TheConstants.{HELD_LIMIT}
use Rattle.world_model.specs.declared.Said.TheVariants as said
use Rattle.world_model.specs.Rings.{is_bad, free, held, poked}
use Rattle.world_model.specs.Fronts.{Front, Whole, TooLong, Part, front, intake}
use Rattle.world_model.specs.Worlds.{World, Guest, Channel, Event, Send, Put, Intake, Do, Out, Take, Poke, ShowPage, Handover, Told, told, with_page, queued, put_at_most, got_at_most, page_words, for_guest, Served, served, for_served, dropped_for_index, took, intake_at, intake_event, channels_after, without_front, unsent_of, done_unless, do_step, do_at, do_event, sent_some, out_ring, out_event, event_with}
use Rattle.world_model.specs.Transcripts.{world_after_all, history_of}
use Rattle.world_model.specs.Served.{Account, past_with, account_after, account_of}

pub past_is_run : (types : List ℕ) (past : Past) (items : List Item) → past_with types past items ≡ run_with types past items
past_is_run types past [] = refl
past_is_run types past (item ∷ items) = past_is_run types (past_after past item (step_with types past.machine item)) items

run_joined : (types : List ℕ) (past : Past) (items more : List Item) → run_with types past (items ++ more) ≡ run_with types (run_with types past items) more
run_joined types past [] more = refl
run_joined types past (item ∷ items) more = run_joined types (past_after past item (step_with types past.machine item)) items more

pub world_of_run : (types : List ℕ) (account : Account) (events : List Event) → (account_of types account events).world ≡ world_after_all types account.world events
world_of_run types account [] = refl
world_of_run types account (e ∷ es) = world_of_run types (account_after types account e) es

pub past_of_run : (types : List ℕ) (account : Account) (events : List Event) → (account_of types account events).past ≡ run_with types account.past (history_of types account.world events)
past_of_run types account [] = refl
past_of_run types account (e ∷ es) =
    let items = (event_with types e account.world).items in
    past_of_run types (account_after types account e) es
    ∙ ap (λ past. run_with types past (history_of types (event_with types e account.world).world es)) (past_is_run types account.past items)
    ∙ sym (run_joined types account.past items (history_of types (event_with types e account.world).world es))

-- THE STORE'S PART OF AN EVENT: nothing, or one step
abbrev IsStoreStep : List ℕ → World → Told → Type 0
IsStoreStep types w told =
    ((told.items ≡ []) × (told.world.machine ≡ w.machine)) ⊎ ((item : Item) × (told.items ≡ item ∷ []) × (told.world.machine ≡ (step_with types w.machine item).0))

module _ (types : List ℕ) (w : World) where
  for_guest_step : (act : World → Guest → Told) → ((guest : Guest) → IsStoreStep types w (act w guest)) → (o : Option Guest) → IsStoreStep types w (for_guest act w o)
  for_guest_step act to None = inl (refl, refl)
  for_guest_step act to (Some guest) = to guest

  for_served_step : (act : World → Served → Told) → ((at : Served) → IsStoreStep types w (act w at)) → (o : Option Served) → IsStoreStep types w (for_served act w o)
  for_served_step act to None = inl (refl, refl)
  for_served_step act to (Some at) = to at

  if_step : (b : Bool) (x y : Told) → IsStoreStep types w x → IsStoreStep types w y → IsStoreStep types w (cond b x y)
  if_step true x y p q = p
  if_step false x y p q = q

  intake_step : (d max : ℕ) (at : Served) (f : Front) → IsStoreStep types w (intake_at f d max w at)
  intake_step d max at (Whole n) = inl (refl, refl)
  intake_step d max at (TooLong len) = inl (refl, refl)
  intake_step d max at Part =
      if_step (is_bad at.guest.page.request) (dropped_for_index d at.guest.page.request w at) (took d (intake at.channel.inbox (take max (held at.guest.page.request))) w at)
      (inr (Lost at.conn, refl, refl)) (inl (refl, refl))

  done_step : (item : Item) (channels : List (ℕ × Channel)) (crowd : Option ℕ) → IsStoreStep types w (done_unless crowd w item (step_with types w.machine item) channels)
  done_step item channels None = inr (item, refl, refl)
  done_step item channels (Some c) = inl (refl, refl)

  do_at_step : (d : ℕ) (at : Served) (f : Front) → IsStoreStep types w (do_at f types d w at)
  do_at_step d at Part = inl (refl, refl)
  do_at_step d at (TooLong len) = inr (Lost at.conn, refl, refl)
  do_at_step d at (Whole n) =
      let item = Asked at.conn (take n at.channel.inbox) in
      let channels = channels_after (step_with types w.machine item) (without_front n w at) in
      if_step (nat_le HELD_LIMIT (length at.channel.unsent)) (told w (said.Held (length at.channel.unsent))) (do_step types n w at item)
      (inl (refl, refl)) (done_step item channels (crowded (unsent_of channels)))

  out_step : (d max : ℕ) (at : Served) → IsStoreStep types w (out_event d max w at)
  out_step d max at =
      let ring = at.guest.page.reply in
      let sent = sent_some d (min max (min (length at.channel.unsent) (free ring))) w at in
      if_step (length at.channel.unsent == 0) (told w said.NoneQueued) (out_ring d max w at) (inl (refl, refl))
      (if_step (is_bad ring) (dropped_for_index d ring w at) (cond (free ring == 0) (told w said.NoSpace) sent) (inr (Lost at.conn, refl, refl))
      (if_step (free ring == 0) (told w said.NoSpace) sent (inl (refl, refl)) (inl (refl, refl))))

  event_step : (e : Event) → IsStoreStep types w (event_with types e w)
  event_step (Send d bytes) = for_guest_step (queued d bytes) (λ guest. inl (refl, refl)) (find nat_cmp d w.guests)
  event_step (Put d max) = for_guest_step (put_at_most d max) (λ guest. inl (refl, refl)) (find nat_cmp d w.guests)
  event_step (Intake d max) = for_served_step (intake_event d max) (λ at. intake_step d max at (front at.channel.inbox)) (served w d)
  event_step (Do d) = for_served_step (do_event types d) (λ at. do_at_step d at (front at.channel.inbox)) (served w d)
  event_step (Out d max) = for_served_step (out_event d max) (λ at. out_step d max at) (served w d)
  event_step (Take d max) = for_guest_step (got_at_most d max) (λ guest. inl (refl, refl)) (find nat_cmp d w.guests)
  event_step (Poke d which v) = for_guest_step (λ u guest. told (with_page d (poked which v guest.page) guest u) said.Poked) (λ guest. inl (refl, refl)) (find nat_cmp d w.guests)
  event_step (ShowPage d) = for_guest_step (λ v guest. told v (page_words guest.page)) (λ guest. inl (refl, refl)) (find nat_cmp d w.guests)
  event_step Handover = inl (refl, refl)

past_machine : (types : List ℕ) (w : World) (past : Past) (t : Told) → past.machine ≡ w.machine → IsStoreStep types w t → (past_with types past t.items).machine ≡ t.world.machine
past_machine types w past t same step = elim step [
  | inl h ↦ ap (λ items. (past_with types past items).machine) h.0 ∙ same ∙ sym h.1
  | inr h ↦ ap (λ items. (past_with types past items).machine) h.1 ∙ ap (λ m. (step_with types m h.0).0) same ∙ sym h.2
]

pub machine_of_run : (types : List ℕ) (account : Account) (events : List Event) → account.past.machine ≡ account.world.machine → (account_of types account events).past.machine ≡ (account_of types account events).world.machine
machine_of_run types account [] same = same
machine_of_run types account (e ∷ es) same =
    machine_of_run types (account_after types account e) es (past_machine types account.world account.past (event_with types e account.world) same (event_step types account.world e))
