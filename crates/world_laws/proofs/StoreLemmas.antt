-- A request that is done and a connection that is dropped are turns of the world.
use Rattle.std.specs.Prelude.{◌≡◌, ℕ, ◌==◌, Bool, true, false, cond, not, List, [], ◌++◌, length, take, drop, min, nat_le, Option, Some, None, is_some, option_map}
use Rattle.std.specs.Ordering.{nat_cmp}
use Rattle.std.specs.FinMap.{find, put}
use Rattle.std.specs.FinMap.Entries.{where_key}
use Rattle.std.proofs.Common.{sym, refl, ap, subst, ◌∙◌, inl, inr, eqb-true, append-nil, take-append-drop}
use Rattle.std.proofs.lemmas.Bool.{cases_Bool, false_from_ne_true}
use Rattle.xs_model.proofs.Maps.{not_both, from_Some}
use Rattle.machine_model.specs.Connections.{Connection, Connections}
use Rattle.machine_model.specs.Machine.{Item, Asked, Lost, Send as StoreSend, step_with}
use Rattle.machine_model.specs.History.{taken_from, sent_to, crowded}
use Rattle.machine_model.specs.declared.bounds.TheConstants.{HELD_LIMIT}
use Rattle.world_model.specs.declared.Said.{Said}
use Rattle.world_model.specs.declared.Said.TheVariants as said
use Rattle.world_model.specs.Rings.{is_bad, free, held, with_error}
use Rattle.world_model.specs.Fronts.{Front, Whole, TooLong, Part, front, intake}
use Rattle.world_model.specs.Worlds.{World, Guest, Channel, Event, Intake, Do, Out, Told, told, empty_channel, ring_domid, with_fresh_guests, without_channel, channel_or_empty, channel_after, channels_after, without_front, unsent_of, Served, dropped, dropped_for_index, took, intake_at, intake_event, done_unless, do_step, do_at, do_event, sent_some, out_event, event_with}
use Rattle.world_model.specs.Served.{PageLog, Account, IsFront, log_change}
use Rattle.world_laws.proofs.EntryLemmas.{value_of, not_none, none_of, mapped_is, mapped_some, mapped_none, found_same, found_other, found_mapped, lost_same, lost_other}
use Rattle.world_laws.proofs.ConnLemmas.{ends}
use Rattle.world_laws.proofs.StepLemmas.{step_moves}
use Rattle.world_laws.proofs.SoundLemmas.{Fits, Sound, After}
use Rattle.world_laws.proofs.GuestLemmas.{still_after}
use Rattle.world_laws.proofs.ServerLemmas.{IsServed, server_cases, took_after, sent_after}
use Rattle.world_laws.proofs.MadeLemmas.{made, made_among, fresh_among, fresh_elsewhere}
use Rattle.world_laws.proofs.TurnLemmas.{IsSamePage, IsNextChannel, IsEmptyChannel, IsTurn, turn_after}

-- A DROP
module _ (w : World) (fits : Fits w) (d : ℕ) (at : Served) (is : IsServed w d at) (error : ℕ) where
  abbrev left : Connections
  left = where_key nat_cmp (λ x. not (at.conn == x)) w.machine.conns

  abbrev dropped_guests : List (ℕ × Guest)
  dropped_guests = put nat_cmp d (record { page = with_error error at.guest.page; outbox = at.guest.outbox }) w.guests

  abbrev dropped_world : World
  dropped_world = record { machine = (step_with [] w.machine (Lost at.conn)).0; globals = w.globals; guests = dropped_guests; channels = without_channel at.conn w.channels }

  dropped_channels : (c : ℕ) → is_some (find nat_cmp c (without_channel at.conn w.channels)) ≡ is_some (find nat_cmp c left)
  dropped_channels c = elim (cases_Bool (at.conn == c)) [
    | inl t ↦ subst (λ k. is_some (find nat_cmp k (without_channel at.conn w.channels)) ≡ is_some (find nat_cmp k left)) (eqb-true at.conn c t)
        (ap is_some (lost_same at.conn w.channels) ∙ sym (ap is_some (lost_same at.conn w.machine.conns)))
    | inr f ↦ ap is_some (lost_other c at.conn w.channels f) ∙ fits.channels c ∙ sym (ap is_some (lost_other c at.conn w.machine.conns f))
  ]

  -- no connection is new
  none_new : {A : Type 0} (c : ℕ) (x : Option ℕ) → ends w.machine.conns c ≡ None → ends left c ≡ Some x → A
  none_new c x e f = elim (cases_Bool (at.conn == c)) [
    | inl t ↦ not_none f (ap (option_map (λ (conn : Connection). ring_domid conn.spec)) (subst (λ k. find nat_cmp k left ≡ None) (eqb-true at.conn c t) (lost_same at.conn w.machine.conns)))
    | inr apart ↦ not_none f (ap (option_map (λ (conn : Connection). ring_domid conn.spec)) (lost_other c at.conn w.machine.conns apart) ∙ e)
  ]

  dropped_same : (e : ℕ) (guest : Guest) → find nat_cmp e w.guests ≡ Some guest → IsSamePage dropped_guests e guest.page
  dropped_same e guest found = elim (cases_Bool (e == d)) [
    | inl t ↦
        let same : guest ≡ at.guest = from_Some (sym found ∙ ap (λ k. find nat_cmp k w.guests) (eqb-true e d t) ∙ is.guest) in
        record {
          guest = record { page = with_error error at.guest.page; outbox = at.guest.outbox };
          found = ap (λ k. find nat_cmp k dropped_guests) (eqb-true e d t) ∙ found_same d (record { page = with_error error at.guest.page; outbox = at.guest.outbox }) w.guests;
          request = ap (λ (g : Guest). g.page.request) same;
          reply = ap (λ (g : Guest). g.page.reply) same;
        }
    | inr apart ↦ record { guest = guest; found = found_other e d _ w.guests apart ∙ found; request = refl; reply = refl }
  ]

  dropped_next : (c : ℕ) (channel : Channel) → find nat_cmp c w.channels ≡ Some channel → is_some (find nat_cmp c left) ≡ true → IsNextChannel (Lost at.conn) [] (without_channel at.conn w.channels) c channel
  dropped_next c channel found there = elim (cases_Bool (at.conn == c)) [
    | inl t ↦ not_both there (ap is_some (subst (λ k. find nat_cmp k left ≡ None) (eqb-true at.conn c t) (lost_same at.conn w.machine.conns)))
    | inr apart ↦ record { channel = channel; found = lost_other c at.conn w.channels apart ∙ found; inbox = refl; unsent = sym (append-nil channel.unsent) }
  ]

  pub drop_turn : (types : List ℕ) → IsTurn w dropped_world (Lost at.conn) (step_with types w.machine (Lost at.conn)).1
  drop_turn types = record {
    moved = step_moves w.machine fits.ids types (Lost at.conn);
    channels = dropped_channels;
    taken = λ c channel found. record { rest = channel.inbox; joined = refl };
    same = λ e guest old found. dropped_same e guest found;
    fresh = λ e m. none_new m.conn (Some e) m.new m.ring;
    next = dropped_next;
    empty = λ c x n e. none_new c x n e;
  }

-- A REQUEST
module _ (types : List ℕ) (w : World) (fits : Fits w) (d n : ℕ) (at : Served) (is : IsServed w d at) where
  abbrev item : Item
  item = Asked at.conn (take n at.channel.inbox)

  abbrev after : Connections
  after = (step_with types w.machine item).0.conns

  abbrev sends : List StoreSend
  sends = (step_with types w.machine item).1

  abbrev rest : Channel
  rest = record { inbox = drop n at.channel.inbox; unsent = at.channel.unsent; rest = at.channel.rest }

  abbrev fronts : List (ℕ × Channel)
  fronts = put nat_cmp at.conn rest w.channels

  abbrev done_channels : List (ℕ × Channel)
  done_channels = channels_after (step_with types w.machine item) fronts

  abbrev done_guests : List (ℕ × Guest)
  done_guests = with_fresh_guests (made w.machine.conns after) w.guests

  abbrev done_world : World
  done_world = record { machine = (step_with types w.machine item).0; globals = w.globals; guests = done_guests; channels = done_channels }

  channel_at : (c : ℕ) → find nat_cmp c done_channels ≡ option_map (λ (conn : Connection). channel_after sends c (channel_or_empty (find nat_cmp c fronts))) (find nat_cmp c after)
  channel_at c = found_mapped (λ k (conn : Connection). channel_after sends k (channel_or_empty (find nat_cmp k fronts))) c after

  -- of a connection that is there, by what it had before
  channel_is : (c : ℕ) (o : Option Channel) → is_some (find nat_cmp c after) ≡ true → find nat_cmp c fronts ≡ o → find nat_cmp c done_channels ≡ Some (channel_after sends c (channel_or_empty o))
  channel_is c o there e =
      let x = value_of (find nat_cmp c after) there in
      channel_at c ∙ ap (option_map (λ (conn : Connection). channel_after sends c (channel_or_empty (find nat_cmp c fronts)))) x.1 ∙ ap (λ p. Some (channel_after sends c (channel_or_empty p))) e

  is_own : (c : ℕ) (channel : Channel) → (c == at.conn) ≡ true → find nat_cmp c w.channels ≡ Some channel → channel ≡ at.channel
  is_own c channel t found = from_Some (sym found ∙ ap (λ k. find nat_cmp k w.channels) (eqb-true c at.conn t) ∙ is.channel)

  own_taken : (c : ℕ) → (c == at.conn) ≡ true → taken_from c item ≡ take n at.channel.inbox
  own_taken c t = ap (λ b. cond b (take n at.channel.inbox) []) t

  other_taken : (c : ℕ) → (c == at.conn) ≡ false → taken_from c item ≡ []
  other_taken c f = ap (λ b. cond b (take n at.channel.inbox) []) f

  done_taken : (c : ℕ) (channel : Channel) → find nat_cmp c w.channels ≡ Some channel → IsFront (taken_from c item) channel.inbox
  done_taken c channel found = elim (cases_Bool (c == at.conn)) [
    | inl t ↦ record {
      rest = drop n at.channel.inbox;
      joined = ap (λ xs. xs ++ drop n at.channel.inbox) (own_taken c t) ∙ take-append-drop n at.channel.inbox ∙ ap (λ (x : Channel). x.inbox) (sym (is_own c channel t found));
    }
    | inr f ↦ record { rest = channel.inbox; joined = ap (λ xs. xs ++ channel.inbox) (other_taken c f) }
  ]

  done_next : (c : ℕ) (channel : Channel) → find nat_cmp c w.channels ≡ Some channel → is_some (find nat_cmp c after) ≡ true → IsNextChannel item sends done_channels c channel
  done_next c channel found there = elim (cases_Bool (c == at.conn)) [
    | inl t ↦
        let own = is_own c channel t found in
        record {
          channel = channel_after sends c rest;
          found = channel_is c (Some rest) there (ap (λ k. find nat_cmp k fronts) (eqb-true c at.conn t) ∙ found_same at.conn rest w.channels);
          inbox = ap (λ xs. xs ++ drop n at.channel.inbox) (own_taken c t) ∙ take-append-drop n at.channel.inbox ∙ ap (λ (x : Channel). x.inbox) (sym own);
          unsent = ap (λ (x : Channel). x.unsent ++ sent_to c sends) (sym own);
        }
    | inr f ↦ record {
      channel = channel_after sends c channel;
      found = channel_is c (Some channel) there (found_other c at.conn rest w.channels f ∙ found);
      inbox = ap (λ xs. xs ++ channel.inbox) (other_taken c f);
      unsent = refl;
    }
  ]

  done_empty : (c : ℕ) (x : Option ℕ) → ends w.machine.conns c ≡ None → ends after c ≡ Some x → IsEmptyChannel sends done_channels c
  done_empty c x e f =
      let conn = mapped_some (λ (conn : Connection). ring_domid conn.spec) (find nat_cmp c after) x f in
      let gone = mapped_none (λ (conn : Connection). ring_domid conn.spec) (find nat_cmp c w.machine.conns) e in
      let none : find nat_cmp c w.channels ≡ None = none_of (find nat_cmp c w.channels) (fits.channels c ∙ ap is_some gone) in
      let apart : (c == at.conn) ≡ false = false_from_ne_true (c == at.conn) (λ t. not_none is.channel (subst (λ k. find nat_cmp k w.channels ≡ None) (eqb-true c at.conn t) none)) in
      record {
        channel = channel_after sends c empty_channel;
        found = channel_is c None (ap is_some conn.1) (found_other c at.conn rest w.channels apart ∙ none);
        inbox = refl;
        unsent = refl;
      }

  pub done_turn : IsTurn w done_world item sends
  done_turn = record {
    moved = step_moves w.machine fits.ids types item;
    channels = λ c. ap is_some (channel_at c) ∙ mapped_is (λ (conn : Connection). channel_after sends c (channel_or_empty (find nat_cmp c fronts))) (find nat_cmp c after);
    taken = done_taken;
    same = λ e guest old found. record { guest = guest; found = fresh_elsewhere e (made w.machine.conns after) w.guests old ∙ found; request = refl; reply = refl };
    fresh = λ e m. fresh_among e (made w.machine.conns after) w.guests (made_among w.machine.conns after m.conn e m.new m.ring);
    next = done_next;
    empty = done_empty;
  }

-- THE SERVER'S EVENTS
module _ (types : List ℕ) (a : Account) (s : Sound a) where
  drop_after : (e : Event) → ((told : Told) (log : PageLog) → log_change e told log ≡ log) → (d : ℕ) (at : Served) → IsServed a.world d at → (error : ℕ) (say : Said) → After types a e (dropped d error say a.world at)
  drop_after e as_is d at is error say =
      turn_after types a s e say (Lost at.conn) (dropped_guests a.world s.fits d at is error) (without_channel at.conn a.world.channels) (as_is _)
      (drop_turn a.world s.fits d at is error types)

  intake_by : (d max : ℕ) (at : Served) → IsServed a.world d at → (f : Front) → After types a (Intake d max) (intake_at f d max a.world at)
  intake_by d max at is (Whole n) = still_after types a s (Intake d max) said.InFull (λ log. refl)
  intake_by d max at is (TooLong len) = still_after types a s (Intake d max) said.InFull (λ log. refl)
  intake_by d max at is Part =
      elim (is_bad at.guest.page.request) as (λ b. After types a (Intake d max) (cond b (dropped_for_index d at.guest.page.request a.world at) (took d (intake at.channel.inbox (take max (held at.guest.page.request))) a.world at))) [
        | true ↦ drop_after (Intake d max) (λ told log. refl) d at is 2 (said.DroppedIndex at.guest.page.request.prod at.guest.page.request.cons)
        | false ↦ took_after types a s d at is max
      ]

  do_step_by : (d n : ℕ) (at : Served) → IsServed a.world d at → (crowd : Option ℕ) →
      let item = Asked at.conn (take n at.channel.inbox) in
      let stepped = step_with types a.world.machine item in
      After types a (Do d) (done_unless crowd a.world item stepped (channels_after stepped (without_front n a.world at)))
  do_step_by d n at is (Some c) = still_after types a s (Do d) (said.Crowded c) (λ log. refl)
  do_step_by d n at is None =
      turn_after types a s (Do d) said.Done (Asked at.conn (take n at.channel.inbox)) (done_guests types a.world s.fits d n at is) (done_channels types a.world s.fits d n at is) (λ log. refl)
      (done_turn types a.world s.fits d n at is)

  do_by : (d : ℕ) (at : Served) → IsServed a.world d at → (f : Front) → After types a (Do d) (do_at f types d a.world at)
  do_by d at is Part = still_after types a s (Do d) said.Part (λ log. refl)
  do_by d at is (TooLong len) = drop_after (Do d) (λ told log. refl) d at is 3 (said.DroppedLength len)
  do_by d at is (Whole n) =
      let item = Asked at.conn (take n at.channel.inbox) in
      let stepped = step_with types a.world.machine item in
      elim (nat_le HELD_LIMIT (length at.channel.unsent)) as (λ b. After types a (Do d) (cond b (told a.world (said.Held (length at.channel.unsent))) (do_step types n a.world at item))) [
        | true ↦ still_after types a s (Do d) (said.Held (length at.channel.unsent)) (λ log. refl)
        | false ↦ do_step_by d n at is (crowded (unsent_of (channels_after stepped (without_front n a.world at))))
      ]

  out_by : (d max : ℕ) (at : Served) → IsServed a.world d at → (none bad full : Bool) →
      let ring = at.guest.page.reply in
      After types a (Out d max)
      (cond none (told a.world said.NoneQueued) (cond bad (dropped_for_index d ring a.world at)
      (cond full (told a.world said.NoSpace) (sent_some d (min max (min (length at.channel.unsent) (free ring))) a.world at))))
  out_by d max at is true bad full = still_after types a s (Out d max) said.NoneQueued (λ log. refl)
  out_by d max at is false true full = drop_after (Out d max) (λ told log. refl) d at is 2 (said.DroppedIndex at.guest.page.reply.prod at.guest.page.reply.cons)
  out_by d max at is false false true = still_after types a s (Out d max) said.NoSpace (λ log. refl)
  out_by d max at is false false false = sent_after types a s d at is max

  pub intake_done : (d max : ℕ) → After types a (Intake d max) (event_with types (Intake d max) a.world)
  intake_done d max =
      server_cases (After types a (Intake d max)) a.world d (intake_event d max) (still_after types a s (Intake d max) said.Gone (λ log. refl))
      (λ at is. intake_by d max at is (front at.channel.inbox))

  pub do_done : (d : ℕ) → After types a (Do d) (event_with types (Do d) a.world)
  do_done d =
      server_cases (After types a (Do d)) a.world d (do_event types d) (still_after types a s (Do d) said.Gone (λ log. refl))
      (λ at is. do_by d at is (front at.channel.inbox))

  pub out_done : (d max : ℕ) → After types a (Out d max) (event_with types (Out d max) a.world)
  out_done d max =
      server_cases (After types a (Out d max)) a.world d (out_event d max) (still_after types a s (Out d max) said.Gone (λ log. refl))
      (λ at is. out_by d max at is (length at.channel.unsent == 0) (is_bad at.guest.page.reply) (free at.guest.page.reply == 0))
