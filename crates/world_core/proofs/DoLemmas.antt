-- Events of a connection: what is in front of its inbox decides, and the store answers.
use Rattle.std.proofs.Common.{◌≡◌, ℕ, ◌<◌, ◌≤◌, Bool, true, false, cond, List, length, take, drop, nat_le, Result, Ok, Err, is_err, OnErr, Some, None, inl, inr, refl, sym, ap, subst, ◌∙◌, arith}
use Rattle.std.proofs.lemmas.Bool.{false≢true}
use Rattle.std.proofs.lemmas.Bool.Decides.{nat_tests}
use Rattle.std.specs.Ordering.{nat_cmp}
use Rattle.std.specs.FinMap.{find, put}
use Rattle.xs_model.proofs.Maps.{from_Some, not_Some}
use Rattle.machine_model.specs.Machine.{Machine, Item, Asked, step}
use Rattle.xs_model.specs.Requests.{all_types}
use Rattle.machine_model.specs.History.{unsent_after, crowded}
use Rattle.world_model.specs.declared.Said.{Said}
use Rattle.world_model.specs.declared.Said.TheVariants as said
use Rattle.world_model.specs.Fronts.{Front, Whole, TooLong, Part, front, is_part}
use Rattle.world_model.specs.Worlds.{World, Served, Told, Event, told, served, server_event, event_with, intake_at, intake_event, intake_ring, do_at, do_event, do_message, do_step, done_unless, dropped, channels_after, unsent_of}
use Rattle.daemon.specs.declared.answer.Door.{Door}
use Rattle.store_parts.specs.Kept.{Kept as KeptByDaemon}
use Rattle.daemon.specs.Keeps as daemon
use Rattle.daemon.specs.Peers.{IsSoundTable}
use Rattle.daemon.specs.Submits.{Takes, IsHeld, IsCrowded}
use Rattle.world_core.specs.Stands.{Kept, StandsFor, Follows, TakesMemory, Acts, ActsOrNone, Steps}
use Rattle.world_core.specs.Parts.{IsServed}
use Rattle.world_core.specs.declared.seats.Seats.{Seats}
use Rattle.world_core.specs.Seats.{Tables, tables_of, IsSame, Follows as SeatsFollow}
use Rattle.world_core.proofs.StandLemmas.{stepped, left, unsent_then, Follow, taken_stands}
use Rattle.world_core.proofs.ServedLemmas.{Parts, parts_of}
use Rattle.world_core.proofs.EventLemmas.{unchanged, connection_acts}

-- WHAT IS IN FRONT of the inbox of who is served
abbrev pub Fronts : Kept → ℕ → Front → Type 0
Fronts old c f = (bytes : List ℕ) → find nat_cmp c old.inboxes ≡ Some bytes → f ≡ front bytes

in_front : (old : Kept) (w : World) (d c : ℕ) (at : Served) (f : Front) → Fronts old c f → StandsFor old w → served w d ≡ Some at → at.conn ≡ c → f ≡ front at.channel.inbox
in_front old w d c at f fronts stands h conn =
    fronts at.channel.inbox (subst (λ k. find nat_cmp k old.inboxes ≡ Some at.channel.inbox) conn (parts_of old w d at stands h).inbox)

full : (old : Kept) (w : World) (d max : ℕ) (at : Served) (f : Front) → StandsFor old w → is_part f ≡ false → Follows old said.InFull (intake_at f d max w at)
full old w d max at (Whole n) stands h = unchanged old w said.InFull stands (λ n e. cc)
full old w d max at (TooLong len) stands h = unchanged old w said.InFull stands (λ n e. cc)
full old w d max at Part stands h = cc

pub acts_full : (old : Kept) (d c max : ℕ) (f : Front) → Fronts old c f → is_part f ≡ false → Acts old d c (intake_event d max) old said.InFull
acts_full old d c max f fronts no_part w at stands h conn =
    subst (λ g. Follows old said.InFull (intake_at g d max w at)) (in_front old w d c at f fronts stands h conn) (full old w d max at f stands no_part)

pub acts_intake : (old new : Kept) (answer : Said) (d c max : ℕ) → Fronts old c Part → Acts old d c (intake_ring d max) new answer → Acts old d c (intake_event d max) new answer
acts_intake old new answer d c max fronts acts w at stands h conn =
    subst (λ g. Follows new answer (intake_at g d max w at)) (in_front old w d c at Part fronts stands h conn) (acts w at stands h conn)

-- DO
module _ (old : Kept) (d c : ℕ) where
  pub acts_part : Fronts old c Part → Acts old d c (do_event all_types d) old said.Part
  acts_part fronts w at stands h conn =
      subst (λ g. Follows old said.Part (do_at g all_types d w at)) (in_front old w d c at Part fronts stands h conn)
      (unchanged old w said.Part stands (λ n e. cc))

  pub acts_too_long : (new : Kept) (answer : Said) (len : ℕ) → Fronts old c (TooLong len) → Acts old d c (dropped d 3 (said.DroppedLength len)) new answer → Acts old d c (do_event all_types d) new answer
  acts_too_long new answer len fronts acts w at stands h conn =
      subst (λ g. Follows new answer (do_at g all_types d w at)) (in_front old w d c at (TooLong len) fronts stands h conn) (acts w at stands h conn)

  pub acts_whole : (new : Kept) (answer : Said) (n : ℕ) → Fronts old c (Whole n) → ActsOrNone old d c (do_message all_types n) new answer → ActsOrNone old d c (do_event all_types d) new answer
  acts_whole new answer n fronts (inl none) = inl none
  acts_whole new answer n fronts (inr acts) =
      inr (λ w at stands h conn. subst (λ g. Follows new answer (do_at g all_types d w at)) (in_front old w d c at (Whole n) fronts stands h conn) (acts w at stands h conn))

-- a step, from what is done to who is served; memory may be wanting
pub steps_or_none : (old new : Kept) (e : Event) (answer : Said) (d c : ℕ) (act : World → Served → Told) → TakesMemory e → ((w : World) → event_with all_types e w ≡ server_event d act w) → IsServed old d (Some c) → ActsOrNone old d c act new answer → Steps old e new answer
steps_or_none old new e answer d c act takes is is_served (inl none) = inl (record { none = none.0; takes = takes; same = none.1 })
steps_or_none old new e answer d c act takes is is_served (inr acts) =
    inr (λ w stands. subst (λ t. Follows new answer t) (sym (is w)) (connection_acts old d act new answer c is_served acts w stands))

-- THE STORE'S ANSWERS
not_held : (unsent : List ℕ) → length unsent < 32768 → nat_le 32768 (length unsent) ≡ false
not_held unsent few = grind (arith, nat_tests)

is_held : (n : ℕ) → 32768 ≤ n → nat_le 32768 n ≡ true
is_held n many = grind (arith, nat_tests)

module _ (old new : Kept) (w : World) (d : ℕ) (at : Served) (n : ℕ) (stands : StandsFor old w) (h : served w d ≡ Some at) where
  pub parts : Parts old w d at
  parts = parts_of old w d at stands h

  item : Item
  item = Asked at.conn (take n at.channel.inbox)

  unsent_is : (bytes : List ℕ) → find nat_cmp at.conn old.daemon.unsent ≡ Some bytes → bytes ≡ at.channel.unsent
  unsent_is bytes there = from_Some (sym there ∙ parts.unsent)

  crowd_is : crowded (unsent_of (channels_after (stepped old new w at n (take n at.channel.inbox) stands parts.channel) (left old new w at n (take n at.channel.inbox) stands parts.channel))) ≡ crowded (unsent_after (step w.machine (Asked at.conn (take n at.channel.inbox))) old.daemon.unsent)
  crowd_is = ap crowded (unsent_then old new w at n (take n at.channel.inbox) stands parts.channel)

  pub done : (door : Door) → Takes old.daemon w.machine at.conn (take n at.channel.inbox) door new.daemon → IsSoundTable new.daemon.specs → Follow old new w at n (take n at.channel.inbox) stands parts.channel door → Follows new said.Done (do_message all_types n w at)
  done door takes sound follow =
      let few = subst (λ u. length u < 32768) (unsent_is takes.bytes takes.there) takes.few in
      subst (λ b. Follows new said.Done (cond b (told w (said.Held (length at.channel.unsent))) (do_step all_types n w at (Asked at.conn (take n at.channel.inbox)))))
      (sym (not_held at.channel.unsent few))
      (subst (λ o. Follows new said.Done (done_unless o w (Asked at.conn (take n at.channel.inbox)) (step w.machine (Asked at.conn (take n at.channel.inbox))) (channels_after (step w.machine (Asked at.conn (take n at.channel.inbox))) (left old new w at n (take n at.channel.inbox) stands parts.channel))))
      (sym (crowd_is ∙ takes.uncrowded))
      (record {
        says = refl;
        stands = taken_stands old new w at n (take n at.channel.inbox) stands parts.channel door takes sound follow;
        taken = λ k e. cc;
      }))

  pub held : (u : ℕ) → IsHeld old.daemon at.conn u new.daemon → new ≡ old → Follows new (said.Held u) (do_message all_types n w at)
  held u holds same =
      let number : u ≡ length at.channel.unsent = holds.number ∙ ap (λ (l : List ℕ). length l) (unsent_is holds.bytes holds.there) in
      subst (λ b. Follows new (said.Held u) (cond b (told w (said.Held (length at.channel.unsent))) (do_step all_types n w at (Asked at.conn (take n at.channel.inbox)))))
      (sym (is_held (length at.channel.unsent) (subst (λ k. 32768 ≤ k) number holds.many)))
      (subst (λ k. Follows k (said.Held u) (told w (said.Held (length at.channel.unsent)))) (sym same)
      (subst (λ k. Follows old (said.Held k) (told w (said.Held (length at.channel.unsent)))) (sym number) (unchanged old w (said.Held (length at.channel.unsent)) stands (λ k e. cc))))

  pub crowds : (conn : ℕ) → IsCrowded old.daemon w.machine at.conn (take n at.channel.inbox) conn new.daemon → new ≡ old → Follows new (said.Crowded conn) (do_message all_types n w at)
  crowds conn is same =
      let few = subst (λ u. length u < 32768) (unsent_is is.bytes is.there) is.few in
      subst (λ b. Follows new (said.Crowded conn) (cond b (told w (said.Held (length at.channel.unsent))) (do_step all_types n w at (Asked at.conn (take n at.channel.inbox)))))
      (sym (not_held at.channel.unsent few))
      (subst (λ o. Follows new (said.Crowded conn) (done_unless o w (Asked at.conn (take n at.channel.inbox)) (step w.machine (Asked at.conn (take n at.channel.inbox))) (channels_after (step w.machine (Asked at.conn (take n at.channel.inbox))) (left old new w at n (take n at.channel.inbox) stands parts.channel))))
      (sym (crowd_is ∙ is.crowds))
      (subst (λ k. Follows k (said.Crowded conn) (told w (said.Crowded conn))) (sym same) (unchanged old w (said.Crowded conn) stands (λ k e. cc))))

  pub not_gone : {A : Type 0} → find nat_cmp at.conn old.daemon.unsent ≡ None → A
  not_gone none = not_Some (sym none ∙ parts.unsent)

-- BY WHAT THE CODE HOLDS
pub same_kept : (old new : Kept) → new.daemon ≡ old.daemon → new.inboxes ≡ old.inboxes → new.guests ≡ old.guests → new.rings ≡ old.rings → new.taken ≡ old.taken → new ≡ old
same_kept old new a b c d e = λ i. record { daemon = a i; inboxes = b i; guests = c i; rings = d i; taken = e i }

-- other seats with the same tables
abbrev pub kept_with : KeptByDaemon → Seats → List ℕ → Kept
kept_with store seats taken =
    record { daemon = store; inboxes = seats.ins.entries; guests = seats.guests.entries; rings = seats.rings.entries; taken = taken }

pub same_seats : (store : KeptByDaemon) (old new : Seats) (taken : List ℕ) → IsSame (tables_of old) (tables_of new) → kept_with store new taken ≡ kept_with store old taken
same_seats store old new taken same = same_kept (kept_with store old taken) (kept_with store new taken) refl same.inboxes same.guests same.rings refl

same_tables : (a b : Tables) → a.inboxes ≡ b.inboxes → a.guests ≡ b.guests → a.rings ≡ b.rings → a ≡ b
same_tables a b p q r = λ i. record { inboxes = p i; guests = q i; rings = r i }

module _ (old new : Kept) (d c : ℕ) where
  pub acts_without_inbox : (act : World → Served → Told) (answer : Said) → find nat_cmp c old.inboxes ≡ None → Acts old d c act new answer
  acts_without_inbox act answer none w at stands h conn =
      not_Some (sym none ∙ ap (λ k. find nat_cmp k old.inboxes) (sym conn) ∙ (parts_of old w d at stands h).inbox)

  pub acts_without_guest : (act : World → Served → Told) (answer : Said) → find nat_cmp d old.guests ≡ None → Acts old d c act new answer
  acts_without_guest act answer none w at stands h conn = not_Some (sym none ∙ (parts_of old w d at stands h).guest)

  module _ (n : ℕ) (inbox message : List ℕ) (there : find nat_cmp c old.inboxes ≡ Some inbox) (first : message ≡ take n inbox) where
    inbox_is : (w : World) (at : Served) → StandsFor old w → served w d ≡ Some at → at.conn ≡ c → inbox ≡ at.channel.inbox
    inbox_is w at stands h conn =
        from_Some (sym there ∙ ap (λ k. find nat_cmp k old.inboxes) (sym conn) ∙ (parts_of old w d at stands h).inbox)

    pub acts_done : (door : Door) → ((m : Machine) → daemon.StandsFor old.daemon m → Takes old.daemon m c message door new.daemon) → IsSoundTable new.daemon.specs
        → (mid : Tables) → ((bytes : List ℕ) → find nat_cmp c old.inboxes ≡ Some bytes → mid.inboxes ≡ put nat_cmp c (drop n bytes) old.inboxes) → mid.guests ≡ old.guests → mid.rings ≡ old.rings
        → SeatsFollow new.daemon door mid (record { inboxes = new.inboxes; guests = new.guests; rings = new.rings }) → Acts old d c (do_message all_types n) new said.Done
    acts_done door takes sound mid inboxes same_guests same_rings follow w at stands h conn =
        let same = inbox_is w at stands h conn in
        let took : Takes old.daemon w.machine at.conn (take n at.channel.inbox) door new.daemon =
        subst (λ k. Takes old.daemon w.machine k (take n at.channel.inbox) door new.daemon) (sym conn)
        (subst (λ m. Takes old.daemon w.machine c m door new.daemon) (first ∙ ap (take n) same) (takes w.machine stands.store)) in
        let skipped : mid.inboxes ≡ put nat_cmp at.conn (drop n at.channel.inbox) old.inboxes =
        inboxes inbox there ∙ ap (λ k. put nat_cmp k (drop n inbox) old.inboxes) (sym conn) ∙ ap (λ i. put nat_cmp at.conn (drop n i) old.inboxes) same in
        done old new w d at n stands h door took sound
        (subst (λ tables. SeatsFollow new.daemon door tables (record { inboxes = new.inboxes; guests = new.guests; rings = new.rings }))
        (same_tables mid (record { inboxes = put nat_cmp at.conn (drop n at.channel.inbox) old.inboxes; guests = old.guests; rings = old.rings }) skipped same_guests same_rings) follow)

    pub acts_held : (after : KeptByDaemon) (u : ℕ) → IsHeld old.daemon c u after → new ≡ old → Acts old d c (do_message all_types n) new (said.Held u)
    acts_held after u holds same w at stands h conn =
        held old new w d at n stands h u
        (subst (λ k. IsHeld old.daemon k u new.daemon) (sym conn)
        (record { bytes = holds.bytes; there = holds.there; number = holds.number; many = holds.many; same = ap (λ (k : Kept). k.daemon) same })) same

    pub acts_crowded : (after : KeptByDaemon) (e : ℕ) → ((m : Machine) → daemon.StandsFor old.daemon m → IsCrowded old.daemon m c message e after) → new ≡ old → Acts old d c (do_message all_types n) new (said.Crowded e)
    acts_crowded after e is same w at stands h conn =
        let found = is w.machine stands.store in
        crowds old new w d at n stands h e
        (subst (λ k. IsCrowded old.daemon w.machine k (take n at.channel.inbox) e new.daemon) (sym conn)
        (subst (λ m. IsCrowded old.daemon w.machine c m e new.daemon) (first ∙ ap (take n) (inbox_is w at stands h conn))
        (record { bytes = found.bytes; there = found.there; few = found.few; crowds = found.crowds; same = ap (λ (k : Kept). k.daemon) same }))) same

    pub acts_gone : (answer : Said) → find nat_cmp c old.daemon.unsent ≡ None → Acts old d c (do_message all_types n) new answer
    acts_gone answer none w at stands h conn =
        not_Some (sym none ∙ ap (λ k. find nat_cmp k old.daemon.unsent) (sym conn) ∙ (parts_of old w d at stands h).unsent)

-- what a refused call says
pub of_is_err : {T E : Type 0} (r : Result T E) (b : Bool) (P : Type 0) → b ≡ is_err r → b ≡ true → OnErr r P → P
of_is_err (Ok x) b P is err says = absurd (false≢true (sym is ∙ err))
of_is_err (Err e) b P is err says = says
