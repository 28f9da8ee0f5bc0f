-- What is left of a world when one of its parts changed, in the definitions and in what the code keeps.
use Rattle.std.proofs.Common.{◌≡◌, ℕ, ◌≤◌, ◌==◌, Bool, true, false, not, cond, List, [], ◌∷◌, map, drop, Some, None, is_some, refl, sym, ap, subst, ◌∙◌}
use Rattle.std.specs.declared.cmp.Ordering.TheVariants.{Less, Equal, Greater}
use Rattle.std.specs.Ordering.{nat_cmp}
use Rattle.std.specs.FinMap.{find, put, is_sorted, nat_cmp-IsAntisymmetric}
use Rattle.std.specs.FinMap.Entries.{where_key, by_order}
use Rattle.std.specs.List.{AllByRecursion, filter_map, cons_option}
use Rattle.std.specs.Option.{option_map}
use Rattle.std.proofs.lemmas.Cmp.{nat_cmp_total}
use Rattle.xs_model.proofs.Maps.{found_map, sorted_map, sorted_put, sorted_where, not_both}
use Rattle.machine_model.specs.declared.ConnSpec.TheVariants.{Ring}
use Rattle.machine_model.specs.Connections.{Connection, Connections, fresh}
use Rattle.machine_model.specs.History.{unsent_after}
use Rattle.machine_model.specs.Limits.{HasIds}
use Rattle.machine_model.specs.Machine.{Machine, Asked, Lost, Step, Send, step_with, step}
use Rattle.machine_model.proofs.Lists.{all_weaker}
use Rattle.conn_table.specs.Tables.{Specs, ring_id}
use Rattle.world_model.specs.Worlds.{World, Guest, Channel, Served, fresh_guest, ring_domid, with_guest, with_channel, without_channel, channel_or_empty, channel_after, channels_after, domid_if_new, with_fresh_guests, without_front, world_after, unsent_of}
use Rattle.world_laws.proofs.ConnLemmas.{ends, OneRingEach, ring_is}
use Rattle.world_laws.proofs.EntryLemmas.{each_is_found}
use Rattle.daemon.specs.declared.answer.Door.{Door}
use Rattle.daemon.specs.declared.answer.Door.TheVariants.{Same, Opened, Closed}
use Rattle.store_parts.specs.Kept.{Kept as KeptByDaemon}
use Rattle.daemon.specs.Keeps as daemon
use Rattle.daemon.specs.Acts.{rests_by}
use Rattle.daemon.specs.Peers.{IsSoundTable}
use Rattle.daemon.specs.Submits.{Takes, Drops}
use Rattle.conn_rows.proofs.IdEntries.{put_map, where_map, put_again, keys_map, same_there, same_rising}
use Rattle.world_core.specs.Stands.{Kept, StandsFor, inboxes_of, rests_of}
use Rattle.world_core.specs.Seats.{Follows}
use Rattle.world_core.proofs.ChannelLemmas.{ids, unsent_stepped, rests_stepped, inboxes_stepped, inboxes_made, inboxes_lost}
use Rattle.world_core.proofs.SpecLemmas.{specs_are, ring_as, ids_as, rising_as}
use Rattle.world_core.proofs.RingLemmas.{HasRings, one_ring, rings_left, new_ends, rings_more, ring_stays}

abbrev pub inbox : Channel → List ℕ
inbox channel = channel.inbox

abbrev pub unsent : Channel → List ℕ
unsent channel = channel.unsent

abbrev pub rest_in : Channel → ℕ
rest_in channel = channel.rest

-- the connections stay, and so do the rings
pub kept_rings : (old new : Kept) (w : World) → StandsFor old w → new.rings ≡ old.rings → HasRings new.rings w.machine.conns
kept_rings old new w stands same = subst (λ rings. HasRings rings w.machine.conns) (sym same) stands.rings

-- A GUEST
pub guest_changed : (old new : Kept) (w : World) (d : ℕ) (g : Guest) → StandsFor old w → new.daemon ≡ old.daemon → new.inboxes ≡ old.inboxes → new.guests ≡ put nat_cmp d g old.guests → new.rings ≡ old.rings → StandsFor new (with_guest d g w)
guest_changed old new w d g stands same_daemon same_inboxes guests same_rings = record {
  store = subst (λ k. daemon.StandsFor k w.machine) (sym same_daemon) stands.store;
  globals = stands.globals ∙ ap (λ (k : KeptByDaemon). k.globals) (sym same_daemon);
  guests = ap (put nat_cmp d g) stands.guests ∙ sym guests;
  inboxes = stands.inboxes ∙ sym same_inboxes;
  unsent = stands.unsent ∙ ap (λ (k : KeptByDaemon). k.unsent) (sym same_daemon);
  rests = stands.rests ∙ ap (λ (k : KeptByDaemon). k.rests) (sym same_daemon);
  order = stands.order;
  rings = kept_rings old new w stands same_rings;
}

-- A CHANNEL: one side changes, and the other stays
unsent_stays : (w : World) (c : ℕ) (channel : Channel) (i : List ℕ) → is_sorted nat_cmp w.channels ≡ true → find nat_cmp c w.channels ≡ Some channel → unsent_of (put nat_cmp c (record { inbox = i; unsent = channel.unsent; rest = channel.rest }) w.channels) ≡ unsent_of w.channels
unsent_stays w c channel i order there =
    put_map unsent c (record { inbox = i; unsent = channel.unsent; rest = channel.rest }) w.channels
    ∙ put_again c channel.unsent (unsent_of w.channels) (sorted_map nat_cmp unsent w.channels ∙ order) (found_map nat_cmp unsent c w.channels ∙ ap (option_map unsent) there)

rests_stay : (w : World) (c : ℕ) (channel : Channel) (i : List ℕ) → is_sorted nat_cmp w.channels ≡ true → find nat_cmp c w.channels ≡ Some channel → rests_of (put nat_cmp c (record { inbox = i; unsent = channel.unsent; rest = channel.rest }) w.channels) ≡ rests_of w.channels
rests_stay w c channel i order there =
    put_map rest_in c (record { inbox = i; unsent = channel.unsent; rest = channel.rest }) w.channels
    ∙ put_again c channel.rest (rests_of w.channels) (sorted_map nat_cmp rest_in w.channels ∙ order) (found_map nat_cmp rest_in c w.channels ∙ ap (option_map rest_in) there)

inboxes_stay : (w : World) (c : ℕ) (channel : Channel) (u : List ℕ) (rest : ℕ) → is_sorted nat_cmp w.channels ≡ true → find nat_cmp c w.channels ≡ Some channel → inboxes_of (put nat_cmp c (record { inbox = channel.inbox; unsent = u; rest = rest }) w.channels) ≡ inboxes_of w.channels
inboxes_stay w c channel u rest order there =
    put_map inbox c (record { inbox = channel.inbox; unsent = u; rest = rest }) w.channels
    ∙ put_again c channel.inbox (inboxes_of w.channels) (sorted_map nat_cmp inbox w.channels ∙ order) (found_map nat_cmp inbox c w.channels ∙ ap (option_map inbox) there)

pub inbox_changed : (old new : Kept) (w : World) (c : ℕ) (channel : Channel) (i : List ℕ) → StandsFor old w → find nat_cmp c w.channels ≡ Some channel → new.daemon ≡ old.daemon → new.inboxes ≡ put nat_cmp c i old.inboxes → new.guests ≡ old.guests → new.rings ≡ old.rings → StandsFor new (with_channel c (record { inbox = i; unsent = channel.unsent; rest = channel.rest }) w)
inbox_changed old new w c channel i stands there same_daemon inboxes same_guests same_rings = record {
  store = subst (λ k. daemon.StandsFor k w.machine) (sym same_daemon) stands.store;
  globals = stands.globals ∙ ap (λ (k : KeptByDaemon). k.globals) (sym same_daemon);
  guests = stands.guests ∙ sym same_guests;
  inboxes = put_map inbox c (record { inbox = i; unsent = channel.unsent; rest = channel.rest }) w.channels ∙ ap (put nat_cmp c i) stands.inboxes ∙ sym inboxes;
  unsent = unsent_stays w c channel i stands.order there ∙ stands.unsent ∙ ap (λ (k : KeptByDaemon). k.unsent) (sym same_daemon);
  rests = rests_stay w c channel i stands.order there ∙ stands.rests ∙ ap (λ (k : KeptByDaemon). k.rests) (sym same_daemon);
  order = sorted_put nat_cmp nat_cmp_total c (record { inbox = i; unsent = channel.unsent; rest = channel.rest }) w.channels stands.order;
  rings = kept_rings old new w stands same_rings;
}

pub unsent_changed : (old new : Kept) (w : World) (c : ℕ) (channel : Channel) (u : List ℕ) (rest : ℕ) → StandsFor old w → find nat_cmp c w.channels ≡ Some channel → ((m : Machine) → daemon.StandsFor old.daemon m → daemon.StandsFor new.daemon m) → new.daemon.unsent ≡ put nat_cmp c u old.daemon.unsent → new.daemon.rests ≡ put nat_cmp c rest old.daemon.rests → new.daemon.globals ≡ old.daemon.globals → new.inboxes ≡ old.inboxes → new.guests ≡ old.guests → new.rings ≡ old.rings → StandsFor new (with_channel c (record { inbox = channel.inbox; unsent = u; rest = rest }) w)
unsent_changed old new w c channel u rest stands there store bytes rests same_globals same_inboxes same_guests same_rings = record {
  store = store w.machine stands.store;
  globals = stands.globals ∙ sym same_globals;
  guests = stands.guests ∙ sym same_guests;
  inboxes = inboxes_stay w c channel u rest stands.order there ∙ stands.inboxes ∙ sym same_inboxes;
  unsent = put_map unsent c (record { inbox = channel.inbox; unsent = u; rest = rest }) w.channels ∙ ap (put nat_cmp c u) stands.unsent ∙ sym bytes;
  rests = put_map rest_in c (record { inbox = channel.inbox; unsent = u; rest = rest }) w.channels ∙ ap (put nat_cmp c rest) stands.rests ∙ sym rests;
  order = sorted_put nat_cmp nat_cmp_total c (record { inbox = channel.inbox; unsent = u; rest = rest }) w.channels stands.order;
  rings = kept_rings old new w stands same_rings;
}

-- THE CONNECTIONS of a store have the ids of the table, and of what is unsent
module _ (kept : KeptByDaemon) (m : Machine) (store : daemon.StandsFor kept m) where
  pub ids_of_table : ids m.conns ≡ ids kept.specs
  ids_of_table = ids_as kept m store

  pub ids_of_unsent : ids m.conns ≡ ids kept.unsent
  ids_of_unsent = ids_of_table ∙ sym store.ids

  pub in_order : is_sorted nat_cmp m.conns ≡ true
  in_order = rising_as kept m store ∙ store.table.rising

  pub rings_differ : OneRingEach m.conns
  rings_differ = one_ring kept.specs store.table.rings m.conns (specs_are kept m store)

  -- without one of them
  pub rings_but_one : (c : ℕ) (rings : List (ℕ × ℕ)) → HasRings rings m.conns → HasRings rings (where_key nat_cmp (λ k. not (c == k)) m.conns)
  rings_but_one c rings has = rings_left m.conns in_order rings_differ c rings has

-- A LOST CONNECTION
pub lost : (old new : Kept) (w : World) (c d : ℕ) (g : Guest) → StandsFor old w → Drops old.daemon c new.daemon → new.inboxes ≡ where_key nat_cmp (λ k. not (c == k)) old.inboxes → new.guests ≡ put nat_cmp d g old.guests → new.rings ≡ old.rings → StandsFor new (record { machine = (step_with [] w.machine (Lost c)).0; globals = w.globals; guests = put nat_cmp d g w.guests; channels = without_channel c w.channels })
lost old new w c d g stands drops inboxes guests same_rings = record {
  store = drops.stands w.machine stands.store;
  globals = stands.globals ∙ sym drops.globals;
  guests = ap (put nat_cmp d g) stands.guests ∙ sym guests;
  inboxes = where_map inbox (λ k. not (c == k)) w.channels ∙ ap (where_key nat_cmp (λ k. not (c == k))) stands.inboxes ∙ sym inboxes;
  unsent = where_map unsent (λ k. not (c == k)) w.channels ∙ ap (where_key nat_cmp (λ k. not (c == k))) stands.unsent ∙ sym drops.unsent;
  rests = where_map rest_in (λ k. not (c == k)) w.channels ∙ ap (where_key nat_cmp (λ k. not (c == k))) stands.rests ∙ sym drops.rests;
  order = sorted_where nat_cmp (λ k. not (c == k)) w.channels stands.order;
  rings = rings_but_one old.daemon w.machine stands.store c new.rings (kept_rings old new w stands same_rings);
}

-- THE PAGES of the domains that get a connection
none_is_new : (before : Connections) (es : Connections) → AllByRecursion (λ (e : ℕ × Connection). is_some (find nat_cmp e.0 before) ≡ true) es → filter_map (domid_if_new before) es ≡ []
none_is_new before [] h = refl
none_is_new before (e ∷ es) h =
    let later = none_is_new before es h.1 in
    rw (h.0) (rw (later) refl)

one_is_new : (before : Connections) (c d evtchn : ℕ) (es : Connections) → find nat_cmp c before ≡ None → AllByRecursion (λ (e : ℕ × Connection). is_some (find nat_cmp e.0 before) ≡ true) es
    → filter_map (domid_if_new before) (put nat_cmp c (fresh (Ring d None evtchn)) es) ≡ d ∷ []
one_is_new before c d evtchn [] free h = ap (λ o. cons_option (cond (is_some o) None (Some d)) []) free
one_is_new before c d evtchn (e ∷ es) free h =
    let conn = fresh (Ring d None evtchn) in
    let rest : filter_map (domid_if_new before) (put nat_cmp c conn es) ≡ d ∷ [] = one_is_new before c d evtchn es free h.1 in
    let all : filter_map (domid_if_new before) (e ∷ es) ≡ [] = none_is_new before (e ∷ es) h in
    elim (nat_cmp c e.0) as (λ o. nat_cmp c e.0 ≡ o → filter_map (domid_if_new before) (by_order o ((c, conn) ∷ e ∷ es) ((e.0, conn) ∷ es) (e ∷ put nat_cmp c conn es)) ≡ d ∷ []) [
      | Less ↦ λ o. ap (λ k. cons_option (cond (is_some k) None (Some d)) (filter_map (domid_if_new before) (e ∷ es))) free ∙ ap (λ ds. d ∷ ds) all
      | Equal ↦ λ o. not_both h.0 (ap (λ k. is_some (find nat_cmp k before)) (sym (nat_cmp-IsAntisymmetric c e.0 o)) ∙ ap is_some free)
      | Greater ↦ λ o. ap (λ b. cons_option (cond b None (ring_domid e.1.spec)) (filter_map (domid_if_new before) (put nat_cmp c conn es))) h.0 ∙ rest
    ] refl

where_found : (P : ℕ × Connection → Type 0) (t : ℕ → Bool) (es : Connections) → AllByRecursion P es → AllByRecursion P (where_key nat_cmp t es)
where_found P t [] h = tt
where_found P t (e ∷ es) h =
    elim (t e.0) as (λ b. AllByRecursion P (cond b (e ∷ where_key nat_cmp t es) (where_key nat_cmp t es))) [
      | true ↦ (h.0, where_found P t es h.1)
      | false ↦ where_found P t es h.1
    ]

found_by_ids : (before after : Connections) → ids after ≡ ids before → AllByRecursion (λ (e : ℕ × Connection). is_some (find nat_cmp e.0 before) ≡ true) after
found_by_ids before after same =
    all_weaker (λ (e : ℕ × Connection). is_some (find nat_cmp e.0 after) ≡ true) (λ (e : ℕ × Connection). is_some (find nat_cmp e.0 before) ≡ true)
    (λ e found. sym (same_there after before same e.0) ∙ found) after (each_is_found after)

-- each domain that has a new connection gets a fresh page
abbrev pub fresh_for : Connections → Connections → List (ℕ × Guest) → List (ℕ × Guest)
fresh_for before after guests = with_fresh_guests (filter_map (domid_if_new before) after) guests

module _ (before after : Connections) (guests : List (ℕ × Guest)) where
  pub no_fresh_guest : ids after ≡ ids before → fresh_for before after guests ≡ guests
  no_fresh_guest same = ap (λ ds. with_fresh_guests ds guests) (none_is_new before after (found_by_ids before after same))

  pub none_of_lost : (t : ℕ → Bool) → after ≡ where_key nat_cmp t before → fresh_for before after guests ≡ guests
  none_of_lost t lost =
      ap (λ ds. with_fresh_guests ds guests) (ap (filter_map (domid_if_new before)) lost ∙ none_is_new before (where_key nat_cmp t before) (where_found (λ (e : ℕ × Connection). is_some (find nat_cmp e.0 before) ≡ true) t before (each_is_found before)))

  pub one_fresh_guest : (c d evtchn : ℕ) → find nat_cmp c before ≡ None → after ≡ put nat_cmp c (fresh (Ring d None evtchn)) before → fresh_for before after guests ≡ put nat_cmp d (fresh_guest 0) guests
  one_fresh_guest c d evtchn free made =
      ap (λ ds. with_fresh_guests ds guests) (ap (filter_map (domid_if_new before)) made ∙ one_is_new before c d evtchn before free (each_is_found before))

-- A REQUEST THAT WAS TAKEN
ids_stepped : {A : Type 0} (sends : List Send) (channels : List (ℕ × Channel)) (ks : List (ℕ × A)) → ids (map (λ e. (e.0, channel_after sends e.0 (channel_or_empty (find nat_cmp e.0 channels)))) ks) ≡ ids ks
ids_stepped sends channels [] = refl
ids_stepped sends channels (k ∷ ks) = ap (λ l. k.0 ∷ l) (ids_stepped sends channels ks)

positive_ids : {X : Type 0} (es : List (ℕ × X)) → AllByRecursion (λ (e : ℕ × X). 1 ≤ e.0) es → AllByRecursion (λ k. 1 ≤ k) (ids es)
positive_ids [] h = tt
positive_ids (e ∷ es) h = (h.0, positive_ids es h.1)

ids_positive : {X : Type 0} (es : List (ℕ × X)) → AllByRecursion (λ k. 1 ≤ k) (ids es) → AllByRecursion (λ (e : ℕ × X). 1 ≤ e.0) es
ids_positive [] h = tt
ids_positive (e ∷ es) h = (h.0, ids_positive es h.1)

module _ (old new : Kept) (w : World) (at : Served) (n : ℕ) (message : List ℕ) (stands : StandsFor old w) (there : find nat_cmp at.conn w.channels ≡ Some at.channel) where
  abbrev pub stepped : Step
  stepped = step w.machine (Asked at.conn message)

  abbrev pub left : List (ℕ × Channel)
  left = without_front n w at

  abbrev before : Connections
  before = w.machine.conns

  abbrev after : Connections
  after = stepped.0.conns

  -- the inboxes without the message
  abbrev pub skipped : List (ℕ × List ℕ)
  skipped = put nat_cmp at.conn (drop n at.channel.inbox) old.inboxes

  unsent_left : unsent_of left ≡ old.daemon.unsent
  unsent_left = unsent_stays w at.conn at.channel (drop n at.channel.inbox) stands.order there ∙ stands.unsent

  rests_left : rests_of left ≡ old.daemon.rests
  rests_left = rests_stay w at.conn at.channel (drop n at.channel.inbox) stands.order there ∙ stands.rests

  inboxes_left : inboxes_of left ≡ skipped
  inboxes_left =
      put_map inbox at.conn (record { inbox = drop n at.channel.inbox; unsent = at.channel.unsent; rest = at.channel.rest }) w.channels
      ∙ ap (put nat_cmp at.conn (drop n at.channel.inbox)) stands.inboxes

  ids_left : ids before ≡ ids left
  ids_left =
      ids_of_unsent old.daemon w.machine stands.store ∙ sym (ap (λ (es : List (ℕ × List ℕ)). ids es) unsent_left) ∙ keys_map unsent left

  order_left : is_sorted nat_cmp left ≡ true
  order_left = sorted_put nat_cmp nat_cmp_total at.conn (record { inbox = drop n at.channel.inbox; unsent = at.channel.unsent; rest = at.channel.rest }) w.channels stands.order

  pub unsent_then : unsent_of (channels_after stepped left) ≡ unsent_after stepped old.daemon.unsent
  unsent_then = unsent_stepped stepped left ∙ ap (unsent_after stepped) unsent_left

  rests_then : (specs : Specs) → ids after ≡ ids specs → rests_of (channels_after stepped left) ≡ rests_by specs old.daemon.rests
  rests_then specs same =
      rests_stepped stepped left specs same ∙ ap (rests_by specs) rests_left

  -- what the code keeps of the world after the step
  abbrev pub Follow : Door → Type 0
  Follow door =
      Follows new.daemon door (record { inboxes = skipped; guests = old.guests; rings = old.rings }) (record { inboxes = new.inboxes; guests = new.guests; rings = new.rings })

  pub record Keeps : Type 0 where
    pub guests : fresh_for before after w.guests ≡ new.guests
    pub inboxes : inboxes_of (channels_after stepped left) ≡ new.inboxes
    pub rings : HasRings new.rings after

  -- no ring connection came or went
  keeps_same : Takes old.daemon w.machine at.conn message Same new.daemon → IsSoundTable new.daemon.specs → Follow Same → Keeps
  keeps_same takes sound follow =
      let ids_now : ids new.daemon.specs ≡ ids before = sym (ids_of_table new.daemon stepped.0 takes.stands) ∙ takes.door in
      let positive = ids_positive before (subst (AllByRecursion (λ k. 1 ≤ k)) ids_now (positive_ids new.daemon.specs sound.ids)) in
      let has : HasIds before = record { rising = in_order old.daemon w.machine stands.store; positive = positive } in
      let stays = ring_stays w.machine (Asked at.conn message) has (rings_differ old.daemon w.machine stands.store) takes.door in
      record {
        guests = no_fresh_guest before after w.guests takes.door ∙ stands.guests ∙ sym follow.guests;
        inboxes = inboxes_stepped stepped left (takes.door ∙ ids_left) order_left ∙ inboxes_left ∙ sym follow.inboxes;
        rings = subst (λ rings. HasRings rings after) (sym follow.rings) (λ d c h. stands.rings d c (stays d c h));
      }

  -- a domain has a ring connection
  keeps_opened : (d : ℕ) → Takes old.daemon w.machine at.conn message (Opened d) new.daemon → Follow (Opened d) → Keeps
  keeps_opened d takes follow =
      let opens = takes.door in
      let c = opens.conn in
      let conn = fresh (Ring d None opens.evtchn) in
      let there : ends after c ≡ Some (Some d) = subst (λ conns. ends conns c ≡ Some (Some d)) (sym opens.made) (new_ends before (in_order old.daemon w.machine stands.store) (rings_differ old.daemon w.machine stands.store) c d opens.evtchn opens.none) in
      let ring : ring_id d new.daemon.specs ≡ Some c =
      sym (ring_as new.daemon stepped.0 takes.stands d)
      ∙ ring_is after (in_order new.daemon stepped.0 takes.stands) (rings_differ new.daemon stepped.0 takes.stands) c d there in
      let seated = follow c ring in
      record {
        guests = one_fresh_guest before after w.guests c d opens.evtchn opens.free opens.made ∙ ap (put nat_cmp d (fresh_guest 0)) stands.guests ∙ sym seated.guests;
        inboxes = inboxes_made stepped left before c conn opens.made ids_left order_left opens.free ∙ ap (put nat_cmp c []) inboxes_left ∙ sym seated.inboxes;
        rings = subst (λ conns. HasRings new.rings conns) (sym opens.made)
            (subst (λ rings. HasRings rings (put nat_cmp c conn before)) (sym seated.rings)
            (rings_more before (in_order old.daemon w.machine stands.store) (rings_differ old.daemon w.machine stands.store) c d opens.evtchn opens.none old.rings stands.rings));
      }

  -- a domain's ring connection is gone
  keeps_closed : (d : ℕ) → Takes old.daemon w.machine at.conn message (Closed d) new.daemon → Follow (Closed d) → Keeps
  keeps_closed d takes follow =
      let closes = takes.door in
      let c = closes.conn in
      let gone = follow c (stands.rings d c closes.was) in
      record {
        guests = none_of_lost before after w.guests (λ k. not (c == k)) closes.removed ∙ stands.guests ∙ sym gone.guests;
        inboxes = inboxes_lost stepped left before (λ k. not (c == k)) closes.removed ids_left order_left ∙ ap (where_key nat_cmp (λ k. not (c == k))) inboxes_left ∙ sym gone.inboxes;
        rings = subst (HasRings new.rings) (sym closes.removed)
            (rings_but_one old.daemon w.machine stands.store c new.rings (kept_rings old new w stands gone.rings));
      }

  keeps : (door : Door) → Takes old.daemon w.machine at.conn message door new.daemon → IsSoundTable new.daemon.specs → Follow door → Keeps
  keeps Same takes sound follow = keeps_same takes sound follow
  keeps (Opened d) takes sound follow = keeps_opened d takes follow
  keeps (Closed d) takes sound follow = keeps_closed d takes follow

  pub taken_stands : (door : Door) → Takes old.daemon w.machine at.conn message door new.daemon → IsSoundTable new.daemon.specs → Follow door → StandsFor new (world_after w stepped (channels_after stepped left))
  taken_stands door takes sound follow =
      let kept = keeps door takes sound follow in
      record {
        store = takes.stands;
        globals = stands.globals ∙ sym takes.globals;
        guests = kept.guests;
        inboxes = kept.inboxes;
        unsent = unsent_then ∙ sym takes.unsent;
        rests = rests_then new.daemon.specs (ids_of_table new.daemon stepped.0 takes.stands) ∙ sym takes.rests;
        order = same_rising (channels_after stepped left) after (ids_stepped stepped.1 left after) ∙ in_order new.daemon stepped.0 takes.stands;
        rings = kept.rings;
      }
