-- What a request on domains does.
use Rattle.std.proofs.Common.{◌≡◌, ◌≢◌, ℕ, ◌<◌, ◌≤◌, ◌==◌, Bool, true, false, cond, not, List, [], map, flat_map, Option, Some, None, is_some, Ok, refl, sym, ap, subst, ◌∙◌, arith, eqb-true, eq-eqb, ne_eqb}
use Rattle.std.specs.Option.{option_map}
use Rattle.std.specs.Ordering.{nat_cmp}
use Rattle.std.specs.Cmp.{nat_cmp_total}
use Rattle.std.specs.FinMap.{find, put, is_sorted}
use Rattle.std.specs.FinMap.Entries.{where_key}
use Rattle.xs_model.specs.declared.message.WireErr.TheVariants.{Eacces, Enoent}
use Rattle.xs_model.specs.Trees.{Tree}
use Rattle.xs_model.specs.Generations.{Generations}
use Rattle.xs_model.specs.Messages.{Message, message_bytes, ok_payload}
use Rattle.xs_model.specs.Perms.{Caller}
use Rattle.xs_model.specs.Requests.{introduce_domain, release_domain}
use Rattle.xs_model.specs.Watches.{Watch, special_owed}
use Rattle.xs_model.proofs.Maps.{from_Some, not_Some, sorted_put, sorted_where}
use Rattle.machine_model.specs.declared.ConnSpec.{ConnSpec}
use Rattle.machine_model.specs.declared.ConnSpec.TheVariants.{Ring, Socket}
use Rattle.machine_model.specs.Limits.{IsLeastFree}
use Rattle.machine_model.specs.Connections.{Connection, Connections, fresh, caller_of, ring_of, has_ring, with_evtchn, with_target, least_free}
use Rattle.machine_model.specs.History.{Unsent, unsent_to, sent_to}
use Rattle.machine_model.specs.Machine.{Machine, Done, refused, granted, set_spec, set_spec_of, special_sends, if_control, introduce, release, set_target}
use Rattle.machine_model.proofs.LimitLemmas.{least_free-is}
use Rattle.mark_model.specs.Stores.{opens_by}
use Rattle.conn_table.specs.Tables.{Specs, ring_id, is_found_ring, is_ring_at}
use Rattle.watch_table.specs.Tables.{Made, watches_in}
use Rattle.watchers.specs.Watched.{Watched, or_none, made_by, watches_of, watching, conns_of}
use Rattle.watchers.specs.Owing.{if_found, special_bytes}
use Rattle.watchers.proofs.SentLemmas.{special_sent}
use Rattle.out_queues.specs.Queues.{Queue}
use Rattle.daemon.specs.declared.answer.Door.TheVariants.{Same, Opened, Closed}
use Rattle.daemon.specs.declared.reply.Answer.{Answer}
use Rattle.daemon.specs.Keeps.{machine_of}
use Rattle.conn_rows.specs.Rows.{opens_in, opens_of}
use Rattle.conn_rows.specs.Queued.{unsent_of, rests_of}
use Rattle.conn_rows.specs.Sending.{count_by, HasRoomFor, crowding}
use Rattle.daemon.specs.Peers.{Connected, IsSound, MayAsk, conns_in, conn_in, message_limit}
use Rattle.daemon.specs.Acts.{unsent_by, rests_by, reply_length, Opens, Closes, IsDoor, DidBeside, IsCrowdingBeside, IsSameKept}
use Rattle.conn_rows.proofs.IdEntries.{found_at, none_there, same_there, where_map}
use Rattle.daemon.proofs.KeepsLemmas.{conn_at, found_where, conns_keys, conns_found, conns_put, conns_without, conns_ring, conns_free}
use Rattle.daemon.proofs.OwnLemmas.{none_watched}
use Rattle.daemon.proofs.PeerLemmas.{ids_unsent, short_unsent}
use Rattle.daemon.proofs.SendLemmas.{crowding_more, crowding_less, nothing_for}
use Rattle.daemon.proofs.ActLemmas.{did}
use Rattle.daemon.proofs.ValueLemmas.{same_ids}
use Rattle.daemon.proofs.UnsentLemmas.{opens_put_more, unsent_same, unsent_more, unsent_less, rests_same, rests_more, rests_less, opens_same, opens_less}

-- WHO ASKS
pub guest_asks : (conn : Connection) (m : Machine) (done : Done) (domid : ℕ) → domid ≡ (caller_of conn.spec).domid → domid ≢ 0 → if_control conn m done ≡ refused Eacces m
guest_asks conn m done domid is guest =
    ap (λ (b : Bool). cond b done (refused Eacces m)) (ap (λ d. d == 0) (sym is) ∙ ne_eqb domid 0 guest)

pub control_asks : (conn : Connection) (m : Machine) (done : Done) (domid : ℕ) → domid ≡ (caller_of conn.spec).domid → domid ≡ 0 → if_control conn m done ≡ done
control_asks conn m done domid is control =
    ap (λ (b : Bool). cond b done (refused Eacces m)) (ap (λ d. d == 0) (sym is) ∙ eq-eqb domid 0 control)

-- THE RING of a domain
pub record HasRing (d id : ℕ) (specs : Specs) : Type 0 where
  pub target : Option ℕ
  pub evtchn : ℕ
  pub there : find nat_cmp id specs ≡ Some (Ring d target evtchn)

ring_there : (d id : ℕ) (specs : Specs) → is_ring_at d id specs ≡ true → HasRing d id specs
ring_there d id specs h = by (find nat_cmp id specs) refl h
  where
    by : (o : Option ConnSpec) → find nat_cmp id specs ≡ o → is_found_ring d o ≡ true → HasRing d id specs
    by None is k = cc
    by (Some (Ring domid target evtchn)) is k = record {
      target = target;
      evtchn = evtchn;
      there = is ∙ ap (λ x. Some (Ring x target evtchn)) (sym (eqb-true d domid k));
    }
    by (Some (Socket fd)) is k = cc

-- what a table answers that is another one's equal
pub found_ring : (d id : ℕ) (specs table : Specs) → table ≡ specs → is_ring_at d id table ≡ true → HasRing d id specs
found_ring d id specs table same h = ring_there d id specs (ap (is_ring_at d id) (sym same) ∙ h)

-- WHAT IS DONE, by the table
module _ (tree : Tree) (gens : Generations) (specs : Specs) (watched : Watched) where
  abbrev here : Machine
  here = machine_of tree gens specs watched

  set_machine : (change : ConnSpec → ConnSpec) (id : ℕ) (old : ConnSpec) → find nat_cmp id specs ≡ Some old → set_spec_of change id here ≡ machine_of tree gens (put nat_cmp id (change old) specs) watched
  set_machine change id old there =
      ap (λ found. set_spec change id found here) (conns_found watched id specs ∙ ap (option_map (conn_at watched id)) there)
      ∙ ap (λ conns. record { tree = tree; gens = gens; conns = conns }) (conns_put watched id (change old) specs)

  pub introduced_there : (d evtchn id : ℕ) (ring : HasRing d id specs) → ring_id d specs ≡ Some id → introduce here d evtchn (ring_of d (conns_of specs watched)) ≡ granted (machine_of tree gens (put nat_cmp id (Ring d ring.target evtchn) specs) watched)
  introduced_there d evtchn id ring found =
      ap (introduce here d evtchn) (conns_ring watched d specs ∙ found)
      ∙ ap granted (set_machine (with_evtchn evtchn) id (Ring d ring.target ring.evtchn) ring.there)

  -- this domain came, or went, and these are the connections
  abbrev pub came : Connections → Done
  came conns = record { reply = Ok ok_payload; machine = record { tree = tree; gens = gens; conns = conns }; sends = special_sends introduce_domain conns }

  abbrev pub went : Connections → Done
  went conns = record { reply = Ok ok_payload; machine = record { tree = tree; gens = gens; conns = conns }; sends = special_sends release_domain conns }

  pub introduced_new : (d evtchn : ℕ) → ring_id d specs ≡ None → made_by (least_free specs) watched ≡ []
      → introduce here d evtchn (ring_of d (conns_of specs watched)) ≡ came (conns_of (put nat_cmp (least_free specs) (Ring d None evtchn) specs) watched)
  introduced_new d evtchn absent none =
      let new : ConnSpec = Ring d None evtchn in
      let made : put nat_cmp (least_free (conns_of specs watched)) (fresh new) (conns_of specs watched) ≡ conns_of (put nat_cmp (least_free specs) new specs) watched =
      ap (λ id. put nat_cmp id (fresh new) (conns_of specs watched)) (conns_free watched specs)
      ∙ ap (λ (ws : List Made). put nat_cmp (least_free specs) (watching new (watches_in ws)) (conns_of specs watched)) (sym none)
      ∙ conns_put watched (least_free specs) new specs
      in
      ap (introduce here d evtchn) (conns_ring watched d specs ∙ absent) ∙ ap came made

  pub nothing_released : (d : ℕ) → ring_id d specs ≡ None → release here (ring_of d (conns_of specs watched)) ≡ refused Enoent here
  nothing_released d absent = ap (release here) (conns_ring watched d specs ∙ absent)

  pub released : (d id : ℕ) → ring_id d specs ≡ Some id → (left : Connections) → where_key nat_cmp (λ key. not (id == key)) (conns_of specs watched) ≡ left → release here (ring_of d (conns_of specs watched)) ≡ went left
  released d id found left is = ap (release here) (conns_ring watched d specs ∙ found) ∙ ap went is

  module _ (d target : ℕ) where
    abbrev target_set : Done
    target_set = set_target here target (ring_of d (conns_of specs watched)) (has_ring target (conns_of specs watched))

    pub targeted : (id : ℕ) (ring : HasRing d id specs) → ring_id d specs ≡ Some id → is_some (ring_id target specs) ≡ true → target_set ≡ granted (machine_of tree gens (put nat_cmp id (Ring d (Some target) ring.evtchn) specs) watched)
    targeted id ring found there =
        ap (λ o. set_target here target o (has_ring target (conns_of specs watched))) (conns_ring watched d specs ∙ found)
        ∙ ap (set_target here target (Some id)) (ap is_some (conns_ring watched target specs) ∙ there)
        ∙ ap granted (set_machine (with_target target) id (Ring d ring.target ring.evtchn) ring.there)

    pub no_domain : ring_id d specs ≡ None → target_set ≡ refused Enoent here
    no_domain absent = ap (λ o. set_target here target o (has_ring target (conns_of specs watched))) (conns_ring watched d specs ∙ absent)

    pub no_target : (id : ℕ) → ring_id d specs ≡ Some id → is_some (ring_id target specs) ≡ false → target_set ≡ refused Enoent here
    no_target id found absent =
        ap (λ o. set_target here target o (has_ring target (conns_of specs watched))) (conns_ring watched d specs ∙ found)
        ∙ ap (set_target here target (Some id)) (ap is_some (conns_ring watched target specs) ∙ absent)

-- SPECIAL EVENTS, of one connection
module _ (special : List ℕ) where
  none_told : (caller : Caller) → special_owed caller [] special ≡ []
  none_told caller = elim (caller.domid == 0) as (λ b. cond {A = List Message} b [] [] ≡ []) [
    | true ↦ refl
    | false ↦ refl
  ]

  guest_told : (caller : Caller) (watches : List Watch) → (caller.domid == 0) ≡ false → special_owed caller watches special ≡ []
  guest_told caller watches guest = ap (λ b. cond b (special_owed (record { domid = 0; target = caller.target }) watches special) []) guest

  abbrev told_for : Option ConnSpec → List Watch → List ℕ
  told_for o watches = if_found o (λ caller. flat_map message_bytes (special_owed caller watches special))

  -- one more that has no watches hears nothing
  pub told_more : (specs : Specs) (watched : Watched) (id : ℕ) (spec : ConnSpec) → find nat_cmp id specs ≡ None → made_by id watched ≡ [] → (d : ℕ) → special_bytes (put nat_cmp id spec specs) watched special d ≡ special_bytes specs watched special d
  told_more specs watched id spec absent none d = ap (λ o. told_for o (watches_of d watched)) (found_at d id spec specs) ∙ by (d == id) refl
    where
      by : (b : Bool) → (d == id) ≡ b → told_for (cond b (Some spec) (find nat_cmp d specs)) (watches_of d watched) ≡ told_for (find nat_cmp d specs) (watches_of d watched)
      by true t =
          ap (λ (made : List Made). told_for (Some spec) (watches_in made)) (ap (λ k. made_by k watched) (eqb-true d id t) ∙ none)
          ∙ ap (λ ms. flat_map message_bytes ms) (none_told (caller_of spec))
          ∙ sym (ap (λ o. told_for o (watches_of d watched)) (ap (λ k. find nat_cmp k specs) (eqb-true d id t) ∙ absent))
      by false t = refl

  -- one less that is a guest's
  pub told_less : (specs : Specs) (watched : Watched) (id : ℕ) (spec : ConnSpec) → find nat_cmp id specs ≡ Some spec → ((caller_of spec).domid == 0) ≡ false
      → (d : ℕ) → special_bytes (where_key nat_cmp (λ key. not (id == key)) specs) (where_key nat_cmp (λ key. not (id == key)) watched) special d ≡ special_bytes specs watched special d
  told_less specs watched id spec there guest d =
      (λ i. told_for (found_where (λ key. not (id == key)) d specs i) (watches_in (or_none (found_where (λ key. not (id == key)) d watched i)))) ∙ by (id == d) refl
    where
      by : (b : Bool) → (id == d) ≡ b → told_for (cond (not b) (find nat_cmp d specs) None) (watches_in (or_none (cond (not b) (find nat_cmp d watched) None))) ≡ told_for (find nat_cmp d specs) (watches_of d watched)
      by true t =
          sym (ap (λ o. told_for o (watches_of d watched)) (ap (λ k. find nat_cmp k specs) (sym (eqb-true id d t)) ∙ there)
          ∙ ap (λ ms. flat_map message_bytes ms) (guest_told (caller_of spec) (watches_of d watched) guest))
      by false t = refl

-- WHAT WAS DONE, by what the code holds of it: a ring connection got another end
module _ (c : ℕ) (tree : Tree) (gens : Generations) (peers : Connected) (sound : IsSound peers) (may : MayAsk c peers) (done : Done) (answer : Answer) (replied : answer.reply ≡ Ok ok_payload) (new : Connected) (kept : IsSound new) where
  pub did_set : (specs : Specs) → answer.owed ≡ [] → new.specs ≡ specs → new.watched ≡ peers.watched → new.queues ≡ peers.queues → new.txns ≡ peers.txns → done ≡ granted (machine_of tree gens specs peers.watched) → answer.door ≡ Same → DidBeside c peers done tree gens answer new
  did_set specs owes set watched queues txns acted door =
      let same : map (λ e. e.0) new.specs ≡ map (λ e. e.0) peers.specs = sym kept.ids ∙ ap (map (λ e. e.0)) queues ∙ sound.ids in
      let conns_same : map (λ e. e.0) (conns_in new) ≡ map (λ e. e.0) (conns_in peers) = conns_keys new.watched new.specs ∙ same ∙ sym (conns_keys peers.watched peers.specs) in
      did c peers sound may done (Ok ok_payload) (omega arith) answer replied owes tree gens new
      (acted ∙ (λ i. granted (machine_of tree gens (sym set i) (sym watched i))))
      (ap (λ rows. opens_of rows) txns ∙ opens_same peers sound new.specs new.watched same)
      (subst (IsDoor (conns_in peers) (conns_in new)) (sym door) conns_same)
      (ap (λ q. unsent_of q) queues ∙ unsent_same peers sound new.specs same)
      (ap (λ q. rests_of q) queues ∙ rests_same peers sound new.specs same) queues kept

-- A DOMAIN THAT HAD NONE GETS ITS RING
module _ (c : ℕ) (tree : Tree) (gens : Generations) (peers : Connected) (sound : IsSound peers) (asker : ConnSpec) (there : find nat_cmp c peers.specs ≡ Some asker) (d evtchn : ℕ) (none : ring_id d peers.specs ≡ None)
    (done : Done) (owed : Unsent) (owes : (e : ℕ) → sent_to e (special_sends introduce_domain (conns_in peers)) ≡ unsent_to e owed) where
  abbrev id : ℕ
  id = least_free peers.specs

  abbrev ring : ConnSpec
  ring = Ring d None evtchn

  abbrev more : Specs
  more = put nat_cmp id ring peers.specs

  least : IsLeastFree id peers.specs
  least = least_free-is peers.specs sound.table.table.rising sound.table.ids

  unwatched : made_by id peers.watched ≡ []
  unwatched = none_watched peers.specs peers.watched sound.watching id least.free

  more_rising : is_sorted nat_cmp more ≡ true
  more_rising = sorted_put nat_cmp nat_cmp_total id ring peers.specs sound.table.table.rising

  another : (id == c) ≡ false
  another = ne_eqb id c (λ same. not_Some (sym least.free ∙ ap (λ k. find nat_cmp k peers.specs) same ∙ there))

  none_owed : unsent_to id owed ≡ []
  none_owed =
      sym (owes id) ∙ special_sent [] [] peers.specs peers.watched sound.table.table.rising id introduce_domain
      ∙ ap (λ o. if_found o (λ caller. flat_map message_bytes (special_owed caller (watches_of id peers.watched) introduce_domain))) least.free

  pub opened_by : if_control (conn_in peers c asker) (machine_of tree gens peers.specs peers.watched) (introduce (machine_of tree gens peers.specs peers.watched) d evtchn (ring_of d (conns_in peers))) ≡ done → (domid : ℕ) → domid ≡ (caller_of asker).domid → domid ≡ 0
      → done ≡ came tree gens peers.specs peers.watched (conns_of more peers.watched)
  opened_by is domid who control =
      sym is ∙ control_asks (conn_in peers c asker) (machine_of tree gens peers.specs peers.watched) (introduce (machine_of tree gens peers.specs peers.watched) d evtchn (ring_of d (conns_in peers))) domid who control
      ∙ introduced_new tree gens peers.specs peers.watched d evtchn none unwatched

  module _ (acted : done ≡ came tree gens peers.specs peers.watched (conns_of more peers.watched)) where
    sends_so : (e : ℕ) → sent_to e done.sends ≡ unsent_to e owed
    sends_so e =
        ap (λ (x : Done). sent_to e x.sends) acted ∙ special_sent [] [] more peers.watched more_rising e introduce_domain
        ∙ told_more introduce_domain peers.specs peers.watched id ring least.free unwatched e
        ∙ sym (special_sent [] [] peers.specs peers.watched sound.table.table.rising e introduce_domain) ∙ owes e

    nowhere : find nat_cmp id (unsent_of peers.queues) ≡ None
    nowhere = none_there (find nat_cmp id (unsent_of peers.queues)) (same_there (unsent_of peers.queues) peers.specs (ids_unsent peers sound) id ∙ ap is_some least.free)

    crowds_same : crowding c (reply_length (Ok ok_payload)) owed (put nat_cmp id [] (unsent_of peers.queues)) ≡ crowding c (reply_length (Ok ok_payload)) owed (unsent_of peers.queues)
    crowds_same = crowding_more c (reply_length (Ok ok_payload)) owed id (nothing_for c (reply_length (Ok ok_payload)) owed id another none_owed) (unsent_of peers.queues) nowhere

    pub did_open : (answer : Answer) → answer.reply ≡ Ok ok_payload → answer.door ≡ Opened d → answer.owed ≡ owed → (mid new : Connected) → IsSound new
        → HasRoomFor c message_limit owed mid.queues → crowding c (reply_length (Ok ok_payload)) owed (unsent_of peers.queues) ≡ None
        → new.specs ≡ more → new.watched ≡ peers.watched
        → unsent_of new.queues ≡ put nat_cmp id [] (unsent_of peers.queues) → rests_of new.queues ≡ put nat_cmp id 0 (rests_of peers.queues)
        → ((other : ℕ) → (other == id) ≡ false → find nat_cmp other new.queues ≡ find nat_cmp other mid.queues)
        → opens_of new.txns ≡ put nat_cmp id [] (opens_of peers.txns)
        → DidBeside c peers done tree gens answer new
    did_open answer replied door sent mid new kept room uncrowded specs watched bytes rests others txns =
        let opens : Opens d (conns_in peers) (conns_in new) = record {
          conn = id;
          evtchn = evtchn;
          none = conns_ring peers.watched d peers.specs ∙ none;
          free = conns_found peers.watched id peers.specs ∙ ap (option_map (conn_at peers.watched id)) least.free;
          made = (λ i. conns_of (specs i) (watched i)) ∙ sym (conns_put peers.watched id ring peers.specs)
              ∙ ap (λ (ws : List Made). put nat_cmp id (watching ring (watches_in ws)) (conns_in peers)) unwatched;
        } in
        record {
          reply = replied ∙ sym (ap (λ (x : Done). x.reply) acted);
          machine = ap (λ (x : Done). x.machine) acted ∙ (λ i. machine_of tree gens (sym specs i) (sym watched i));
          sends = λ e. sends_so e ∙ sym (ap (unsent_to e) sent);
          opens = txns ∙ opens_put_more peers sound peers.watched id ring least.free ∙ (λ i. opens_by (conns_of (sym specs i) (sym watched i)) (opens_of peers.txns));
          door = subst (IsDoor (conns_in peers) (conns_in new)) (sym door) opens;
          unsent = bytes ∙ unsent_more peers sound id ring least.free ∙ ap (λ es. unsent_by es (unsent_of peers.queues)) (sym specs);
          rests = rests ∙ rests_more peers sound id ring least.free ∙ ap (λ es. rests_by es (rests_of peers.queues)) (sym specs);
          room = subst (λ o. HasRoomFor c message_limit o new.queues) (sym sent) (room_new mid new room others);
          uncrowded = (λ i. crowding c (reply_length (replied i)) (sent i) (bytes i)) ∙ crowds_same ∙ uncrowded;
          sound = kept;
        }
      where
        room_new : (mid new : Connected) → HasRoomFor c message_limit owed mid.queues → ((other : ℕ) → (other == id) ≡ false → find nat_cmp other new.queues ≡ find nat_cmp other mid.queues) → HasRoomFor c message_limit owed new.queues
        room_new mid new room others e queue found = by (e == id) refl
          where
            by : (b : Bool) → (e == id) ≡ b → count_by c message_limit owed e ≤ queue.spare
            by true t = subst (λ k. count_by c message_limit owed k ≤ queue.spare) (sym (eqb-true e id t)) (subst (λ k. k ≤ queue.spare) (sym (nothing_for c message_limit owed id another none_owed)) (omega arith))
            by false t = room e queue (sym (others e t) ∙ found)

    pub opening_crowds : (e : ℕ) (new : Connected) → crowding c (reply_length (Ok ok_payload)) owed (unsent_of peers.queues) ≡ Some e → IsSameKept peers new → IsCrowdingBeside c peers done e new
    opening_crowds e new crowds same = record {
      owed = owed;
      sends = sends_so;
      crowds = ap (λ (x : Done). crowding c (reply_length x.reply) owed (map (λ e. (e.0, unsent_to e.0 (unsent_of peers.queues))) x.machine.conns)) acted
          ∙ ap (crowding c (reply_length (Ok ok_payload)) owed) (same_ids (λ k. unsent_to k (unsent_of peers.queues)) (conns_of more peers.watched) more (conns_keys peers.watched more) ∙ sym (unsent_more peers sound id ring least.free))
          ∙ crowds_same ∙ crowds;
      unchanged = same;
    }

-- THE RING OF ANOTHER DOMAIN GOES
module _ (c : ℕ) (tree : Tree) (gens : Generations) (peers : Connected) (sound : IsSound peers) (asker : ConnSpec) (there : find nat_cmp c peers.specs ≡ Some asker) (control : (caller_of asker).domid ≡ 0)
    (d gone : ℕ) (ring : HasRing d gone peers.specs) (positive : 0 < d) (found : ring_id d peers.specs ≡ Some gone)
    (done : Done) (owed : Unsent) (owes : (e : ℕ) → sent_to e (special_sends release_domain (conns_in peers)) ≡ unsent_to e owed) where
  abbrev stays : ℕ → Bool
  stays key = not (gone == key)

  abbrev less : Specs
  less = where_key nat_cmp stays peers.specs

  abbrev left : Watched
  left = where_key nat_cmp stays peers.watched

  abbrev end : ConnSpec
  end = Ring d ring.target ring.evtchn

  less_rising : is_sorted nat_cmp less ≡ true
  less_rising = sorted_where nat_cmp stays peers.specs sound.table.table.rising

  its_own : gone ≡ c → ⊥
  its_own same =
      let one : end ≡ asker = from_Some (sym ring.there ∙ ap (λ i. find nat_cmp i peers.specs) same ∙ there) in
      let zero_is : d ≡ 0 = ap (λ s. (caller_of s).domid) one ∙ control in
      omega arith

  not_asking : (gone == c) ≡ false
  not_asking = ne_eqb gone c its_own

  guest : ((caller_of end).domid == 0) ≡ false
  guest = ne_eqb d 0 (λ same. omega (arith, same, positive))

  gone_owed : unsent_to gone owed ≡ []
  gone_owed =
      sym (owes gone) ∙ special_sent [] [] peers.specs peers.watched sound.table.table.rising gone release_domain
      ∙ ap (λ o. if_found o (λ caller. flat_map message_bytes (special_owed caller (watches_of gone peers.watched) release_domain))) ring.there
      ∙ ap (λ ms. flat_map message_bytes ms) (guest_told release_domain (caller_of end) (watches_of gone peers.watched) guest)

  module _ (acted : done ≡ went tree gens peers.specs peers.watched (conns_of less left)) where
    gone_sends : (e : ℕ) → sent_to e done.sends ≡ unsent_to e owed
    gone_sends e =
        ap (λ (x : Done). sent_to e x.sends) acted ∙ special_sent [] [] less left less_rising e release_domain
        ∙ told_less release_domain peers.specs peers.watched gone end ring.there guest e
        ∙ sym (special_sent [] [] peers.specs peers.watched sound.table.table.rising e release_domain) ∙ owes e

    crowds_left : crowding c (reply_length (Ok ok_payload)) owed (where_key nat_cmp stays (unsent_of peers.queues)) ≡ crowding c (reply_length (Ok ok_payload)) owed (unsent_of peers.queues)
    crowds_left = crowding_less c (reply_length (Ok ok_payload)) owed gone (nothing_for c (reply_length (Ok ok_payload)) owed gone not_asking gone_owed) (unsent_of peers.queues) (short_unsent peers.queues sound.short)

    pub did_close : (answer : Answer) → answer.reply ≡ Ok ok_payload → answer.door ≡ Closed d → answer.owed ≡ owed → (mid new : Connected) → IsSound new
        → HasRoomFor c message_limit owed mid.queues → crowding c (reply_length (Ok ok_payload)) owed (unsent_of peers.queues) ≡ None
        → unsent_of mid.queues ≡ unsent_of peers.queues → rests_of mid.queues ≡ rests_of peers.queues → opens_of mid.txns ≡ opens_of peers.txns
        → new.specs ≡ less → new.watched ≡ left
        → new.queues ≡ where_key nat_cmp stays mid.queues
        → new.txns ≡ where_key nat_cmp stays mid.txns
        → DidBeside c peers done tree gens answer new
    did_close answer replied door sent mid new kept room uncrowded same_bytes same_rests same_opens specs watched queues txns =
        let closes : Closes d (conns_in peers) (conns_in new) = record {
          conn = gone;
          was = conns_ring peers.watched d peers.specs ∙ found;
          removed = (λ i. conns_of (specs i) (watched i)) ∙ sym (conns_without stays peers.specs peers.watched sound.table.table.rising);
        } in
        let bytes : unsent_of new.queues ≡ where_key nat_cmp stays (unsent_of peers.queues) =
        ap (λ q. unsent_of q) queues ∙ where_map (λ (q : Queue). q.bytes) stays mid.queues ∙ ap (where_key nat_cmp stays) same_bytes
        in
        record {
          reply = replied ∙ sym (ap (λ (x : Done). x.reply) acted);
          machine = ap (λ (x : Done). x.machine) acted ∙ (λ i. machine_of tree gens (sym specs i) (sym watched i));
          sends = λ e. gone_sends e ∙ sym (ap (unsent_to e) sent);
          opens = ap (λ rows. opens_of rows) txns ∙ where_map opens_in stays mid.txns ∙ ap (where_key nat_cmp stays) same_opens
              ∙ sym (where_map opens_in stays peers.txns) ∙ opens_less peers sound left stays ∙ (λ i. opens_by (conns_of (sym specs i) (sym watched i)) (opens_of peers.txns));
          door = subst (IsDoor (conns_in peers) (conns_in new)) (sym door) closes;
          unsent = bytes ∙ sym (where_map (λ (q : Queue). q.bytes) stays peers.queues) ∙ unsent_less peers sound stays ∙ ap (λ es. unsent_by es (unsent_of peers.queues)) (sym specs);
          rests = ap (λ q. rests_of q) queues ∙ where_map (λ (q : Queue). q.rest) stays mid.queues ∙ ap (where_key nat_cmp stays) same_rests
              ∙ sym (where_map (λ (q : Queue). q.rest) stays peers.queues) ∙ rests_less peers sound stays ∙ ap (λ es. rests_by es (rests_of peers.queues)) (sym specs);
          room = subst (λ o. HasRoomFor c message_limit o new.queues) (sym sent)
              (λ e queue there. room e queue (still e queue (sym (found_where stays e mid.queues) ∙ ap (find nat_cmp e) (sym queues) ∙ there)));
          uncrowded = (λ i. crowding c (reply_length (replied i)) (sent i) (bytes i)) ∙ crowds_left ∙ uncrowded;
          sound = kept;
        }
      where
        still : (e : ℕ) (queue : Queue) → cond (stays e) (find nat_cmp e mid.queues) None ≡ Some queue → find nat_cmp e mid.queues ≡ Some queue
        still e queue h = elim (stays e) as (λ b. cond b (find nat_cmp e mid.queues) None ≡ Some queue → find nat_cmp e mid.queues ≡ Some queue) [
          | true ↦ λ is. is
          | false ↦ λ is. not_Some is
        ] h

    pub closing_crowds : (e : ℕ) (new : Connected) → crowding c (reply_length (Ok ok_payload)) owed (unsent_of peers.queues) ≡ Some e → IsSameKept peers new → IsCrowdingBeside c peers done e new
    closing_crowds e new crowds same = record {
      owed = owed;
      sends = gone_sends;
      crowds = ap (λ (x : Done). crowding c (reply_length x.reply) owed (map (λ e. (e.0, unsent_to e.0 (unsent_of peers.queues))) x.machine.conns)) acted
          ∙ ap (crowding c (reply_length (Ok ok_payload)) owed) (same_ids (λ k. unsent_to k (unsent_of peers.queues)) (conns_of less left) less (conns_keys left less) ∙ sym (sym (where_map (λ (q : Queue). q.bytes) stays peers.queues) ∙ unsent_less peers sound stays))
          ∙ crowds_left ∙ crowds;
      unchanged = same;
    }
