-- What a request on watches does.
use Rattle.std.proofs.Common.{◌≡◌, ℕ, ◌+◌, ◌<◌, ◌≤◌, ◌==◌, Bool, true, false, cond, not, List, [], ◌∷◌, ◌++◌, length, map, filter, flat_map, nat_lt, Option, Some, None, Ok, Err, refl, sym, ap, ap₂, subst, ◌∙◌, arith, eqb-true, eq-eqb, ltb-false, length-append}
use Rattle.std.proofs.lemmas.Bool.{not-true}
use Rattle.std.specs.List.{list_any}
use Rattle.std.specs.Ordering.{nat_cmp}
use Rattle.std.specs.FinMap.{find, put}
use Rattle.std.specs.FinMap.Entries.{where_key}
use Rattle.xs_model.specs.declared.message.WireErr.TheVariants.{Eexist, E2big, Enoent}
use Rattle.xs_model.specs.Generations.{Generations, greatest}
use Rattle.std.proofs.lemmas.Bool.Decides.{nat_tests}
use Rattle.xs_model.specs.Messages.{ok_payload, message_bytes}
use Rattle.xs_model.specs.Requests as model
use Rattle.xs_model.specs.Requests.{is_watch_path, is_token}
use Rattle.xs_model.proofs.LengthLemmas.{watch_path-short}
use Rattle.xs_model.specs.Trees.{Tree}
use Rattle.xs_model.specs.Watches.{Watch, same_watch, first_event}
use Rattle.machine_model.specs.declared.bounds.TheConstants.{HELD_LIMIT, CROWD_LIMIT}
use Rattle.machine_model.specs.declared.ConnSpec.{ConnSpec}
use Rattle.machine_model.specs.Connections.{Connection, fresh, caller_of}
use Rattle.machine_model.specs.History.{Unsent, unsent_to, sent_to}
use Rattle.machine_model.specs.Machine.{Machine, Done, Send, refused, granted, with_conn, with_watches, add_watch, remove_watch, may_watch}
use Rattle.mark_model.specs.Stores.{opens_by, kept_act}
use Rattle.node_tree.specs.KeptTree.{KeptTree}
use Rattle.conn_table.specs.Tables.{Specs}
use Rattle.watch_table.specs.Tables.{Made, watch_of, watches_in}
use Rattle.watchers.specs.Watched.{Watched, or_none, made_by, watching, conns_of}
use Rattle.daemon.specs.declared.answer.Door.TheVariants.{Same}
use Rattle.daemon.specs.declared.reply.Answer.{Answer}
use Rattle.daemon.specs.Keeps.{machine_of}
use Rattle.conn_rows.specs.Rows.{opens_in, opens_of}
use Rattle.conn_rows.specs.Queued.{unsent_of, rests_of}
use Rattle.conn_rows.specs.Sending.{count_by, HasRoomFor, crowding}
use Rattle.daemon.specs.Peers.{Connected, IsSound, IsSoundTable, MayAsk, conns_in, conn_in, message_limit}
use Rattle.daemon.specs.Acts.{reply_length, IsDoor, Did, DidBeside, store_in}
use Rattle.conn_rows.proofs.IdEntries.{found_at, found_itself, put_map}
use Rattle.daemon.proofs.KeepsLemmas.{found_where, conns_keys, conns_rewatched}
use Rattle.daemon.proofs.OwnLemmas.{OfDomain, own_there, own_watched, there_watched, own_cleared, there_cleared}
use Rattle.daemon.proofs.PeerLemmas.{Belong, sound_by, ids_unsent, rising_unsent, short_unsent}
use Rattle.daemon.proofs.SendLemmas.{nobody_crowded}
use Rattle.daemon.proofs.QuietLemmas.{few_unsent, quiet_sends, quiet_room, quiet_crowding}
use Rattle.daemon.proofs.UnsentLemmas.{unsent_same, rests_same, opens_same}
use Rattle.daemon.proofs.OpenTxns.{ids_put}
use Rattle.daemon.proofs.ActLemmas.{did_same}

-- OTHER WATCHES of the same connections
module _ (peers : Connected) (sound : IsSound peers) (new : Connected) (specs : new.specs ≡ peers.specs) (belong : Belong peers.specs new.watched)
    (bytes : unsent_of new.queues ≡ unsent_of peers.queues) (opens : map (λ e. e.0) new.txns ≡ map (λ e. e.0) peers.specs) where
  pub sound_rewatched : IsSound new
  sound_rewatched =
      let keys : map (λ e. e.0) peers.specs ≡ map (λ e. e.0) new.specs = ap (map (λ e. e.0)) (sym specs) in
      sound_by new (unsent_of peers.queues) bytes (subst IsSoundTable (sym specs) sound.table) (subst (λ (ss : Specs). Belong ss new.watched) (sym specs) belong)
      (ids_unsent peers sound ∙ keys) (opens ∙ keys) (short_unsent peers.queues sound.short)

  pub door_rewatched : IsDoor (conns_in peers) (conns_in new) Same
  door_rewatched = conns_keys new.watched new.specs ∙ ap (map (λ e. e.0)) specs ∙ sym (conns_keys peers.watched peers.specs)

-- ONLY THE ASKER is owed something
module _ (c n : ℕ) (owed : Unsent) (others : (d : ℕ) → (d == c) ≡ false → unsent_to d owed ≡ []) where
  count_alone : (d : ℕ) → count_by c n owed d ≡ count_by c (n + length (unsent_to c owed)) [] d
  count_alone d = by (d == c) refl
    where
      by : (b : Bool) → (d == c) ≡ b → cond b n 0 + length (unsent_to d owed) ≡ cond b (n + length (unsent_to c owed)) 0 + 0
      by true t = let same : length (unsent_to d owed) ≡ length (unsent_to c owed) = ap (λ k. length (unsent_to k owed)) (eqb-true d c t) in omega (arith, same)
      by false t = ap (λ l. 0 + length l) (others d t)

  crowding_alone : (unsent : Unsent) → crowding c n owed unsent ≡ crowding c (n + length (unsent_to c owed)) [] unsent
  crowding_alone [] = refl
  crowding_alone (e ∷ es) = ap₂ (λ (k : ℕ) (r : Option ℕ). cond (nat_lt CROWD_LIMIT (length e.1 + k)) (Some e.0) r) (count_alone e.0) (crowding_alone es)

-- the first event of a watch that may be asked for is short
pub first_short : (c : ℕ) (wpath token : List ℕ) (domid : ℕ) → is_watch_path wpath domid ≡ true → is_token token ≡ true → length (sent_to c ((c, first_event (watch_of wpath token)) ∷ [])) ≤ 8192
first_short c wpath token domid path short =
    let most_path = watch_path-short wpath domid path in
    let most_token = ltb-false 1022 (length token) (not-true (nat_lt 1022 (length token)) short) in
    subst (λ b. length (flat_map (λ (s : Send). message_bytes s.1) (cond b ((c, first_event (watch_of wpath token)) ∷ []) [])) ≤ 8192) (sym (eq-eqb c c refl))
    (simp length-append (omega (arith, most_path, most_token)))

few_more : (x n : ℕ) → x < HELD_LIMIT → n ≤ 65536 → x + n ≤ CROWD_LIMIT
few_more x n few short = omega arith

module _ (c : ℕ) (tree : Tree) (gens : Generations) (peers : Connected) (sound : IsSound peers) (may : MayAsk c peers) (spec : ConnSpec) (there : find nat_cmp c peers.specs ≡ Some spec) (wpath token : List ℕ) where
  abbrev conn : Connection
  conn = conn_in peers c spec

  abbrev w : Watch
  w = watch_of wpath token

  abbrev m : Machine
  m = machine_of tree gens peers.specs peers.watched

  abbrev had : List Made
  had = made_by c peers.watched

  abbrev made_one : ℕ → Made
  made_one d = record { watch = w; domid = d }

  -- WATCH
  abbrev made : Done
  made = record { reply = Ok ok_payload; machine = with_conn c (with_watches (conn.watches ++ w ∷ []) conn) m; sends = (c, first_event w) ∷ [] }

  adding : (exists room : Bool) → list_any (same_watch w) conn.watches ≡ exists → may_watch conn ≡ room → add_watch m c conn w ≡ cond exists (refused Eexist m) (cond (not room) (refused E2big m) made)
  adding exists room e r = λ i. cond (e i) (refused Eexist m) (cond (not (r i)) (refused E2big m) made)

  pub watch_exists : (answer : Answer) → list_any (same_watch w) conn.watches ≡ true → answer.reply ≡ Err Eexist → answer.door ≡ Same → answer.owed ≡ [] → DidBeside c peers (add_watch m c conn w) tree gens answer peers
  watch_exists answer exists replied door owes = did_same c peers sound may (add_watch m c conn w) (Err Eexist) tt answer replied owes tree gens (adding true (may_watch conn) exists refl) door

  pub watch_full : (answer : Answer) → list_any (same_watch w) conn.watches ≡ false → may_watch conn ≡ false → answer.reply ≡ Err E2big → answer.door ≡ Same → answer.owed ≡ [] → DidBeside c peers (add_watch m c conn w) tree gens answer peers
  watch_full answer new full replied door owes = did_same c peers sound may (add_watch m c conn w) (Err E2big) tt answer replied owes tree gens (adding false false new full) door

  -- the connections with other watches of this one
  rewatched : (ws : List Made) → put nat_cmp c (watching spec (watches_in ws)) (conns_in peers) ≡ conns_of peers.specs (put nat_cmp c ws peers.watched)
  rewatched ws =
      ap (λ o. put nat_cmp c (watching spec (watches_in (or_none o))) (conns_in peers)) (sym (found_itself c ws peers.watched))
      ∙ conns_rewatched c spec peers.specs peers.watched (put nat_cmp c ws peers.watched) sound.table.table.rising there
      (λ q apart. ap or_none (found_at q c ws peers.watched ∙ ap (λ b. cond b (Some ws) (find nat_cmp q peers.watched)) apart))

  belong_put : (ws : List Made) → OfDomain spec ws → Belong peers.specs (put nat_cmp c ws peers.watched)
  belong_put ws of_domain = (own_watched peers.specs peers.watched c spec there ws sound.own of_domain, there_watched peers.specs peers.watched c spec there ws sound.watching)

  watches_more : (ms : List Made) (d : ℕ) → watches_in (ms ++ made_one d ∷ []) ≡ watches_in ms ++ w ∷ []
  watches_more [] d = refl
  watches_more (x ∷ ms) d = ap (λ l. x.watch ∷ l) (watches_more ms d)

  one_more : (ms : List Made) (d : ℕ) → d ≡ (caller_of spec).domid → OfDomain spec ms → OfDomain spec (ms ++ made_one d ∷ [])
  one_more [] d is h = (is, tt)
  one_more (x ∷ ms) d is h = (h.0, one_more ms d is h.1)

  module _ (answer : Answer) (replied : answer.reply ≡ Ok ok_payload) (door : answer.door ≡ Same) (new : Connected) (specs : new.specs ≡ peers.specs)
      (bytes : unsent_of new.queues ≡ unsent_of peers.queues) (rests : rests_of new.queues ≡ rests_of peers.queues) (txns : new.txns ≡ peers.txns) where
    pub watch_made : list_any (same_watch w) conn.watches ≡ false → may_watch conn ≡ true → (d : ℕ) → d ≡ (caller_of spec).domid → new.watched ≡ put nat_cmp c (had ++ made_one d ∷ []) peers.watched
        → ((e : ℕ) → unsent_to e answer.owed ≡ sent_to e ((c, first_event w) ∷ [])) → length (sent_to c ((c, first_event w) ∷ [])) ≤ 8192 → HasRoomFor c message_limit answer.owed new.queues
        → DidBeside c peers (add_watch m c conn w) tree gens answer new
    watch_made is_new may_more d who watched owes short room =
        let acted : add_watch m c conn w ≡ made = adding false true is_new may_more in
        let ws : List Made = had ++ made_one d ∷ [] in
        let belong : Belong peers.specs new.watched = subst (λ (l : Watched). Belong peers.specs l) (sym watched) (belong_put ws (one_more had d who (own_there peers.specs peers.watched sound.own c spec there))) in
        let ids : map (λ e. e.0) new.txns ≡ map (λ e. e.0) peers.specs = ap (map (λ e. e.0)) txns ∙ sound.rows in
        let n : ℕ = reply_length (Ok ok_payload) + length (unsent_to c answer.owed) in
        let fits : n ≤ 65536 = omega (arith, ap length (owes c), short) in
        let others : (e : ℕ) → (e == c) ≡ false → unsent_to e answer.owed ≡ [] = λ e apart. owes e ∙ none_for e apart in
        record {
          reply = replied ∙ sym (ap (λ (x : Done). x.reply) acted);
          machine = ap (λ (x : Done). x.machine) acted
              ∙ ap (λ conns. record { tree = tree; gens = gens; conns = conns }) (ap (λ (l : List Watch). put nat_cmp c (watching spec l) (conns_in peers)) (sym (watches_more had d)) ∙ rewatched ws)
              ∙ (λ i. machine_of tree gens (sym specs i) (sym watched i));
          sends = λ e. ap (λ (x : Done). sent_to e x.sends) acted ∙ sym (owes e);
          opens = ap (λ rows. opens_of rows) txns ∙ opens_same peers sound new.specs new.watched (ap (map (λ e. e.0)) specs);
          door = subst (IsDoor (conns_in peers) (conns_in new)) (sym door) (door_rewatched peers sound new specs belong bytes ids);
          unsent = bytes ∙ unsent_same peers sound new.specs (ap (map (λ e. e.0)) specs);
          rests = rests ∙ rests_same peers sound new.specs (ap (map (λ e. e.0)) specs);
          room = room;
          uncrowded = (λ i. crowding c (reply_length (replied i)) answer.owed (bytes i)) ∙ crowding_alone c (reply_length (Ok ok_payload)) answer.owed others (unsent_of peers.queues)
              ∙ nobody_crowded c n (unsent_of peers.queues) (rising_unsent peers sound) (short_unsent peers.queues sound.short) (λ b found. few_more (length b) n (few_unsent c peers may b found) fits);
          sound = sound_rewatched peers sound new specs belong bytes ids;
        }
      where
        none_for : (e : ℕ) → (e == c) ≡ false → sent_to e ((c, first_event w) ∷ []) ≡ []
        none_for e apart = ap (λ b. flat_map (λ (s : Send). message_bytes s.1) (cond b ((c, first_event w) ∷ []) [])) apart

  -- UNWATCH
  watches_less : (ms : List Made) → watches_in (filter (λ x. not (same_watch w x.watch)) ms) ≡ filter (λ v. not (same_watch w v)) (watches_in ms)
  watches_less [] = refl
  watches_less (x ∷ ms) =
      elim (same_watch w x.watch) as (λ b. watches_in (cond (not b) (x ∷ filter (λ x. not (same_watch w x.watch)) ms) (filter (λ x. not (same_watch w x.watch)) ms)) ≡ cond (not b) (x.watch ∷ filter (λ v. not (same_watch w v)) (watches_in ms)) (filter (λ v. not (same_watch w v)) (watches_in ms))) [
        | true ↦ watches_less ms
        | false ↦ ap (λ l. x.watch ∷ l) (watches_less ms)
      ]

  some_left : (ms : List Made) → OfDomain spec ms → OfDomain spec (filter (λ x. not (same_watch w x.watch)) ms)
  some_left [] h = tt
  some_left (x ∷ ms) h =
      elim (same_watch w x.watch) as (λ b. OfDomain spec (cond (not b) (x ∷ filter (λ x. not (same_watch w x.watch)) ms) (filter (λ x. not (same_watch w x.watch)) ms))) [
        | true ↦ some_left ms h.1
        | false ↦ (h.0, some_left ms h.1)
      ]

  abbrev left : List Made
  left = filter (λ x. not (same_watch w x.watch)) had

  pub unwatch_absent : (answer : Answer) → list_any (same_watch w) conn.watches ≡ false → answer.reply ≡ Err Enoent → answer.door ≡ Same → answer.owed ≡ [] → DidBeside c peers (remove_watch m c conn w) tree gens answer peers
  unwatch_absent answer absent replied door owes =
      did_same c peers sound may (remove_watch m c conn w) (Err Enoent) tt answer replied owes tree gens
      (ap (λ b. cond b (granted (with_conn c (with_watches (filter (λ v. not (same_watch w v)) conn.watches) conn) m)) (refused Enoent m)) absent) door

  pub unwatched : (answer : Answer) → list_any (same_watch w) conn.watches ≡ true → answer.reply ≡ Ok ok_payload → answer.door ≡ Same → answer.owed ≡ []
      → (new : Connected) → new.specs ≡ peers.specs → new.queues ≡ peers.queues → new.txns ≡ peers.txns → new.watched ≡ put nat_cmp c left peers.watched → DidBeside c peers (remove_watch m c conn w) tree gens answer new
  unwatched answer here replied door owes new specs queues txns watched =
      let done : Done = granted (with_conn c (with_watches (filter (λ v. not (same_watch w v)) conn.watches) conn) m) in
      let acted : remove_watch m c conn w ≡ done = ap (λ b. cond b done (refused Enoent m)) here in
      let belong : Belong peers.specs new.watched = subst (λ (l : Watched). Belong peers.specs l) (sym watched) (belong_put left (some_left had (own_there peers.specs peers.watched sound.own c spec there))) in
      let bytes : unsent_of new.queues ≡ unsent_of peers.queues = ap (λ q. unsent_of q) queues in
      let ids : map (λ e. e.0) new.txns ≡ map (λ e. e.0) peers.specs = ap (map (λ e. e.0)) txns ∙ sound.rows in
      record {
        reply = replied ∙ sym (ap (λ (x : Done). x.reply) acted);
        machine = ap (λ (x : Done). x.machine) acted
            ∙ ap (λ conns. record { tree = tree; gens = gens; conns = conns }) (ap (λ (l : List Watch). put nat_cmp c (watching spec l) (conns_in peers)) (sym (watches_less had)) ∙ rewatched left)
            ∙ (λ i. machine_of tree gens (sym specs i) (sym watched i));
        sends = quiet_sends answer.owed (remove_watch m c conn w).sends owes (ap (λ (x : Done). x.sends) acted);
        opens = ap (λ rows. opens_of rows) txns ∙ opens_same peers sound new.specs new.watched (ap (map (λ e. e.0)) specs);
        door = subst (IsDoor (conns_in peers) (conns_in new)) (sym door) (door_rewatched peers sound new specs belong bytes ids);
        unsent = bytes ∙ unsent_same peers sound new.specs (ap (map (λ e. e.0)) specs);
        rests = ap (λ q. rests_of q) queues ∙ rests_same peers sound new.specs (ap (map (λ e. e.0)) specs);
        room = subst (HasRoomFor c message_limit answer.owed) (sym queues) (quiet_room c peers may answer.owed owes);
        uncrowded = (λ i. crowding c (reply_length (replied i)) answer.owed (bytes i)) ∙ quiet_crowding c peers may answer.owed owes sound (reply_length (Ok ok_payload)) (omega arith);
        sound = sound_rewatched peers sound new specs belong bytes ids;
      }

-- RESET_WATCHES
module _ (c tx : ℕ) (tree : KeptTree) (counted : tree.counter ≡ greatest tree.gens) (peers : Connected) (sound : IsSound peers) (may : MayAsk c peers) (spec : ConnSpec) (there : find nat_cmp c peers.specs ≡ Some spec)
    (answer : Answer) (replied : answer.reply ≡ Ok ok_payload) (door : answer.door ≡ Same) (owes : answer.owed ≡ [])
    (new : Connected) (specs : new.specs ≡ peers.specs) (queues : new.queues ≡ peers.queues) (txns : new.txns ≡ put nat_cmp c [] peers.txns) (watched : new.watched ≡ where_key nat_cmp (λ key. not (c == key)) peers.watched) where
  abbrev cleared : Watched
  cleared = where_key nat_cmp (λ key. not (c == key)) peers.watched

  cleared_of : (q : ℕ) → made_by q cleared ≡ or_none (cond (not (c == q)) (find nat_cmp q peers.watched) None)
  cleared_of q = ap or_none (found_where (λ key. not (c == key)) q peers.watched)

  none_left : made_by c cleared ≡ []
  none_left = cleared_of c ∙ ap (λ b. or_none (cond (not b) (find nat_cmp c peers.watched) None)) (eq-eqb c c refl)

  others_stay : (q : ℕ) → (q == c) ≡ false → made_by q cleared ≡ made_by q peers.watched
  others_stay q apart = cleared_of q ∙ ap (λ b. or_none (cond (not b) (find nat_cmp q peers.watched) None)) (turned q c apart)
    where
      turned : (x y : ℕ) → (x == y) ≡ false → (y == x) ≡ false
      turned x y h = grind (arith, nat_tests)

  conns_cleared : put nat_cmp c (fresh spec) (conns_in peers) ≡ conns_of peers.specs cleared
  conns_cleared =
      ap (λ (ws : List Made). put nat_cmp c (watching spec (watches_in ws)) (conns_in peers)) (sym none_left)
      ∙ conns_rewatched c spec peers.specs peers.watched cleared sound.table.table.rising there others_stay

  pub did_reset : Did c tree peers (kept_act (store_in tree peers) c (conn_in peers c spec) tx model.ResetWatches) answer tree new
  did_reset =
      let belong : Belong peers.specs new.watched = subst (λ (l : Watched). Belong peers.specs l) (sym watched) (own_cleared (λ key. not (c == key)) peers.specs peers.watched sound.own, there_cleared (λ key. not (c == key)) peers.specs peers.watched sound.watching) in
      let bytes : unsent_of new.queues ≡ unsent_of peers.queues = ap (λ q. unsent_of q) queues in
      let ids : map (λ e. e.0) new.txns ≡ map (λ e. e.0) peers.specs =
      ap (map (λ e. e.0)) txns ∙ ids_put c [] peers.txns spec peers.specs sound.table.table.rising there sound.rows
      in
      let kept : IsSound new = sound_rewatched peers sound new specs belong bytes ids in
      let opens : put nat_cmp c [] (opens_of peers.txns) ≡ opens_of new.txns = sym (ap (λ rows. opens_of rows) txns ∙ put_map opens_in c [] peers.txns) in
      let conns : put nat_cmp c (fresh spec) (conns_in peers) ≡ conns_in new = conns_cleared ∙ (λ i. conns_of (sym specs i) (sym watched i)) in
      record {
        reply = replied;
        store = λ i. record {
          machine = record { tree = tree.nodes; gens = tree.gens; conns = conns i };
          opens = ((λ j. opens_by (conns j) (opens j)) ∙ sym (opens_same new kept new.specs new.watched refl)) i;
        };
        sends = quiet_sends answer.owed [] owes refl;
        counter = counted;
        door = subst (IsDoor (conns_in peers) (conns_in new)) (sym door) (door_rewatched peers sound new specs belong bytes ids);
        unsent = bytes ∙ unsent_same peers sound new.specs (ap (map (λ e. e.0)) specs);
        rests = ap (λ q. rests_of q) queues ∙ rests_same peers sound new.specs (ap (map (λ e. e.0)) specs);
        room = subst (HasRoomFor c message_limit answer.owed) (sym queues) (quiet_room c peers may answer.owed owes);
        uncrowded = (λ i. crowding c (reply_length (replied i)) answer.owed (bytes i)) ∙ quiet_crowding c peers may answer.owed owes sound (reply_length (Ok ok_payload)) (omega arith);
        sound = kept;
      }
