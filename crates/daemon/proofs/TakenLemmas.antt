-- A request that is taken is one step of the store that is kept, and so of each store that the daemon stands for.
use Rattle.std.proofs.Common.{◌≡◌, ℕ, ◌<◌, ◌≤◌, List, [], ◌∷◌, ◌++◌, length, map, Option, Some, None, true, is_some, refl, sym, ap, subst, ◌∙◌}
use Rattle.std.specs.Option.{option_map}
use Rattle.std.specs.Ordering.{nat_cmp}
use Rattle.std.specs.FinMap.{find}
use Rattle.xs_model.specs.declared.message.Header.{Header}
use Rattle.xs_model.specs.Messages.{message_bytes, header_of, payload_of}
use Rattle.xs_model.specs.Requests.{request_of, all_types}
use Rattle.machine_model.specs.declared.bounds.TheConstants.{HELD_LIMIT}
use Rattle.machine_model.specs.declared.ConnSpec.{ConnSpec}
use Rattle.machine_model.specs.declared.Globals.{Globals}
use Rattle.machine_model.specs.Connections.{Connections, caller_of}
use Rattle.machine_model.specs.Machine.{Machine, Asked, Send, step, reply_message}
use Rattle.machine_model.specs.History.{Unsent, sent_to, unsent_to, unsent_after, crowded}
use Rattle.machine_model.proofs.KeepLemmas.{step_keeps}
use Rattle.machine_model.proofs.IdLemmas.{step_ids}
use Rattle.mark_model.specs.Stores.{KeptStore, KeptDone, kept_of, kept_act_or_refuse, kept_answered, kept_step_of, kept_step}
use Rattle.mark_model.specs.Laws.{IsKeptStep}
use Rattle.mark_model.proofs.MarkLaws.{laws}
use Rattle.mark_model.proofs.StoreSteps.{steps_kept}
use Rattle.kept_model.specs.Sound.{IsSoundStore}
use Rattle.kept_model.proofs.StepStores.{steps_keep_sound}
use Rattle.conn_table.specs.Tables.{IsTable}
use Rattle.node_tree.specs.KeptTree.{KeptTree}
use Rattle.watchers.specs.Watched.{conns_of}
use Rattle.daemon.specs.declared.answer.Door.{Door}
use Rattle.daemon.specs.declared.reply.Answer.{Answer}
use Rattle.store_parts.specs.Kept.{Kept}
use Rattle.daemon.specs.Keeps.{StandsFor, store_of}
use Rattle.conn_rows.specs.Rows.{opens_of}
use Rattle.conn_rows.specs.Queued.{unsent_of, rests_of}
use Rattle.conn_rows.specs.Sending.{joined_by, sent_by}
use Rattle.daemon.specs.Peers.{Connected, IsSound, IsSoundTable, conn_in}
use Rattle.daemon.specs.Acts.{kept_by, rests_by, reply_length, IsDoor, IsWhole, Did, IsCrowding, store_in}
use Rattle.daemon.specs.Submits.{kept_after, stepped, Steps, Takes, IsCrowded}
use Rattle.daemon.proofs.KeepsLemmas.{at_keys, conn_at, conns_keys, conns_found}
use Rattle.daemon.proofs.ValueLemmas.{same_ids}
use Rattle.daemon.proofs.PeerLemmas.{belong_same, belongs, ids_unsent}
use Rattle.daemon.proofs.UnsentLemmas.{ids_open}
use Rattle.daemon.proofs.WholeLemmas.{sound_kept}
use Rattle.daemon.proofs.SendLemmas.{reply_counts, crowded_joined, all_short, joined_so}
use Rattle.daemon.proofs.ShapeLemmas.{step_shape}
use Rattle.daemon.proofs.DoorLemmas.{bares, door_of_bare}
use Rattle.daemon.proofs.SubmitLemmas.{same_unsent, same_store}

-- there is a queue for each connection
pub there_unsent : (peers : Connected) → IsSound peers → (c : ℕ) (spec : ConnSpec) → find nat_cmp c peers.specs ≡ Some spec → (bytes : List ℕ) × (find nat_cmp c (unsent_of peers.queues) ≡ Some bytes)
there_unsent peers sound c spec there = by (find nat_cmp c (unsent_of peers.queues)) (same_unsent peers sound c ∙ ap is_some there)
  where
    by : (o : Option (List ℕ)) → is_some o ≡ true → (bytes : List ℕ) × (o ≡ Some bytes)
    by None h = cc
    by (Some b) h = (b, refl)

-- ONE STEP of the store that is kept
module _ (tree : KeptTree) (old : Connected) (c : ℕ) (spec : ConnSpec) (head : Header) (payload message : List ℕ) (whole : IsWhole tree old) (there : find nat_cmp c old.specs ≡ Some spec)
    (heads : head ≡ header_of message) (pays : payload ≡ payload_of message) where
  abbrev pub done_for : Header → List ℕ → KeptDone
  done_for h p = kept_act_or_refuse (store_in tree old) c (conn_in old c spec) h.tx_id (request_of all_types h.kind p (caller_of spec).domid)

  abbrev done : KeptDone
  done = done_for head payload

  steps_so : kept_step all_types (store_in tree old) (Asked c message) ≡ (done.store, (c, reply_message head done.reply) ∷ done.sends)
  steps_so =
      ap (kept_step_of all_types (store_in tree old) c message) (conns_found old.watched c old.specs ∙ ap (option_map (conn_at old.watched c)) there)
      ∙ (λ i. kept_answered c (sym heads i) (done_for (sym heads i) (sym pays i)))

  -- it is taken
  module _ (tree_new : KeptTree) (peers new : Connected) (answer : Answer) (sent : List ℕ) (did : Did c tree old done answer tree_new peers)
      (specs : new.specs ≡ peers.specs) (watched : new.watched ≡ peers.watched) (txns : new.txns ≡ peers.txns)
      (spelled : sent ≡ message_bytes (reply_message head answer.reply)) (pushed : unsent_of new.queues ≡ joined_by c sent answer.owed (unsent_of peers.queues)) where
    uncrowded : crowded (unsent_of new.queues) ≡ None
    uncrowded =
        ap crowded pushed
        ∙ crowded_joined c (reply_length answer.reply) sent answer.owed (ap length spelled ∙ reply_counts head answer.reply) (unsent_of peers.queues)
        ∙ did.uncrowded

    pub taken_sound : IsSound new
    taken_sound =
        let keys : map (λ e. e.0) peers.specs ≡ map (λ e. e.0) new.specs = ap (map (λ e. e.0)) (sym specs) in
        sound_kept new (subst IsSoundTable (sym specs) did.sound.table)
        (belong_same peers.specs new.specs peers.watched new.watched specs watched (belongs peers did.sound))
        (ap (map (λ e. e.0)) pushed ∙ at_keys (λ d bytes. bytes ++ sent_by c sent answer.owed d) (unsent_of peers.queues) ∙ ids_unsent peers did.sound ∙ keys)
        (ap (λ rows. map (λ e. e.0) (opens_of rows)) txns ∙ ids_open peers did.sound ∙ keys)
        (all_short (unsent_of new.queues) uncrowded)

    step_is : kept_step all_types (store_in tree old) (Asked c message) ≡ (store_in tree_new new, (c, reply_message head answer.reply) ∷ done.sends)
    step_is = steps_so ∙ (λ i. ((did.store ∙ sym (same_store tree_new peers new specs watched txns)) i, (c, reply_message head (sym did.reply i)) ∷ done.sends))

    pub taken_whole : length message ≤ 4112 → IsWhole tree_new new
    taken_whole short = record {
      sound = taken_sound;
      store = subst IsSoundStore (ap (λ (s : KeptStore × List Send). s.0) step_is) (steps_keep_sound all_types (store_in tree old) (Asked c message) short whole.store);
      counter = did.counter;
    }

    pub taken_steps : rests_of new.queues ≡ rests_of peers.queues → (globals : Globals) → Steps (kept_by tree old globals) c message answer.door (kept_by tree_new new globals)
    taken_steps rests globals =
        let unsent : Unsent = unsent_of old.queues in
        let conns : Connections = conns_of new.specs new.watched in
        let told : map (λ e. (e.0, unsent_to e.0 unsent)) conns ≡ unsent_of peers.queues =
        same_ids (λ k. unsent_to k unsent) conns peers.specs (conns_keys new.watched new.specs ∙ ap (map (λ e. e.0)) specs) ∙ sym did.unsent
        in
        let joined : unsent_after (stepped (kept_by tree old globals) c message) unsent ≡ unsent_of new.queues =
        ap (λ (s : KeptStore × List Send). unsent_after (s.0.machine, s.1) unsent) step_is
        ∙ joined_so c (reply_message head answer.reply) done.sends answer.owed unsent did.sends conns
        ∙ (λ i. joined_by c (sym spelled i) answer.owed (told i))
        ∙ sym pushed
        in
        record {
          store = sym (ap (λ (s : KeptStore × List Send). s.0) step_is);
          unsent = sym joined;
          rests = rests ∙ did.rests ∙ ap (λ es. rests_by es (rests_of old.queues)) (sym specs);
          globals = refl;
          uncrowded = ap crowded joined ∙ uncrowded;
          door = subst (λ es. IsDoor (conns_of old.specs old.watched) es answer.door) (λ i. conns_of (sym specs i) (sym watched i)) did.door;
        }

  -- or somebody would be crowded
  pub would_crowd : (tree_new : KeptTree) (peers : Connected) (d : ℕ) → IsCrowding c tree old done d tree_new peers → (globals : Globals) → crowded (unsent_after (stepped (kept_by tree old globals) c message) (unsent_of old.queues)) ≡ Some d
  would_crowd tree_new peers d k globals =
      let unsent : Unsent = unsent_of old.queues in
      let conns : Connections = done.store.machine.conns in
      ap crowded (ap (λ (s : KeptStore × List Send). unsent_after (s.0.machine, s.1) unsent) steps_so ∙ joined_so c (reply_message head done.reply) done.sends k.owed unsent k.sends conns)
      ∙ crowded_joined c (reply_length done.reply) (message_bytes (reply_message head done.reply)) k.owed (reply_counts head done.reply) (map (λ e. (e.0, unsent_to e.0 unsent)) conns)
      ∙ k.crowds

-- FOR EACH STORE that the daemon stands for
bare_unsent : (conns : Connections) (sends : List Send) (unsent : Unsent) → map {B = ℕ × List ℕ} (λ e. (e.0, unsent_to e.0 unsent ++ sent_to e.0 sends)) (bares conns) ≡ map (λ e. (e.0, unsent_to e.0 unsent ++ sent_to e.0 sends)) conns
bare_unsent [] sends unsent = refl
bare_unsent (e ∷ conns) sends unsent = ap (λ l. (e.0, unsent_to e.0 unsent ++ sent_to e.0 sends) ∷ l) (bare_unsent conns sends unsent)

module _ (old : Kept) (c : ℕ) (message : List ℕ) (bytes : List ℕ) (there : find nat_cmp c old.unsent ≡ Some bytes) (few : length bytes < HELD_LIMIT) (m : Machine) (stands : StandsFor old m) where
  abbrev after : Machine
  after = (step m (Asked c message)).0

  kept : IsKeptStep all_types m (Asked c message)
  kept = steps_kept laws all_types m (Asked c message) stands.followed stands.conn_ids

  store : kept_of after ≡ kept_after old c message
  store = kept.store ∙ ap (λ (k : KeptStore). (kept_step all_types k (Asked c message)).0) stands.same

  sends : (step m (Asked c message)).1 ≡ (stepped old c message).1
  sends = kept.sends ∙ ap (λ (k : KeptStore). (kept_step all_types k (Asked c message)).1) stands.same

  unsent : unsent_after (step m (Asked c message)) old.unsent ≡ unsent_after (stepped old c message) old.unsent
  unsent = sym (bare_unsent after.conns (step m (Asked c message)).1 old.unsent) ∙ (λ i. unsent_after ((store i).machine, sends i) old.unsent)

  pub takes : (new : Kept) (told : Door) → IsTable new.specs → map (λ e. e.0) new.unsent ≡ map (λ e. e.0) new.specs → map (λ e. e.0) new.rests ≡ map (λ e. e.0) new.specs → Steps old c message told new → Takes old m c message told new
  takes new told table ids rest_ids steps =
      let same : kept_of after ≡ store_of new = store ∙ sym steps.store in
      record {
        bytes = bytes;
        there = there;
        few = few;
        uncrowded = ap crowded unsent ∙ steps.uncrowded;
        stands = record {
          same = same;
          followed = step_keeps m stands.followed all_types (Asked c message);
          conn_ids = step_ids m stands.conn_ids all_types (Asked c message);
          table = table;
          ids = ids;
          rest_ids = rest_ids;
        };
        unsent = steps.unsent ∙ sym unsent;
        rests = steps.rests;
        globals = steps.globals;
        door = door_of_bare m.conns after.conns (step_shape m stands.conn_ids all_types c message) told
            (subst (λ (k : KeptStore). IsDoor (bares m.conns) k.machine.conns told) (sym same)
            (subst (λ (k : KeptStore). IsDoor k.machine.conns (conns_of new.specs new.watched) told) (sym stands.same) steps.door));
      }

  pub crowds : (new : Kept) (d : ℕ) → crowded (unsent_after (stepped old c message) old.unsent) ≡ Some d → new ≡ old → IsCrowded old m c message d new
  crowds new d would same = record {
    bytes = bytes;
    there = there;
    few = few;
    crowds = ap crowded unsent ∙ would;
    same = same;
  }
