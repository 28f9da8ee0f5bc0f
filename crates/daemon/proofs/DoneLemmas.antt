-- What a request on the tree and on transactions did, by what the code holds of it.
use Rattle.std.proofs.Common.{◌≡◌, ℕ, ◌≤◌, List, [], map, length, Option, None, IfOk, refl, sym, ap, subst, ◌∙◌}
use Rattle.std.specs.List.{AllByRecursion}
use Rattle.xs_model.specs.Changes.{changed_paths}
use Rattle.xs_model.specs.Generations.{greatest, stamped}
use Rattle.xs_model.specs.Paths.{Path}
use Rattle.xs_model.specs.Trees.{Tree}
use Rattle.machine_model.specs.declared.bounds.TheConstants.{CROWD_LIMIT}
use Rattle.machine_model.specs.History.{Unsent, sent_to, unsent_to}
use Rattle.machine_model.specs.Machine.{change_sends}
use Rattle.mark_model.specs.Marks.{Marks, committed, written_paths}
use Rattle.mark_model.specs.Stores.{KeptDone, Opens, noted_all, changed_store}
use Rattle.conn_table.specs.Tables.{Specs}
use Rattle.node_tree.specs.KeptTree.{KeptTree}
use Rattle.out_queues.specs.Queues.{Queue}
use Rattle.watchers.specs.Watched.{Watched, conns_of}
use Rattle.daemon.specs.declared.answer.Door.TheVariants.{Same}
use Rattle.daemon.specs.declared.reply.Answer.{Answer}
use Rattle.daemon.specs.Keeps.{machine_of}
use Rattle.conn_rows.specs.Rows.{Rows, opens_in, opens_of}
use Rattle.conn_rows.specs.Queued.{unsent_of, rests_of}
use Rattle.conn_rows.specs.Sending.{HasRoomFor, crowding}
use Rattle.daemon.specs.Peers.{Connected, IsSoundTable, IsSound, MayAsk, conns_in, message_limit}
use Rattle.daemon.specs.Acts.{reply_length, IsDoor, Did, IsAsBefore, store_in}
use Rattle.daemon.specs.Changes.{IsChanged, IsUnchanged, IsOwed}
use Rattle.conn_rows.proofs.IdEntries.{keys_map}
use Rattle.daemon.proofs.KeepsLemmas.{conns_keys}
use Rattle.daemon.proofs.PeerLemmas.{connected, belong_same, belongs, ids_unsent, short_unsent}
use Rattle.daemon.proofs.QuietLemmas.{reply_fits, quiet_sends, quiet_room, quiet_crowding}
use Rattle.daemon.proofs.UnsentLemmas.{unsent_same, rests_same}
use Rattle.daemon.proofs.WholeLemmas.{sound_kept}
use Rattle.daemon.proofs.OpenTxns.{ids_noted}

module _ (c : ℕ) (tree : KeptTree) (peers : Connected) (sound : IsSound peers) (done : KeptDone) (answer : Answer) (replied : answer.reply ≡ done.reply) (same_door : answer.door ≡ Same) where
  -- other transactions of the same connections, with the same bytes unsent
  pub has_sent : (left : KeptTree) (new : Connected) → new.specs ≡ peers.specs → new.watched ≡ peers.watched → unsent_of new.queues ≡ unsent_of peers.queues → rests_of new.queues ≡ rests_of peers.queues
      → map (λ e. e.0) (opens_of new.txns) ≡ map (λ e. e.0) peers.specs
      → done.store ≡ store_in left new → left.counter ≡ greatest left.gens
      → ((d : ℕ) → sent_to d done.sends ≡ unsent_to d answer.owed) → HasRoomFor c message_limit answer.owed new.queues → crowding c (reply_length answer.reply) answer.owed (unsent_of peers.queues) ≡ None
      → Did c tree peers done answer left new
  has_sent left new specs watched bytes rests ids stored counted sends room uncrowded =
      let same : map (λ e. e.0) new.specs ≡ map (λ e. e.0) peers.specs = ap (λ (ss : Specs). map (λ e. e.0) ss) specs in
      record {
        reply = replied;
        store = stored;
        sends = sends;
        counter = counted;
        door = subst (IsDoor (conns_in peers) (conns_in new)) (sym same_door) (conns_keys new.watched new.specs ∙ same ∙ sym (conns_keys peers.watched peers.specs));
        unsent = bytes ∙ unsent_same peers sound new.specs same;
        rests = rests ∙ rests_same peers sound new.specs same;
        room = room;
        uncrowded = ap (crowding c (reply_length answer.reply) answer.owed) bytes ∙ uncrowded;
        sound = sound_kept new (subst IsSoundTable (sym specs) sound.table)
            (belong_same peers.specs new.specs peers.watched new.watched specs watched (belongs peers sound))
            (ap (λ (es : Unsent). map (λ e. e.0) es) bytes ∙ ids_unsent peers sound ∙ sym same)
            (ids ∙ sym same)
            (subst (AllByRecursion (λ e. length e.1 ≤ CROWD_LIMIT)) (sym bytes) (short_unsent peers.queues sound.short));
      }

  -- nothing is owed
  module _ (may : MayAsk c peers) (owes : answer.owed ≡ []) (none_sent : done.sends ≡ []) (short : IfOk answer.reply (λ payload. length payload ≤ 4096)) where
    pub has_done : (left : KeptTree) (new : Connected) → new.specs ≡ peers.specs → new.watched ≡ peers.watched → new.queues ≡ peers.queues → map (λ e. e.0) (opens_of new.txns) ≡ map (λ e. e.0) peers.specs
        → done.store ≡ store_in left new → left.counter ≡ greatest left.gens → Did c tree peers done answer left new
    has_done left new specs watched queues ids stored counted =
        has_sent left new specs watched (ap (λ (qs : List (ℕ × Queue)). unsent_of qs) queues) (ap (λ (qs : List (ℕ × Queue)). rests_of qs) queues) ids stored counted
        (quiet_sends answer.owed done.sends owes none_sent)
        (subst (HasRoomFor c message_limit answer.owed) (sym queues) (quiet_room c peers may answer.owed owes))
        (quiet_crowding c peers may answer.owed owes sound (reply_length answer.reply) (reply_fits answer.reply short))

    -- all is as it was
    pub has_refused : done.store ≡ store_in tree peers → tree.counter ≡ greatest tree.gens → Did c tree peers done answer tree peers
    has_refused stored counted = has_done tree peers refl refl refl (keys_map opens_in peers.txns ∙ sound.rows) stored counted

-- A CHANGE of what is kept is one of the store
module _ (marks : Marks) (old new : KeptTree) (rows left : Rows) (is : IsChanged marks old rows new left) where
  pub store_changed : (specs : Specs) (watched : Watched) → changed_store (committed old.nodes marks) (written_paths marks) (record { machine = machine_of old.nodes old.gens specs watched; opens = opens_of rows.txns }) ≡ store_in new (connected specs watched left)
  store_changed specs watched =
      let paths : List Path = written_paths marks in
      let numbers = ap (λ (n : Tree). stamped old.gens old.nodes paths n) (sym is.nodes) ∙ sym is.gens in
      let noted = ap (λ (n : Tree). noted_all old.nodes (changed_paths old.nodes paths n) (opens_of rows.txns)) (sym is.nodes) ∙ sym is.opens in
      λ i. record { machine = record { tree = sym is.nodes i; gens = numbers i; conns = conns_of specs watched }; opens = noted i }

  pub ids_changed : map (λ e. e.0) (opens_of left.txns) ≡ map (λ e. e.0) (opens_of rows.txns)
  ids_changed =
      ap (λ (os : List (ℕ × Opens)). map (λ e. e.0) os) is.opens
      ∙ ids_noted old.nodes (changed_paths old.nodes (written_paths marks) new.nodes) (opens_of rows.txns)

-- a commit that was planned is such a change
pub is_changed : (marks used : Marks) → used ≡ marks → (old ready new : KeptTree) → ready.nodes ≡ old.nodes → ready.gens ≡ old.gens
    → new.nodes ≡ committed ready.nodes used → new.gens ≡ stamped ready.gens ready.nodes (written_paths used) new.nodes → new.counter ≡ greatest new.gens
    → (changed : List Path) → changed ≡ changed_paths ready.nodes (written_paths marks) (committed ready.nodes marks)
    → (rows left : Rows) (opens : List (ℕ × Opens)) → opens_of left.txns ≡ noted_all ready.nodes changed opens → opens ≡ opens_of rows.txns → unsent_of left.queues ≡ unsent_of rows.queues → rests_of left.queues ≡ rests_of rows.queues
    → IsChanged marks old rows new left
is_changed marks used same old ready new nodes gens made numbered counted changed planned rows left opens noted kept unsent rests =
    let made_it = made ∙ (λ i. committed (nodes i) (same i)) in
    record {
      nodes = made_it;
      gens = numbered ∙ (λ i. stamped (gens i) (nodes i) (written_paths (same i)) new.nodes);
      counter = counted;
      opens = noted
          ∙ (λ i. noted_all (nodes i) (planned i) (kept i))
          ∙ (λ i. noted_all old.nodes (changed_paths (nodes i) (written_paths marks) (committed (nodes i) marks)) (opens_of rows.txns))
          ∙ ap (λ (n : Tree). noted_all old.nodes (changed_paths old.nodes (written_paths marks) n) (opens_of rows.txns)) (sym made_it);
      unsent = unsent;
      rests = rests;
    }

-- nothing has changed but memory
pub kept_unchanged : (tree : KeptTree) (specs : Specs) (watched : Watched) (rows : Rows) (new : KeptTree) (left : Rows) → IsUnchanged tree rows new left → IsAsBefore tree (connected specs watched rows) new (connected specs watched left)
kept_unchanged tree specs watched rows new left same = record {
  nodes = same.nodes;
  gens = same.gens;
  counter = same.counter;
  conns = record { specs = refl; watched = refl; opens = same.opens; unsent = same.unsent; rests = same.rests };
}

-- what a change owes to a tree with the same nodes
pub owed_on : (asker n : ℕ) (marks : Marks) (specs : Specs) (watched : Watched) (ready old : KeptTree) → ready.nodes ≡ old.nodes → (rows : Rows) (owed : Unsent) (who : Option ℕ)
    → IsOwed asker n marks specs watched ready rows owed who → IsOwed asker n marks specs watched old rows owed who
owed_on asker n marks specs watched ready old same rows owed who is = record {
  owes = λ c. (λ i. sent_to c (change_sends (sym same i) (written_paths marks) (committed (sym same i) marks) (conns_of specs watched))) ∙ is.owes c;
  crowds = is.crowds;
}
