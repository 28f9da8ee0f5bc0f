-- A request that is taken or not, once there is memory for its reply.
use Rattle.std.proofs.Common.{◌≡◌, ℕ, ◌<◌, ◌≤◌, List, length, Some, sym, ap, subst, ◌∙◌}
use Rattle.std.specs.Ordering.{nat_cmp}
use Rattle.std.specs.FinMap.{find}
use Rattle.xs_model.specs.declared.message.Header.{Header}
use Rattle.xs_model.specs.Messages.{message_bytes, header_of, payload_of}
use Rattle.xs_model.specs.Requests.{request_of, all_types}
use Rattle.machine_model.specs.declared.bounds.TheConstants.{HELD_LIMIT}
use Rattle.machine_model.specs.declared.ConnSpec.{ConnSpec}
use Rattle.machine_model.specs.declared.Globals.{Globals}
use Rattle.machine_model.specs.Connections.{caller_of}
use Rattle.machine_model.specs.Machine.{Machine, reply_message}
use Rattle.mark_model.specs.Stores.{KeptDone, kept_act_or_refuse}
use Rattle.node_tree.specs.KeptTree.{KeptTree}
use Rattle.conn_rows.specs.Rows.{opens_of}
use Rattle.conn_rows.specs.Queued.{unsent_of, rests_of}
use Rattle.conn_rows.specs.Sending.{HasRoomFor, joined_by}
use Rattle.store_parts.specs.Kept.{Kept}
use Rattle.daemon.specs.declared.answer.Submit.TheVariants as submit
use Rattle.daemon.specs.declared.reply.Answer.{Answer}
use Rattle.daemon.specs.declared.reply.Answered.{Answered}
use Rattle.daemon.specs.declared.reply.Answered.TheVariants as answered
use Rattle.daemon.specs.Keeps.{StandsFor}
use Rattle.daemon.specs.Peers.{Connected, IsSound, conn_in, message_limit}
use Rattle.daemon.specs.Acts.{kept_by, store_in, IsWhole, Did, IsCrowding, IsAnswered, IsAsBefore}
use Rattle.daemon.specs.Submits.{Steps, StepsIfDone, Submits, Takes}
use Rattle.daemon.proofs.PeerLemmas.{ids_unsent, ids_rests}
use Rattle.daemon.proofs.SubmitLemmas.{same_kept, kept_as_before}
use Rattle.daemon.proofs.SendLemmas.{room_shorter}
use Rattle.daemon.proofs.WholeLemmas.{whole_same, whole_as_before}
use Rattle.daemon.proofs.TakenLemmas.{there_unsent, taken_sound, taken_steps, taken_whole, would_crowd, takes, crowds}

-- the connections before memory was taken, and now: one of them asks, to which few bytes are unsent
pub record IsReserved (c : ℕ) (spec : ConnSpec) (tree : KeptTree) (before now : Connected) : Type 0 where
  pub whole : IsWhole tree before
  pub there : find nat_cmp c before.specs ≡ Some spec
  pub few : (bytes : List ℕ) → find nat_cmp c (unsent_of before.queues) ≡ Some bytes → length bytes < HELD_LIMIT
  pub specs : now.specs ≡ before.specs
  pub watched : now.watched ≡ before.watched
  pub bytes : unsent_of now.queues ≡ unsent_of before.queues
  pub rests : rests_of now.queues ≡ rests_of before.queues
  pub txns : now.txns ≡ before.txns
  pub sound : IsSound before → IsSound now

module _ (c : ℕ) (spec : ConnSpec) (tree : KeptTree) (before old : Connected) (was : IsReserved c spec tree before old) where
  still_there : find nat_cmp c old.specs ≡ Some spec
  still_there = ap (find nat_cmp c) was.specs ∙ was.there

  pub still_whole : IsWhole tree old
  still_whole = whole_same tree before was.whole old (was.sound was.whole.sound) was.specs was.watched was.txns

  kept : (globals : Globals) → kept_by tree old globals ≡ kept_by tree before globals
  kept globals = same_kept tree globals before old was.specs was.watched was.txns was.bytes was.rests

  had : (bytes : List ℕ) × (find nat_cmp c (unsent_of old.queues) ≡ Some bytes)
  had = there_unsent old still_whole.sound c spec still_there

  few_here : length had.0 < HELD_LIMIT
  few_here = was.few had.0 (ap (find nat_cmp c) (sym was.bytes) ∙ had.1)

  -- no memory, and nothing has changed
  pub refused_whole : (tree_new : KeptTree) (peers : Connected) → IsAsBefore tree old tree_new peers → IsWhole tree_new peers
  refused_whole tree_new peers same = whole_as_before tree old still_whole tree_new peers same

  pub refused_before : (tree_new : KeptTree) (peers : Connected) → IsAsBefore tree old tree_new peers → IsAsBefore tree before tree_new peers
  refused_before tree_new peers same = record {
    nodes = same.nodes;
    gens = same.gens;
    counter = same.counter;
    conns = record {
      specs = same.conns.specs ∙ was.specs;
      watched = same.conns.watched ∙ was.watched;
      opens = same.conns.opens ∙ (λ i. opens_of (was.txns i));
      unsent = same.conns.unsent ∙ was.bytes;
      rests = same.conns.rests ∙ was.rests;
    };
  }

  module _ (head : Header) (payload message : List ℕ) (heads : head ≡ header_of message) (pays : payload ≡ payload_of message) where
    abbrev done : KeptDone
    done = kept_act_or_refuse (store_in tree old) c (conn_in old c spec) head.tx_id (request_of all_types head.kind payload (caller_of spec).domid)

    module _ (tree_new : KeptTree) (peers : Connected) (what : Answered) (told : IsAnswered c tree old done what tree_new peers) where
      -- SOMEBODY would have too many bytes unsent
      module _ (d : ℕ) (is : what ≡ answered.Crowded d) where
        crowding : IsCrowding c tree old done d tree_new peers
        crowding = subst (λ w. IsAnswered c tree old done w tree_new peers) is told

        pub crowded_steps : (globals : Globals) → StepsIfDone (kept_by tree before globals) c message (kept_by tree_new peers globals) (submit.Crowded d)
        crowded_steps globals =
            subst (λ (k : Kept). StepsIfDone k c message (kept_by tree_new peers globals) (submit.Crowded d)) (kept globals)
            (would_crowd tree old c spec head payload message still_whole still_there heads pays tree_new peers d crowding globals, kept_as_before tree old tree_new peers crowding.unchanged globals)

        pub crowded_submits : (globals : Globals) → Submits (kept_by tree before globals) c message (kept_by tree_new peers globals) (submit.Crowded d)
        crowded_submits globals =
            subst (λ (k : Kept). Submits k c message (kept_by tree_new peers globals) (submit.Crowded d)) (kept globals)
            (λ m stands. crowds (kept_by tree old globals) c message had.0 had.1 few_here m stands (kept_by tree_new peers globals) d
            (would_crowd tree old c spec head payload message still_whole still_there heads pays tree_new peers d crowding globals) (kept_as_before tree old tree_new peers crowding.unchanged globals))

        pub crowded_whole : IsWhole tree_new peers
        crowded_whole = refused_whole tree_new peers crowding.unchanged

      -- IT IS TAKEN
      module _ (answer : Answer) (is : what ≡ answered.Done answer) where
        did : Did c tree old done answer tree_new peers
        did = subst (λ w. IsAnswered c tree old done w tree_new peers) is told

        pub room_for_reply : (n : ℕ) → n ≤ message_limit → HasRoomFor c n answer.owed peers.queues
        room_for_reply n fits = room_shorter c message_limit n answer.owed peers.queues fits did.room

        module _ (sent : List ℕ) (spelled : sent ≡ message_bytes (reply_message head answer.reply)) (new : Connected) (specs : new.specs ≡ peers.specs) (watched : new.watched ≡ peers.watched) (txns : new.txns ≡ peers.txns)
            (pushed : unsent_of new.queues ≡ joined_by c sent answer.owed (unsent_of peers.queues)) where
          pub done_whole : length message ≤ 4112 → IsWhole tree_new new
          done_whole = taken_whole tree old c spec head payload message still_whole still_there heads pays tree_new peers new answer sent did specs watched txns spelled pushed

          module _ (rests : rests_of new.queues ≡ rests_of peers.queues) (globals : Globals) where
            steps : Steps (kept_by tree old globals) c message answer.door (kept_by tree_new new globals)
            steps = taken_steps tree old c spec head payload message still_whole still_there heads pays tree_new peers new answer sent did specs watched txns spelled pushed rests globals

            pub done_steps : Steps (kept_by tree before globals) c message answer.door (kept_by tree_new new globals)
            done_steps = subst (λ (k : Kept). Steps k c message answer.door (kept_by tree_new new globals)) (kept globals) steps

            pub done_submits : (m : Machine) → StandsFor (kept_by tree before globals) m → Takes (kept_by tree before globals) m c message answer.door (kept_by tree_new new globals)
            done_submits =
                let sound : IsSound new = taken_sound tree old c spec head payload message still_whole still_there heads pays tree_new peers new answer sent did specs watched txns spelled pushed in
                subst (λ (k : Kept). (m : Machine) → StandsFor k m → Takes k m c message answer.door (kept_by tree_new new globals)) (kept globals)
                (λ m stands. takes (kept_by tree old globals) c message had.0 had.1 few_here m stands (kept_by tree_new new globals) answer.door sound.table.table (ids_unsent new sound) (ids_rests new sound) steps)
