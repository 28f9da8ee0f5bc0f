-- What a request did, by what the code holds of it.
use Rattle.std.proofs.Common.{◌≡◌, ℕ, ◌≤◌, Bool, true, false, List, [], ◌∷◌, length, Some, Result, Ok, Err, IfOk, OnErr, IsErr, refl, sym, ap, subst, ◌∙◌, arith, length-append}
use Rattle.std.specs.Ordering.{nat_cmp}
use Rattle.std.specs.FinMap.{find}
use Rattle.xs_model.specs.declared.message.WireErr.{WireErr}
use Rattle.xs_model.specs.Paths.{text, home}
use Rattle.xs_model.specs.Trees.{Tree}
use Rattle.xs_model.specs.Messages.{string}
use Rattle.xs_model.specs.Requests.{request_of, all_types}
use Rattle.xs_model.specs.Generations.{Generations, greatest}
use Rattle.xs_model.proofs.LengthLemmas.{home-length}
use Rattle.xs_model.proofs.Maps.{all_found}
use Rattle.machine_model.specs.declared.ConnSpec.{ConnSpec}
use Rattle.machine_model.specs.declared.ConnSpec.TheVariants.{Ring, Socket}
use Rattle.machine_model.specs.Connections.{caller_of}
use Rattle.machine_model.specs.Machine.{Machine, Done, introduced_payload}
use Rattle.mark_model.specs.Stores.{KeptStore, beside, kept_refused, kept_act_or_refuse, opens_by}
use Rattle.node_tree.specs.KeptTree.{KeptTree}
use Rattle.daemon.specs.declared.answer.Door.TheVariants.{Same}
use Rattle.daemon.specs.declared.reply.Answer.{Answer}
use Rattle.daemon.specs.declared.reply.Answered.{Answered}
use Rattle.daemon.specs.declared.reply.Answered.TheVariants as answered
use Rattle.daemon.specs.Keeps.{machine_of}
use Rattle.conn_rows.specs.Rows.{opens_of}
use Rattle.conn_rows.specs.Queued.{unsent_of, rests_of}
use Rattle.conn_rows.specs.Sending.{HasRoomFor, crowding}
use Rattle.daemon.specs.Peers.{Connected, IsSound, IsInBounds, MayAsk, conns_in, conn_in, message_limit}
use Rattle.daemon.specs.Acts.{unsent_by, rests_by, reply_length, IsDoor, Did, DidBeside, IsAnswered, IsAnsweredBeside, IsAsBefore, IsSameKept, store_in}
use Rattle.daemon.proofs.QuietLemmas.{reply_fits, quiet_sends, quiet_room, quiet_crowding}
use Rattle.daemon.proofs.UnsentLemmas.{unsent_same, rests_same, opens_same}
use Rattle.daemon.proofs.DoneLemmas.{has_refused}

-- this reply, and nothing sent
abbrev pub answering : Result (List ℕ) WireErr → Machine → Done
answering reply m = record { reply = reply; machine = m; sends = [] }

module _ (c : ℕ) (peers : Connected) (sound : IsSound peers) (may : MayAsk c peers) (done : Done) (reply : Result (List ℕ) WireErr) (short : IfOk reply (λ payload. length payload ≤ 4096)) (answer : Answer) (replied : answer.reply ≡ reply) (owes : answer.owed ≡ []) where
  -- other connections, and nothing is owed
  pub did : (tree : Tree) (gens : Generations) (new : Connected) → done ≡ answering reply (machine_of tree gens new.specs new.watched) → opens_of new.txns ≡ opens_by (conns_in new) (opens_of peers.txns)
      → IsDoor (conns_in peers) (conns_in new) answer.door → unsent_of new.queues ≡ unsent_by new.specs (unsent_of peers.queues)
      → rests_of new.queues ≡ rests_by new.specs (rests_of peers.queues) → new.queues ≡ peers.queues → IsSound new
      → DidBeside c peers done tree gens answer new
  did tree gens new acted opens door unsent rests queues sound_new = subst (λ d. DidBeside c peers d tree gens answer new) (sym acted) (record {
    reply = replied;
    machine = refl;
    sends = quiet_sends answer.owed [] owes refl;
    opens = opens;
    door = door;
    unsent = unsent;
    rests = rests;
    room = subst (HasRoomFor c message_limit answer.owed) (sym queues) (quiet_room c peers may answer.owed owes);
    uncrowded = ap (λ qs. crowding c (reply_length answer.reply) answer.owed (unsent_of qs)) queues
        ∙ quiet_crowding c peers may answer.owed owes sound (reply_length answer.reply) (reply_fits answer.reply (subst (λ r. IfOk r (λ payload. length payload ≤ 4096)) (sym replied) short));
    sound = sound_new;
  })

  -- all connections are as they were
  pub did_same : (tree : Tree) (gens : Generations) → done ≡ answering reply (machine_of tree gens peers.specs peers.watched) → answer.door ≡ Same → DidBeside c peers done tree gens answer peers
  did_same tree gens acted door = did tree gens peers acted (opens_same peers sound peers.specs peers.watched refl)
      (subst (IsDoor (conns_in peers) (conns_in peers)) (sym door) refl)
      (unsent_same peers sound peers.specs refl) (rests_same peers sound peers.specs refl) refl sound

-- IN THE STORE THAT IS KEPT
pub did_beside : (c : ℕ) (tree : KeptTree) (peers : Connected) (done : Done) (answer : Answer) (new : Connected) → tree.counter ≡ greatest tree.gens → DidBeside c peers done tree.nodes tree.gens answer new
    → Did c tree peers (beside (store_in tree peers) done) answer tree new
did_beside c tree peers done answer new counter d = record {
  reply = d.reply;
  store = λ i. record { machine = d.machine i; opens = (ap (λ (m : Machine). opens_by m.conns (opens_of peers.txns)) d.machine ∙ sym d.opens) i };
  sends = d.sends;
  counter = counter;
  door = d.door;
  unsent = d.unsent;
  rests = d.rests;
  room = d.room;
  uncrowded = d.uncrowded;
  sound = d.sound;
}

-- the same is kept
pub same_kept : (tree : KeptTree) (peers new : Connected) → IsSameKept peers new → IsAsBefore tree peers tree new
same_kept tree peers new same = record { nodes = refl; gens = refl; counter = refl; conns = same }

pub same_equal : (peers new : Connected) → new ≡ peers → IsSameKept peers new
same_equal peers new same = record {
  specs = ap (λ (p : Connected). p.specs) same;
  watched = ap (λ (p : Connected). p.watched) same;
  opens = ap (λ (p : Connected). opens_of p.txns) same;
  unsent = ap (λ (p : Connected). unsent_of p.queues) same;
  rests = ap (λ (p : Connected). rests_of p.queues) same;
}

pub answered_beside : (c : ℕ) (tree : KeptTree) (peers : Connected) (done : Done) (what : Answered) (new : Connected) → tree.counter ≡ greatest tree.gens → IsAnsweredBeside c peers done tree.nodes tree.gens what new
    → IsAnswered c tree peers (beside (store_in tree peers) done) what tree new
answered_beside c tree peers done (answered.Done answer) new counter d = did_beside c tree peers done answer new counter d
answered_beside c tree peers done (answered.Crowded e) new counter d = record {
  owed = d.owed;
  sends = d.sends;
  crowds = d.crowds;
  unchanged = same_kept tree peers new d.unchanged;
}

-- a refusal, by which nothing changes
pub did_refuse : (c : ℕ) (tree : KeptTree) (peers : Connected) (error : WireErr) (answer : Answer) → tree.counter ≡ greatest tree.gens → IsSound peers → MayAsk c peers → answer.reply ≡ Err error → answer.door ≡ Same → answer.owed ≡ []
    → Did c tree peers (kept_refused error (store_in tree peers)) answer tree peers
did_refuse c tree peers error answer counter sound may replied door owes =
    has_refused c tree peers sound (kept_refused error (store_in tree peers)) answer replied door may owes refl (subst (λ r. IfOk r (λ payload. length payload ≤ 4096)) (sym replied) tt) refl counter

-- WHO ASKS acts for a domid
pub asker_bound : (c : ℕ) (spec : ConnSpec) (peers : Connected) → IsSound peers → find nat_cmp c peers.specs ≡ Some spec → (caller_of spec).domid ≤ 32751
asker_bound c spec peers sound there = by spec (all_found nat_cmp IsInBounds c peers.specs spec sound.table.bounds there)
  where
    by : (spec : ConnSpec) → IsInBounds spec → (caller_of spec).domid ≤ 32751
    by (Ring domid target evtchn) h = h.0
    by (Socket fd) h = omega arith

pub home_is_short : (domid : ℕ) → length (string (text (home domid))) ≤ 4096
home_is_short domid = omega (arith, length-append (text (home domid)) (0 ∷ []), home-length domid)

pub introduced_short : (there : Bool) → length (introduced_payload there) ≤ 4096
introduced_short true = omega arith
introduced_short false = omega arith

-- a request that is refused by its type or its form
pub refused_request : (c : ℕ) (spec : ConnSpec) (tx kind : ℕ) (payload : List ℕ) (domid : ℕ) (error : WireErr) (tree : KeptTree) (peers : Connected) (answer : Answer)
    → tree.counter ≡ greatest tree.gens → IsSound peers → MayAsk c peers → answer.reply ≡ Err error → answer.door ≡ Same → answer.owed ≡ []
    → domid ≡ (caller_of spec).domid → request_of all_types kind payload domid ≡ Err error
    → Did c tree peers (kept_act_or_refuse (store_in tree peers) c (conn_in peers c spec) tx (request_of all_types kind payload (caller_of spec).domid)) answer tree peers
refused_request c spec tx kind payload domid error tree peers answer counter sound may replied door owes asks asked =
    let k : KeptStore = store_in tree peers in
    subst (λ r. Did c tree peers (kept_act_or_refuse k c (conn_in peers c spec) tx r) answer tree peers)
    (sym (ap (request_of all_types kind payload) (sym asks) ∙ asked)) (did_refuse c tree peers error answer counter sound may replied door owes)

-- WHAT WAS DONE where nobody can be crowded
pub done_answered : {E : Type 0} (P : Answer → Type 0) (Q : Answered → Type 0) (r : Result Answer E) (q : Result Answered E) → IfOk r (λ answer. q ≡ Ok (answered.Done answer)) → OnErr r (IsErr q) → IfOk r P → ((answer : Answer) → P answer → Q (answered.Done answer)) → IfOk q Q
done_answered P Q (Ok answer) q is err p to = subst (λ x. IfOk x Q) (sym is) (to answer p)
done_answered P Q (Err e) (Err f) is err p to = tt
done_answered P Q (Err e) (Ok a) is err p to = let bad : false ≡ true = err in cc

-- three facts of it
pub record Three (P Q R : Answer → Type 0) (answer : Answer) : Type 0 where
  pub first : P answer
  pub second : Q answer
  pub third : R answer

pub all_three : {E : Type 0} (P Q R : Answer → Type 0) (r : Result Answer E) → IfOk r P → IfOk r Q → IfOk r R → IfOk r (Three P Q R)
all_three P Q R (Ok answer) p q s = record { first = p; second = q; third = s }
all_three P Q R (Err e) p q s = tt
