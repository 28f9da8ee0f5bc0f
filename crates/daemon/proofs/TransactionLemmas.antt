-- What the start and the end of a transaction do.
use Rattle.std.proofs.Common.{◌≡◌, ◌≢◌, ℕ, ◌≤◌, ◌<◌, ◌==◌, Bool, true, false, cond, not, nat_le, List, [], ◌∷◌, map, length, Option, Some, None, is_some, Result, Ok, Err, IfOk, decimal, refl, sym, ap, subst, ◌∙◌, arith, ne_eqb, length-append}
use Rattle.std.proofs.lemmas.Bool.{le-leb, lt-leb}
use Rattle.std.specs.Borrow.{Bor}
use Rattle.std.specs.Option.{option_map, option_copied}
use Rattle.std.specs.Ordering.{nat_cmp}
use Rattle.std.specs.FinMap.{find, put}
use Rattle.xs_model.specs.declared.message.WireErr.{WireErr}
use Rattle.xs_model.specs.declared.message.WireErr.TheVariants.{Enoent, Enospc, Ebusy, Eagain}
use Rattle.xs_model.specs.Generations.{greatest}
use Rattle.xs_model.specs.Messages.{string, ok_payload}
use Rattle.xs_model.specs.Trees.{Tree, IsTree}
use Rattle.xs_model.proofs.LengthLemmas.{decimal-length}
use Rattle.xs_model.proofs.Maps.{length_map}
use Rattle.machine_model.specs.declared.ConnSpec.{ConnSpec}
use Rattle.machine_model.specs.Connections.{least_free}
use Rattle.machine_model.specs.History.{unsent_to}
use Rattle.machine_model.specs.Machine.{transaction_limit}
use Rattle.machine_model.specs.Transactions.{Transaction, is_in_conflict}
use Rattle.machine_model.specs.Serial.{IsOpenOver}
use Rattle.machine_model.proofs.OpenLemmas.{commit_tree}
use Rattle.mark_model.specs.Marks.{committed, written_paths, has_conflict}
use Rattle.mark_model.specs.Open.{marks_of, begun}
use Rattle.mark_model.specs.Stores.{KeptStore, KeptDone, KeptTransaction, IsKeptTransaction, Opens, opens_of as opens_at, no_marks, without_open, with_opens, kept_start, kept_close, kept_refused, kept_replied, kept_change, changed_store}
use Rattle.mark_model.proofs.MarkBegunLemmas.{begun_marks, begun_open}
use Rattle.mark_model.proofs.MarkTellLemmas.{conflicts_agree, commits_agree}
use Rattle.mark_model.proofs.StoreMaps.{free_values}
use Rattle.conn_table.specs.Tables.{Specs}
use Rattle.node_tree.specs.KeptTree.{KeptTree}
use Rattle.txn_access.specs.Txns.{Txn}
use Rattle.daemon.specs.declared.answer.Door.TheVariants.{Same}
use Rattle.daemon.specs.declared.reply.Answer.{Answer}
use Rattle.daemon.specs.Keeps.{machine_of}
use Rattle.conn_rows.specs.Rows.{Rows, Txns, kept_txn, opens_in, opens_of, txns_of}
use Rattle.watchers.specs.Watched.{Watched, conns_of}
use Rattle.conn_rows.specs.Queued.{unsent_of}
use Rattle.conn_rows.specs.Sending.{crowding}
use Rattle.daemon.specs.Peers.{Connected, IsSound, MayAsk, conn_in}
use Rattle.daemon.specs.Acts.{reply_length, Did, IsCrowding, store_in}
use Rattle.daemon.specs.Changes.{IsMade, WouldCrowd, without_txn}
use Rattle.conn_rows.proofs.IdEntries.{keys_map}
use Rattle.daemon.proofs.KeepsLemmas.{conns_keys}
use Rattle.daemon.proofs.ValueLemmas.{same_ids}
use Rattle.daemon.proofs.UnsentLemmas.{unsent_same}
use Rattle.daemon.proofs.PeerLemmas.{connected}
use Rattle.daemon.proofs.OpenTxns.{without, opens_found, open_found, opens_closed, ids_put}
use Rattle.daemon.proofs.DoneLemmas.{has_sent, has_done, has_refused, store_changed, ids_changed, kept_unchanged}

-- the payload of a number
pub number_short : (n : ℕ) → length (string (decimal n)) ≤ 4096
number_short n = omega (arith, length-append (decimal n) (0 ∷ []), decimal-length n)

-- A COMMIT WITHOUT CONFLICT makes a tree
module _ (tree : Tree) (t : KeptTransaction) (is : IsTree tree) (kept : IsKeptTransaction tree t) (free : has_conflict t.marks ≡ false) where
  abbrev goes_on : Transaction
  goes_on = begun tree t.marks t.count

  same_marks : marks_of goes_on ≡ t.marks
  same_marks = begun_marks tree t.marks t.count kept.marks.rising

  over : IsOpenOver tree goes_on
  over = begun_open tree t.marks t.count kept.marks

  free_too : is_in_conflict goes_on ≡ false
  free_too = sym (conflicts_agree goes_on) ∙ ap has_conflict same_marks ∙ free

  pub commit_is_tree : IsTree (committed tree t.marks)
  commit_is_tree = subst IsTree (sym (commits_agree tree goes_on is over free_too) ∙ ap (committed tree) same_marks) (commit_tree tree goes_on is over free_too)

-- START
module _ (c tx : ℕ) (tree : KeptTree) (specs : Specs) (watched : Watched) (rows : Rows) (sound : IsSound (connected specs watched rows)) (may : MayAsk c (connected specs watched rows)) (counted : tree.counter ≡ greatest tree.gens) (spec : ConnSpec) (answer : Answer) (door : answer.door ≡ Same) (owes : answer.owed ≡ []) where
  abbrev store : KeptStore
  store = store_in tree (connected specs watched rows)

  abbrev here : Opens
  here = opens_at c (opens_of rows.txns)

  abbrev begin : KeptDone
  begin = kept_start store c (conn_in (connected specs watched rows) c spec) tx here

  abbrev opened : KeptDone
  opened = kept_replied (string (decimal (least_free here))) (with_opens c (put nat_cmp (least_free here) no_marks here) store)

  begun_by : (inside full : Bool) → (tx == 0) ≡ inside → nat_le (transaction_limit spec) (length here) ≡ full → begin ≡ cond (not inside) (kept_refused Ebusy store) (cond full (kept_refused Enospc store) opened)
  begun_by inside full i f = λ j. cond (not (i j)) (kept_refused Ebusy store) (cond (f j) (kept_refused Enospc store) opened)

  unopened : (error : WireErr) → begin ≡ kept_refused error store → answer.reply ≡ Err error → Did c tree (connected specs watched rows) begin answer tree (connected specs watched rows)
  unopened error is replied =
      subst (λ (d : KeptDone). Did c tree (connected specs watched rows) d answer tree (connected specs watched rows)) (sym is)
      (has_refused c tree (connected specs watched rows) sound (kept_refused error store) answer replied door may owes refl (subst (λ r. IfOk r (λ payload. length payload ≤ 4096)) (sym replied) tt) refl counted)

  count_here : length here ≡ length (txns_of c rows.txns)
  count_here = ap (λ (os : Opens). length os) (opens_found c rows.txns) ∙ length_map (λ (e : ℕ × Txn). (e.0, kept_txn e.1)) (txns_of c rows.txns)

  pub start_inside : tx ≢ 0 → answer.reply ≡ Err Ebusy → Did c tree (connected specs watched rows) begin answer tree (connected specs watched rows)
  start_inside inside = unopened Ebusy (begun_by false (nat_le (transaction_limit spec) (length here)) (ne_eqb tx 0 inside) refl)

  pub start_full : tx ≡ 0 → transaction_limit spec ≤ length (txns_of c rows.txns) → answer.reply ≡ Err Enospc → Did c tree (connected specs watched rows) begin answer tree (connected specs watched rows)
  start_full outside full = unopened Enospc (begun_by true true (ap (λ n. n == 0) outside) (ap (nat_le (transaction_limit spec)) count_here ∙ le-leb (transaction_limit spec) (length (txns_of c rows.txns)) full))

  pub start_opened : tx ≡ 0 → length (txns_of c rows.txns) < transaction_limit spec → find nat_cmp c specs ≡ Some spec → (free : ℕ) → free ≡ least_free (txns_of c rows.txns)
      → answer.reply ≡ Ok (string (decimal free)) → (left : Rows) → left.queues ≡ rows.queues
      → opens_of left.txns ≡ put nat_cmp c (put nat_cmp free no_marks (opens_in (txns_of c rows.txns))) (opens_of rows.txns)
      → Did c tree (connected specs watched rows) begin answer tree (connected specs watched left)
  start_opened outside few there free least replied left queues opens =
      let number : free ≡ least_free here =
      least ∙ sym (free_values kept_txn 1 (txns_of c rows.txns)) ∙ sym (ap (λ (os : Opens). least_free os) (opens_found c rows.txns))
      in
      let is : begin ≡ opened = begun_by true false (ap (λ n. n == 0) outside) (ap (nat_le (transaction_limit spec)) count_here ∙ lt-leb (transaction_limit spec) (length (txns_of c rows.txns)) few) in
      let puts : opens_of left.txns ≡ put nat_cmp c (put nat_cmp (least_free here) no_marks here) (opens_of rows.txns) =
      opens
      ∙ ap (λ (os : Opens). put nat_cmp c (put nat_cmp free no_marks os) (opens_of rows.txns)) (sym (opens_found c rows.txns))
      ∙ ap (λ (n : ℕ). put nat_cmp c (put nat_cmp n no_marks here) (opens_of rows.txns)) number
      in
      subst (λ (d : KeptDone). Did c tree (connected specs watched rows) d answer tree (connected specs watched left)) (sym is)
      (has_done c tree (connected specs watched rows) sound opened answer (replied ∙ ap (λ (n : ℕ). Ok (string (decimal n))) number) door may owes refl (subst (λ r. IfOk r (λ payload. length payload ≤ 4096)) (sym replied) (number_short free)) tree (connected specs watched left) refl refl queues
      (ap (λ (os : List (ℕ × Opens)). map (λ e. e.0) os) puts
      ∙ ids_put c (put nat_cmp (least_free here) no_marks here) (opens_of rows.txns) spec specs sound.table.table.rising there (keys_map opens_in rows.txns ∙ sound.rows))
      (λ i. record { machine = machine_of tree.nodes tree.gens specs watched; opens = sym puts i }) counted)

-- END
abbrev pub ended : ℕ → ℕ → KeptTree → Connected → Bool → KeptDone
ended c tx tree peers commit = kept_close commit (store_in tree peers) c tx (opens_at c (opens_of peers.txns)) (find nat_cmp tx (opens_at c (opens_of peers.txns)))

pub apart : {A : Type 0} → false ≡ true → A
apart e = cc

module _ (c tx : ℕ) (tree : KeptTree) (specs : Specs) (watched : Watched) (rows : Rows) (sound : IsSound (connected specs watched rows)) (counted : tree.counter ≡ greatest tree.gens) (may : MayAsk c (connected specs watched rows))
    (spec : ConnSpec) (there : find nat_cmp c specs ≡ Some spec) where
  abbrev peers : Connected
  peers = connected specs watched rows

  abbrev before : KeptStore
  before = store_in tree peers

  abbrev open_here : Opens
  open_here = opens_at c (opens_of rows.txns)

  abbrev closing : Bool → KeptDone
  closing commit = kept_close commit before c tx open_here (find nat_cmp tx open_here)

  -- the store without it
  abbrev closed : KeptStore
  closed = with_opens c (without_open tx open_here) before

  closes : (commit : Bool) (o : Option Txn) → find nat_cmp tx (txns_of c rows.txns) ≡ o → closing commit ≡ kept_close commit before c tx open_here (option_map kept_txn o)
  closes commit o found = ap (kept_close commit before c tx open_here) (open_found c tx rows.txns ∙ ap (option_map kept_txn) found)

  pub end_absent : (answer : Answer) → answer.door ≡ Same → answer.owed ≡ [] → (commit : Bool) → find nat_cmp tx (txns_of c rows.txns) ≡ None → answer.reply ≡ Err Enoent → Did c tree peers (closing commit) answer tree peers
  end_absent answer door owes commit absent replied =
      subst (λ (d : KeptDone). Did c tree peers d answer tree peers) (sym (closes commit None absent))
      (has_refused c tree peers sound (kept_refused Enoent before) answer replied door may owes refl (subst (λ r. IfOk r (λ payload. length payload ≤ 4096)) (sym replied) tt) refl counted)

  module _ (t : Txn) (found : find nat_cmp tx (txns_of c rows.txns) ≡ Some t) where
    ids_closed : map (λ e. e.0) (opens_of (without_txn c tx rows).txns) ≡ map (λ e. e.0) specs
    ids_closed =
        ap (λ (os : List (ℕ × Opens)). map (λ e. e.0) os) (opens_closed c tx rows.txns)
        ∙ ids_put c (without_open tx open_here) (opens_of rows.txns) spec specs sound.table.table.rising there (keys_map opens_in rows.txns ∙ sound.rows)

    -- it went, and the tree is as it was
    went : (answer : Answer) → answer.door ≡ Same → answer.owed ≡ [] → (commit : Bool) (reply : Result (List ℕ) WireErr) → IfOk reply (λ payload. length payload ≤ 4096) → closing commit ≡ record { reply = reply; store = closed; sends = [] } → answer.reply ≡ reply
        → (left : Rows) → left.queues ≡ rows.queues → left.txns ≡ put nat_cmp c (without tx (txns_of c rows.txns)) rows.txns → Did c tree peers (closing commit) answer tree (connected specs watched left)
    went answer door owes commit reply short is replied left queues gone =
        let opens : opens_of left.txns ≡ put nat_cmp c (without_open tx open_here) (opens_of rows.txns) = ap opens_of gone ∙ opens_closed c tx rows.txns in
        subst (λ (d : KeptDone). Did c tree peers d answer tree (connected specs watched left)) (sym is)
        (has_done c tree peers sound (record { reply = reply; store = closed; sends = [] }) answer replied door may owes refl (subst (λ r. IfOk r (λ payload. length payload ≤ 4096)) (sym replied) short) tree (connected specs watched left) refl refl queues
        (ap (λ (ts : List (ℕ × Txns)). map (λ e. e.0) (opens_of ts)) gone ∙ ids_closed)
        (λ i. record { machine = machine_of tree.nodes tree.gens specs watched; opens = sym opens i }) counted)

    pub end_dropped : (answer : Answer) → answer.door ≡ Same → answer.owed ≡ [] → answer.reply ≡ Ok ok_payload → (left : Rows) → left.queues ≡ rows.queues → left.txns ≡ put nat_cmp c (without tx (txns_of c rows.txns)) rows.txns → Did c tree peers (closing false) answer tree (connected specs watched left)
    end_dropped answer door owes = went answer door owes false (Ok ok_payload) (omega arith) (closes false (Some t) found)

    abbrev committing : KeptDone
    committing = kept_change (Ok ok_payload) (committed tree.nodes t.marks) (written_paths t.marks) closed

    finishes : (b : Bool) → has_conflict t.marks ≡ b → closing true ≡ cond b (kept_refused Eagain closed) committing
    finishes b is = closes true (Some t) found ∙ ap (λ (x : Bool). cond x (kept_refused Eagain closed) committing) is

    pub end_conflict : (answer : Answer) → answer.door ≡ Same → answer.owed ≡ [] → has_conflict t.marks ≡ true → answer.reply ≡ Err Eagain → (left : Rows) → left.queues ≡ rows.queues → left.txns ≡ put nat_cmp c (without tx (txns_of c rows.txns)) rows.txns → Did c tree peers (closing true) answer tree (connected specs watched left)
    end_conflict answer door owes conflict = went answer door owes true (Err Eagain) tt (finishes true conflict)

    module _ (free : has_conflict t.marks ≡ false) (new : KeptTree) (left : Rows) where
      pub end_committed : (answer : Answer) → answer.door ≡ Same → answer.reply ≡ Ok ok_payload → IsMade c (reply_length (Ok ok_payload)) t.marks specs watched tree rows (without_txn c tx rows) answer.owed new left → Did c tree peers (closing true) answer new (connected specs watched left)
      end_committed answer door replied is =
          subst (λ (d : KeptDone). Did c tree peers d answer new (connected specs watched left)) (sym (finishes false free))
          (has_sent c tree peers sound committing answer replied door new (connected specs watched left) refl refl is.changed.unsent is.changed.rests
          (ids_changed t.marks tree new (without_txn c tx rows) left is.changed ∙ ids_closed)
          (ap (λ (os : List (ℕ × Opens)). changed_store (committed tree.nodes t.marks) (written_paths t.marks) (record { machine = machine_of tree.nodes tree.gens specs watched; opens = os })) (sym (opens_closed c tx rows.txns))
          ∙ store_changed t.marks tree new (without_txn c tx rows) left is.changed specs watched) is.changed.counter
          is.owed.owes is.room (ap (λ r. crowding c (reply_length r) answer.owed (unsent_of rows.queues)) replied ∙ is.owed.crowds))

      pub end_crowded : (d : ℕ) → WouldCrowd c (reply_length (Ok ok_payload)) t.marks specs watched tree rows d new left → IsCrowding c tree peers (closing true) d new (connected specs watched left)
      end_crowded d is =
          subst (λ (done : KeptDone). IsCrowding c tree peers done d new (connected specs watched left)) (sym (finishes false free)) (record {
            owed = is.owed.0;
            sends = is.owed.1.owes;
            crowds = ap (crowding c (reply_length (Ok ok_payload)) is.owed.0)
                (same_ids (λ k. unsent_to k (unsent_of rows.queues)) (conns_of specs watched) specs (conns_keys watched specs) ∙ sym (unsent_same peers sound specs refl)) ∙ is.owed.1.crowds;
            unchanged = kept_unchanged tree specs watched rows new left is.unchanged;
          })

-- the one that is open
pub the_open : (o : Option Txn) → is_some o ≡ true → (t : Txn) × (o ≡ Some t)
the_open None h = cc
the_open (Some t) h = (t, refl)

-- a reference is there where what it refers to is
pub same_some : {X : Type 0} (o : Option (Bor X)) → is_some (option_copied o) ≡ is_some o
same_some None = refl
same_some (Some x) = refl
