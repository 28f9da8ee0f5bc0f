-- What a tree command does outside of transactions, and inside one.
use Rattle.std.proofs.Common.{◌≡◌, ◌≢◌, ℕ, ◌+◌, ◌≤◌, ◌==◌, Bool, true, false, cond, nat_lt, List, [], ◌∷◌, map, length, Option, Some, None, Result, Ok, Err, IfOk, OnErr, is_some, refl, sym, ap, subst, ◌∙◌, arith, le_refl, le_antisymm, ltb-false, ne_eqb}
use Rattle.std.specs.Option.{option_map, unwrap_or}
use Rattle.std.specs.Ordering.{nat_cmp}
use Rattle.std.specs.FinMap.{find, put, is_sorted}
use Rattle.xs_model.specs.declared.message.WireErr.{WireErr}
use Rattle.xs_model.specs.declared.message.WireErr.TheVariants.{Enoent}
use Rattle.xs_model.specs.Paths.{Path, Name, way_down, child}
use Rattle.xs_model.specs.Generations.{or_zero, generation_of}
use Rattle.xs_model.specs.Requests.{Operation}
use Rattle.xs_model.specs.Trees.{Tree, Edit, IsTree, is_present, edited, edit_paths}
use Rattle.xs_model.specs.Commands.{Outcome, command, command_edits, absent_of}
use Rattle.xs_model.proofs.CommandLemmas.{command_keeps}
use Rattle.xs_model.proofs.Maps.{not_both, found_map, sorted_map}
use Rattle.machine_model.specs.declared.ConnSpec.{ConnSpec}
use Rattle.machine_model.specs.Connections.{Connection, Connections, caller_of}
use Rattle.machine_model.specs.History.{unsent_to, sent_to}
use Rattle.machine_model.specs.Machine.{ran_by, change_sends}
use Rattle.machine_model.specs.Transactions.{count_max, within_count, if_any, outcome_on}
use Rattle.mark_model.specs.Laws.{IsMadeByMarks}
use Rattle.mark_model.specs.Marks.{overlay, committed, written_paths, access_all, write_all}
use Rattle.mark_model.specs.Stores.{KeptStore, KeptDone, KeptTransaction, Opens, opens_of as opens_at, kept_outside, kept_inside, kept_command, kept_refused, changed_store, ran_over}
use Rattle.mark_model.proofs.MarkEditLemmas.{made_by_marks}
use Rattle.mark_model.proofs.StoreChanges.{same_change}
use Rattle.conn_table.specs.Tables.{Specs}
use Rattle.node_tree.specs.KeptTree.{KeptTree}
use Rattle.tree_ops.specs.declared.did.Did.{Did as DidCommand}
use Rattle.txn_access.specs.Txns.{Txn}
use Rattle.daemon.specs.declared.answer.Door.TheVariants.{Same}
use Rattle.daemon.specs.declared.reply.Answer.{Answer}
use Rattle.daemon.specs.Keeps.{machine_of}
use Rattle.conn_rows.specs.Rows.{Rows, Txns, kept_txn, opens_in, opens_of, or_no_txns, txns_of}
use Rattle.conn_rows.specs.Queued.{unsent_of, rests_of}
use Rattle.watchers.specs.Watched.{Watched, conns_of}
use Rattle.conn_rows.specs.Sending.{crowding}
use Rattle.daemon.specs.Peers.{Connected, MayAsk, conn_in}
use Rattle.daemon.specs.Acts.{reply_length, IsWhole, Did, IsCrowding, IsAsBefore, store_in}
use Rattle.daemon.specs.Changes.{IsMade, WouldCrowd}
use Rattle.daemon.specs.Commands.{IsRun, IsInside}
use Rattle.conn_rows.proofs.IdEntries.{keys_map, put_map, put_again, same_rising, same_there}
use Rattle.daemon.proofs.KeepsLemmas.{conns_keys}
use Rattle.daemon.proofs.ValueLemmas.{same_ids}
use Rattle.daemon.proofs.UnsentLemmas.{unsent_same}
use Rattle.daemon.proofs.PeerLemmas.{connected}
use Rattle.daemon.proofs.OpenTxns.{open_found, opens_put, ids_put}
use Rattle.daemon.proofs.DoneLemmas.{has_sent, has_done, has_refused, store_changed, ids_changed, kept_unchanged}

-- A CHANGE in two ways
record IsChangeOf (tree : Tree) (written : List Path) (tree_too : Tree) (written_too : List Path) (k : KeptStore) : Type 0 where
  store : changed_store tree written k ≡ changed_store tree_too written_too k
  sends : change_sends k.machine.tree written tree k.machine.conns ≡ change_sends k.machine.tree written_too tree_too k.machine.conns

-- a change of nothing sends nothing
pub no_change_sends : (tree : Tree) (conns : Connections) → change_sends tree [] tree conns ≡ []
no_change_sends tree [] = refl
no_change_sends tree (e ∷ conns) = no_change_sends tree conns

-- OUTSIDE
no_edits : (es : List Edit) → edit_paths es ≡ [] → es ≡ []
no_edits [] h = refl
no_edits (e ∷ es) h = cc

-- a transaction that was just started
abbrev pub nothing : Txn
nothing = record { marks = []; count = 0; spare = 0; kept = 0; pending = [] }

module _ (c : ℕ) (tree : KeptTree) (specs : Specs) (watched : Watched) (rows : Rows) (whole : IsWhole tree (connected specs watched rows)) (may : MayAsk c (connected specs watched rows)) (spec : ConnSpec) (operation : Operation) (path : Path) where
  abbrev k : KeptStore
  k = store_in tree (connected specs watched rows)

  abbrev outcome : Outcome
  outcome = command operation path (caller_of spec) (generation_of tree.gens path) tree.nodes

  abbrev edits : List Edit
  edits = command_edits operation path (caller_of spec) (generation_of tree.gens path) tree.nodes

  abbrev done : KeptDone
  done = kept_outside k outcome

  made : IsMadeByMarks tree.nodes edits []
  made = made_by_marks tree.nodes edits [] whole.store.kept.tree.rising

  module _ (number : ℕ) (is_number : number ≡ generation_of tree.gens path) (begun : Txn) (new_one : begun ≡ nothing) (ran : Txn) (did : DidCommand) (run : IsRun spec operation path number 0 tree.nodes begun did ran) where
    run_here : IsRun spec operation path (generation_of tree.gens path) 0 tree.nodes nothing did ran
    run_here = subst (λ (t : Txn). IsRun spec operation path (generation_of tree.gens path) 0 tree.nodes t did ran) new_one
        (subst (λ (n : ℕ). IsRun spec operation path n 0 tree.nodes begun did ran) is_number run)

    marks_here : ran.marks ≡ write_all edits []
    marks_here = run_here.marks

    tree_here : committed tree.nodes ran.marks ≡ outcome.tree
    tree_here = ap (committed tree.nodes) marks_here ∙ made.made

    -- what is to be made of the tree is one
    pub outside_tree : IsTree (committed tree.nodes ran.marks)
    outside_tree = subst IsTree (sym tree_here) (command_keeps tree.nodes whole.store.kept.tree operation path (caller_of spec) (generation_of tree.gens path))

    reply_here : did.reply ≡ done.reply
    reply_here = run_here.outcome.reply

    abbrev before : Connected
    before = connected specs watched rows

    pub outside_unwritten : (answer : Answer) → answer.reply ≡ did.reply → answer.door ≡ Same → answer.owed ≡ [] → IfOk did.reply (λ payload. length payload ≤ 4096) → did.written ≡ [] → Did c tree before done answer tree before
    outside_unwritten answer replied door owes short none =
        let without : edits ≡ [] = no_edits edits (sym run_here.outcome.written ∙ none) in
        has_refused c tree before whole.sound done answer (replied ∙ reply_here) door may owes
        ((λ i. change_sends tree.nodes (edit_paths (without i)) (edited tree.nodes (without i)) (conns_of specs watched)) ∙ no_change_sends tree.nodes (conns_of specs watched))
        (subst (λ r. IfOk r (λ payload. length payload ≤ 4096)) (sym replied) short)
        (λ i. changed_store (edited tree.nodes (without i)) (edit_paths (without i)) k) whole.counter

    -- the change is that of its marks
    one_way : IsChangeOf outcome.tree outcome.written (committed tree.nodes ran.marks) (written_paths ran.marks) k
    one_way =
        let alike = same_change outcome.tree (edit_paths edits) (written_paths (write_all edits [])) k (conns_of specs watched) whole.store.kept (λ p. sym (made.paths p)) in
        record {
          store = alike.store ∙ (λ i. changed_store (sym tree_here i) (written_paths (sym marks_here i)) k);
          sends = alike.sends ∙ (λ i. change_sends tree.nodes (written_paths (sym marks_here i)) (sym tree_here i) (conns_of specs watched));
        }

    module _ (n : ℕ) (count : n ≡ reply_length did.reply) (new : KeptTree) (left : Rows) where
      pub outside_written : (answer : Answer) → answer.reply ≡ did.reply → answer.door ≡ Same → IsMade c n ran.marks specs watched tree rows rows answer.owed new left → Did c tree before done answer new (connected specs watched left)
      outside_written answer replied door is =
          has_sent c tree before whole.sound done answer (replied ∙ reply_here) door new (connected specs watched left) refl refl is.changed.unsent is.changed.rests
          (ids_changed ran.marks tree new rows left is.changed ∙ keys_map opens_in rows.txns ∙ whole.sound.rows)
          (one_way.store ∙ store_changed ran.marks tree new rows left is.changed specs watched) is.changed.counter
          (λ d. ap (sent_to d) one_way.sends ∙ is.owed.owes d) is.room
          (ap (λ m. crowding c m answer.owed (unsent_of rows.queues)) (ap reply_length replied ∙ sym count) ∙ is.owed.crowds)

      pub outside_crowded : (d : ℕ) → WouldCrowd c n ran.marks specs watched tree rows d new left → IsCrowding c tree before done d new (connected specs watched left)
      outside_crowded d is = record {
        owed = is.owed.0;
        sends = λ e. ap (sent_to e) one_way.sends ∙ is.owed.1.owes e;
        crowds = (λ i. crowding c (reply_length (sym reply_here i)) is.owed.0 (same_conns i))
            ∙ ap (λ m. crowding c m is.owed.0 (unsent_of rows.queues)) (sym count) ∙ is.owed.1.crowds;
        unchanged = kept_unchanged tree specs watched rows new left is.unchanged;
      }
        where
          same_conns : map (λ e. (e.0, unsent_to e.0 (unsent_of rows.queues))) (conns_of specs watched) ≡ unsent_of rows.queues
          same_conns = same_ids (λ k. unsent_to k (unsent_of rows.queues)) (conns_of specs watched) specs (conns_keys watched specs) ∙ sym (unsent_same before whole.sound specs refl)

-- INSIDE. At most so many paths are looked at
way_length : (p : Path) (ns : List Name) → length (way_down p ns) ≡ length ns + 1
way_length p [] = omega arith
way_length p (n ∷ ns) = omega (arith, way_length (child p n) ns)

absent_length : (tree : Tree) (ps : List Path) → length (absent_of tree ps) ≤ length ps
absent_length tree [] = le_refl 0
absent_length tree (p ∷ ps) =
    let rest = absent_length tree ps in
    elim (is_present tree p) as (λ b. length (cond b (absent_of tree ps) (p ∷ ps)) ≤ length (p ∷ ps)) [
      | true ↦ omega arith
      | false ↦ le_refl (length (p ∷ ps))
    ]

-- a count within its bits is the count
pub fits_count : (n : ℕ) → n ≤ count_max → within_count n ≡ n
fits_count n h = by (nat_lt n count_max) refl
  where
    by : (b : Bool) → nat_lt n count_max ≡ b → cond b n count_max ≡ n
    by true e = refl
    by false e = le_antisymm (ltb-false n count_max e) h

module _ (spec : ConnSpec) (operation : Operation) (path : Path) (tree : Tree) (old ready ran : Txn) (number looks : ℕ) (did : DidCommand) (run : IsRun spec operation path number looks tree ready did ran)
    (is_number : number ≡ old.count) (same_marks : ready.marks ≡ old.marks) (same_count : ready.count ≡ old.count) where
  abbrev inner : Outcome
  inner = command operation path (caller_of spec) old.count (overlay tree old.marks)

  moved : command operation path (caller_of spec) number (overlay tree ready.marks) ≡ inner
  moved = λ i. command operation path (caller_of spec) (is_number i) (overlay tree (same_marks i))

  touched_is : did.touched ≡ inner.touched
  touched_is = run.outcome.touched ∙ ap (λ (o : Outcome). o.touched) moved

  written_is : did.written ≡ inner.written
  written_is = run.outcome.written ∙ ap (λ (o : Outcome). o.written) moved

  marks_are : ran.marks ≡ write_all (command_edits operation path (caller_of spec) old.count (overlay tree old.marks)) old.marks
  marks_are = run.marks ∙ (λ i. write_all (command_edits operation path (caller_of spec) (is_number i) (overlay tree (same_marks i))) (same_marks i))

  counted_as : ran.count ≡ old.count
  counted_as = run.count ∙ same_count

  pub few_touched : length did.touched ≤ length path + 2
  few_touched =
      let seen : Tree = overlay tree old.marks in
      let absent = absent_length seen (way_down [] path) in
      let way = way_length [] path in
      let touched : length did.touched ≡ length inner.touched = ap length touched_is in
      omega (arith, touched, absent, way)

  pub is_inside : (reply : Result (List ℕ) WireErr) (new : Txn) → reply ≡ did.reply → new.marks ≡ access_all did.touched ran.marks → new.count ≡ within_count (if_any did.written ran.count)
      → IsInside spec operation path tree (kept_txn old) reply (kept_txn new)
  is_inside reply new replied marks counted =
      let new_marks = marks ∙ (λ i. access_all (touched_is i) (marks_are i)) in
      let new_count = counted ∙ (λ i. within_count (if_any (written_is i) (counted_as i))) in
      record {
        reply = replied ∙ run.outcome.reply ∙ ap (λ (o : Outcome). o.reply) moved;
        kept = λ i. record { marks = new_marks i; count = new_count i };
      }

-- the count where something was written, and where nothing was
pub some_counted : (written : List Path) (n : ℕ) → (length written == 0) ≡ false → within_count (n + 1) ≡ within_count (if_any written n)
some_counted [] n h = cc
some_counted (p ∷ ps) n h = refl

pub none_counted : (written : List Path) (n : ℕ) → n ≤ count_max → (length written == 0) ≡ true → n ≡ within_count (if_any written n)
none_counted [] n fits h = sym (fits_count n fits)
none_counted (p ∷ ps) n fits h = not_both h (ne_eqb (length (p ∷ ps)) 0 (λ same. omega (arith, same)))

pub none_written : (written : List Path) → (length written == 0) ≡ true → written ≡ []
none_written [] h = refl
none_written (p ∷ ps) h = not_both h (ne_eqb (length (p ∷ ps)) 0 (λ same. omega (arith, same)))

-- the number that a path has, or 0
pub number_or_zero : (o : Option ℕ) → unwrap_or o 0 ≡ or_zero o
number_or_zero None = refl
number_or_zero (Some n) = refl

module _ (c tx : ℕ) (inside : 1 ≤ tx) (tree : KeptTree) (specs : Specs) (watched : Watched) (rows : Rows) (whole : IsWhole tree (connected specs watched rows)) (may : MayAsk c (connected specs watched rows)) (spec : ConnSpec) (there : find nat_cmp c specs ≡ Some spec) (operation : Operation) (path : Path) where
  abbrev kept : KeptStore
  kept = store_in tree (connected specs watched rows)

  abbrev asks : Connection
  asks = conn_in (connected specs watched rows) c spec

  abbrev act_inside : KeptDone
  act_inside = kept_command kept c asks tx operation path

  not_zero : tx ≢ 0
  not_zero = λ same. omega (arith, same, inside)

  acts : (o : Option KeptTransaction) → find nat_cmp tx (opens_at c (opens_of rows.txns)) ≡ o → act_inside ≡ kept_inside kept c asks tx operation path o
  acts o found =
      ap (λ (b : Bool). cond b (kept_outside kept (outcome_on tree.nodes (ran_by asks operation path (generation_of tree.gens path)))) (kept_inside kept c asks tx operation path (find nat_cmp tx (opens_at c (opens_of rows.txns))))) (ne_eqb tx 0 not_zero)
      ∙ ap (kept_inside kept c asks tx operation path) found

  pub inside_absent : (answer : Answer) → answer.reply ≡ Err Enoent → answer.door ≡ Same → answer.owed ≡ [] → find nat_cmp tx (txns_of c rows.txns) ≡ None → Did c tree (connected specs watched rows) act_inside answer tree (connected specs watched rows)
  inside_absent answer replied door owes absent =
      subst (λ (d : KeptDone). Did c tree (connected specs watched rows) d answer tree (connected specs watched rows)) (sym (acts None (open_found c tx rows.txns ∙ ap (option_map kept_txn) absent)))
      (has_refused c tree (connected specs watched rows) whole.sound (kept_refused Enoent kept) answer replied door may owes refl (subst (λ r. IfOk r (λ payload. length payload ≤ 4096)) (sym replied) tt) refl whole.counter)

  pub inside_ran : (old new : Txn) (left : Rows) (answer : Answer) (reply : Result (List ℕ) WireErr) → find nat_cmp tx (txns_of c rows.txns) ≡ Some old → IsInside spec operation path tree.nodes (kept_txn old) reply (kept_txn new)
      → answer.reply ≡ reply → answer.door ≡ Same → answer.owed ≡ [] → IfOk reply (λ payload. length payload ≤ 4096) → left.queues ≡ rows.queues → left.txns ≡ put nat_cmp c (put nat_cmp tx new (txns_of c rows.txns)) rows.txns
      → Did c tree (connected specs watched rows) act_inside answer tree (connected specs watched left)
  inside_ran old new left answer reply found is replied door owes short queues puts =
      let opens : opens_of left.txns ≡ put nat_cmp c (put nat_cmp tx (ran_over tree.nodes (ran_by asks operation path old.count) (kept_txn old)) (opens_at c (opens_of rows.txns))) (opens_of rows.txns) =
      ap opens_of puts ∙ opens_put c tx new rows.txns ∙ ap (λ (t : KeptTransaction). put nat_cmp c (put nat_cmp tx t (opens_at c (opens_of rows.txns))) (opens_of rows.txns)) is.kept
      in
      subst (λ (d : KeptDone). Did c tree (connected specs watched rows) d answer tree (connected specs watched left)) (sym (acts (Some (kept_txn old)) (open_found c tx rows.txns ∙ ap (option_map kept_txn) found)))
      (has_done c tree (connected specs watched rows) whole.sound (kept_inside kept c asks tx operation path (Some (kept_txn old))) answer (replied ∙ is.reply) door may owes refl (subst (λ r. IfOk r (λ payload. length payload ≤ 4096)) (sym replied) short) tree (connected specs watched left) refl refl queues
      (ap (λ (os : List (ℕ × Opens)). map (λ e. e.0) os) opens
      ∙ ids_put c (put nat_cmp tx (ran_over tree.nodes (ran_by asks operation path old.count) (kept_txn old)) (opens_at c (opens_of rows.txns))) (opens_of rows.txns) spec specs whole.sound.table.table.rising there (keys_map opens_in rows.txns ∙ whole.sound.rows))
      (λ i. record { machine = machine_of tree.nodes tree.gens specs watched; opens = sym opens i }) whole.counter)

-- refused, it is put back as it was
pub on_err : {X E : Type 0} (P : Type 0) (r : Result X E) → P → OnErr r P
on_err P (Ok x) p = tt
on_err P (Err e) p = p

pub same_put_back : (c tx : ℕ) (tree : KeptTree) (specs : Specs) (watched : Watched) (rows : Rows) → IsWhole tree (connected specs watched rows) → (spec : ConnSpec) → find nat_cmp c specs ≡ Some spec → (old new : Txn) → find nat_cmp tx (txns_of c rows.txns) ≡ Some old
    → is_sorted nat_cmp (txns_of c rows.txns) ≡ true → kept_txn new ≡ kept_txn old → (left : Rows) → left.queues ≡ rows.queues → left.txns ≡ put nat_cmp c (put nat_cmp tx new (txns_of c rows.txns)) rows.txns
    → IsAsBefore tree (connected specs watched rows) tree (connected specs watched left)
same_put_back c tx tree specs watched rows whole spec there old new found rising same left queues puts =
    let here : Txns = txns_of c rows.txns in
    let inner : opens_in (put nat_cmp tx new here) ≡ opens_in here =
    put_map kept_txn tx new here ∙ ap (λ (t : KeptTransaction). put nat_cmp tx t (opens_in here)) same
    ∙ put_again tx (kept_txn old) (opens_in here) (sorted_map nat_cmp kept_txn here ∙ rising) (found_map nat_cmp kept_txn tx here ∙ ap (option_map kept_txn) found)
    in
    let outer_rising : is_sorted nat_cmp (opens_of rows.txns) ≡ true = same_rising (opens_of rows.txns) specs (keys_map opens_in rows.txns ∙ whole.sound.rows) ∙ whole.sound.table.table.rising in
    let row_there : find nat_cmp c (opens_of rows.txns) ≡ Some (opens_in here) =
    found_map nat_cmp opens_in c rows.txns ∙ row (find nat_cmp c rows.txns) (same_there rows.txns specs whole.sound.rows c ∙ ap is_some there)
    in
    let opens : opens_of left.txns ≡ opens_of rows.txns =
    ap opens_of puts ∙ put_map opens_in c (put nat_cmp tx new here) rows.txns ∙ ap (λ (os : Opens). put nat_cmp c os (opens_of rows.txns)) inner ∙ put_again c (opens_in here) (opens_of rows.txns) outer_rising row_there
    in
    record {
      nodes = refl;
      gens = refl;
      counter = refl;
      conns = record { specs = refl; watched = refl; opens = opens; unsent = ap unsent_of queues; rests = ap rests_of queues };
    }
  where
    row : (o : Option Txns) → is_some o ≡ true → option_map opens_in o ≡ Some (opens_in (or_no_txns o))
    row None h = cc
    row (Some ts) h = refl
