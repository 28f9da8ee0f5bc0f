-- The state that bytes tell is sound.
use Rattle.std.specs.Prelude.{◌≡◌, ℕ, ◌^◌, ◌<◌, ◌≤◌, Bool, true, false, cond, List, [], ◌∷◌, length, map, filter, Some, Result, Ok, Err}
use Rattle.std.specs.Option.{option_map}
use Rattle.std.specs.List.{AllByRecursion}
use Rattle.std.specs.Ordering.{nat_cmp}
use Rattle.std.specs.FinMap.{find, is_sorted}
use Rattle.std.proofs.Common.{sym, refl, ap, subst, ◌∙◌, arith}
use Rattle.std.proofs.Math.Facts.{sfits_lit}
use Rattle.xs_model.specs.Paths.{Path}
use Rattle.xs_model.specs.Trees.{Tree}
use Rattle.xs_model.proofs.Maps.{found_map, sorted_map}
use Rattle.xs_model.proofs.TreeLemmas.{new_tree-is}
use Rattle.machine_model.specs.declared.ConnSpec.{ConnSpec}
use Rattle.machine_model.specs.Connections.{Connection, caller_of, is_ring_of}
use Rattle.machine_model.proofs.Lists.{all_weaker}
use Rattle.mark_model.specs.Marks.{Mark, overlay}
use Rattle.mark_model.specs.Stores.{KeptTransaction, Opens, IsKeptTransaction}
use Rattle.mark_model.proofs.StoreMaps.{keys_values, all_with, each_found}
use Rattle.stream_model.specs.declared.fault.StreamFault.{StreamFault}
use Rattle.stream_model.specs.Record.{StreamRecord}
use Rattle.stream_model.specs.Reading.{stream_of}
use Rattle.kept_model.specs.declared.fault.LoadFault.TheVariants.{Orphan}
use Rattle.kept_model.specs.States.{TransactionOf, ConnectionOf, StateOf, State, kept_transaction, opens_in, connection_in, store_of}
use Rattle.kept_model.specs.Said.{Said}
use Rattle.kept_model.specs.Sound.{MarksFit, SpecFits, is_socket, count_ends, AreWatches, OpensFit, IsSoundStore, BytesFit, IsSound}
use Rattle.kept_model.specs.Loading.{Pending, none_came, load_from}
use Rattle.kept_model.specs.Normal.{normal, normal_transaction, normal_connection, normal_state, is_orphan_in, marks_or_none, marks_in, is_orphan, unless_orphans, state_of_records, state_by}
use Rattle.kept_model.specs.Laws.{AreBytes, WhatLoadsIsSound}
use Rattle.kept_model.proofs.LoadTests.{ok_is, not_ok, then_ok}
use Rattle.kept_model.proofs.LoadMaps.{pairs_map, counted}
use Rattle.kept_model.proofs.LoadPaths.{root_spelled}
use Rattle.kept_model.proofs.LoadFits.{Told, told}
use Rattle.kept_model.proofs.LoadNormal.{SaidRight, normal_fits, normal_over}
use Rattle.kept_model.proofs.LoadEnds.{ends_of}
use Rattle.kept_model.proofs.LoadGood.{SaidFine, TransactionGood, ConnectionGood, StateGood}
use Rattle.kept_model.proofs.LoadKeeps.{records_step}

-- HOW MANY ENDS the store has of a kind
ends_first : (test : ConnSpec → Bool) (e : ℕ × Connection) (conns : List (ℕ × Connection)) (f : ℕ × ConnSpec) (ends : List (ℕ × ConnSpec)) → e.1.spec ≡ f.1 → count_ends test conns ≡ counted test ends → count_ends test (e ∷ conns) ≡ counted test (f ∷ ends)
ends_first test e conns f ends same rest =
    ap (λ b. length (cond b (e ∷ filter (λ (g : ℕ × Connection). test g.1.spec) conns) (filter (λ (g : ℕ × Connection). test g.1.spec) conns))) (ap test same)
    ∙ by (test f.1)
  where
    by : (b : Bool) → length (cond b (e ∷ filter (λ (g : ℕ × Connection). test g.1.spec) conns) (filter (λ (g : ℕ × Connection). test g.1.spec) conns)) ≡ length (cond b (f ∷ filter (λ (g : ℕ × ConnSpec). test g.1) ends) (filter (λ (g : ℕ × ConnSpec). test g.1) ends))
    by true = omega (arith, rest)
    by false = rest

ends_counted : (tree : Tree) (test : ConnSpec → Bool) (conns : List (ℕ × ConnectionOf Said)) → count_ends test (map (λ (e : ℕ × ConnectionOf Mark). (e.0, connection_in e.1)) (map (λ (e : ℕ × ConnectionOf Said). (e.0, normal_connection tree e.1)) conns)) ≡ counted test (ends_of conns)
ends_counted tree test [] = refl
ends_counted tree test (e ∷ conns) =
    ends_first test (e.0, connection_in (normal_connection tree e.1)) (map (λ (e : ℕ × ConnectionOf Mark). (e.0, connection_in e.1)) (map (λ (e : ℕ × ConnectionOf Said). (e.0, normal_connection tree e.1)) conns)) (e.0, e.1.spec) (ends_of conns) refl (ends_counted tree test conns)

module _ (s : StateOf Said) where
  abbrev made : State
  made = normal_state s

  -- what holds of each path that was said: it is no orphan in what its transaction sees
  abbrev Fine : ℕ → ℕ → Path → Type 0
  Fine c tx p = is_orphan_in (overlay s.tree (marks_in tx (find nat_cmp c made.conns))) p ≡ false

  -- what holds of a transaction and of a connection of the state
  record KeptRight (tx : ℕ) (t : KeptTransaction) : Type 0 where
    pub kept : IsKeptTransaction s.tree t
    pub fits : MarksFit t.marks
    pub number : (1 ≤ tx) × (tx < 2 ^ 32)

  record ConnectionRight (c : ℕ) (conn : ConnectionOf Mark) : Type 0 where
    pub positive : 1 ≤ c
    pub small : c < 2 ^ 32
    pub end : SpecFits conn.spec
    pub watches : AreWatches (caller_of conn.spec).domid conn.watches
    pub bytes : BytesFit conn
    pub rising : is_sorted nat_cmp (opens_in conn) ≡ true
    pub opens : AllByRecursion (λ (f : ℕ × KeptTransaction). KeptRight f.0 f.1) (opens_in conn)

  module _ (g : StateGood Fine s) where
    -- the marks of a transaction that is there
    marks_found : (c tx : ℕ) (conn : ConnectionOf Said) (t : TransactionOf Said) → find nat_cmp c s.conns ≡ Some conn → find nat_cmp tx conn.opens ≡ Some t → marks_in tx (find nat_cmp c made.conns) ≡ normal s.tree t.marks
    marks_found c tx conn t e f =
        ap (marks_in tx) (found_map nat_cmp (normal_connection s.tree) c s.conns ∙ ap (option_map (normal_connection s.tree)) e)
        ∙ ap marks_or_none (found_map nat_cmp (normal_transaction s.tree) tx conn.opens ∙ ap (option_map (normal_transaction s.tree)) f)

    transaction_right : (c tx : ℕ) (conn : ConnectionOf Said) (t : TransactionOf Said) → find nat_cmp c s.conns ≡ Some conn → find nat_cmp tx conn.opens ≡ Some t → TransactionGood Fine c tx t → KeptRight tx (kept_transaction (normal_transaction s.tree t))
    transaction_right c tx conn t e f h =
        let same = marks_found c tx conn t e f in
        let each : AllByRecursion (λ (g : Path × Said). SaidRight s.tree t.marks g.0 g.1) t.marks =
        all_weaker (λ (g : Path × Said). SaidFine Fine c tx g.0 g.1) (λ (g : Path × Said). SaidRight s.tree t.marks g.0 g.1)
        (λ g k. record { spelled = k.spelled; good = k.good; fine = subst (λ marks. is_orphan_in (overlay s.tree marks) g.0 ≡ false) same k.fine }) t.marks h.marks
        in
        record {
          kept = record { marks = normal_over s.tree t.marks g.tree g.nodes h.rising each; count = within t.count h.count };
          fits = normal_fits s.tree t.marks g.tree g.nodes h.rising each;
          number = (h.positive, h.small);
        }
      where
        within : (n : ℕ) → n < 2 ^ 32 → n ≤ 4294967295
        within n lt = omega arith

    opens_right : (c : ℕ) (conn : ConnectionOf Said) → find nat_cmp c s.conns ≡ Some conn → ConnectionGood Fine c conn → AllByRecursion (λ (f : ℕ × KeptTransaction). KeptRight f.0 f.1) (opens_in (normal_connection s.tree conn))
    opens_right c conn e h =
        pairs_map (λ tx t. KeptRight tx (kept_transaction t)) KeptRight (λ tx t. kept_transaction t) (λ tx t k. k) (normal_connection s.tree conn).opens
        (pairs_map (λ tx t. KeptRight tx (kept_transaction (normal_transaction s.tree t))) (λ tx t. KeptRight tx (kept_transaction t)) (λ tx t. normal_transaction s.tree t) (λ tx t k. k) conn.opens
        (all_with (λ (f : ℕ × TransactionOf Said). TransactionGood Fine c f.0 f.1) (λ (f : ℕ × TransactionOf Said). find nat_cmp f.0 conn.opens ≡ Some f.1) (λ (f : ℕ × TransactionOf Said). KeptRight f.0 (kept_transaction (normal_transaction s.tree f.1)))
        (λ f k found. transaction_right c f.0 conn f.1 e found k) conn.opens h.opens (each_found conn.opens h.rising)))

    connection_right : (c : ℕ) (conn : ConnectionOf Said) → find nat_cmp c s.conns ≡ Some conn → ConnectionGood Fine c conn → ConnectionRight c (normal_connection s.tree conn)
    connection_right c conn e h = record {
      positive = h.positive;
      small = h.small;
      end = h.end;
      watches = h.watches;
      bytes = record { inbox = h.inbox; unsent = h.unsent; whole = h.whole };
      rising = sorted_map nat_cmp kept_transaction (normal_connection s.tree conn).opens ∙ sorted_map nat_cmp (normal_transaction s.tree) conn.opens ∙ h.rising;
      opens = opens_right c conn e h;
    }

    conns_right : AllByRecursion (λ (e : ℕ × ConnectionOf Mark). ConnectionRight e.0 e.1) made.conns
    conns_right =
        pairs_map (λ c conn. ConnectionRight c (normal_connection s.tree conn)) ConnectionRight (λ c conn. normal_connection s.tree conn) (λ c conn k. k) s.conns
        (all_with (λ (e : ℕ × ConnectionOf Said). ConnectionGood Fine e.0 e.1) (λ (e : ℕ × ConnectionOf Said). find nat_cmp e.0 s.conns ≡ Some e.1) (λ (e : ℕ × ConnectionOf Said). ConnectionRight e.0 (normal_connection s.tree e.1))
        (λ e k found. connection_right e.0 e.1 found k) s.conns g.conns (each_found s.conns g.rising))

    -- of each connection of the store, and of the open transactions of each
    of_conns : (S : ℕ → Connection → Type 0) → ((c : ℕ) (conn : ConnectionOf Mark) → ConnectionRight c conn → S c (connection_in conn)) → AllByRecursion (λ (e : ℕ × Connection). S e.0 e.1) (store_of made).machine.conns
    of_conns S to = pairs_map ConnectionRight S (λ c conn. connection_in conn) to made.conns conns_right

    of_opens : (S : ℕ → Opens → Type 0) → ((c : ℕ) (conn : ConnectionOf Mark) → ConnectionRight c conn → S c (opens_in conn)) → AllByRecursion (λ (e : ℕ × Opens). S e.0 e.1) (store_of made).opens
    of_opens S to = pairs_map ConnectionRight S (λ c conn. opens_in conn) to made.conns conns_right

    opens_fit : (ts : Opens) → is_sorted nat_cmp ts ≡ true → AllByRecursion (λ (f : ℕ × KeptTransaction). KeptRight f.0 f.1) ts → OpensFit ts
    opens_fit ts rising h = record {
      rising = rising;
      numbers = all_weaker (λ (f : ℕ × KeptTransaction). KeptRight f.0 f.1) (λ (f : ℕ × KeptTransaction). (1 ≤ f.0) × (f.0 < 2 ^ 32)) (λ f k. k.number) ts h;
      marks = all_weaker (λ (f : ℕ × KeptTransaction). KeptRight f.0 f.1) (λ (f : ℕ × KeptTransaction). MarksFit f.1.marks) (λ f k. k.fits) ts h;
    }

    store_sound : IsSoundStore (store_of made)
    store_sound = record {
      kept = record {
        tree = g.tree;
        ids = record {
          rising = sorted_map nat_cmp connection_in made.conns ∙ sorted_map nat_cmp (normal_connection s.tree) s.conns ∙ g.rising;
          positive = of_conns (λ c conn. 1 ≤ c) (λ c conn h. h.positive);
        };
        none_open = of_conns (λ c conn. conn.transactions ≡ []) (λ c conn h. refl);
        keys = keys_values opens_in connection_in made.conns;
        each = of_opens (λ c ts. AllByRecursion (λ f. IsKeptTransaction s.tree f.1) ts)
            (λ c conn h. all_weaker (λ (f : ℕ × KeptTransaction). KeptRight f.0 f.1) (λ (f : ℕ × KeptTransaction). IsKeptTransaction s.tree f.1) (λ f k. k.kept) (opens_in conn) h.opens);
      };
      nodes = g.nodes;
      numbers = g.numbers;
      ids = of_conns (λ c conn. c < 2 ^ 32) (λ c conn h. h.small);
      ends = of_conns (λ c conn. SpecFits conn.spec) (λ c conn h. h.end);
      rings = λ d. subst (λ k. k ≤ 1) (sym (ends_counted s.tree (is_ring_of d) s.conns)) (g.rings d);
      sockets = subst (λ k. k ≤ 65536) (sym (ends_counted s.tree is_socket s.conns)) g.sockets;
      watches = of_conns (λ c conn. AreWatches (caller_of conn.spec).domid conn.watches) (λ c conn h. h.watches);
      opens = of_opens (λ c ts. OpensFit ts) (λ c conn h. opens_fit (opens_in conn) h.rising h.opens);
    }

    state_sound : IsSound made
    state_sound = record {
      store = store_sound;
      globals = g.globals;
      bytes = all_weaker (λ (e : ℕ × ConnectionOf Mark). ConnectionRight e.0 e.1) (λ (e : ℕ × ConnectionOf Mark). BytesFit e.1) (λ e h. h.bytes) made.conns conns_right;
    }

-- WHERE IT BEGINS
start_good : (Fine : ℕ → ℕ → Path → Type 0) → StateGood Fine none_came.state
start_good Fine = record {
  tree = new_tree-is;
  nodes = ((root_spelled, record { value = omega arith; entries = omega arith; domids = (omega arith, tt) }), tt);
  numbers = record { paths = refl; small = (omega arith, tt) };
  globals = record { rw_socket_fd = sfits_lit tt; evtchn_fd = sfits_lit tt };
  rising = refl;
  conns = tt;
  rings = λ d. omega arith;
  sockets = omega arith;
}

-- no path leaves a node without its parent
orphans_ok : (pending : List Pending) (whole s : State) → unless_orphans pending whole ≡ Ok s → (whole ≡ s) × AllByRecursion (λ q. is_orphan whole q ≡ false) pending
orphans_ok [] whole s e = (ok_is e, tt)
orphans_ok (q ∷ pending) whole s e =
    (elim (is_orphan whole q) as (λ b. is_orphan whole q ≡ b → cond b (Err (Orphan q.rec)) (unless_orphans pending whole) ≡ Ok s → (whole ≡ s) × AllByRecursion (λ q. is_orphan whole q ≡ false) (q ∷ pending)) [
      | true ↦ λ t g. not_ok g
      | false ↦ λ t g. let more = orphans_ok pending whole s g in (more.0, (t, more.1))
    ]) refl e

records_sound : (records : List StreamRecord) (s : State) → AllByRecursion Told records → state_of_records records ≡ Ok s → IsSound s
records_sound records s all e =
    let first = then_ok (load_from 0 none_came records) (λ l. unless_orphans l.pending (normal_state l.state)) s e in
    let said : StateOf Said = first.0.state in
    let parts = orphans_ok first.0.pending (normal_state said) s first.2 in
    let goes = records_step (Fine said) records 0 none_came first.0 all first.1 parts.1 in
    subst IsSound parts.0 (state_sound said (goes.state (start_good (Fine said))))

stream_sound : (bytes : List ℕ) (s : State) (r : Result (List StreamRecord) StreamFault) → AreBytes bytes → stream_of bytes ≡ r → state_by r ≡ Ok s → IsSound s
stream_sound bytes s (Ok records) all f e = records_sound records s (told bytes records all f) e
stream_sound bytes s (Err fault) all f e = not_ok e

pub loaded_is_sound : WhatLoadsIsSound
loaded_is_sound bytes s all e = stream_sound bytes s (stream_of bytes) all refl e
