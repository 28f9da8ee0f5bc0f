-- A daemon and its sound state.
use Rattle.std.proofs.Common.{◌≡◌, ℕ, ◌≤◌, true, List, [], ◌∷◌, map, length, Option, Some, None, is_some, refl, sym, ap, subst, ◌∙◌, arith}
use Rattle.std.specs.Option.{option_map}
use Rattle.std.specs.List.{AllByRecursion}
use Rattle.std.specs.Ordering.{nat_cmp}
use Rattle.std.specs.FinMap.{find, is_sorted}
use Rattle.xs_model.specs.Wholes.{whole_behind}
use Rattle.xs_model.specs.Generations.{greatest}
use Rattle.xs_model.proofs.Maps.{all_found}
use Rattle.machine_model.specs.declared.ConnSpec.{ConnSpec}
use Rattle.machine_model.specs.declared.ConnSpec.TheVariants.{Ring, Socket}
use Rattle.machine_model.specs.declared.Globals.{Globals}
use Rattle.machine_model.specs.declared.bounds.TheConstants.{CROWD_LIMIT}
use Rattle.machine_model.specs.Connections.{Connection, Connections}
use Rattle.machine_model.specs.History.{bytes_or_none}
use Rattle.mark_model.specs.Marks.{Mark}
use Rattle.mark_model.specs.Stores.{KeptStore, Opens, or_no_opens, opens_of as opens_at}
use Rattle.kept_model.specs.States.{TransactionOf, ConnectionOf, kept_transaction, opens_in, connection_in, store_of as store_of_state}
use Rattle.kept_model.specs.Sound.{IsSound as IsSoundState, IsSoundStore, SpecFits, BytesFit, GlobalsFit, is_socket, count_ends}
use Rattle.out_queues.specs.Queues.{Queue}
use Rattle.conn_table.specs.Tables.{Specs, IsTable}
use Rattle.node_tree.specs.KeptTree.{KeptTree}
use Rattle.watchers.specs.Watched.{Watched, AreOwn, watches_of, watching, conns_of}
use Rattle.conn_rows.specs.Rows.{opens_of}
use Rattle.conn_rows.specs.Queued.{unsent_of, rests_of}
use Rattle.conn_rows.proofs.UnsentBytes.{unsent_found, rests_found}
use Rattle.store_parts.specs.Kept.{Kept}
use Rattle.store_parts.specs.States.{Inboxes, or_zero, rest_of, transactions_of, connection_of, state_of}
use Rattle.daemon.specs.Peers.{Connected, IsInBounds, IsSoundTable}
use Rattle.daemon.specs.Acts.{IsWhole, kept_by, store_in}
use Rattle.daemon.proofs.KeepsLemmas.{conns_keys}
use Rattle.daemon.proofs.PeerLemmas.{short_unsent, short_queues, unsent_keys, positive_ids}
use Rattle.daemon.proofs.UnsentLemmas.{opens_keys}
use Rattle.daemon.proofs.WholeLemmas.{sockets_counted}
use Rattle.daemon.proofs.ValueLemmas.{values_same}

-- BYTES at an id, or none
short_at : (n c : ℕ) (es : List (ℕ × List ℕ)) → AllByRecursion (λ e. length e.1 ≤ n) es → length (bytes_or_none (find nat_cmp c es)) ≤ n
short_at n c es all = by (find nat_cmp c es) refl
  where
    by : (o : Option (List ℕ)) → find nat_cmp c es ≡ o → length (bytes_or_none o) ≤ n
    by None t = omega arith
    by (Some bytes) t = all_found nat_cmp (λ (b : List ℕ). length b ≤ n) c es bytes all t

abbrev AreWhole : List (ℕ × Queue) → Type 0
AreWhole queues = AllByRecursion (λ e. whole_behind e.1.rest e.1.bytes ≡ true) queues

whole_at : (c : ℕ) (queues : List (ℕ × Queue)) → AreWhole queues → whole_behind (rest_of c (rests_of queues)) (bytes_or_none (find nat_cmp c (unsent_of queues))) ≡ true
whole_at c queues all = (λ i. whole_behind (or_zero (rests_found c queues i)) (bytes_or_none (unsent_found c queues i))) ∙ by (find nat_cmp c queues) refl
  where
    by : (o : Option Queue) → find nat_cmp c queues ≡ o → whole_behind (or_zero (option_map (λ (q : Queue). q.rest) o)) (bytes_or_none (option_map (λ (q : Queue). q.bytes) o)) ≡ true
    by None t = refl
    by (Some queue) t = all_found nat_cmp (λ (q : Queue). whole_behind q.rest q.bytes ≡ true) c queues queue all t

-- THE STORE of the state is the one that is kept
same_txns : (opens : Opens) → map (λ (e : ℕ × TransactionOf Mark). (e.0, kept_transaction e.1)) (transactions_of opens) ≡ opens
same_txns [] = refl
same_txns (e ∷ opens) = ap (λ es. e ∷ es) (same_txns opens)

module _ (kept : Kept) (ins : Inboxes) where
  abbrev conns_from : Specs → List (ℕ × ConnectionOf Mark)
  conns_from specs = map (λ (e : ℕ × ConnSpec). (e.0, connection_of kept ins e.0 e.1)) specs

  same_conns : (specs : Specs) → map (λ (e : ℕ × ConnectionOf Mark). (e.0, connection_in e.1)) (conns_from specs) ≡ conns_of specs kept.watched
  same_conns [] = refl
  same_conns (e ∷ specs) = ap (λ (es : List (ℕ × Connection)). (e.0, watching e.1 (watches_of e.0 kept.watched)) ∷ es) (same_conns specs)

  opens_from : (specs : Specs) → map (λ (e : ℕ × ConnectionOf Mark). (e.0, opens_in e.1)) (conns_from specs) ≡ map {B = ℕ × Opens} (λ e. (e.0, or_no_opens (find nat_cmp e.0 kept.opens))) specs
  opens_from [] = refl
  opens_from (e ∷ specs) = λ i. (e.0, same_txns (opens_at e.0 kept.opens) i) ∷ opens_from specs i

module _ (tree : KeptTree) (peers : Connected) (globals : Globals) (rows : map (λ e. e.0) peers.txns ≡ map (λ e. e.0) peers.specs) (rising : is_sorted nat_cmp peers.specs ≡ true) (ins : Inboxes) where
  abbrev kept : Kept
  kept = kept_by tree peers globals

  same_opens : map (λ (e : ℕ × ConnectionOf Mark). (e.0, opens_in e.1)) (conns_from kept ins peers.specs) ≡ opens_of peers.txns
  same_opens =
      opens_from kept ins peers.specs
      ∙ sym (values_same or_no_opens (λ txns. refl) (opens_of peers.txns) peers.specs (opens_keys peers.txns ∙ rows) rising peers.specs refl)

  same_store : store_of_state (state_of kept ins) ≡ store_in tree peers
  same_store = λ i. record {
    machine = record { tree = tree.nodes; gens = tree.gens; conns = same_conns kept ins peers.specs i };
    opens = same_opens i;
  }

-- WHAT IS WHOLE has a sound state
module _ (tree : KeptTree) (peers : Connected) (globals : Globals) (whole : IsWhole tree peers) (ins : Inboxes) where
  bytes_fit : AreWhole peers.queues → AllByRecursion (λ e. length e.1 ≤ 16777216) ins → (specs : Specs) → AllByRecursion (λ (e : ℕ × ConnectionOf Mark). BytesFit e.1) (conns_from (kept_by tree peers globals) ins specs)
  bytes_fit wholes short [] = tt
  bytes_fit wholes short (e ∷ specs) = (
    record {
      inbox = short_at 16777216 e.0 ins short;
      unsent = short_at CROWD_LIMIT e.0 (unsent_of peers.queues) (short_unsent peers.queues whole.sound.short);
      whole = whole_at e.0 peers.queues wholes;
    },
    bytes_fit wholes short specs,
  )

  pub state_sound : AreWhole peers.queues → GlobalsFit globals → AllByRecursion (λ e. length e.1 ≤ 16777216) ins → IsSoundState (state_of (kept_by tree peers globals) ins)
  state_sound wholes fit short = record {
    store = subst IsSoundStore (sym (same_store tree peers globals whole.sound.rows whole.sound.table.table.rising ins)) whole.store;
    globals = fit;
    bytes = bytes_fit wholes short peers.specs;
  }

-- AND PARTS whose state is sound are whole
bounds_from : (specs : Specs) (watched : Watched) → AllByRecursion (λ (e : ℕ × Connection). SpecFits e.1.spec) (conns_of specs watched) → AllByRecursion (λ e. IsInBounds e.1) specs
bounds_from [] watched h = tt
bounds_from ((id, Ring domid target evtchn) ∷ es) watched h = ((h.0.0, h.0.1), bounds_from es watched h.1)
bounds_from ((id, Socket fd) ∷ es) watched h = (tt, bounds_from es watched h.1)

table_from : (specs : Specs) (watched : Watched) → IsTable specs → (store : KeptStore) → store.machine.conns ≡ conns_of specs watched → IsSoundStore store → IsSoundTable specs
table_from specs watched table store is sound =
    let ids = subst (λ (conns : Connections). AllByRecursion (λ e. 1 ≤ e.0) conns) is sound.kept.ids.positive in
    record {
      table = table;
      ids = positive_ids specs (conns_of specs watched) (sym (conns_keys watched specs)) ids;
      bounds = bounds_from specs watched (subst (λ (conns : Connections). AllByRecursion (λ e. SpecFits e.1.spec) conns) is sound.ends);
      sockets = subst (λ n. n ≤ 65536) (ap (count_ends is_socket) is ∙ sockets_counted specs watched) sound.sockets;
    }

module _ (tree : KeptTree) (peers : Connected) (globals : Globals) (ids : map (λ e. e.0) peers.queues ≡ map (λ e. e.0) peers.specs) (rows : map (λ e. e.0) peers.txns ≡ map (λ e. e.0) peers.specs) where
  short_from : (specs : Specs) → AllByRecursion (λ (e : ℕ × ConnectionOf Mark). BytesFit e.1) (conns_from (kept_by tree peers globals) [] specs)
      → AllByRecursion (λ e. length e.1 ≤ CROWD_LIMIT) (map {B = ℕ × List ℕ} (λ e. (e.0, bytes_or_none (find nat_cmp e.0 (unsent_of peers.queues)))) specs)
  short_from [] h = tt
  short_from (e ∷ specs) h = (h.0.unsent, short_from specs h.1)

  pub parts_whole : IsTable peers.specs → AreOwn peers.specs peers.watched → AllByRecursion (λ e. is_some (find nat_cmp e.0 peers.specs) ≡ true) peers.watched → tree.counter ≡ greatest tree.gens → IsSoundState (state_of (kept_by tree peers globals) []) → IsWhole tree peers
  parts_whole table own watching counter state =
      let is = same_store tree peers globals rows table.rising [] in
      let unsent = values_same bytes_or_none (λ bytes. refl) (unsent_of peers.queues) peers.specs (unsent_keys peers.queues ∙ ids) table.rising peers.specs refl in
      record {
        sound = record {
          table = table_from peers.specs peers.watched table (store_of_state (state_of (kept_by tree peers globals) [])) (same_conns (kept_by tree peers globals) [] peers.specs) state.store;
          own = own;
          watching = watching;
          ids = ids;
          rows = rows;
          short = short_queues peers.queues (subst (AllByRecursion (λ e. length e.1 ≤ CROWD_LIMIT)) (sym unsent) (short_from peers.specs state.bytes));
        };
        store = subst IsSoundStore is state.store;
        counter = counter;
      }
