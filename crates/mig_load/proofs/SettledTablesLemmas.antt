-- The tables of connections that came, once what is said of their transactions is joined to the tree.
use Rattle.std.proofs.Common.{◌≡◌, ℕ, true, List, [], ◌∷◌, map, Some, is_some, refl, sym, ap, ◌∙◌}
use Rattle.std.specs.Option.{option_map}
use Rattle.std.specs.List.{AllByRecursion}
use Rattle.std.specs.Ordering.{nat_cmp}
use Rattle.std.specs.FinMap.{find, is_sorted}
use Rattle.xs_model.specs.Trees.{Tree}
use Rattle.xs_model.proofs.Maps.{found_map}
use Rattle.machine_model.specs.declared.ConnSpec.{ConnSpec}
use Rattle.machine_model.specs.History.{bytes_or_none}
use Rattle.mark_model.specs.Marks.{Mark}
use Rattle.mark_model.specs.Stores as store
use Rattle.mark_model.proofs.StoreMaps.{each_found}
use Rattle.kept_model.specs.States.{TransactionOf, StateOf}
use Rattle.kept_model.specs.Said.{Said}
use Rattle.kept_model.specs.Normal.{normal_transaction, normal_connection, normal_state}
use Rattle.conn_table.specs.Tables.{Specs}
use Rattle.out_queues.specs.Queues.{Queue}
use Rattle.watchers.specs.Watched.{watches_of}
use Rattle.conn_rows.specs.Rows.{Txns, opens_in, opens_of}
use Rattle.conn_rows.specs.Queued.{unsent_of, rests_of}
use Rattle.conn_rows.proofs.IdEntries.{keys_map, same_there, same_rising}
use Rattle.store_parts.specs.Kept.{Kept}
use Rattle.store_parts.specs.States.{Inboxes, rest_of, transactions_of, connection_of, state_of}
use Rattle.mig_load.specs.Came.{Opens, Saids, said_of, Tables, connection_at, connections_in, AreOf, AreTables}
use Rattle.mig_load.specs.Settled.{kept_opens, settled_opens}
use Rattle.mig_load.specs.SettledTables.{IsSettled}
use Rattle.mig_load.proofs.CameLemmas.{at_ids, at_found}

-- BEFORE, no connection has a transaction
abbrev quiet_txns : Specs → List (ℕ × Txns)
quiet_txns specs = map (λ e. (e.0, [])) specs

quiet_opens : (specs : Specs) → opens_of (quiet_txns specs) ≡ map (λ e. (e.0, [])) (quiet_txns specs)
quiet_opens [] = refl
quiet_opens (e ∷ specs) = ap (λ (es : List (ℕ × store.Opens)). (e.0, []) ∷ es) (quiet_opens specs)

module _ (t : Tables) (before : List (ℕ × Txns)) (rising : is_sorted nat_cmp t.specs ≡ true) (h : AreTables t before) where
  ids_before : map (λ e. e.0) before ≡ map (λ e. e.0) t.specs
  ids_before = ap (λ (txns : List (ℕ × Txns)). map (λ e. e.0) txns) h.quiet ∙ keys_map (λ _. []) t.specs

  pub nothing_open : opens_of before ≡ map (λ e. (e.0, [])) before
  nothing_open = ap opens_of h.quiet ∙ quiet_opens t.specs ∙ sym (ap (λ (txns : List (ℕ × Txns)). map (λ e. (e.0, [])) txns) h.quiet)

  pub rising_before : is_sorted nat_cmp before ≡ true
  rising_before = same_rising before t.specs ids_before ∙ rising

  those_there : (saids : Saids) → AreOf t.specs saids → AllByRecursion (λ e. is_some (find nat_cmp e.0 before) ≡ true) saids
  those_there [] told = tt
  those_there (e ∷ saids) told = (same_there before t.specs ids_before e.0 ∙ told.0, those_there saids told.1)

  pub all_there : AllByRecursion (λ e. is_some (find nat_cmp e.0 before) ≡ true) t.saids
  all_there = those_there t.saids h.told

-- AFTER, each has those that are said of it, joined to the tree
transactions_kept : (tree : Tree) (opens : Opens) → transactions_of (kept_opens tree opens) ≡ map (λ e. (e.0, normal_transaction tree e.1)) opens
transactions_kept tree [] = refl
transactions_kept tree (e ∷ opens) = ap (λ (ts : List (ℕ × TransactionOf Mark)). (e.0, normal_transaction tree e.1) ∷ ts) (transactions_kept tree opens)

same_ids : {X Y : Type 0} (f : ℕ → X → Y) (es : List (ℕ × X)) → map (λ e. e.0) (at_ids f es) ≡ map (λ e. e.0) es
same_ids f [] = refl
same_ids f (e ∷ es) = ap (λ ids. e.0 ∷ ids) (same_ids f es)

module _ (tree : Tree) (t : Tables) (before now : List (ℕ × Txns)) (queues : List (ℕ × Queue)) (rising : is_sorted nat_cmp t.specs ≡ true) (h : AreTables t before)
    (opened : opens_of now ≡ settled_opens tree t.saids before) (queued : queues ≡ t.queues) where
  abbrev settled_at : ℕ → Txns → store.Opens
  settled_at c txns = kept_opens tree (said_of c t.saids)

  opens_now : (c : ℕ) (spec : ConnSpec) → find nat_cmp c t.specs ≡ Some spec → store.opens_of c (opens_of now) ≡ kept_opens tree (said_of c t.saids)
  opens_now c spec e =
      ap (store.opens_of c) (opened ∙ ap (settled_opens tree t.saids) h.quiet)
      ∙ ap store.or_no_opens (at_found settled_at c (quiet_txns t.specs) ∙ ap (option_map (settled_at c)) (found_map nat_cmp (λ _. []) c t.specs ∙ ap (option_map (λ _. [])) e))

  module _ (kept : Kept) (watched : kept.watched ≡ t.watched) (opens : kept.opens ≡ opens_of now) (unsent : kept.unsent ≡ unsent_of queues) (rests : kept.rests ≡ rests_of queues) where
    connection_settled : (c : ℕ) (spec : ConnSpec) → find nat_cmp c t.specs ≡ Some spec → connection_of kept t.ins c spec ≡ normal_connection tree (connection_at t c spec)
    connection_settled c spec e i = record {
      spec = spec;
      watches = watches_of c (watched i);
      inbox = bytes_or_none (find nat_cmp c t.ins);
      rest = rest_of c ((rests ∙ ap rests_of queued) i);
      unsent = bytes_or_none (find nat_cmp c ((unsent ∙ ap unsent_of queued) i));
      opens = (ap (λ os. transactions_of (store.opens_of c os)) opens ∙ ap transactions_of (opens_now c spec e) ∙ transactions_kept tree (said_of c t.saids)) i;
    }

    each_settled : (specs : Specs) → AllByRecursion (λ e. find nat_cmp e.0 t.specs ≡ Some e.1) specs
        → at_ids (connection_of kept t.ins) specs ≡ map (λ e. (e.0, normal_connection tree e.1)) (at_ids (connection_at t) specs)
    each_settled [] found = refl
    each_settled (e ∷ specs) found = λ i. (e.0, connection_settled e.0 e.1 found.0 i) ∷ each_settled specs found.1 i

    all_settled : at_ids (connection_of kept t.ins) t.specs ≡ map (λ e. (e.0, normal_connection tree e.1)) (connections_in t)
    all_settled = each_settled t.specs (each_found t.specs rising)

  pub are_settled : IsSettled tree (connections_in t) t.specs t.watched queues now t.ins
  are_settled = record {
    connections = λ kept specs watched opens unsent rests. all_settled kept watched opens unsent rests;
    own = h.own;
    named = h.named;
    queued = ap (λ (qs : List (ℕ × Queue)). map (λ e. e.0) qs) queued ∙ h.queued;
    opened = sym (keys_map opens_in now) ∙ ap (λ (os : List (ℕ × store.Opens)). map (λ e. e.0) os) opened ∙ same_ids settled_at before ∙ ids_before t before rising h;
    read = h.read;
  }

-- THE STATE of a store with such tables
pub state_settled : (s : StateOf Said) (kept : Kept) (ins : Inboxes) (queues : List (ℕ × Queue)) (txns : List (ℕ × Txns)) → IsSettled kept.tree s.conns kept.specs kept.watched queues txns ins
    → kept.tree ≡ s.tree → kept.gens ≡ s.gens → kept.globals ≡ s.globals → kept.opens ≡ opens_of txns → kept.unsent ≡ unsent_of queues → kept.rests ≡ rests_of queues → state_of kept ins ≡ normal_state s
state_settled s kept ins queues txns h tree gens globals opens unsent rests i = record {
  tree = tree i;
  gens = gens i;
  globals = globals i;
  conns = (h.connections kept refl refl opens unsent rests ∙ ap (λ tree. map (λ e. (e.0, normal_connection tree e.1)) s.conns) tree) i;
}
