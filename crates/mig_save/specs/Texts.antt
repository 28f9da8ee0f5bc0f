-- The bytes of the records of a store, kind by kind, by the parts that tell them. This project's own.
use Rattle.std.specs.Prelude.{◌≡◌, ℕ, ◌/◌, ◌%◌, ◌^◌, ◌≤◌, true, List, length, Some}
use Rattle.std.specs.List.{flat_map, AllByRecursion}
use Rattle.std.specs.Ordering.{nat_cmp}
use Rattle.std.specs.FinMap.{find}
use Rattle.xs_model.specs.Paths.{Path}
use Rattle.xs_model.specs.Trees.{Tree}
use Rattle.xs_model.specs.Generations.{Generations, generation_max}
use Rattle.xs_model.specs.Watches.{Watch}
use Rattle.xs_model.specs.Wholes.{whole_behind}
use Rattle.machine_model.specs.declared.ConnSpec.{ConnSpec}
use Rattle.machine_model.specs.declared.bounds.TheConstants.{CROWD_LIMIT}
use Rattle.machine_model.specs.History.{bytes_or_none}
use Rattle.mark_model.specs.Marks.{Mark, Marks}
use Rattle.stream_model.specs.Record.{ConnectionData, connection_data, transaction_data}
use Rattle.stream_model.specs.Spelling.{canonical_record}
use Rattle.kept_model.specs.Sound.{NodeFits, MarksFit}
use Rattle.kept_model.specs.Images.{kind_number, spec_bytes, watch_record, found_record, node_record, mark_record}
use Rattle.node_tree.specs.declared.entry.Entry.{Entry}
use Rattle.path_map.specs.Map.{Entries}
use Rattle.out_queues.specs.Queues.{Queue}
use Rattle.conn_table.specs.Tables.{Specs}
use Rattle.watchers.specs.Watched.{Watched, watches_of}
use Rattle.txn_access.specs.Txns.{Txn}
use Rattle.conn_rows.specs.Rows.{Txns, txns_of}
use Rattle.conn_rows.specs.Queued.{unsent_of, rests_of}
use Rattle.store_parts.specs.States.{Inboxes, rest_of}

-- CONNECTIONS, by what is unsent and what was read
abbrev pub connection_data_of : List (ℕ × Queue) → Inboxes → ℕ × ConnSpec → ConnectionData
connection_data_of queues ins e = record {
  conn = e.0;
  kind = kind_number e.1;
  spec = spec_bytes e.1;
  rest = rest_of e.0 (rests_of queues);
  inbox = bytes_or_none (find nat_cmp e.0 ins);
  unsent = bytes_or_none (find nat_cmp e.0 (unsent_of queues));
}

unfoldable pub connection_text : List (ℕ × Queue) → Inboxes → ℕ × ConnSpec → List ℕ
connection_text queues ins e = canonical_record (connection_data (connection_data_of queues ins e))

abbrev pub connections_text : Specs → List (ℕ × Queue) → Inboxes → List ℕ
connections_text specs queues ins = flat_map (connection_text queues ins) specs

-- its bytes are not too many, and what is unsent is a rest and then whole messages
pub record DataFits (d : ConnectionData) : Type 0 where
  pub inbox : length d.inbox ≤ 16777216
  pub unsent : length d.unsent ≤ CROWD_LIMIT
  pub whole : whole_behind d.rest d.unsent ≡ true

abbrev pub ConnectionsFit : Specs → List (ℕ × Queue) → Inboxes → Type 0
ConnectionsFit specs queues ins = AllByRecursion (λ e. DataFits (connection_data_of queues ins e)) specs

-- WATCHES of a connection, in the order made
abbrev pub watches_text : ℕ → List Watch → List ℕ
watches_text c watches = flat_map (λ w. canonical_record (watch_record c w)) watches

abbrev pub all_watches_text : Specs → Watched → List ℕ
all_watches_text specs watched = flat_map (λ e. watches_text e.0 (watches_of e.0 watched)) specs

-- TRANSACTIONS of a connection, by number
abbrev pub transaction_text : ℕ → ℕ × Txn → List ℕ
transaction_text c e = canonical_record (transaction_data (record { conn = c; tx = e.0; count = e.1.count }))

abbrev pub transactions_text : ℕ → Txns → List ℕ
transactions_text c txns = flat_map (transaction_text c) txns

abbrev pub all_transactions_text : Specs → List (ℕ × Txns) → List ℕ
all_transactions_text specs txns = flat_map (λ e. transactions_text e.0 (txns_of e.0 txns)) specs

-- NODES, each with its number
abbrev pub entry_text : Path × Entry → List ℕ
entry_text e = canonical_record (found_record 0 (e.1.generation % 2 ^ 32) (e.1.generation / 2 ^ 32) e.0 (Some e.1.node))

abbrev pub nodes_text : Entries Entry → List ℕ
nodes_text entries = flat_map entry_text entries

-- its value, its entries and its number are not too long
pub record EntryFits (e : Path × Entry) : Type 0 where
  pub node : NodeFits e.1.node
  pub number : e.1.generation ≤ generation_max

abbrev pub EntriesFit : Entries Entry → Type 0
EntriesFit entries = AllByRecursion EntryFits entries

-- the same by the nodes, and by the numbers of their paths
abbrev pub tree_text : Generations → Tree → List ℕ
tree_text gens tree = flat_map (λ e. canonical_record (node_record gens e.0 e.1)) tree

-- MARKS of a transaction, by path
abbrev pub mark_text : Tree → ℕ → ℕ → Path × Mark → List ℕ
mark_text tree c tx e = canonical_record (mark_record tree c tx e.0 e.1)

abbrev pub marks_text : Tree → ℕ → ℕ → Marks → List ℕ
marks_text tree c tx marks = flat_map (mark_text tree c tx) marks

abbrev pub txns_text : Tree → ℕ → Txns → List ℕ
txns_text tree c txns = flat_map (λ e. marks_text tree c e.0 e.1.marks) txns

abbrev pub all_marks_text : Specs → Tree → List (ℕ × Txns) → List ℕ
all_marks_text specs tree txns = flat_map (λ e. txns_text tree e.0 (txns_of e.0 txns)) specs

abbrev pub TxnsFit : Txns → Type 0
TxnsFit txns = AllByRecursion (λ e. MarksFit e.1.marks) txns

abbrev pub AllTxnsFit : Specs → List (ℕ × Txns) → Type 0
AllTxnsFit specs txns = AllByRecursion (λ e. TxnsFit (txns_of e.0 txns)) specs
