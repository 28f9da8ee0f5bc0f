-- What a change of the tree makes of what a daemon keeps. This project's own.
use Rattle.std.specs.Prelude.{◌≡◌, ℕ, ◌+◌, ◌≤◌, ◌==◌, not, List, length, Option, Some, None}
use Rattle.std.specs.List.{AllByRecursion}
use Rattle.std.specs.Ordering.{nat_cmp}
use Rattle.std.specs.FinMap.{find, put}
use Rattle.std.specs.FinMap.Entries.{where_key}
use Rattle.xs_model.specs.Changes.{changed_paths}
use Rattle.xs_model.specs.Generations.{greatest, stamped}
use Rattle.machine_model.specs.History.{Unsent, unsent_to, sent_to}
use Rattle.machine_model.specs.Machine.{change_sends}
use Rattle.machine_model.specs.declared.bounds.TheConstants.{CROWD_LIMIT}
use Rattle.out_queues.specs.Queues.{Queue}
use Rattle.node_tree.specs.KeptTree.{KeptTree}
use Rattle.mark_model.specs.Marks.{Marks, committed, written_paths}
use Rattle.mark_model.specs.Stores.{noted_all}
use Rattle.conn_table.specs.Tables.{Specs}
use Rattle.watchers.specs.Watched.{Watched, conns_of}
use Rattle.conn_rows.specs.Rows.{Rows, opens_of, txns_of}
use Rattle.conn_rows.specs.Queued.{unsent_of, rests_of}
use Rattle.conn_rows.specs.Sending.{HasRoomFor, crowding}
use Rattle.daemon.specs.Peers.{message_limit}
use Rattle.daemon.specs.declared.change.Made.{Made}
use Rattle.daemon.specs.declared.change.Made.TheVariants as made

-- the tree once marks are committed, and what the open transactions note of it
pub record IsChanged (marks : Marks) (tree : KeptTree) (rows : Rows) (tree_new : KeptTree) (rows_new : Rows) : Type 0 where
  pub nodes : tree_new.nodes ≡ committed tree.nodes marks
  pub gens : tree_new.gens ≡ stamped tree.gens tree.nodes (written_paths marks) tree_new.nodes
  pub counter : tree_new.counter ≡ greatest tree_new.gens
  pub opens : opens_of rows_new.txns ≡ noted_all tree.nodes (changed_paths tree.nodes (written_paths marks) tree_new.nodes) (opens_of rows.txns)
  pub unsent : unsent_of rows_new.queues ≡ unsent_of rows.queues
  pub rests : rests_of rows_new.queues ≡ rests_of rows.queues

-- nothing has changed but memory
pub record IsUnchanged (tree : KeptTree) (rows : Rows) (tree_new : KeptTree) (rows_new : Rows) : Type 0 where
  pub nodes : tree_new.nodes ≡ tree.nodes
  pub gens : tree_new.gens ≡ tree.gens
  pub counter : tree_new.counter ≡ tree.counter
  pub opens : opens_of rows_new.txns ≡ opens_of rows.txns
  pub unsent : unsent_of rows_new.queues ≡ unsent_of rows.queues
  pub rests : rests_of rows_new.queues ≡ rests_of rows.queues

-- what the change owes to each connection of a table
abbrev pub Owes : Marks → KeptTree → Specs → Watched → Unsent → Type 0
Owes marks tree specs watched owed =
    (c : ℕ) → sent_to c (change_sends tree.nodes (written_paths marks) (committed tree.nodes marks) (conns_of specs watched)) ≡ unsent_to c owed

-- a reply of n bytes may be sent to the asker, by what is unsent
pub record IsSendable (asker n : ℕ) (queues : List (ℕ × Queue)) : Type 0 where
  pub positive : AllByRecursion (λ e. 1 ≤ e.0) queues
  pub short : AllByRecursion (λ e. length e.1.bytes ≤ CROWD_LIMIT) queues
  pub few : (queue : Queue) → find nat_cmp asker queues ≡ Some queue → length queue.bytes + n ≤ CROWD_LIMIT

-- what a change would owe, or whom it would crowd
pub record IsOwed (asker n : ℕ) (marks : Marks) (specs : Specs) (watched : Watched) (tree : KeptTree) (rows : Rows) (owed : Unsent) (who : Option ℕ) : Type 0 where
  pub owes : Owes marks tree specs watched owed
  pub crowds : crowding asker n owed (unsent_of rows.queues) ≡ who

abbrev pub IsWeighed : ℕ → ℕ → Marks → Specs → Watched → KeptTree → Rows → Made → Type 0
IsWeighed asker n marks specs watched tree rows (made.Done owed) = IsOwed asker n marks specs watched tree rows owed None
IsWeighed asker n marks specs watched tree rows (made.Crowded c) = (owed : Unsent) × IsOwed asker n marks specs watched tree rows owed (Some c)

-- A CHANGE, asked for by a connection whose reply has n bytes: it is made, and there is memory for what it owes and for the
-- longest reply; or a connection would have too many bytes unsent
pub record IsMade (asker n : ℕ) (marks : Marks) (specs : Specs) (watched : Watched) (tree : KeptTree) (rows left : Rows) (sent : Unsent) (tree_new : KeptTree) (rows_new : Rows) : Type 0 where
  pub changed : IsChanged marks tree left tree_new rows_new
  pub owed : IsOwed asker n marks specs watched tree rows sent None
  pub room : HasRoomFor asker message_limit sent rows_new.queues

pub record WouldCrowd (asker n : ℕ) (marks : Marks) (specs : Specs) (watched : Watched) (tree : KeptTree) (rows : Rows) (c : ℕ) (tree_new : KeptTree) (rows_new : Rows) : Type 0 where
  pub owed : (owed : Unsent) × IsOwed asker n marks specs watched tree rows owed (Some c)
  pub unchanged : IsUnchanged tree rows tree_new rows_new

-- `left` is what the change finds of the rows: all of them, or without the transaction that is committed
abbrev pub IsMadeOr : ℕ → ℕ → Marks → Specs → Watched → KeptTree → Rows → Rows → Made → KeptTree → Rows → Type 0
IsMadeOr asker n marks specs watched tree rows left (made.Done owed) tree_new rows_new = IsMade asker n marks specs watched tree rows left owed tree_new rows_new
IsMadeOr asker n marks specs watched tree rows left (made.Crowded c) tree_new rows_new = WouldCrowd asker n marks specs watched tree rows c tree_new rows_new

-- without an open transaction of a connection
abbrev pub without_txn : ℕ → ℕ → Rows → Rows
without_txn c tx rows = record {
  queues = rows.queues;
  txns = put nat_cmp c (where_key nat_cmp (λ key. not (tx == key)) (txns_of c rows.txns)) rows.txns;
  spare = rows.spare;
}
