-- The rows of a daemon: what is unsent to each connection, and its open transactions. This project's own.
use Rattle.std.specs.Prelude.{◌≡◌, ℕ, ◌+◌, ◌≤◌, true, is_some, List, [], length, map, Option, Some, None}
use Rattle.std.specs.List.{AllByRecursion}
use Rattle.std.specs.Ordering.{nat_cmp}
use Rattle.std.specs.FinMap.{find}
use Rattle.xs_model.specs.Paths.{Path}
use Rattle.xs_model.specs.Trees.{Tree}
use Rattle.mark_model.specs.Stores.{KeptTransaction, Opens}
use Rattle.txn_access.specs.Txns.{Txn, Plans, note_each}
use Rattle.out_queues.specs.Queues.{Queue}

-- transactions by number
abbrev pub Txns : Type 0
Txns = List (ℕ × Txn)

-- of one connection
pub record Row : Type 0 where
  pub queue : Queue
  pub txns : Txns

-- the transactions of rows
abbrev pub txns_in : List (ℕ × Row) → List (ℕ × Txns)
txns_in rows = map (λ e. (e.0, e.1.txns)) rows

-- by the ids of the connections, with the number of further ones for which there is memory
pub record Rows : Type 0 where
  pub queues : List (ℕ × Queue)
  pub txns : List (ℕ × Txns)
  pub spare : ℕ

-- what is kept of transactions
abbrev pub kept_txn : Txn → KeptTransaction
kept_txn t = record { marks = t.marks; count = t.count }

abbrev pub opens_in : Txns → Opens
opens_in txns = map (λ e. (e.0, kept_txn e.1)) txns

abbrev pub opens_of : List (ℕ × Txns) → List (ℕ × Opens)
opens_of txns = map (λ e. (e.0, opens_in e.1)) txns

-- those of one connection
abbrev pub or_no_txns : Option Txns → Txns
or_no_txns None = []
or_no_txns (Some txns) = txns

abbrev pub txns_of : ℕ → List (ℕ × Txns) → Txns
txns_of c txns = or_no_txns (find nat_cmp c txns)

-- once each noted what it planned
abbrev pub applied : Txn → KeptTransaction
applied t = record { marks = note_each t.pending t.marks; count = t.count }

abbrev pub applied_in : Txns → Opens
applied_in txns = map (λ e. (e.0, applied e.1)) txns

-- P of each open transaction
abbrev pub EachIn : (Txn → Type 0) → Txns → Type 0
EachIn P txns = AllByRecursion (λ e. P e.1) txns

abbrev pub EachTxn : (Txn → Type 0) → List (ℕ × Txns) → Type 0
EachTxn P txns = AllByRecursion (λ e. EachIn P e.1) txns

-- each has planned what it notes once these paths of the tree changed
abbrev pub ArePlanned : Tree → List Path → List (ℕ × Txns) → Type 0
ArePlanned tree changed txns = EachTxn (Plans tree changed) txns

-- and has memory for it
abbrev pub HasRoomToNote : Txn → Type 0
HasRoomToNote t = length t.pending ≤ t.spare

abbrev pub HaveRoom : List (ℕ × Txns) → Type 0
HaveRoom txns = EachTxn HasRoomToNote txns

-- the ids behind one, or all of them
abbrev pub from_id : Option ℕ → ℕ
from_id None = 0
from_id (Some id) = id + 1

-- the least of them that has an item
pub record IsNextFrom {T : Type 0} (entries : List (ℕ × T)) (low next : ℕ) : Type 0 where
  pub above : low ≤ next
  pub there : is_some (find nat_cmp next entries) ≡ true
  pub least : (k : ℕ) → low ≤ k → is_some (find nat_cmp k entries) ≡ true → next ≤ k
