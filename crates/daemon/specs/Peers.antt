-- The connections, with their watches, what is unsent to each and its open transactions. This project's own.
use Rattle.std.specs.Prelude.{◌≡◌, ℕ, ◌<◌, ◌≤◌, List, map, length, true, Some, is_some, IfSome, ⊤}
use Rattle.std.specs.List.{AllByRecursion}
use Rattle.std.specs.Ordering.{nat_cmp}
use Rattle.std.specs.FinMap.{find}
use Rattle.machine_model.specs.declared.bounds.TheConstants.{HELD_LIMIT, CROWD_LIMIT}
use Rattle.machine_model.specs.declared.ConnSpec.{ConnSpec}
use Rattle.machine_model.specs.declared.ConnSpec.TheVariants.{Ring, Socket}
use Rattle.machine_model.specs.Connections.{Connection, Connections}
use Rattle.out_queues.specs.Queues.{Queue}
use Rattle.conn_table.specs.Tables.{Specs, IsTable, count_sockets}
use Rattle.watchers.specs.Watched.{Watched, AreOwn, watches_of, watching, conns_of}
use Rattle.conn_rows.specs.Rows.{Txns}
use Rattle.conn_rows.specs.Queued.{HasRoom}

pub record Connected : Type 0 where
  pub specs : Specs
  pub watched : Watched
  pub queues : List (ℕ × Queue)
  pub txns : List (ℕ × Txns)

-- the store's connections, without their transactions
abbrev pub conns_in : Connected → Connections
conns_in peers = conns_of peers.specs peers.watched

-- the connection of this id and this other end
abbrev pub conn_in : Connected → ℕ → ConnSpec → Connection
conn_in peers c spec = watching spec (watches_of c peers.watched)

-- the domains that a connection names are domids
abbrev pub IsInBounds : ConnSpec → Type 0
IsInBounds (Ring domid target evtchn) = (domid ≤ 32751) × IfSome target (λ t. t ≤ 32751)
IsInBounds (Socket fd) = ⊤

-- a table whose ids are positive, whose domains are domids, and with at most so many sockets
pub record IsSoundTable (specs : Specs) : Type 0 where
  pub table : IsTable specs
  pub ids : AllByRecursion (λ e. 1 ≤ e.0) specs
  pub bounds : AllByRecursion (λ e. IsInBounds e.1) specs
  pub sockets : count_sockets specs ≤ 65536

-- what every daemon keeps of its connections: a row for each and no other, no queue of which is too long, and watches of
-- no other
pub record IsSound (peers : Connected) : Type 0 where
  pub table : IsSoundTable peers.specs
  pub own : AreOwn peers.specs peers.watched
  pub watching : AllByRecursion (λ e. is_some (find nat_cmp e.0 peers.specs) ≡ true) peers.watched
  pub ids : map (λ e. e.0) peers.queues ≡ map (λ e. e.0) peers.specs
  pub rows : map (λ e. e.0) peers.txns ≡ map (λ e. e.0) peers.specs
  pub short : AllByRecursion (λ e. length e.1.bytes ≤ CROWD_LIMIT) peers.queues

-- so many bytes has a message at the most: its header has 16, and its payload 4096
abbrev pub message_limit : ℕ
message_limit = 4112

-- A CONNECTION MAY ASK: few bytes are unsent to it, and there is memory for a reply
pub record MayAsk (c : ℕ) (peers : Connected) : Type 0 where
  pub few : (queue : Queue) → find nat_cmp c peers.queues ≡ Some queue → length queue.bytes < HELD_LIMIT
  pub room : HasRoom c message_limit peers.queues
