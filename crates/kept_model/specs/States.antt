-- A kept state: all that a running store is, so that another one can go on with it. It is what a migration stream tells
-- (xenstore-migration.md); what it keeps of a transaction is this project's own.
use Rattle.std.specs.Prelude.{ℕ, List, [], map}
use Rattle.xs_model.specs.Paths.{Path}
use Rattle.xs_model.specs.Trees.{Tree}
use Rattle.xs_model.specs.Generations.{Generations}
use Rattle.xs_model.specs.Watches.{Watch}
use Rattle.machine_model.specs.declared.ConnSpec.{ConnSpec}
use Rattle.machine_model.specs.declared.Globals.{Globals}
use Rattle.machine_model.specs.Connections.{Connection}
use Rattle.machine_model.specs.Machine.{Machine}
use Rattle.mark_model.specs.Marks.{Mark}
use Rattle.mark_model.specs.Stores.{KeptStore, KeptTransaction, Opens, begun_machine}

-- The parts, with what there is at a path of a transaction left open: a state has marks there, and a stream says a
-- little less.

-- an open transaction: how many of its commands wrote something, and what there is at each path
pub record TransactionOf (M : Type 0) : Type 0 where
  pub count : ℕ
  pub marks : List (Path × M)

-- A connection: its other end, its watches in the order made, the request bytes that were read and not answered, the reply
-- bytes that are still to be sent, the first `rest` of which end a message that was sent in part, and its open
-- transactions by number
pub record ConnectionOf (M : Type 0) : Type 0 where
  pub spec : ConnSpec
  pub watches : List Watch
  pub inbox : List ℕ
  pub rest : ℕ
  pub unsent : List ℕ
  pub opens : List (ℕ × TransactionOf M)

-- the nodes, the number of each path, and the connections by id
pub record StateOf (M : Type 0) : Type 0 where
  pub tree : Tree
  pub gens : Generations
  pub globals : Globals
  pub conns : List (ℕ × ConnectionOf M)

abbrev pub State : Type 0
State = StateOf Mark

-- THE STORE OF A STATE: what is left of it without bytes that are under way and file descriptors
abbrev pub kept_transaction : TransactionOf Mark → KeptTransaction
kept_transaction t = record { marks = t.marks; count = t.count }

abbrev pub opens_in : ConnectionOf Mark → Opens
opens_in conn = map (λ e. (e.0, kept_transaction e.1)) conn.opens

abbrev pub connection_in : ConnectionOf Mark → Connection
connection_in conn = record { spec = conn.spec; watches = conn.watches; transactions = [] }

abbrev pub store_of : State → KeptStore
store_of s = record {
  machine = record { tree = s.tree; gens = s.gens; conns = map (λ e. (e.0, connection_in e.1)) s.conns };
  opens = map (λ e. (e.0, opens_in e.1)) s.conns;
}

-- the sequential store with which a state goes on
abbrev pub begun : State → Machine
begun s = begun_machine (store_of s)
