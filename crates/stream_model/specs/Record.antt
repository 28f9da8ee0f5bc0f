-- The records of a migration stream, version 1, by the names of xenstore-migration.md. Their fields are this
-- project's own. A text stands as its bytes do, the NUL that its length counts included.
use Rattle.std.specs.Prelude.{ℕ, ℤ, ◌+◌, ◌*◌, ◌^◌, Bool, true, false, List}
use Rattle.stream_model.specs.declared.record.RawPerm.{RawPerm}
use Rattle.stream_model.specs.declared.record.RecordType.{RecordType}
use Rattle.stream_model.specs.declared.record.RecordType.TheVariants.{End, Global, Connection, Watch, Transaction, Node}

-- GLOBAL_DATA: two file descriptors, -1 for none
pub record GlobalData : Type 0 where
  pub rw_socket_fd : ℤ
  pub evtchn_fd : ℤ

-- CONNECTION_DATA: the connection, whether ring (0) or socket (1), the eight bytes of that, the request bytes
-- that were read, and the reply bytes that are not sent, of which the first `rest` end a message in mid-way
pub record ConnectionData : Type 0 where
  pub conn : ℕ
  pub kind : ℕ
  pub spec : List ℕ
  pub rest : ℕ
  pub inbox : List ℕ
  pub unsent : List ℕ

-- WATCH_DATA: a connection's watch path and its token
pub record WatchData : Type 0 where
  pub conn : ℕ
  pub wpath : List ℕ
  pub token : List ℕ

-- TRANSACTION_DATA: an open transaction of a connection, and how many commands it has run
pub record TransactionData : Type 0 where
  pub conn : ℕ
  pub tx : ℕ
  pub count : ℕ

-- NODE_DATA: a node of the store, or under a connection's transaction what that transaction did at a path
pub record NodeData : Type 0 where
  pub conn : ℕ
  pub tx : ℕ
  pub access : ℕ
  pub perms : List RawPerm
  pub path : List ℕ
  pub value : List ℕ

-- the generation of a node of the store, in its record's tx-id and access
abbrev pub generation_in : NodeData → ℕ
generation_in n = n.tx + 2 ^ 32 * n.access

pub data StreamRecord : Type 0 where
  global_data : GlobalData → StreamRecord
  connection_data : ConnectionData → StreamRecord
  watch_data : WatchData → StreamRecord
  transaction_data : TransactionData → StreamRecord
  node_data : NodeData → StreamRecord
  end_record : StreamRecord

abbrev pub type_of : StreamRecord → RecordType
type_of (global_data g) = Global
type_of (connection_data c) = Connection
type_of (watch_data w) = Watch
type_of (transaction_data t) = Transaction
type_of (node_data n) = Node
type_of end_record = End

-- is it END, behind which nothing may follow?
abbrev pub is_end : StreamRecord → Bool
is_end (global_data g) = false
is_end (connection_data c) = false
is_end (watch_data w) = false
is_end (transaction_data t) = false
is_end (node_data n) = false
is_end end_record = true
