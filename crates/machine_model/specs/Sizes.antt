-- Sizes: the words of their laws, which are proved of functions in `src/laws.rt`.
use Rattle.std.specs.Prelude.{◌≡◌, ◌+◌, ◌≤◌, length}
use Rattle.std.specs.List.{AllByRecursion}
use Rattle.xs_model.specs.Trees.{edit_paths}
use Rattle.xs_model.specs.Messages.{Message, message_bytes, header_of}
use Rattle.xs_model.specs.Laws.{IsShort, HasShortPaths}
use Rattle.machine_model.specs.Connections.{Connection}
use Rattle.machine_model.specs.Machine.{Machine}

-- a message with at most 4096 bytes of payload, whose bytes are a header and as many bytes as the header says
pub record IsOneMessage (message : Message) : Type 0 where
  pub short : length message.payload ≤ 4096
  pub whole : length (message_bytes message) ≡ 16 + (header_of (message_bytes message)).len

-- what a connection gave is within its limits: the paths and tokens of its watches, and the paths of its transactions
pub record IsSizedConn (conn : Connection) : Type 0 where
  pub watches : AllByRecursion (λ w. (length w.wpath ≤ 3072) × (length w.token ≤ 1022)) conn.watches
  pub edits : AllByRecursion (λ e. AllByRecursion IsShort (edit_paths e.1.prior.edits)) conn.transactions
  pub commands : AllByRecursion (λ e. AllByRecursion (λ ran. IsShort ran.path) e.1.list) conn.transactions

-- a store in which all paths and tokens are within their limits
pub record IsSized (m : Machine) : Type 0 where
  pub tree : HasShortPaths m.tree
  pub conns : AllByRecursion (λ e. IsSizedConn e.1) m.conns
