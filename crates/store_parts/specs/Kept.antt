-- What a store keeps. This project's own.
use Rattle.std.specs.Prelude.{ℕ, List}
use Rattle.xs_model.specs.Trees.{Tree}
use Rattle.xs_model.specs.Generations.{Generations}
use Rattle.machine_model.specs.declared.Globals.{Globals}
use Rattle.machine_model.specs.History.{Unsent}
use Rattle.mark_model.specs.Stores.{Opens}
use Rattle.node_tree.specs.KeptTree.{KeptTree}
use Rattle.conn_table.specs.Tables.{Specs}
use Rattle.watchers.specs.Watched.{Watched}
use Rattle.conn_rows.specs.Rows.{Rows, opens_of}
use Rattle.conn_rows.specs.Queued.{unsent_of, rests_of}
use Rattle.store_parts.specs.declared.Parts.{Parts}
use Rattle.store_parts.specs.declared.PartsRef.{PartsRef}

-- The tree and the number of each path, the file descriptors of the whole store; and by the ids of the connections what
-- stands at the other end of each, its watches, its open transactions, the bytes that are still to be sent to it, and how
-- many of these end a message that was sent in part
pub record Kept : Type 0 where
  pub tree : Tree
  pub gens : Generations
  pub globals : Globals
  pub specs : Specs
  pub watched : Watched
  pub opens : List (ℕ × Opens)
  pub unsent : Unsent
  pub rests : List (ℕ × ℕ)

-- what the parts keep
abbrev pub kept_by : Specs → Watched → Rows → KeptTree → Globals → Kept
kept_by specs watched rows tree globals = record {
  tree = tree.nodes;
  gens = tree.gens;
  globals = globals;
  specs = specs;
  watched = watched;
  opens = opens_of rows.txns;
  unsent = unsent_of rows.queues;
  rests = rests_of rows.queues;
}

abbrev pub kept_in : Parts → Kept
kept_in parts = kept_by parts.conns parts.watchers parts.rows parts.tree parts.globals

-- and those that are lent
abbrev pub kept_lent : PartsRef → Kept
kept_lent parts = kept_by parts.conns.now parts.watchers.now parts.rows.now parts.tree.now parts.globals
