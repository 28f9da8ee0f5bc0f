-- The sequential stores that a daemon stands for, by what it keeps. This project's own.
use Rattle.std.specs.Prelude.{◌≡◌, map, negsuc}
use Rattle.xs_model.specs.Trees.{Tree}
use Rattle.xs_model.specs.Generations.{Generations}
use Rattle.machine_model.specs.Machine.{Machine}
use Rattle.machine_model.specs.declared.Globals.{Globals}
use Rattle.machine_model.specs.Serial.{IsFollowed}
use Rattle.machine_model.specs.Limits.{HasIds}
use Rattle.mark_model.specs.Stores.{KeptStore, kept_of}
use Rattle.conn_table.specs.Tables.{Specs, IsTable}
use Rattle.watchers.specs.Watched.{Watched, conns_of}
use Rattle.store_parts.specs.Kept.{Kept}

-- a new store has no descriptors
abbrev pub no_globals : Globals
no_globals = record { rw_socket_fd = negsuc 0; evtchn_fd = negsuc 0 }

-- the store without transactions
abbrev pub machine_of : Tree → Generations → Specs → Watched → Machine
machine_of tree gens specs watched = record { tree = tree; gens = gens; conns = conns_of specs watched }

-- THE STORE THAT IS KEPT
abbrev pub store_of : Kept → KeptStore
store_of kept = record { machine = machine_of kept.tree kept.gens kept.specs kept.watched; opens = kept.opens }

-- A daemon stands for each sequential store of which the same is kept, of the kind that runs keep. It keeps what is
-- unsent, and the rest of a message, for its connections and for no other.
pub record StandsFor (kept : Kept) (m : Machine) : Type 0 where
  pub same : kept_of m ≡ store_of kept
  pub followed : IsFollowed m
  pub conn_ids : HasIds m.conns
  pub table : IsTable kept.specs
  pub ids : map (λ e. e.0) kept.unsent ≡ map (λ e. e.0) kept.specs
  pub rest_ids : map (λ e. e.0) kept.rests ≡ map (λ e. e.0) kept.specs
