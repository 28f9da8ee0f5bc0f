-- The state that a world keeps: all of it but the pages, which stay with the guests when the store is replaced. This
-- project's own.
use Rattle.std.specs.Prelude.{ℕ, List, [], map, filter_map, Option, Some, None, Result, Ok, Err}
use Rattle.std.specs.Ordering.{nat_cmp}
use Rattle.std.specs.FinMap.{find}
use Rattle.machine_model.specs.Connections.{Connection}
use Rattle.machine_model.specs.Transactions.{Transaction, count}
use Rattle.mark_model.specs.Marks.{Mark}
use Rattle.mark_model.specs.Open.{marks_of}
use Rattle.kept_model.specs.declared.fault.LoadFault.{LoadFault}
use Rattle.kept_model.specs.States.{TransactionOf, ConnectionOf, State, begun}
use Rattle.kept_model.specs.Normal.{state_of_bytes}
use Rattle.world_model.specs.Worlds.{World, Channel, channel_or_empty, ring_domid, with_fresh_guests}

-- WHAT A WORLD KEEPS
abbrev pub kept_transaction : Transaction → TransactionOf Mark
kept_transaction t = record { count = count t; marks = marks_of t }

abbrev pub kept_connection : Channel → Connection → ConnectionOf Mark
kept_connection channel conn = record {
  spec = conn.spec;
  watches = conn.watches;
  inbox = channel.inbox;
  rest = channel.rest;
  unsent = channel.unsent;
  opens = map (λ e. (e.0, kept_transaction e.1)) conn.transactions;
}

abbrev pub channel_of : ℕ → List (ℕ × Channel) → Channel
channel_of c channels = channel_or_empty (find nat_cmp c channels)

abbrev pub kept : World → State
kept w = record {
  tree = w.machine.tree;
  gens = w.machine.gens;
  globals = w.globals;
  conns = map (λ e. (e.0, kept_connection (channel_of e.0 w.channels) e.1)) w.machine.conns;
}

-- THE WORLD THAT GOES ON from a state: the sequential store that is begun with it, the bytes under way, and a fresh page
-- for each domain that has a ring connection
abbrev pub channel_in : ConnectionOf Mark → Channel
channel_in conn = record { inbox = conn.inbox; unsent = conn.unsent; rest = conn.rest }

abbrev pub ring_domids : State → List ℕ
ring_domids s = filter_map (λ e. ring_domid e.1.spec) s.conns

abbrev pub begun_world : State → World
begun_world s = record {
  machine = begun s;
  globals = s.globals;
  guests = with_fresh_guests (ring_domids s) [];
  channels = map (λ e. (e.0, channel_in e.1)) s.conns;
}

-- and by the bytes of a stream: none where they tell no state
abbrev pub begun_by : Result State LoadFault → Option World
begun_by (Ok s) = Some (begun_world s)
begun_by (Err fault) = None

abbrev pub resumed : List ℕ → Option World
resumed stream = begun_by (state_of_bytes stream)
