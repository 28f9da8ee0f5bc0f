-- How the connections that came are seen.
use Rattle.std.specs.Prelude.{ℕ, List}
use Rattle.kept_model.specs.States.{ConnectionOf}
use Rattle.kept_model.specs.Said.{Said}
use Rattle.mig_load.specs.Came.{Tables, connections_in}
use Rattle.mig_load.specs.declared.connections.Connections.TheInside.{Inside}

abbrev pub tables_of : Inside → Tables
tables_of l = record {
  specs = l.table;
  watched = l.watchers;
  queues = l.rows.queues;
  ins = l.ins.entries;
  saids = l.saids.entries;
}

abbrev pub view_of : Inside → List (ℕ × ConnectionOf Said)
view_of l = connections_in (tables_of l)
