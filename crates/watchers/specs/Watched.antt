-- The watches of connections, by the connections' ids, and the store's connections with them. This project's own.
use Rattle.std.specs.Prelude.{◌≡◌, ℕ, List, [], map, Option, Some, None}
use Rattle.std.specs.Option.{ForSome}
use Rattle.std.specs.List.{AllByRecursion}
use Rattle.std.specs.Ordering.{nat_cmp}
use Rattle.std.specs.FinMap.{find}
use Rattle.xs_model.specs.Watches.{Watch}
use Rattle.machine_model.specs.declared.ConnSpec.{ConnSpec}
use Rattle.machine_model.specs.Connections.{Connection, Connections, caller_of}
use Rattle.conn_table.specs.Tables.{Specs}
use Rattle.watch_table.specs.Tables.{Made, watches_in}

-- those of a connection that is not named are none
abbrev pub Watched : Type 0
Watched = List (ℕ × List Made)

abbrev pub or_none : Option (List Made) → List Made
or_none None = []
or_none (Some made) = made

abbrev pub made_by : ℕ → Watched → List Made
made_by c watched = or_none (find nat_cmp c watched)

abbrev pub watches_of : ℕ → Watched → List Watch
watches_of c watched = watches_in (made_by c watched)

-- A CONNECTION with its watches and without transactions
abbrev pub watching : ConnSpec → List Watch → Connection
watching spec watches = record { spec = spec; watches = watches; transactions = [] }

-- the connections of a table
abbrev pub conns_of : Specs → Watched → Connections
conns_of specs watched = map (λ e. (e.0, watching e.1 (watches_of e.0 watched))) specs

-- each watch of a connection of the table stands under the domain for which that one acts
abbrev pub AreOwn : Specs → Watched → Type 0
AreOwn specs watched =
    AllByRecursion (λ e. ForSome (find nat_cmp e.0 specs) (λ spec. AllByRecursion (λ m. m.domid ≡ (caller_of spec).domid) e.1)) watched
