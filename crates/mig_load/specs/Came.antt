-- The connections that came, by the tables of the store that goes on with them, and what is done to one of them. This
-- project's own.
use Rattle.std.specs.Prelude.{◌≡◌, ℕ, true, List, [], map, Option, Some, None, is_some}
use Rattle.std.specs.List.{AllByRecursion}
use Rattle.std.specs.Ordering.{nat_cmp}
use Rattle.std.specs.FinMap.{find, put}
use Rattle.xs_model.specs.Paths.{Path}
use Rattle.machine_model.specs.declared.ConnSpec.{ConnSpec}
use Rattle.machine_model.specs.History.{bytes_or_none}
use Rattle.kept_model.specs.States.{TransactionOf, ConnectionOf}
use Rattle.kept_model.specs.Said.{Said}
use Rattle.kept_model.specs.Loading.{with_opens, with_said}
use Rattle.conn_table.specs.Tables.{Specs}
use Rattle.out_queues.specs.Queues.{Queue}
use Rattle.watchers.specs.Watched.{Watched, watches_of, AreOwn}
use Rattle.conn_rows.specs.Rows.{Txns}
use Rattle.conn_rows.specs.Queued.{unsent_of, rests_of}
use Rattle.store_parts.specs.States.{Inboxes, rest_of}

-- open transactions by number, and those by the ids of the connections
abbrev pub Opens : Type 0
Opens = List (ℕ × TransactionOf Said)

abbrev pub Saids : Type 0
Saids = List (ℕ × Opens)

abbrev pub or_no_opens : Option Opens → Opens
or_no_opens None = []
or_no_opens (Some opens) = opens

abbrev pub said_of : ℕ → Saids → Opens
said_of c saids = or_no_opens (find nat_cmp c saids)

-- by the ids of the connections, the other end of each, its watches, what is unsent to it, the bytes that were read from it,
-- and its open transactions; a connection that is not named has none
pub record Tables : Type 0 where
  pub specs : Specs
  pub watched : Watched
  pub queues : List (ℕ × Queue)
  pub ins : Inboxes
  pub saids : Saids

abbrev pub connection_at : Tables → ℕ → ConnSpec → ConnectionOf Said
connection_at t c spec = record {
  spec = spec;
  watches = watches_of c t.watched;
  inbox = bytes_or_none (find nat_cmp c t.ins);
  rest = rest_of c (rests_of t.queues);
  unsent = bytes_or_none (find nat_cmp c (unsent_of t.queues));
  opens = said_of c t.saids;
}

abbrev pub connections_in : Tables → List (ℕ × ConnectionOf Said)
connections_in t = map (λ e. (e.0, connection_at t e.0 e.1)) t.specs

-- each id is that of a connection that came
abbrev pub AreOf : {X : Type 0} → Specs → List (ℕ × X) → Type 0
AreOf specs es = AllByRecursion (λ e. is_some (find nat_cmp e.0 specs) ≡ true) es

-- the ids of the tables are those of the connections, and rows have no transactions before all records came
pub record AreTables (t : Tables) (txns : List (ℕ × Txns)) : Type 0 where
  pub own : AreOwn t.specs t.watched
  pub named : AreOf t.specs t.watched
  pub told : AreOf t.specs t.saids
  pub queued : map (λ e. e.0) t.queues ≡ map (λ e. e.0) t.specs
  pub read : map (λ e. e.0) t.ins ≡ map (λ e. e.0) t.specs
  pub quiet : txns ≡ map (λ e. (e.0, [])) t.specs

-- WHAT IS DONE to a connection, if it came
abbrev pub changed_found : ℕ → (ConnectionOf Said → ConnectionOf Said) → List (ℕ × ConnectionOf Said) → Option (ConnectionOf Said) → List (ℕ × ConnectionOf Said)
changed_found c change conns None = conns
changed_found c change conns (Some conn) = put nat_cmp c (change conn) conns

abbrev pub changed_at : ℕ → (ConnectionOf Said → ConnectionOf Said) → List (ℕ × ConnectionOf Said) → List (ℕ × ConnectionOf Said)
changed_at c change conns = changed_found c change conns (find nat_cmp c conns)

-- a transaction is opened
abbrev pub opened : ℕ → ℕ → ConnectionOf Said → ConnectionOf Said
opened tx count conn = with_opens (put nat_cmp tx (record { count = count; marks = [] }) conn.opens) conn

-- something is said of a path of one that is open
abbrev pub marked_found : ℕ → Path → Said → Opens → Option (TransactionOf Said) → Opens
marked_found tx p said opens None = opens
marked_found tx p said opens (Some t) = put nat_cmp tx (with_said p said t) opens

abbrev pub marked_in : ℕ → Path → Said → Opens → Opens
marked_in tx p said opens = marked_found tx p said opens (find nat_cmp tx opens)

abbrev pub marked : ℕ → Path → Said → ConnectionOf Said → ConnectionOf Said
marked tx p said conn = with_opens (marked_in tx p said conn.opens) conn
