-- The laws of tables, as statements. Each is proved of a function in `src/laws.rt`.
use Rattle.std.specs.Prelude.{◌≡◌, ℕ, ◌+◌, ◌<◌, ◌≤◌, ◌==◌, not, ◌↔◌, true, length, Some}
use Rattle.std.specs.List.{AllByRecursion}
use Rattle.std.specs.Option.{option_map}
use Rattle.std.specs.FinMap.{find, put}
use Rattle.std.specs.FinMap.Entries.{where_key}
use Rattle.std.specs.Ordering.{nat_cmp}
use Rattle.machine_model.specs.Connections.{Connection, Connections, ring_of, least_free}
use Rattle.id_map.specs.Ids.{above, first_id}
use Rattle.conn_table.specs.Tables.{Specs, specs_of, ring_id, IsTable, is_ring_at, count_sockets, IsDomain}

-- What is asked of the table of connections is answered as of the connections.
pub record AnswersFor (conns : Connections) : Type 0 where
  pub spec : (id : ℕ) → find nat_cmp id (specs_of conns) ≡ option_map (λ conn. conn.spec) (find nat_cmp id conns)
  pub ring : (d : ℕ) → ring_id d (specs_of conns) ≡ ring_of d conns
  pub free : least_free (specs_of conns) ≡ least_free conns
  pub next : (id : ℕ) → first_id (above id (specs_of conns)) ≡ first_id (above id conns)
  pub count : length (specs_of conns) ≡ length conns

-- A connection that is put or removed is so in the table of connections.
pub record Follows (conns : Connections) : Type 0 where
  pub put_there : (id : ℕ) (conn : Connection) → specs_of (put nat_cmp id conn conns) ≡ put nat_cmp id conn.spec (specs_of conns)
  pub removed : (id : ℕ) → specs_of (where_key nat_cmp (λ key. not (id == key)) conns) ≡ where_key nat_cmp (λ key. not (id == key)) (specs_of conns)

-- The ring connection of a domain is the one connection of the table that is the ring of that domain.
abbrev pub RingsAreFound : Type 0
RingsAreFound =
    (es : Specs) (d id : ℕ) → IsTable es → (ring_id d es ≡ Some id) ↔ (is_ring_at d id es ≡ true)

-- No two connections of a table are rings of one domain.
abbrev pub RingsAreDistinct : Type 0
RingsAreDistinct =
    (es : Specs) (d i j : ℕ) → IsTable es → is_ring_at d i es ≡ true → is_ring_at d j es ≡ true → i ≡ j

-- A table has at most one ring a domid besides its sockets. With at most 65536 sockets it has far fewer connections than
-- there are ids, so that one is free.
pub record IsSmall (es : Specs) : Type 0 where
  pub most : length es ≤ 32752 + count_sockets es
  pub has_free_id : count_sockets es ≤ 65536 → length es < 4294967295

abbrev pub TablesAreSmall : Type 0
TablesAreSmall = (es : Specs) → IsTable es → AllByRecursion (λ e. IsDomain e.1) es → IsSmall es
