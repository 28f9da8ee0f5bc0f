-- A table of connections: the other end of each, by the connections' ids. A domain has at most one ring connection
-- (xenstore.txt, "Domain management requests": INTRODUCE of a domain that has one makes no other).
use Rattle.std.specs.Prelude.{◌≡◌, ℕ, ◌+◌, ◌≤◌, ◌==◌, Bool, true, false, not, ◌&&◌, ◌||◌, List, [], ◌∷◌, map, if◌then◌else◌, Option, Some, None, is_some, IfSome}
use Rattle.std.specs.FinMap.{find, is_sorted}
use Rattle.std.specs.Ordering.{nat_cmp}
use Rattle.machine_model.specs.declared.ConnSpec.{ConnSpec}
use Rattle.machine_model.specs.declared.ConnSpec.TheVariants.{Ring, Socket}
use Rattle.machine_model.specs.Connections.{Connections, is_ring_of}

-- what stands at the other end of each connection, by the connections' ids
abbrev pub Specs : Type 0
Specs = List (ℕ × ConnSpec)

-- the table that belongs to connections, which have their watches and transactions besides
abbrev pub specs_of : Connections → Specs
specs_of conns = map (λ e. (e.0, e.1.spec)) conns

-- the id of a domain's ring connection
abbrev pub ring_id : ℕ → Specs → Option ℕ
ring_id d [] = None
ring_id d (e ∷ es) = if is_ring_of d e.1 then Some e.0 else ring_id d es

-- the domain of a ring
abbrev pub ring_domid : ConnSpec → Option ℕ
ring_domid (Ring domid target evtchn) = Some domid
ring_domid (Socket fd) = None

-- whether the domain of this ring has a ring connection
abbrev pub has_its_ring : ConnSpec → Specs → Bool
has_its_ring (Ring domid target evtchn) es = is_some (ring_id domid es)
has_its_ring (Socket fd) es = false

-- whether the id is there, or a ring connection of the same domain
abbrev pub is_taken : ℕ → ConnSpec → Specs → Bool
is_taken id spec es = is_some (find nat_cmp id es) || has_its_ring spec es

-- whether no two rings are of one domain
abbrev pub has_distinct_rings : Specs → Bool
has_distinct_rings [] = true
has_distinct_rings (e ∷ es) = not (has_its_ring e.1 es) && has_distinct_rings es

-- what each table is
pub record IsTable (es : Specs) : Type 0 where
  pub rising : is_sorted nat_cmp es ≡ true
  pub rings : has_distinct_rings es ≡ true

-- how many of its connections are sockets
abbrev pub is_socket : ConnSpec → Bool
is_socket (Ring domid target evtchn) = false
is_socket (Socket fd) = true

abbrev pub count_sockets : Specs → ℕ
count_sockets [] = 0
count_sockets (e ∷ es) = if is_socket e.1 then count_sockets es + 1 else count_sockets es

-- a ring of a domain that the formats can name; every socket
abbrev pub IsDomain : ConnSpec → Type 0
IsDomain spec = IfSome (ring_domid spec) (λ domid. domid ≤ 32751)

-- whether the connection that was found, if there is one, is the ring of a domain
abbrev pub is_found_ring : ℕ → Option ConnSpec → Bool
is_found_ring d None = false
is_found_ring d (Some spec) = is_ring_of d spec

-- whether the connection of an id is the ring of a domain
abbrev pub is_ring_at : ℕ → ℕ → Specs → Bool
is_ring_at d id es = is_found_ring d (find nat_cmp id es)

-- the id that was found, unless it is this one
abbrev pub unless : ℕ → Option ℕ → Option ℕ
unless id None = None
unless id (Some other) = if id == other then None else Some other
