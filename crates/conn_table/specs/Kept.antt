-- What is kept beside a table, so that a domain's ring connection is found at once. This project's own.
use Rattle.std.specs.Prelude.{◌≡◌, ℕ, ◌==◌, Bool, false, not, List, Option, Some, None, is_some}
use Rattle.std.specs.FinMap.{find, put}
use Rattle.std.specs.FinMap.Entries.{where_key}
use Rattle.std.specs.Ordering.{nat_cmp}
use Rattle.machine_model.specs.declared.ConnSpec.{ConnSpec}
use Rattle.machine_model.specs.declared.ConnSpec.TheVariants.{Ring, Socket}
use Rattle.conn_table.specs.Tables.{Specs, IsTable, ring_id}

-- the ids of ring connections, by their domains
abbrev pub Rings : Type 0
Rings = List (ℕ × ℕ)

-- a table, and the ids of its ring connections and no others
pub record Agrees (es : Specs) (rings : Rings) : Type 0 where
  pub table : IsTable es
  pub each : (d : ℕ) → find nat_cmp d rings ≡ ring_id d es

-- whether the domain of this ring is among them
abbrev pub has_key : ConnSpec → Rings → Bool
has_key (Ring domid target evtchn) rings = is_some (find nat_cmp domid rings)
has_key (Socket fd) rings = false

-- once a connection is there
abbrev pub with_ring : ConnSpec → ℕ → Rings → Rings
with_ring (Ring domid target evtchn) id rings = put nat_cmp domid id rings
with_ring (Socket fd) id rings = rings

-- once the connection that was found, if there is one, is gone
abbrev pub without_ring : Option ConnSpec → Rings → Rings
without_ring None rings = rings
without_ring (Some (Ring domid target evtchn)) rings = where_key nat_cmp (λ key. not (domid == key)) rings
without_ring (Some (Socket fd)) rings = rings
