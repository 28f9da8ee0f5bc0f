-- What becomes of inboxes and pages where a request made or removed a ring connection.
use Rattle.std.specs.Prelude.{◌≡◌, ℕ, ◌≤◌, ◌==◌, not, List, [], Some}
use Rattle.std.specs.Ordering.{nat_cmp}
use Rattle.std.specs.FinMap.{find, put}
use Rattle.std.specs.FinMap.Entries.{where_key}
use Rattle.world_model.specs.Worlds.{Guest, fresh_guest}
use Rattle.conn_table.specs.Tables.{ring_id}
use Rattle.daemon.specs.declared.answer.Door.{Door}
use Rattle.daemon.specs.declared.answer.Door.TheVariants.{Same, Opened, Closed}
use Rattle.store_parts.specs.Kept.{Kept as KeptByDaemon}
use Rattle.world_core.specs.declared.seats.Seats.{Seats}

-- the inboxes by connection, the pages by domid, and the ring connection that each domain had last
pub record Tables : Type 0 where
  pub inboxes : List (ℕ × List ℕ)
  pub guests : List (ℕ × Guest)
  pub rings : List (ℕ × ℕ)

abbrev pub tables_of : Seats → Tables
tables_of seats = record { inboxes = seats.ins.entries; guests = seats.guests.entries; rings = seats.rings.entries }

-- there is memory for one more connection and for its domain's page, and an empty inbox
pub record HasRoom (seats : Seats) : Type 0 where
  pub inboxes : 1 ≤ seats.ins.spare
  pub guests : 1 ≤ seats.guests.spare
  pub rings : 1 ≤ seats.rings.spare
  pub inbox : seats.spare ≡ Some []

-- all is as it was
pub record IsSame (old new : Tables) : Type 0 where
  pub inboxes : new.inboxes ≡ old.inboxes
  pub guests : new.guests ≡ old.guests
  pub rings : new.rings ≡ old.rings

-- the domain d has the connection c, with an empty inbox, and this page
pub record IsSeated (d c : ℕ) (guest : Guest) (old new : Tables) : Type 0 where
  pub inboxes : new.inboxes ≡ put nat_cmp c [] old.inboxes
  pub guests : new.guests ≡ put nat_cmp d guest old.guests
  pub rings : new.rings ≡ put nat_cmp d c old.rings

-- the connection c has no inbox, and all pages stay
pub record IsUnseated (c : ℕ) (old new : Tables) : Type 0 where
  pub inboxes : new.inboxes ≡ where_key nat_cmp (λ key. not (c == key)) old.inboxes
  pub guests : new.guests ≡ old.guests
  pub rings : new.rings ≡ old.rings

-- by the door, and by the ring connections that the daemon has then
abbrev pub Follows : KeptByDaemon → Door → Tables → Tables → Type 0
Follows kept Same old new = IsSame old new
Follows kept (Opened d) old new = (c : ℕ) → ring_id d kept.specs ≡ Some c → IsSeated d c (fresh_guest 0) old new
Follows kept (Closed d) old new = (c : ℕ) → find nat_cmp d old.rings ≡ Some c → IsUnseated c old new
