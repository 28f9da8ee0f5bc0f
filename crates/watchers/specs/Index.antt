-- The connections by the nodes that they watch. This project's own.
use Rattle.std.specs.Prelude.{◌≡◌, ◌<◌, ◌≤◌, ◌&&◌, ℕ, Bool, true, false, not, List, Option, Some, None, is_some, IfSome}
use Rattle.std.specs.List.{list_any}
use Rattle.std.specs.Ordering.{nat_cmp}
use Rattle.std.specs.FinMap.{find}
use Rattle.xs_model.specs.Paths.{Path, path_cmp}
use Rattle.xs_model.specs.Watches.{Watch, Event, same_watch, reaches}
use Rattle.id_map.specs.Maps.{Map}
use Rattle.path_map.specs.Map.{Entries, Map as PathMap}
use Rattle.watch_table.specs.Tables.{Made, is_on}
use Rattle.watchers.specs.Watched.{Watched, made_by}

-- a set of connections, by their ids
abbrev pub Ids : Type 0
Ids = Map (Unit {0})

abbrev pub has_id : ℕ → Ids → Bool
has_id c ids = is_some (find nat_cmp c ids.entries)

-- such a set for each node
abbrev pub Index : Type 0
Index = Entries Ids

abbrev pub is_in_found : ℕ → Option Ids → Bool
is_in_found c None = false
is_in_found c (Some ids) = has_id c ids

-- whether a connection is found at a node
abbrev pub is_listed : ℕ → Path → Index → Bool
is_listed c p index = is_in_found c (find path_cmp p index)

-- whether a connection has a watch on a node
abbrev pub has_on : ℕ → Path → Watched → Bool
has_on c p watched = list_any (is_on p) (made_by c watched)

-- whether one of these watches is on a node, but for this one
abbrev pub left_on : Watch → Path → List Made → Bool
left_on w p made = list_any (λ m. not (same_watch w m.watch) && is_on p m) made

-- each connection that has a watch on a node is found at it; others may be, too
abbrev pub IsIndexed : Watched → Index → Type 0
IsIndexed watched index = (c : ℕ) (p : Path) → has_on c p watched ≡ true → is_listed c p index ≡ true

-- each connection that is found at a node that an event reaches is in the set
abbrev pub HasAllReached : Event → Index → Ids → Type 0
HasAllReached event index ids = (c : ℕ) (p : Path) → reaches event p ≡ true → is_listed c p index ≡ true → has_id c ids ≡ true

-- what was found stays found
abbrev pub StaysListed : Index → Index → Type 0
StaysListed old new = (c : ℕ) (p : Path) → is_listed c p old ≡ true → is_listed c p new ≡ true

abbrev pub StaysIn : Ids → Ids → Type 0
StaysIn old new = (c : ℕ) → has_id c old ≡ true → has_id c new ≡ true

-- memory for one connection more in a set, and at a node: in the set there, or in another one for a new entry
abbrev pub HasRoom : Ids → Type 0
HasRoom ids = 1 ≤ ids.spare

pub record HasRoomAt (p : Path) (index : PathMap Ids) (more : Ids) : Type 0 where
  pub entry : 0 < index.spare
  pub there : IfSome (find path_cmp p index.entries) HasRoom
  pub first : HasRoom more
