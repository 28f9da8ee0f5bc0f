-- Lawful stores: what a store may become. It begins as a new one, or with what a migration stream brought; requests
-- come, connections are lost, and connections are added.
use Rattle.std.specs.Prelude.{◌≡◌, ℕ, ◌≤◌, ◌<◌, Bool, true, false, List, [], ◌∷◌, length, filter, map, None, IfSome}
use Rattle.std.specs.List.{AllByRecursion}
use Rattle.std.specs.Ordering.{nat_cmp}
use Rattle.std.specs.FinMap.{find}
use Rattle.xs_model.specs.Generations.{generation_max}
use Rattle.machine_model.specs.declared.ConnSpec.{ConnSpec}
use Rattle.machine_model.specs.declared.ConnSpec.TheVariants.{Ring, Socket}
use Rattle.machine_model.specs.Connections.{Connection, Connections, fresh, has_ring}
use Rattle.machine_model.specs.Machine.{Machine, Item, step_with, with_conn}
use Rattle.machine_model.specs.Serial.{IsFollowed}
use Rattle.machine_model.specs.Sizes.{IsSized}
use Rattle.machine_model.specs.Limits.{HasIds}

-- A MOVE: a request or a loss, or a connection that is added under an id
pub data Move : Type 0 where
  Happened : Item → Move
  Added : ℕ → ConnSpec → Move

abbrev pub moved : List ℕ → Machine → Move → Machine
moved served m (Happened item) = (step_with served m item).0
moved served m (Added id spec) = with_conn id (fresh spec) m

abbrev pub moved_by : List ℕ → Machine → List Move → Machine
moved_by served m [] = m
moved_by served m (move ∷ moves) = moved_by served (moved served m move) moves

-- domids are at most 32751, and so many sockets may there be
abbrev pub domid_max : ℕ
domid_max = 32751

abbrev pub socket_max : ℕ
socket_max = 65536

abbrev pub is_socket : ConnSpec → Bool
is_socket (Ring domid target evtchn) = false
is_socket (Socket fd) = true

abbrev pub socket_count : Connections → ℕ
socket_count conns = length (filter (λ e. is_socket e.1.spec) conns)

-- a ring of a domain that has none, or a socket where there are fewer than allowed
abbrev pub MayJoin : Connections → ConnSpec → Type 0
MayJoin conns (Ring domid target evtchn) = (domid ≤ domid_max) × (IfSome target (λ t. t ≤ domid_max) × (has_ring domid conns ≡ false))
MayJoin conns (Socket fd) = socket_count conns < socket_max

pub record MayAdd (conns : Connections) (id : ℕ) (spec : ConnSpec) : Type 0 where
  pub positive : 1 ≤ id
  pub free : find nat_cmp id conns ≡ None
  pub joins : MayJoin conns spec

abbrev pub MayMove : Machine → Move → Type 0
MayMove m (Happened item) = Unit {0}
MayMove m (Added id spec) = MayAdd m.conns id spec

abbrev pub MayMoveBy : List ℕ → Machine → List Move → Type 0
MayMoveBy served m [] = Unit {0}
MayMoveBy served m (move ∷ moves) = MayMove m move × MayMoveBy served (moved served m move) moves

-- NUMBERS stand with the paths of the tree, and have 48 bits
pub record HasNumbers (m : Machine) : Type 0 where
  pub keys : map (λ e. e.0) m.gens ≡ map (λ e. e.0) m.tree
  pub bounded : AllByRecursion (λ e. e.1 ≤ generation_max) m.gens

-- WHAT RUNS KEEP of a store, whether it was new or came with a stream
pub record IsKept (m : Machine) : Type 0 where
  pub followed : IsFollowed m
  pub sized : IsSized m
  pub ids : HasIds m.conns
  pub numbers : HasNumbers m

-- P of every lawful store: whatever moves come, from a store of the kind that runs keep
abbrev pub Always : (Machine → Type 0) → Type 0
Always P = (served : List ℕ) (start : Machine) (moves : List Move) → IsKept start → MayMoveBy served start moves → P (moved_by served start moves)
