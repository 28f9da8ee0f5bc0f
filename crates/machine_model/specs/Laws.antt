-- The laws above the definitions of this crate, as statements. Each is proved of a function in `src/laws.rt`, for every
-- list of served message types.
use Rattle.std.specs.Prelude.{◌≡◌, ℕ, List, [], Some, None, Ok}
use Rattle.std.specs.List.{AllByRecursion}
use Rattle.std.specs.Ordering.{nat_cmp}
use Rattle.std.specs.FinMap.{find}
use Rattle.xs_model.specs.declared.message.kind.TheConstants.{WATCH_EVENT}
use Rattle.xs_model.specs.Messages.{header_of}
use Rattle.xs_model.specs.Laws.{HasShortPaths}
use Rattle.xs_model.specs.Trees.{IsTree}
use Rattle.machine_model.specs.Transactions.{after}
use Rattle.machine_model.specs.Connections.{Connection, least_free}
use Rattle.machine_model.specs.Machine.{Machine, new_machine, Item, Asked, Lost, start, step_with}
use Rattle.machine_model.specs.History.{run_with, past_at_start}
use Rattle.machine_model.specs.Serial.{EachOpen, IsFollowed, IsSerial}
use Rattle.machine_model.specs.Limits.{HasIds, IsWithinLimits, IsLeastFree, IsStarted}
use Rattle.machine_model.specs.Sizes.{IsOneMessage, IsSized}
use Rattle.machine_model.specs.Sends.{IsAnswered, IsDue, IsDrop}

-- the store after some items, from a start
abbrev pub machine_after : List ℕ → Machine → List Item → Machine
machine_after served start items = (run_with served (past_at_start [] start) items).machine

-- P of every state that a run from a new store reaches
abbrev pub Reached : (Machine → Type 0) → Type 0
Reached P = (served : List ℕ) (items : List Item) → P (machine_after served new_machine items)

-- TREES. The current tree is one, and for each open transaction its copy is one, and what it sees
pub record HasTrees (m : Machine) : Type 0 where
  pub tree : IsTree m.tree
  pub transactions : EachOpen (λ t. IsTree t.copy × IsTree (after t)) m.conns

abbrev pub EachTreeIsOne : Type 0
EachTreeIsOne = Reached HasTrees

-- SERIAL COMMIT. In every state of a run a transaction without conflict would get of the current tree what it got of its
-- copy: from a new store, and from any store whose transactions are in the state that a run keeps.
abbrev pub CommitsAreSerial : Type 0
CommitsAreSerial = Reached IsSerial

abbrev pub FollowedRunsAreSerial : Type 0
FollowedRunsAreSerial = (served : List ℕ) (start : Machine) (items : List Item) → IsFollowed start → IsSerial (machine_after served start items)

abbrev pub RunsKeepFollowed : Type 0
RunsKeepFollowed = (served : List ℕ) (start : Machine) (items : List Item) → IsFollowed start → IsFollowed (machine_after served start items)

-- REPLIES. In every store, reached or not, a request of a connection that is there has exactly one reply, before its
-- events; one of a connection that is not there has none, and does nothing
abbrev pub EachRequestHasOneReply : Type 0
EachRequestHasOneReply =
    (served : List ℕ) (m : Machine) (c : ℕ) (conn : Connection) (bytes : List ℕ) → find nat_cmp c m.conns ≡ Some conn
    → IsAnswered c (header_of bytes) (step_with served m (Asked c bytes)).1

abbrev pub StrangersHaveNoReply : Type 0
StrangersHaveNoReply =
    (served : List ℕ) (m : Machine) (c : ℕ) (bytes : List ℕ) → find nat_cmp c m.conns ≡ None → step_with served m (Asked c bytes) ≡ (m, [])

-- EVENTS. Each one that a step sends is due
abbrev pub EachEventIsDue : Type 0
EachEventIsDue =
    (served : List ℕ) (m : Machine) (item : Item)
    → AllByRecursion (λ s. s.1.kind ≡ WATCH_EVENT → IsDue m (step_with served m item).0 s) (step_with served m item).1

-- DROPS
abbrev pub DropsTouchNobodyElse : Type 0
DropsTouchNobodyElse = (served : List ℕ) (m : Machine) (c : ℕ) → IsDrop c m (step_with served m (Lost c))

-- LIMITS. Each connection of a reached state is within them
abbrev pub ConnectionsKeepLimits : Type 0
ConnectionsKeepLimits = Reached (λ m. AllByRecursion (λ e. IsWithinLimits e.1) m.conns)

-- The ids of connections are positive, each stands once, and INTRODUCE takes the least one that is free
abbrev pub ConnectionsHaveIds : Type 0
ConnectionsHaveIds = Reached (λ m. HasIds m.conns)

abbrev pub NextConnectionIsFree : Type 0
NextConnectionIsFree = Reached (λ m. IsLeastFree (least_free m.conns) m.conns)

-- START gives the least positive id that the connection has not open
abbrev pub StartGivesLeastFree : Type 0
StartGivesLeastFree =
    Reached (λ m.
    (c : ℕ) (conn : Connection) (tx : ℕ) (payload : List ℕ) → find nat_cmp c m.conns ≡ Some conn → (start m c conn tx).reply ≡ Ok payload
    → IsStarted m c conn payload (start m c conn tx).machine)

-- SIZES. Each message that a step sends has at most 4096 bytes of payload and is one whole message: in every state of a
-- run from a new store, and in any store whose paths and tokens are within their limits, which runs keep
abbrev pub SendsWhole : Machine → Type 0
SendsWhole m = (served : List ℕ) (item : Item) → AllByRecursion (λ s. IsOneMessage s.1) (step_with served m item).1

abbrev pub EachMessageIsWhole : Type 0
EachMessageIsWhole = Reached SendsWhole

abbrev pub SizedStoresSendWhole : Type 0
SizedStoresSendWhole = (m : Machine) → IsSized m → SendsWhole m

abbrev pub RunsKeepSized : Type 0
RunsKeepSized = (served : List ℕ) (start : Machine) (items : List Item) → IsSized start → IsSized (machine_after served start items)

-- each path of a reached tree has a text of at most 3072 bytes
abbrev pub EachPathIsShort : Type 0
EachPathIsShort = Reached (λ m. HasShortPaths m.tree)
