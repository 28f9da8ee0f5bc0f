-- The law of the world: every run of it serves its guests. Each statement is proved of a function in `src/laws.rt`, for
-- every list of served message types.
use Rattle.std.specs.Prelude.{◌≡◌, ℕ, ◌^◌, ◌<◌, ◌==◌, Bool, true, ◌&&◌, List, Some, is_some, slice_get}
use Rattle.std.specs.List.{AllByRecursion, list_any}
use Rattle.std.specs.Ordering.{nat_cmp}
use Rattle.std.specs.FinMap.{find}
use Rattle.machine_model.specs.Connections.{Connection, Connections, is_ring_of, ring_of, has_ring}
use Rattle.machine_model.specs.History.{Life, past_at_start, run_with}
use Rattle.machine_model.specs.Limits.{HasIds}
use Rattle.world_model.specs.Worlds.{World, Guest, Event, unsent_of, new_world}
use Rattle.world_model.specs.Scripts.{DomainLine}
use Rattle.world_model.specs.Transcripts.{world_after_all, history_of, with_domains}
use Rattle.world_model.specs.Served.{PageLog, Account, account_of, account_at_start, Serves, AllBalance}
use Rattle.ring_index.specs.Pipes.{Carries, empty_pipes}

-- A START. A domain with a page whose two rings hold nothing
pub record HasEmptyPage (d : ℕ) (guests : List (ℕ × Guest)) : Type 0 where
  pub guest : Guest
  pub there : find nat_cmp d guests ≡ Some guest
  pub empty : Carries guest.page empty_pipes

-- no two connections are rings of one domain
abbrev pub HasOneRingEach : Connections → Type 0
HasOneRingEach conns = (c d : ℕ) (conn : Connection) → find nat_cmp c conns ≡ Some conn → is_ring_of d conn.spec ≡ true → ring_of d conns ≡ Some c

-- Each domain that is connected has an empty page, each connection has a channel, and there are no other channels. What a
-- migration stream brought may be in the channels: bytes that were taken and not answered, and bytes that are unsent.
pub record IsStart (w : World) : Type 0 where
  pub ids : HasIds w.machine.conns
  pub rings : HasOneRingEach w.machine.conns
  pub pages : (d : ℕ) → has_ring d w.machine.conns ≡ true → HasEmptyPage d w.guests
  pub channels : (c : ℕ) → is_some (find nat_cmp c w.channels) ≡ is_some (find nat_cmp c w.machine.conns)

-- what holds of the account of any events, from any start
abbrev pub Always : (Account → Type 0) → Type 0
Always P = (types : List ℕ) (start : World) (events : List Event) → IsStart start → P (account_of types (account_at_start start) events)

-- SERVED
abbrev pub RunsServe : Type 0
RunsServe = Always Serves

abbrev pub UnpokedPagesBalance : Type 0
UnpokedPagesBalance = Always AllBalance

-- A page's log names a life. It is open where the page is there and its domain is connected, and nowhere else; then it
-- is the life of the domain's connection
pub record HasLife (w : World) (lives : List Life) (log : PageLog) : Type 0 where
  pub life : Life
  pub stands : slice_get lives log.life ≡ Some life
  pub page : log.is_there ≡ true → is_some (find nat_cmp log.domid w.guests) ≡ true
  pub open_of_ring : log.is_there ≡ true → has_ring log.domid w.machine.conns ≡ true → life.is_open ≡ true
  pub page_of_open : life.is_open ≡ true → log.is_there ≡ true
  pub ring_of_open : life.is_open ≡ true → ring_of log.domid w.machine.conns ≡ Some life.conn
  pub channel_of_open : life.is_open ≡ true → is_some (find nat_cmp life.conn w.channels) ≡ true

abbrev pub PagesHaveLives : Type 0
PagesHaveLives = Always (λ account. AllByRecursion (HasLife account.world account.past.lives) account.logs)

-- Each domain that is connected has a log of a page that is there
abbrev pub is_log_of : ℕ → PageLog → Bool
is_log_of d log = log.is_there && log.domid == d

abbrev pub HasLogs : Connections → List PageLog → Type 0
HasLogs conns logs = (d : ℕ) → has_ring d conns ≡ true → list_any (is_log_of d) logs ≡ true

abbrev pub ConnectedDomainsHaveLogs : Type 0
ConnectedDomainsHaveLogs = Always (λ account. HasLogs account.world.machine.conns account.logs)

-- THE ACCOUNT is that of the run, whatever the world began as
pub record IsOfRun (types : List ℕ) (start : World) (events : List Event) (account : Account) : Type 0 where
  pub world : account.world ≡ world_after_all types start events
  pub past : account.past ≡ run_with types (past_at_start (unsent_of start.channels) start.machine) (history_of types start events)
  pub machine : account.past.machine ≡ account.world.machine

abbrev pub AccountsAreOfRuns : Type 0
AccountsAreOfRuns = (types : List ℕ) (start : World) (events : List Event) → IsOfRun types start events (account_of types (account_at_start start) events)

-- SCRIPTS: their head lines make such a start
abbrev pub ScriptsStart : Type 0
ScriptsStart = (lines : List DomainLine) → AllByRecursion (λ line. line.start < 2 ^ 32) lines → IsStart (with_domains lines new_world)
