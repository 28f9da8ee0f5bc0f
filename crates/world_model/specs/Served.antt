-- What it means that a history of the store serves the guests: for each page that there was, the requests taken from it
-- are the first of what its guest put, and what its guest got is the first of what the store sent. This project's own.
use Rattle.std.specs.Prelude.{◌≡◌, ℕ, ◌+◌, ◌==◌, Bool, true, false, ◌&&◌, List, [], ◌∷◌, ◌++◌, map, filter_map, slice_get, if◌then◌else◌, Option, Some, None, option_map, IfSome}
use Rattle.std.specs.Ordering.{nat_cmp}
use Rattle.std.specs.FinMap.{find}
use Rattle.std.specs.List.{AllByRecursion}
use Rattle.machine_model.specs.Connections.{Connections, ring_of}
use Rattle.machine_model.specs.Machine.{Item, step_with}
use Rattle.machine_model.specs.History.{Life, Past, past_after, past_at_start}
use Rattle.world_model.specs.Rings.{held}
use Rattle.world_model.specs.Worlds.{World, Guest, Channel, Event, Send, Put, Intake, Do, Out, Take, Poke, ShowPage, Handover, Told, event_with, domid_if_new, channel_or_empty, unsent_of}

-- What a guest did with one page: the bytes that it put and got, whether it poked an index, and the life of the
-- connection that the page was made for, as a place among all lives. The page may be there no more.
pub record PageLog : Type 0 where
  pub domid : ℕ
  pub life : ℕ
  pub put : List ℕ
  pub got : List ℕ
  pub is_poked : Bool
  pub is_there : Bool

-- a world, its history so far, and the logs of all its pages
pub record Account : Type 0 where
  pub world : World
  pub past : Past
  pub logs : List PageLog

-- LIVES OF PAGES: the place of a connection's open life among all lives, the first of which has number n
abbrev pub open_life_from : ℕ → ℕ → List Life → Option ℕ
open_life_from n c [] = None
open_life_from n c (life ∷ lives) = if life.is_open && life.conn == c then Some n else open_life_from (n + 1) c lives

abbrev pub life_of_ring : List Life → Option ℕ → Option ℕ
life_of_ring lives None = None
life_of_ring lives (Some c) = open_life_from 0 c lives

abbrev pub new_log : ℕ → ℕ → PageLog
new_log d life = record { domid = d; life = life; put = []; got = []; is_poked = false; is_there = true }

-- a log for a domain's page, where it has a connection
abbrev pub log_for : Connections → List Life → ℕ → Option PageLog
log_for conns lives d = option_map (new_log d) (life_of_ring lives (ring_of d conns))

-- WHAT AN EVENT ADDS to the log of the page that it is about
abbrev pub put_more : List ℕ → PageLog → PageLog
put_more bytes log = record { domid = log.domid; life = log.life; put = log.put ++ bytes; got = log.got; is_poked = log.is_poked; is_there = log.is_there }

abbrev pub got_more : List ℕ → PageLog → PageLog
got_more bytes log = record { domid = log.domid; life = log.life; put = log.put; got = log.got ++ bytes; is_poked = log.is_poked; is_there = log.is_there }

abbrev pub poked_now : PageLog → PageLog
poked_now log = record { domid = log.domid; life = log.life; put = log.put; got = log.got; is_poked = true; is_there = log.is_there }

abbrev pub replaced : PageLog → PageLog
replaced log = record { domid = log.domid; life = log.life; put = log.put; got = log.got; is_poked = log.is_poked; is_there = false }

-- the log of a domain's present page
abbrev pub on_page : ℕ → (PageLog → PageLog) → PageLog → PageLog
on_page d change log = if log.is_there && log.domid == d then change log else log

abbrev pub log_change : Event → Told → PageLog → PageLog
log_change (Send d bytes) told log = log
log_change (Put d max) told log = on_page d (put_more told.given) log
log_change (Intake d max) told log = log
log_change (Do d) told log = log
log_change (Out d max) told log = log
log_change (Take d max) told log = on_page d (got_more told.taken) log
log_change (Poke d which v) told log = on_page d poked_now log
log_change (ShowPage d) told log = log
log_change Handover told log = log

-- domains that an event gave a connection have a new page, and the page before it is there no more
abbrev pub made_domids : World → World → List ℕ
made_domids before after = filter_map (domid_if_new before.machine.conns) after.machine.conns

abbrev pub replaced_for : List ℕ → PageLog → PageLog
replaced_for [] log = log
replaced_for (d ∷ ds) log = replaced_for ds (on_page d replaced log)

abbrev pub logs_after : List ℕ → Connections → List Life → List PageLog → List PageLog
logs_after made conns lives logs = map (replaced_for made) logs ++ filter_map (log_for conns lives) made

-- THE ACCOUNT of events: the store's part of an event is at most one item
abbrev pub past_with : List ℕ → Past → List Item → Past
past_with types past [] = past
past_with types past (item ∷ items) = past_with types (past_after past item (step_with types past.machine item)) items

abbrev pub account_with : Account → Event → Told → Past → Account
account_with account event told past = record {
  world = told.world;
  past = past;
  logs = logs_after (made_domids account.world told.world) told.world.machine.conns past.lives
      (map (log_change event told) account.logs);
}

abbrev pub account_after : List ℕ → Account → Event → Account
account_after types account event =
    account_with account event (event_with types event account.world)
    (past_with types account.past (event_with types event account.world).items)

abbrev pub account_of : List ℕ → Account → List Event → Account
account_of types account [] = account
account_of types account (e ∷ es) = account_of types (account_after types account e) es

-- AT THE START of a run bytes may be under way. What is in the inbox of a page's connection counts as put, and what is
-- still to be sent to it counts as sent.
abbrev pub inbox_at : World → Option ℕ → List ℕ
inbox_at w None = []
inbox_at w (Some c) = (channel_or_empty (find nat_cmp c w.channels)).inbox

abbrev pub begun_log : World → PageLog → PageLog
begun_log w log = put_more (inbox_at w (ring_of log.domid w.machine.conns)) log

abbrev pub account_at_start : World → Account
account_at_start w =
    let past = past_at_start (unsent_of w.channels) w.machine in
    record {
      world = w;
      past = past;
      logs = map (begun_log w) (filter_map (λ e. log_for w.machine.conns past.lives e.0) w.guests);
    }

-- SERVED. One list begins another
pub record IsFront (front whole : List ℕ) : Type 0 where
  pub rest : List ℕ
  pub joined : front ++ rest ≡ whole

-- the bytes that the store took and did not answer: none where the connection is gone
abbrev pub inbox_of : List (ℕ × Channel) → Life → List ℕ
inbox_of channels life = if life.is_open then (channel_or_empty (find nat_cmp life.conn channels)).inbox else []

pub record ServesPage (channels : List (ℕ × Channel)) (log : PageLog) (life : Life) : Type 0 where
  pub asked : IsFront (life.inputs ++ inbox_of channels life) log.put
  pub answered : IsFront log.got life.outputs

-- a page that its guest poked is promised nothing
abbrev pub ServesUnpoked : List (ℕ × Channel) → List Life → PageLog → Type 0
ServesUnpoked channels lives log = log.is_poked ≡ false → IfSome (slice_get lives log.life) (ServesPage channels log)

abbrev pub Serves : Account → Type 0
Serves account = AllByRecursion (ServesUnpoked account.world.channels account.past.lives) account.logs

-- While an unpoked page is there and its connection lives, nothing is under way but what the rings, the inbox and the
-- unsent bytes hold.
pub record Balances (guest : Guest) (channel : Channel) (log : PageLog) (life : Life) : Type 0 where
  pub asked : life.inputs ++ (channel.inbox ++ held guest.page.request) ≡ log.put
  pub answered : log.got ++ (held guest.page.reply ++ channel.unsent) ≡ life.outputs

abbrev pub BalancesLife : World → PageLog → Life → Type 0
BalancesLife w log life =
    life.is_open ≡ true → IfSome (find nat_cmp log.domid w.guests) (λ guest.
    IfSome (find nat_cmp life.conn w.channels) (λ channel. Balances guest channel log life))

abbrev pub BalancesUnpoked : World → List Life → PageLog → Type 0
BalancesUnpoked w lives log =
    log.is_poked ≡ false → log.is_there ≡ true → IfSome (slice_get lives log.life) (BalancesLife w log)

abbrev pub AllBalance : Account → Type 0
AllBalance account = AllByRecursion (BalancesUnpoked account.world account.past.lives) account.logs
