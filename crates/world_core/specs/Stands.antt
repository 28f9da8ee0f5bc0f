-- What a world keeps, the worlds of the definitions that it stands for, and what a step of it is. This project's own.
use Rattle.std.specs.Prelude.{◌≡◌, ◌⊎◌, ℕ, ◌≤◌, true, List, [], map, filter_map, Some, ⊤}
use Rattle.std.specs.Ordering.{nat_cmp}
use Rattle.std.specs.FinMap.{find, is_sorted}
use Rattle.xs_model.specs.Requests.{all_types}
use Rattle.machine_model.specs.Connections.{ring_of}
use Rattle.machine_model.specs.declared.Globals.{Globals}
use Rattle.machine_model.specs.Machine.{Machine}
use Rattle.world_model.specs.declared.Said.{Said}
use Rattle.world_model.specs.declared.Said.TheVariants.{NoMemory, Got}
use Rattle.world_model.specs.Worlds.{World, Guest, Channel, Served, served, Event, Send, Put, Intake, Do, Out, Take, Poke, ShowPage, Handover, Told, event_with, ring_domid, with_fresh_guests, unsent_of, add_domain}
use Rattle.store_parts.specs.Kept.{Kept as KeptByDaemon}
use Rattle.daemon.specs.Keeps as daemon

-- the store with what is unsent, the inboxes by connection, the guests by domid, the ring connection that each domain
-- had last, and the bytes of the last take
pub record Kept : Type 0 where
  pub daemon : KeptByDaemon
  pub inboxes : List (ℕ × List ℕ)
  pub guests : List (ℕ × Guest)
  pub rings : List (ℕ × ℕ)
  pub taken : List ℕ

-- what was taken from each connection and not answered
abbrev pub inboxes_of : List (ℕ × Channel) → List (ℕ × List ℕ)
inboxes_of channels = map (λ e. (e.0, e.1.inbox)) channels

-- and how many of the bytes that are unsent to it end a message that was sent in part
abbrev pub rests_of : List (ℕ × Channel) → List (ℕ × ℕ)
rests_of channels = map (λ e. (e.0, e.1.rest)) channels

-- It stands for a world whose store is one that the daemon stands for, and whose numbers of the whole store, guests and
-- channels it has.
pub record StandsFor (kept : Kept) (w : World) : Type 0 where
  pub store : daemon.StandsFor kept.daemon w.machine
  pub globals : w.globals ≡ kept.daemon.globals
  pub guests : w.guests ≡ kept.guests
  pub inboxes : inboxes_of w.channels ≡ kept.inboxes
  pub unsent : unsent_of w.channels ≡ kept.daemon.unsent
  pub rests : rests_of w.channels ≡ kept.daemon.rests
  pub order : is_sorted nat_cmp w.channels ≡ true
  -- a domain's ring connection is the one that it had last
  pub rings : (d c : ℕ) → ring_of d w.machine.conns ≡ Some c → find nat_cmp d kept.rings ≡ Some c

-- A START: the store and its channels, and a fresh page for each ring connection
abbrev pub begun : Machine → Globals → List (ℕ × Channel) → World
begun m globals channels = record {
  machine = m;
  globals = globals;
  guests = with_fresh_guests (filter_map (λ e. ring_domid e.1.spec) m.conns) [];
  channels = channels;
}

pub record Begins (store : KeptByDaemon) (inboxes : List (ℕ × List ℕ)) (new : Kept) : Type 0 where
  pub stands : (m : Machine) (channels : List (ℕ × Channel)) → daemon.StandsFor store m
      → inboxes_of channels ≡ inboxes → unsent_of channels ≡ store.unsent → rests_of channels ≡ store.rests → is_sorted nat_cmp channels ≡ true
      → StandsFor new (begun m store.globals channels)

-- A DOMAIN THAT IS THERE FROM THE START
pub record AddsDomain (old : Kept) (d start : ℕ) (new : Kept) : Type 0 where
  pub stands : (w : World) → StandsFor old w → StandsFor new (add_domain d start w)

-- AN EVENT that may come: where it has a greatest number of bytes to move, that is one or more
abbrev pub Moves : Event → Type 0
Moves (Send d bytes) = ⊤
Moves (Put d max) = 1 ≤ max
Moves (Intake d max) = 1 ≤ max
Moves (Do d) = ⊤
Moves (Out d max) = 1 ≤ max
Moves (Take d max) = 1 ≤ max
Moves (Poke d which v) = ⊤
Moves (ShowPage d) = ⊤
Moves Handover = ⊤

-- whether an event takes memory
abbrev pub TakesMemory : Event → Type 0
TakesMemory (Send d bytes) = ⊤
TakesMemory (Put d max) = ⊥
TakesMemory (Intake d max) = ⊥
TakesMemory (Do d) = ⊤
TakesMemory (Out d max) = ⊥
TakesMemory (Take d max) = ⊥
TakesMemory (Poke d which v) = ⊥
TakesMemory (ShowPage d) = ⊥
TakesMemory Handover = ⊤

-- A STEP, for each world that it stood for: it stands for the world after the event, and says what the event says. The
-- bytes of a take are there afterwards.
pub record Follows (new : Kept) (said : Said) (told : Told) : Type 0 where
  pub says : said ≡ told.said
  pub stands : StandsFor new told.world
  pub taken : (n : ℕ) → said ≡ Got n → new.taken ≡ told.taken

-- or no memory was found, for an event that takes memory, and nothing changed
pub record FoundNone (old : Kept) (event : Event) (new : Kept) (said : Said) : Type 0 where
  pub none : said ≡ NoMemory
  pub takes : TakesMemory event
  pub same : new ≡ old

abbrev pub Steps : Kept → Event → Kept → Said → Type 0
Steps old event new said =
    FoundNone old event new said ⊎ ((w : World) → StandsFor old w → Follows new said (event_with all_types event w))

-- A HANDOVER, whatever comes of it: each world that was stood for is stood for
abbrev pub GoesOn : Kept → Kept → Type 0
GoesOn old new = (w : World) → StandsFor old w → StandsFor new w

-- the same of what the definition does once it is known who is served
abbrev pub Acts : Kept → ℕ → ℕ → (World → Served → Told) → Kept → Said → Type 0
Acts old d c act new said =
    (w : World) (at : Served) → StandsFor old w → served w d ≡ Some at → at.conn ≡ c → Follows new said (act w at)

-- or no memory was found, and nothing changed
abbrev pub ActsOrNone : Kept → ℕ → ℕ → (World → Served → Told) → Kept → Said → Type 0
ActsOrNone old d c act new said = ((said ≡ NoMemory) × (new ≡ old)) ⊎ Acts old d c act new said
