-- What comes of a request that is handed to a daemon, and of the bytes that leave it. This project's own; one request is
-- one step of the sequential store.
use Rattle.std.specs.Prelude.{◌≡◌, ℕ, ◌<◌, ◌≤◌, ◌==◌, not, List, [], ◌++◌, length, take, drop, min, Some, None}
use Rattle.std.specs.Ordering.{nat_cmp}
use Rattle.std.specs.FinMap.{find, put}
use Rattle.std.specs.FinMap.Entries.{where_key}
use Rattle.xs_model.specs.Requests.{all_types}
use Rattle.xs_model.specs.Wholes.{rest_after}
use Rattle.machine_model.specs.declared.bounds.TheConstants.{HELD_LIMIT}
use Rattle.machine_model.specs.declared.ConnSpec.{ConnSpec}
use Rattle.machine_model.specs.Connections.{fresh}
use Rattle.machine_model.specs.Machine.{Machine, Asked, Lost, Step, step, step_with, with_conn}
use Rattle.mark_model.specs.Stores.{KeptStore, kept_step}
use Rattle.machine_model.specs.History.{unsent_after, crowded}
use Rattle.daemon.specs.declared.answer.Door.{Door}
use Rattle.daemon.specs.declared.answer.Submit.{Submit}
use Rattle.daemon.specs.declared.answer.Submit.TheVariants as submit
use Rattle.daemon.specs.declared.answer.Pull.{Pull}
use Rattle.daemon.specs.declared.answer.Pull.TheVariants as pull
use Rattle.watchers.specs.Watched.{conns_of}
use Rattle.store_parts.specs.Kept.{Kept}
use Rattle.daemon.specs.Keeps.{store_of, StandsFor}
use Rattle.daemon.specs.Acts.{IsDoor, rests_by}

-- ONE STEP of the store that is kept, as the store without transactions after it, and what is sent
abbrev pub kept_after : Kept → ℕ → List ℕ → KeptStore
kept_after old c message = (kept_step all_types (store_of old) (Asked c message)).0

abbrev pub stepped : Kept → ℕ → List ℕ → Step
stepped old c message = ((kept_after old c message).machine, (kept_step all_types (store_of old) (Asked c message)).1)

-- A request that is done is this step: what is kept after it is a function of what was kept, and of the request
pub record Steps (old : Kept) (c : ℕ) (message : List ℕ) (told : Door) (new : Kept) : Type 0 where
  pub store : store_of new ≡ kept_after old c message
  pub unsent : new.unsent ≡ unsent_after (stepped old c message) old.unsent
  pub rests : new.rests ≡ rests_by new.specs old.rests
  pub globals : new.globals ≡ old.globals
  pub uncrowded : crowded (unsent_after (stepped old c message) old.unsent) ≡ None
  pub door : IsDoor (conns_of old.specs old.watched) (conns_of new.specs new.watched) told

abbrev pub StepsIfDone : Kept → ℕ → List ℕ → Kept → Submit → Type 0
StepsIfDone old c message new (submit.Done door) = Steps old c message door new
StepsIfDone old c message new (submit.Held n) = new ≡ old
StepsIfDone old c message new (submit.Crowded d) = (crowded (unsent_after (stepped old c message) old.unsent) ≡ Some d) × (new ≡ old)
StepsIfDone old c message new submit.Gone = new ≡ old

-- FOR EACH STORE that the daemon stands for: a request is taken where its connection has few unsent bytes and nobody
-- would have too many
pub record Takes (old : Kept) (m : Machine) (c : ℕ) (message : List ℕ) (told : Door) (new : Kept) : Type 0 where
  pub bytes : List ℕ
  pub there : find nat_cmp c old.unsent ≡ Some bytes
  pub few : length bytes < HELD_LIMIT
  pub uncrowded : crowded (unsent_after (step m (Asked c message)) old.unsent) ≡ None
  pub stands : StandsFor new (step m (Asked c message)).0
  pub unsent : new.unsent ≡ unsent_after (step m (Asked c message)) old.unsent
  pub rests : new.rests ≡ rests_by new.specs old.rests
  pub globals : new.globals ≡ old.globals
  pub door : IsDoor m.conns (step m (Asked c message)).0.conns told

-- or not, and then nothing changes
pub record IsHeld (old : Kept) (c : ℕ) (n : ℕ) (new : Kept) : Type 0 where
  pub bytes : List ℕ
  pub there : find nat_cmp c old.unsent ≡ Some bytes
  pub number : n ≡ length bytes
  pub many : HELD_LIMIT ≤ n
  pub same : new ≡ old

pub record IsCrowded (old : Kept) (m : Machine) (c : ℕ) (message : List ℕ) (d : ℕ) (new : Kept) : Type 0 where
  pub bytes : List ℕ
  pub there : find nat_cmp c old.unsent ≡ Some bytes
  pub few : length bytes < HELD_LIMIT
  pub crowds : crowded (unsent_after (step m (Asked c message)) old.unsent) ≡ Some d
  pub same : new ≡ old

-- what a daemon answers to a request, for each store that it stands for
abbrev pub Submits : Kept → ℕ → List ℕ → Kept → Submit → Type 0
Submits old c message new (submit.Done door) = (m : Machine) → StandsFor old m → Takes old m c message door new
Submits old c message new (submit.Held n) = IsHeld old c n new
Submits old c message new (submit.Crowded d) = (m : Machine) → StandsFor old m → IsCrowded old m c message d new
Submits old c message new submit.Gone = (find nat_cmp c old.unsent ≡ None) × (new ≡ old)

-- UNSENT BYTES LEAVE: the first of them, as many as there are and as find room, and what is left of the message in front
-- follows
pub record Pulls (old : Kept) (c : ℕ) (into : List ℕ) (n : ℕ) (into_new : List ℕ) (new : Kept) : Type 0 where
  pub bytes : List ℕ
  pub there : find nat_cmp c old.unsent ≡ Some bytes
  pub some : 0 < length bytes
  pub count : n ≡ min (length into) (length bytes)
  pub taken : into_new ≡ take n bytes ++ drop n into
  pub unsent : new.unsent ≡ put nat_cmp c (drop n bytes) old.unsent
  pub rest : ℕ
  pub was : find nat_cmp c old.rests ≡ Some rest
  pub rests : new.rests ≡ put nat_cmp c (rest_after rest n bytes) old.rests
  pub globals : new.globals ≡ old.globals
  pub stands : (m : Machine) → StandsFor old m → StandsFor new m

abbrev pub Pulled : Kept → ℕ → List ℕ → Kept → List ℕ → Pull → Type 0
Pulled old c into new into_new (pull.Got n) = Pulls old c into n into_new new
Pulled old c into new into_new pull.Nothing = (find nat_cmp c old.unsent ≡ Some []) × ((new ≡ old) × (into_new ≡ into))
Pulled old c into new into_new pull.Gone = (find nat_cmp c old.unsent ≡ None) × ((new ≡ old) × (into_new ≡ into))

-- A CONNECTION IS ADDED, without watches and transactions, and nothing is unsent to it
pub record Adds (old : Kept) (c : ℕ) (spec : ConnSpec) (new : Kept) : Type 0 where
  pub unsent : new.unsent ≡ put nat_cmp c [] old.unsent
  pub rests : new.rests ≡ put nat_cmp c 0 old.rests
  pub specs : new.specs ≡ put nat_cmp c spec old.specs
  pub watched : new.watched ≡ old.watched
  pub opens : new.opens ≡ put nat_cmp c [] old.opens
  pub tree : (new.tree ≡ old.tree) × (new.gens ≡ old.gens)
  pub globals : new.globals ≡ old.globals
  pub stands : (m : Machine) → StandsFor old m → StandsFor new (with_conn c (fresh spec) m)

-- A CONNECTION IS LOST, with its unsent bytes; every other one stays as it is
pub record Drops (old : Kept) (c : ℕ) (new : Kept) : Type 0 where
  pub unsent : new.unsent ≡ where_key nat_cmp (λ d. not (c == d)) old.unsent
  pub rests : new.rests ≡ where_key nat_cmp (λ d. not (c == d)) old.rests
  pub globals : new.globals ≡ old.globals
  pub store : store_of new ≡ (kept_step [] (store_of old) (Lost c)).0
  pub stands : (m : Machine) → StandsFor old m → StandsFor new (step_with [] m (Lost c)).0
