-- Counts of what comes of a made script. This project's own.
use Rattle.std.specs.Prelude.{◌≡◌, ◌⊎◌, ◌^◌, ◌+◌, ◌-◌, ℕ, min, List, [], ◌∷◌, ◌++◌, length, Option, Ok, codes, decimal}
use Rattle.std.specs.Io.KnownBytes.{Appends, Keeps}
use Rattle.program_io.specs.Ends.{AppendsFront}
use Rattle.xs_model.specs.Requests.{all_types}
use Rattle.world_model.specs.declared.Said.{Said}
use Rattle.world_model.specs.declared.Said.TheVariants.{Queued, Gone, Put, Took, InFull, Part, DroppedIndex, DroppedLength, Held, Crowded, Done, NoneQueued, NoSpace, Sent, Got, Poked, Page, Handed, RefusedFault, RefusedChanged, NoMemory}
use Rattle.world_model.specs.Worlds.{World, Event, event_with, new_world}
use Rattle.world_model.specs.Scripts.{Script, script_of}
use Rattle.world_model.specs.Transcripts.{said_among, says_after, with_domains}
use Rattle.guest_script.specs.Made.{made_script}
use Rattle.handover.specs.Hands.{Told}
use Rattle.world_core.specs.Stands.{Kept, StandsFor}
use Rattle.xs_drive.specs.Vaults.{HandsOn}
use Rattle.xs_drive.specs.Play.{SaysOf}
use Rattle.xs_drive.specs.declared.counting.Counts.{Counts}

-- a count stands still at the greatest number of 64 bits
abbrev pub up : ℕ → ℕ → ℕ
up n more = min (n + more) (2 ^ 64 - 1)

-- one event more, by what it said: of the answers only a request's says `done` or `held`, only a take's how many bytes it
-- got, and only a handover's that a new store goes on
abbrev pub one_line : Counts → Counts
one_line c = record c { lines = up c.lines 1 }

abbrev pub counted : Said → Counts → Counts
counted Done c = record (one_line c) { done = up c.done 1 }
counted (Held unsent) c = record (one_line c) { held = up c.held 1 }
counted (Got n) c = record (one_line c) { taken = up c.taken n }
counted Handed c = record (one_line c) { handovers = up c.handovers 1 }
counted Gone c = one_line c
counted (Queued n) c = one_line c
counted (Put n) c = one_line c
counted InFull c = one_line c
counted (DroppedIndex prod cons) c = one_line c
counted (Took n) c = one_line c
counted Part c = one_line c
counted (DroppedLength len) c = one_line c
counted (Crowded conn) c = one_line c
counted NoneQueued c = one_line c
counted NoSpace c = one_line c
counted (Sent n) c = one_line c
counted Poked c = one_line c
counted (Page req_cons req_prod rsp_cons rsp_prod error) c = one_line c
counted RefusedFault c = one_line c
counted (RefusedChanged at put got) c = one_line c
counted NoMemory c = one_line c

-- those of a run of events, where its handovers say this
abbrev pub counts_from : Counts → World → List Event → List Said → Counts
counts_from c w [] says = c
counts_from c w (e ∷ es) says =
    let told = event_with all_types e w in
    counts_from (counted (said_among e says told.said) c) told.world es (says_after e says)

abbrev pub no_counts : Counts
no_counts = record { lines = 0; done = 0; held = 0; taken = 0; handovers = 0 }

-- THEIR LINES
abbrev pub count_line : List ℕ → ℕ → List ℕ
count_line name n = name ++ (decimal n ++ 10 ∷ [])

abbrev pub counts_text : Counts → List ℕ
counts_text c =
    count_line (codes "lines ") c.lines
    ++ (count_line (codes "done ") c.done
    ++ (count_line (codes "held ") c.held
    ++ (count_line (codes "taken ") c.taken
    ++ count_line (codes "handovers ") c.handovers)))

-- ONE EVENT was counted, in each world that the code's world stood for
pub record CountsIn (w : World) (event : Event) (counts : Counts) (vault : Told) (new : Kept) (counts_new : Counts) (vault_new : Told) : Type 0 where
  pub stands : StandsFor new (event_with all_types event w).world
  pub says : List Said
  pub said : SaysOf w event says vault vault_new
  pub more : counts_new ≡ counted (said_among event says (event_with all_types event w).said) counts

abbrev pub CountsOne : Kept → Event → Counts → Told → Kept → Counts → Told → Type 0
CountsOne old event counts vault new counts_new vault_new =
    (w : World) → StandsFor old w → CountsIn w event counts vault new counts_new vault_new

-- A RUN of events was counted
pub record CountsRun (w : World) (events : List Event) (counts : Counts) (vault vault_new : Told) : Type 0 where
  pub says : List Said
  pub hands : HandsOn w events says (length says) vault vault_new
  pub all : counts ≡ counts_from no_counts w events says

-- or no memory was found on its way
pub record StopsOnTheWay (w : World) (events : List Event) (vault vault_new : Told) : Type 0 where
  pub says : List Said
  pub k : ℕ
  pub hands : HandsOn w events says k vault vault_new

abbrev pub CountsAllFrom : Kept → List Event → Counts → Told → Told → Type 0
CountsAllFrom world events counts vault vault_new = (w : World) → StandsFor world w → CountsRun w events counts vault vault_new

abbrev pub StopsFrom : Kept → List Event → Told → Told → Type 0
StopsFrom world events vault vault_new = (w : World) → StandsFor world w → StopsOnTheWay w events vault vault_new

-- THE MADE SCRIPT of a seed and a number of operations, which begins with a new store
pub record MadeScript (seed count : ℕ) : Type 0 where
  pub script : Script
  pub reads : script_of (made_script seed count) ≡ Ok script

abbrev pub start_in : Script → World
start_in script = with_domains script.domains new_world

-- its counts were written, all of them
pub record CountsAll (seed count : ℕ) (out out_new : Option (List ℕ)) (vault vault_new : Told) : Type 0 where
  pub made : MadeScript seed count
  pub counts : Counts
  pub run : CountsRun (start_in made.script) made.script.events counts vault vault_new
  pub wrote : Appends out out_new (counts_text counts)

-- or a front of them
pub record CountsFront (seed count : ℕ) (out out_new : Option (List ℕ)) (vault vault_new : Told) : Type 0 where
  pub made : MadeScript seed count
  pub counts : Counts
  pub run : CountsRun (start_in made.script) made.script.events counts vault vault_new
  pub wrote : AppendsFront out out_new (counts_text counts)

-- or nothing, and the run had not begun, or did not come to its end
pub record StopsIn (seed count : ℕ) (vault vault_new : Told) : Type 0 where
  pub made : MadeScript seed count
  pub run : StopsOnTheWay (start_in made.script) made.script.events vault vault_new

pub record CountsNothing (seed count : ℕ) (out out_new : Option (List ℕ)) (vault vault_new : Told) : Type 0 where
  pub nothing : Keeps out out_new
  pub hands : (vault_new ≡ vault) ⊎ StopsIn seed count vault vault_new
