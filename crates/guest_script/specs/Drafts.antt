-- A script as far as it was read, and what one more line makes of it.
use Rattle.std.specs.Prelude.{◌≡◌, ℕ, ◌+◌, ◌<◌, ◌≤◌, ◌==◌, ◌^◌, Bool, true, false, List, [], ◌∷◌, ◌++◌, length, map, reverse, Option, Some, None, is_some, Result, Ok, Err, ⊤, slice_index_or}
use Rattle.std.specs.List.{list_any, AllByRecursion}
use Rattle.world_model.specs.Worlds.{Event, Send, Put, Intake, Do, Out, Take, Poke, ShowPage, Handover}
use Rattle.world_model.specs.Scripts.{Script, DomainLine, LineOf, Nothing, Resume, Domain, Events, Before, LineFault, placed, placed_line, script_from}
use Rattle.guest_script.specs.declared.fault.LineFault.{LineFault as Fault}
use Rattle.guest_script.specs.declared.fault.LineFault.TheVariants.{Kind, NoMemory}

-- the script with one more line at its end
abbrev pub followed : Script → LineOf → Script
followed script Nothing = script
followed script (Resume bytes) = record { resume = Some bytes; domains = script.domains; events = script.events }
followed script (Domain d start) = record {
  resume = script.resume;
  domains = script.domains ++ record { domid = d; start = start } ∷ [];
  events = script.events;
}
followed script (Events es) = record { resume = script.resume; domains = script.domains; events = script.events ++ es }

-- a script, and one whose lines stand behind its own
abbrev pub first_stream : Option (List ℕ) → Option (List ℕ) → Option (List ℕ)
first_stream None later = later
first_stream (Some bytes) later = Some bytes

abbrev pub joined : Script → Script → Script
joined first later = record {
  resume = first_stream first.resume later.resume;
  domains = first.domains ++ later.domains;
  events = first.events ++ later.events;
}

-- what stands before the next line
abbrev pub domids_of : List DomainLine → List ℕ
domids_of lines = reverse (map (λ (line : DomainLine). line.domid) lines)

abbrev pub has_events : List Event → Bool
has_events [] = false
has_events (e ∷ es) = true

abbrev pub place_of : Script → Before
place_of script = record {
  resumed = is_some script.resume;
  domids = domids_of script.domains;
  in_body = has_events script.events;
}

-- a flag for each domid says whether a line names it
pub record TellsNamed (flags : List Bool) (lines : List DomainLine) : Type 0 where
  pub len : length flags ≡ 32752
  pub tells : (d : ℕ) → d < 32752 → slice_index_or flags d false ≡ list_any (λ e. e == d) (domids_of lines)

-- numbers in the bounds that their fields have
abbrev pub IsDomid : ℕ → Type 0
IsDomid d = d ≤ 32751

abbrev pub IsCount : ℕ → Type 0
IsCount n = (1 ≤ n) × (n ≤ 65536)

abbrev pub IsSoundEvent : Event → Type 0
IsSoundEvent (Send d bytes) = IsDomid d × (1 ≤ length bytes)
IsSoundEvent (Put d max) = IsDomid d × IsCount max
IsSoundEvent (Intake d max) = IsDomid d × IsCount max
IsSoundEvent (Do d) = IsDomid d
IsSoundEvent (Out d max) = IsDomid d × IsCount max
IsSoundEvent (Take d max) = IsDomid d × IsCount max
IsSoundEvent (Poke d which value) = IsDomid d × (value < 2 ^ 32)
IsSoundEvent (ShowPage d) = IsDomid d
IsSoundEvent Handover = ⊤

abbrev pub IsSoundDomain : DomainLine → Type 0
IsSoundDomain line = IsDomid line.domid × (line.start < 2 ^ 32)

-- what holds of each line that is read
abbrev pub IsSoundLine : LineOf → Type 0
IsSoundLine Nothing = ⊤
IsSoundLine (Resume bytes) = 1 ≤ length bytes
IsSoundLine (Domain d start) = IsSoundDomain (record { domid = d; start = start })
IsSoundLine (Events es) = (has_events es ≡ true) × AllByRecursion IsSoundEvent es

-- ANSWERS. A line was added where it may stand, or it may not stand there; want of memory is free
abbrev pub Adds : Script → LineOf → Script → Result (Unit {0}) Fault → Type 0
Adds old line new (Ok done) = (placed (place_of old) line ≡ Ok line) × (new ≡ followed old line)
Adds old line new (Err (Kind kind)) = placed (place_of old) line ≡ Err kind
Adds old line new (Err NoMemory) = ⊤

-- the script of lines that stand behind those of a script
abbrev pub behind_script : Script → Result Script LineFault → Result Script LineFault
behind_script first (Ok later) = Ok (joined first later)
behind_script first (Err fault) = Err fault

abbrev pub rest_of_script : Script → ℕ → List (List ℕ) → Result Script LineFault
rest_of_script first n lines = behind_script first (script_from n (place_of first) lines)

-- a line went over from the lines to come to the script so far
abbrev pub GoesOn : Script → List ℕ → Script → Type 0
GoesOn old text new = (n : ℕ) (lines : List (List ℕ)) → rest_of_script old n (text ∷ lines) ≡ rest_of_script new (n + 1) lines

abbrev pub ReadsLine : Script → List ℕ → Script → Result (Unit {0}) Fault → Type 0
ReadsLine old text new (Ok done) = GoesOn old text new
ReadsLine old text new (Err (Kind kind)) = placed_line (place_of old) text ≡ Err kind
ReadsLine old text new (Err NoMemory) = ⊤
