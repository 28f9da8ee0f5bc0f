-- What is printed for a script: a line an event. This project's own.
use Rattle.std.specs.Prelude.{ℕ, Bool, true, false, if◌then◌else◌, List, [], ◌∷◌, ◌++◌, Option, Some, None, option_map, Result, Ok, Err, codes, decimal}
use Rattle.text_model.specs.Hex.{hex}
use Rattle.machine_model.specs.Machine.{Item}
use Rattle.world_model.specs.declared.Said.{Said}
use Rattle.world_model.specs.declared.Said.TheVariants.{Gone, Queued, Put as SaidPut, InFull, DroppedIndex, Took, Part, DroppedLength, Held, Crowded, Done, NoneQueued, NoSpace, Sent, Got, Poked, Page, Handed, RefusedFault, RefusedChanged, NoMemory}
use Rattle.world_model.specs.Worlds.{World, Event, Send, Put, Intake, Do, Out, Take, Poke, ShowPage, Handover, Told, event_with, new_world, add_domain}
use Rattle.world_model.specs.Scripts.{Script, DomainLine, LineFault, script_of}

-- words with a space before each but the first
abbrev pub spaced : List (List ℕ) → List ℕ
spaced [] = []
spaced (w ∷ []) = w
spaced (w ∷ v ∷ ws) = w ++ (32 ∷ spaced (v ∷ ws))

-- the verb and the domain
abbrev pub named : List ℕ → ℕ → List (List ℕ)
named verb d = verb ∷ decimal d ∷ []

abbrev pub event_words : Event → List (List ℕ)
event_words (Send d bytes) = named (codes "send") d
event_words (Put d max) = named (codes "put") d
event_words (Intake d max) = named (codes "intake") d
event_words (Do d) = named (codes "do") d
event_words (Out d max) = named (codes "out") d
event_words (Take d max) = named (codes "take") d
event_words (Poke d which v) = named (codes "poke") d
event_words (ShowPage d) = named (codes "page") d
event_words Handover = codes "handover" ∷ []

-- bytes in hexadecimal, and `-` for none
abbrev pub hex_or_dash : List ℕ → List ℕ
hex_or_dash [] = codes "-"
hex_or_dash (b ∷ bs) = hex (b ∷ bs)

abbrev pub byte_or_end : Option ℕ → List ℕ
byte_or_end None = codes "end"
byte_or_end (Some b) = hex (b ∷ [])

abbrev pub said_words : Said → List ℕ → List (List ℕ)
said_words Gone taken = codes "gone" ∷ []
said_words (Queued n) taken = decimal n ∷ []
said_words (SaidPut n) taken = decimal n ∷ []
said_words InFull taken = codes "full" ∷ []
said_words (DroppedIndex prod cons) taken = codes "dropped" ∷ codes "index" ∷ decimal prod ∷ decimal cons ∷ []
said_words (Took n) taken = decimal n ∷ []
said_words Part taken = codes "part" ∷ []
said_words (DroppedLength len) taken = codes "dropped" ∷ codes "length" ∷ decimal len ∷ []
said_words (Held unsent) taken = codes "held" ∷ decimal unsent ∷ []
said_words (Crowded conn) taken = codes "crowded" ∷ decimal conn ∷ []
said_words Done taken = codes "done" ∷ []
said_words NoneQueued taken = codes "none" ∷ []
said_words NoSpace taken = codes "nospace" ∷ []
said_words (Sent n) taken = decimal n ∷ []
said_words (Got n) taken = hex_or_dash taken ∷ []
said_words Poked taken = codes "ok" ∷ []
said_words (Page rc rp sc sp err) taken = decimal rc ∷ decimal rp ∷ decimal sc ∷ decimal sp ∷ decimal err ∷ []
said_words Handed taken = codes "new" ∷ []
said_words RefusedFault taken = codes "refused" ∷ codes "fault" ∷ []
said_words (RefusedChanged at put got) taken =
    codes "refused" ∷ codes "changed" ∷ decimal at ∷ byte_or_end put ∷ byte_or_end got ∷ []
said_words NoMemory taken = []

-- the line that is printed for an event and its answer
abbrev pub said_line : Event → Said → List ℕ → List ℕ
said_line event said taken = spaced (event_words event ++ said_words said taken) ++ 10 ∷ []

-- RUNS. What the handovers of a run say is given, one after the other; where none is left they hand over.
abbrev pub handover_says : List Said → Said
handover_says [] = Handed
handover_says (said ∷ says) = said

abbrev pub later_says : List Said → List Said
later_says [] = []
later_says (said ∷ says) = says

abbrev pub is_handover : Event → Bool
is_handover (Send d bytes) = false
is_handover (Put d max) = false
is_handover (Intake d max) = false
is_handover (Do d) = false
is_handover (Out d max) = false
is_handover (Take d max) = false
is_handover (Poke d which v) = false
is_handover (ShowPage d) = false
is_handover Handover = true

abbrev pub said_among : Event → List Said → Said → Said
said_among e says said = if is_handover e then handover_says says else said

abbrev pub says_after : Event → List Said → List Said
says_after e says = if is_handover e then later_says says else says

abbrev pub event_line : Event → List Said → Told → List ℕ
event_line e says told = said_line e (said_among e says told.said) told.taken

-- the lines of events, each in the world that the ones before it left
abbrev pub lines_from : List ℕ → World → List Event → List Said → List ℕ
lines_from types w [] says = []
lines_from types w (e ∷ es) says =
    event_line e says (event_with types e w) ++ lines_from types (event_with types e w).world es (says_after e says)

-- the world after events, and what they did to the store
abbrev pub world_after_all : List ℕ → World → List Event → World
world_after_all types w [] = w
world_after_all types w (e ∷ es) = world_after_all types (event_with types e w).world es

abbrev pub history_of : List ℕ → World → List Event → List Item
history_of types w [] = []
history_of types w (e ∷ es) = (event_with types e w).items ++ history_of types (event_with types e w).world es

-- the world of a script's head lines. A stream to resume leads to a world, or to none where it tells no state
abbrev pub with_domains : List DomainLine → World → World
with_domains [] w = w
with_domains (line ∷ lines) w = with_domains lines (add_domain line.domid line.start w)

abbrev pub resumed_by : (List ℕ → Option World) → Option (List ℕ) → Option World
resumed_by resume None = Some new_world
resumed_by resume (Some stream) = resume stream

abbrev pub start_of : (List ℕ → Option World) → Script → Option World
start_of resume script = option_map (with_domains script.domains) (resumed_by resume script.resume)

-- nothing is printed where there is no world
abbrev pub lines_at : List ℕ → Option World → List Event → List Said → List ℕ
lines_at types None events says = []
lines_at types (Some w) events says = lines_from types w events says

abbrev pub script_lines : (List ℕ → Option World) → List ℕ → Script → List Said → List ℕ
script_lines resume types script says = lines_at types (start_of resume script) script.events says

abbrev pub transcript_of : (List ℕ → Option World) → List ℕ → Result Script LineFault → List Said → List ℕ
transcript_of resume types (Err fault) says = []
transcript_of resume types (Ok script) says = script_lines resume types script says

-- the transcript of a script's text, with the message types that are served
abbrev pub transcript_with : (List ℕ → Option World) → List ℕ → List ℕ → List Said → List ℕ
transcript_with resume types text says = transcript_of resume types (script_of text) says
