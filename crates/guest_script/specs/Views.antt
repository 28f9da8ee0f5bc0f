-- What the types of this crate stand for in the definitions, and how a reader's answer goes by them.
use Rattle.std.specs.Prelude.{◌≡◌, ℕ, List, [], ◌∷◌, map, Option, Some, None, Result, Ok, Err, ⊤}
use Rattle.std.specs.Borrow.{Bor}
use Rattle.world_model.specs.declared.LineKind.{LineKind}
use Rattle.world_model.specs.Worlds as model
use Rattle.world_model.specs.Scripts as scripts
use Rattle.guest_script.specs.declared.event.Event.{Event}
use Rattle.guest_script.specs.declared.event.Event.TheVariants as event
use Rattle.guest_script.specs.declared.event.DomainLine.{DomainLine}
use Rattle.guest_script.specs.declared.line.Line.{Line}
use Rattle.guest_script.specs.declared.line.Line.TheVariants as line
use Rattle.guest_script.specs.declared.script.Script.{Script}
use Rattle.guest_script.specs.declared.fault.LineFault.{LineFault}
use Rattle.guest_script.specs.declared.fault.LineFault.TheVariants.{Kind, NoMemory}
use Rattle.guest_script.specs.declared.fault.ScriptFault.{ScriptFault}
use Rattle.guest_script.specs.declared.fault.ScriptFault.TheVariants as fault

-- TYPES
abbrev pub event_view : Event → model.Event
event_view (event.Send domid bytes) = model.Send domid bytes
event_view (event.Put domid max) = model.Put domid max
event_view (event.Intake domid max) = model.Intake domid max
event_view (event.Do domid) = model.Do domid
event_view (event.Out domid max) = model.Out domid max
event_view (event.Take domid max) = model.Take domid max
event_view (event.Poke domid which value) = model.Poke domid which value
event_view (event.Page domid) = model.ShowPage domid
event_view event.Handover = model.Handover

abbrev pub domain_view : DomainLine → scripts.DomainLine
domain_view line = record { domid = line.domid; start = line.start }

abbrev pub line_view : Line → scripts.LineOf
line_view line.Nothing = scripts.Nothing
line_view (line.Resume bytes) = scripts.Resume bytes
line_view (line.Domain head) = scripts.Domain head.domid head.start
line_view (line.Event e) = scripts.Events (event_view e ∷ [])
line_view (line.Serve domid) = scripts.Events (model.serve domid)

abbrev pub script_view : Script → scripts.Script
script_view script = record {
  resume = script.resume;
  domains = map domain_view script.domains;
  events = map event_view script.events;
}

-- ANSWERS. A value by what it stands for, or the same fault
abbrev pub seen : {A B : Type 0} → (A → B) → Result A LineKind → Result B LineKind
seen view (Ok x) = Ok (view x)
seen view (Err kind) = Err kind

-- what is defined, or its fault; want of memory is free
abbrev pub Reads : {A B : Type 0} → (A → B) → Result A LineFault → Result B LineKind → Type 0
Reads view (Ok x) defined = defined ≡ Ok (view x)
Reads view (Err (Kind kind)) defined = defined ≡ Err kind
Reads view (Err NoMemory) defined = ⊤

-- the script that is defined, or the first line at fault and its first fault; want of memory is free
abbrev pub IsScript : Result Script ScriptFault → Result scripts.Script scripts.LineFault → Type 0
IsScript (Ok script) defined = defined ≡ Ok (script_view script)
IsScript (Err (fault.Line line kind)) defined = defined ≡ Err (record { line = line; kind = kind })
IsScript (Err fault.NoMemory) defined = ⊤

-- FIELDS. Those that are left of a line, where any are
abbrev pub fields_left : Option (Bor (List ℕ)) → List (List ℕ)
fields_left None = []
fields_left (Some text) = scripts.fields_of text.now
