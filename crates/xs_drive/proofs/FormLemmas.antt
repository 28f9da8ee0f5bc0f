-- The events of a script that was read may come.
use Rattle.std.proofs.Common.{List, [], ◌∷◌}
use Rattle.std.specs.List.{AllByRecursion}
use Rattle.world_model.specs.Worlds.{Event, Send, Put, Intake, Do, Out, Take, Poke, ShowPage, Handover}
use Rattle.guest_script.specs.Drafts.{IsSoundEvent}
use Rattle.world_core.specs.Stands.{Moves}

event_moves : (e : Event) → IsSoundEvent e → Moves e
event_moves (Send d bytes) sound = tt
event_moves (Put d max) sound = sound.1.0
event_moves (Intake d max) sound = sound.1.0
event_moves (Do d) sound = tt
event_moves (Out d max) sound = sound.1.0
event_moves (Take d max) sound = sound.1.0
event_moves (Poke d which v) sound = tt
event_moves (ShowPage d) sound = tt
event_moves Handover sound = tt

pub events_move : (es : List Event) → AllByRecursion IsSoundEvent es → AllByRecursion Moves es
events_move [] sound = tt
events_move (e ∷ es) sound = (event_moves e sound.0, events_move es sound.1)
