-- The world in which a script begins. This project's own.
use Rattle.std.specs.Prelude.{◌≡◌, ℕ, List, Option, Some, Err}
use Rattle.kept_model.specs.declared.fault.LoadFault.{LoadFault}
use Rattle.kept_model.specs.Normal.{state_of_bytes}
use Rattle.world_model.specs.Worlds.{World}
use Rattle.world_model.specs.Scripts.{Script, DomainLine}
use Rattle.world_model.specs.Transcripts.{start_of, resumed_by, with_domains}
use Rattle.world_states.specs.States.{resumed}
use Rattle.world_core.specs.Stands.{Kept, StandsFor}

-- the code's world stands for it
pub record Starts (script : Script) (world : Kept) : Type 0 where
  pub start : World
  pub starts : start_of resumed script ≡ Some start
  pub stands : StandsFor world start

-- or the stream with which it begins tells no state
pub record StartsNot (script : Script) (fault : LoadFault) : Type 0 where
  pub stream : List ℕ
  pub resumes : script.resume ≡ Some stream
  pub refused : state_of_bytes stream ≡ Err fault

-- THE SAME before the domains of the head lines
pub record Resumes (resume : Option (List ℕ)) (world : Kept) : Type 0 where
  pub first : World
  pub begins : resumed_by resumed resume ≡ Some first
  pub stands : StandsFor world first

pub record ResumesNot (resume : Option (List ℕ)) (fault : LoadFault) : Type 0 where
  pub stream : List ℕ
  pub resumes : resume ≡ Some stream
  pub refused : state_of_bytes stream ≡ Err fault

-- and with them
abbrev pub AddsDomains : Kept → List DomainLine → Kept → Type 0
AddsDomains old lines new = (w : World) → StandsFor old w → StandsFor new (with_domains lines w)
