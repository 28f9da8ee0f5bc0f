-- The laws that join worlds and states, as statements. Each is proved of a function in `src/laws.rt`.
use Rattle.std.specs.Prelude.{◌≡◌, ◌^◌, ◌<◌, List}
use Rattle.std.specs.List.{AllByRecursion}
use Rattle.kept_model.specs.States.{State}
use Rattle.kept_model.specs.Sound.{IsSound}
use Rattle.world_model.specs.Scripts.{DomainLine}
use Rattle.world_model.specs.Transcripts.{with_domains}
use Rattle.world_laws.specs.Laws.{IsStart}
use Rattle.world_states.specs.States.{kept, begun_world}

-- what the world that goes on from a state keeps is that state
abbrev pub BegunWorldsKeep : Type 0
BegunWorldsKeep = (s : State) → IsSound s → kept (begun_world s) ≡ s

-- and runs may start there, behind the head lines of a script
abbrev pub BegunWorldsStart : Type 0
BegunWorldsStart =
    (s : State) (lines : List DomainLine) → IsSound s → AllByRecursion (λ line. line.start < 2 ^ 32) lines
    → IsStart (with_domains lines (begun_world s))
