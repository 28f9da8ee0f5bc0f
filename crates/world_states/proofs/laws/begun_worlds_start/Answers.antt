use Rattle.world_laws.proofs.StartLemmas.{lines_start}
use Rattle.world_states.specs.States.{begun_world}
use Rattle.world_states.proofs.BegunStarts.{begun_start}
use Rattle.world_states.proofs.laws.begun_worlds_start.Goals as goal

pub returns : goal.returns
returns c = λ s lines sound low. lines_start lines (begun_world s) low (begun_start s sound)
