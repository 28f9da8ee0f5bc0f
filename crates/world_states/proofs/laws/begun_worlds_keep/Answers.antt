use Rattle.world_states.proofs.BegunKeeps.{begun_keeps}
use Rattle.world_states.proofs.laws.begun_worlds_keep.Goals as goal

pub returns : goal.returns
returns c = begun_keeps
