use Rattle.world_laws.proofs.StartLemmas.{scripts_start}
use Rattle.world_laws.proofs.laws.scripts_start.Goals as goal

pub returns : goal.returns
returns c = scripts_start
