use Rattle.world_model.specs.Served.{account_at_start}
use Rattle.world_laws.proofs.ServeLemmas.{run_sound, sound_serves}
use Rattle.world_laws.proofs.StartLemmas.{start_sound}
use Rattle.world_laws.proofs.laws.runs_serve.Goals as goal

pub returns : goal.returns
returns c = λ types start events is. sound_serves _ (run_sound types (account_at_start start) events (start_sound start is))
