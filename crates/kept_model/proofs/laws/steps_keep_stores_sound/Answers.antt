use Rattle.kept_model.proofs.StepStores.{steps_keep_sound}
use Rattle.kept_model.proofs.laws.steps_keep_stores_sound.Goals as goal

pub returns : goal.returns
returns c = steps_keep_sound
