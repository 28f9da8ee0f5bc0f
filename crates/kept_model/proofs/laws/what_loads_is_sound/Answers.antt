use Rattle.kept_model.proofs.LoadSound.{loaded_is_sound}
use Rattle.kept_model.proofs.laws.what_loads_is_sound.Goals as goal

pub returns : goal.returns
returns c = loaded_is_sound
