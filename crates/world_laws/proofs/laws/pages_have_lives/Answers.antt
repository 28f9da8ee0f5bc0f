use Rattle.world_model.specs.Served.{account_at_start}
use Rattle.world_laws.proofs.ServeLemmas.{run_sound, sound_lives}
use Rattle.world_laws.proofs.StartLemmas.{start_sound}
use Rattle.world_laws.proofs.laws.pages_have_lives.Goals as goal

pub returns : goal.returns
returns c = record {
  lives = λ types start events is. sound_lives _ (run_sound types (account_at_start start) events (start_sound start is));
  logs = λ types start events is. (run_sound types (account_at_start start) events (start_sound start is)).logged;
}
