use Rattle.world_model.specs.Served.{account_at_start}
use Rattle.world_laws.proofs.ServeLemmas.{run_sound, sound_balances}
use Rattle.world_laws.proofs.StartLemmas.{start_sound}
use Rattle.world_laws.proofs.laws.unpoked_pages_balance.Goals as goal

pub returns : goal.returns
returns c = λ types start events is. sound_balances _ (run_sound types (account_at_start start) events (start_sound start is))
