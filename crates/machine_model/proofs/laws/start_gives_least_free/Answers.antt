use Rattle.machine_model.proofs.LimitLemmas.{run_within, start_in}
use Rattle.machine_model.proofs.laws.start_gives_least_free.Goals as goal

pub returns : goal.returns
returns c = λ served items. start_in _ (run_within served items)
