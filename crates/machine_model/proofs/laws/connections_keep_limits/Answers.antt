use Rattle.machine_model.proofs.LimitLemmas.{run_within}
use Rattle.machine_model.proofs.laws.connections_keep_limits.Goals as goal

pub returns : goal.returns
returns c = λ served items. (run_within served items).conns
