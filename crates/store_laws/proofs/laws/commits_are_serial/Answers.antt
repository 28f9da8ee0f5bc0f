use Rattle.machine_model.proofs.HistoryLemmas.{serial_of}
use Rattle.store_laws.proofs.KeptLemmas.{kept_moves}
use Rattle.store_laws.proofs.laws.commits_are_serial.Goals as goal

pub returns : goal.returns
returns c = λ served start moves k may. serial_of _ (kept_moves served start moves k may).followed
