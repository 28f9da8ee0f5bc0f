use Rattle.machine_model.proofs.HistoryLemmas.{serial_of}
use Rattle.daemon.proofs.laws.commits_are_serial.Goals as goal

pub returns : goal.returns
returns c = λ kept m stands. serial_of m stands.followed
