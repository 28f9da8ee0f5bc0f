use Rattle.machine_model.specs.Machine.{new_machine}
use Rattle.machine_model.proofs.KeepLemmas.{new_machine_follows}
use Rattle.machine_model.proofs.HistoryLemmas.{run_follows, serial_of}
use Rattle.machine_model.proofs.laws.commits_are_serial.Goals as goal

pub returns : goal.returns
returns c = record {
  from_new = λ served items. serial_of _ (run_follows served new_machine items new_machine_follows);
  from_followed = λ served start items h. serial_of _ (run_follows served start items h);
  kept = λ served start items h. run_follows served start items h;
}
