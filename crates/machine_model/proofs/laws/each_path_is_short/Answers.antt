use Rattle.machine_model.specs.Machine.{new_machine}
use Rattle.machine_model.proofs.SizeLemmas.{new_machine_sized}
use Rattle.machine_model.proofs.SendLemmas.{run_sized}
use Rattle.machine_model.proofs.laws.each_path_is_short.Goals as goal

pub returns : goal.returns
returns c = λ served items. (run_sized served new_machine items new_machine_sized).tree
