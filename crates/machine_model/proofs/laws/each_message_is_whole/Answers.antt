use Rattle.machine_model.specs.Machine.{new_machine}
use Rattle.machine_model.proofs.SizeLemmas.{new_machine_sized}
use Rattle.machine_model.proofs.SendLemmas.{each_whole, run_sized}
use Rattle.machine_model.proofs.laws.each_message_is_whole.Goals as goal

pub returns : goal.returns
returns c = record {
  from_new = λ served items. each_whole _ (run_sized served new_machine items new_machine_sized);
  from_sized = each_whole;
  kept = run_sized;
}
