use Rattle.machine_model.specs.Machine.{new_machine}
use Rattle.machine_model.proofs.KeepLemmas.{new_machine_follows}
use Rattle.machine_model.proofs.HistoryLemmas.{run_follows, trees_of}
use Rattle.machine_model.proofs.laws.each_tree_is_one.Goals as goal

pub returns : goal.returns
returns c = λ served items. trees_of _ (run_follows served new_machine items new_machine_follows)
