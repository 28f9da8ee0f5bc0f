use Rattle.stream_model.proofs.FirstFault.{is_first_fault, reads_first_fault}
use Rattle.stream_model.proofs.laws.a_fault_is_the_first.Goals as goal

pub returns : goal.returns
returns c = λ bytes fault h. (is_first_fault bytes fault h, reads_first_fault bytes fault)
