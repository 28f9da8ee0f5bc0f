use Rattle.msg_reassembly.proofs.IntakeLemmas.{intake_is_two_steps}
use Rattle.msg_reassembly.proofs.laws.intake_is_two_steps.Goals as goal

pub returns : goal.returns
returns c = intake_is_two_steps
