use Rattle.msg_reassembly.proofs.IntakeLemmas.{intake_is_most}
use Rattle.msg_reassembly.proofs.laws.intake_is_most.Goals as goal

pub returns : goal.returns
returns c = intake_is_most
