use Rattle.machine_model.proofs.ReplyLemmas.{dropped}
use Rattle.machine_model.proofs.laws.drops_touch_nobody_else.Goals as goal

pub returns : goal.returns
returns c = dropped
