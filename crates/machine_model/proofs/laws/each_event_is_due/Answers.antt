use Rattle.machine_model.proofs.ReplyLemmas.{events_due}
use Rattle.machine_model.proofs.laws.each_event_is_due.Goals as goal

pub returns : goal.returns
returns c = events_due
