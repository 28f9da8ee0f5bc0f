use Rattle.out_queues.proofs.LawLemmas.{whole_leave_nothing}
use Rattle.out_queues.proofs.laws.whole_leave_nothing.Goals as goal

pub returns : goal.returns
returns c = whole_leave_nothing
