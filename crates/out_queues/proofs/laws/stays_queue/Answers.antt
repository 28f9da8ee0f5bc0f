use Rattle.out_queues.proofs.LawLemmas.{stays_queue}
use Rattle.out_queues.proofs.laws.stays_queue.Goals as goal

pub returns : goal.returns
returns c = stays_queue
