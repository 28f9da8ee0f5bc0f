use Rattle.out_queues.proofs.LawLemmas.{pieces_join}
use Rattle.out_queues.proofs.laws.pieces_join.Goals as goal

pub returns : goal.returns
returns c = pieces_join
