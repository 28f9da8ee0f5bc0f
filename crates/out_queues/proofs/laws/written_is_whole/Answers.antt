use Rattle.out_queues.proofs.LawLemmas.{written_is_whole}
use Rattle.out_queues.proofs.laws.written_is_whole.Goals as goal

pub returns : goal.returns
returns c = written_is_whole
