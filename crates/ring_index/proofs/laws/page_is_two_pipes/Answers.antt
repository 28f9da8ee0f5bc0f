use Rattle.ring_index.proofs.PipeLemmas.{page_is_two_pipes}
use Rattle.ring_index.proofs.laws.page_is_two_pipes.Goals as goal

pub returns : goal.returns
returns c = page_is_two_pipes
