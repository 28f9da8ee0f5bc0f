use Rattle.ring_index.proofs.PipeLemmas.{moves_are_of_pipes}
use Rattle.ring_index.proofs.laws.moves_are_of_pipes.Goals as goal

pub returns : goal.returns
returns c = moves_are_of_pipes
