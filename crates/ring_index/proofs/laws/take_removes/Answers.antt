use Rattle.ring_index.proofs.PipeLemmas.{take_removes}
use Rattle.ring_index.proofs.laws.take_removes.Goals as goal

pub returns : goal.returns
returns c = take_removes
