use Rattle.ring_index.proofs.PipeLemmas.{takes_join}
use Rattle.ring_index.proofs.laws.takes_join.Goals as goal

pub returns : goal.returns
returns c = takes_join
