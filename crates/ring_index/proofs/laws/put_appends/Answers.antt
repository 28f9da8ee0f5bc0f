use Rattle.ring_index.proofs.PipeLemmas.{put_appends}
use Rattle.ring_index.proofs.laws.put_appends.Goals as goal

pub returns : goal.returns
returns c = put_appends
