use Rattle.std.proofs.Common.{refl}
use Rattle.std.specs.Fmt.{digits}
use Rattle.model_rows.proofs.cuts.larger_than_the_ring.Goals as goal

pub returns : goal.returns
unfolding digits
returns c = refl
