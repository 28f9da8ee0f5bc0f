use Rattle.std.proofs.Common.{refl}
use Rattle.std.specs.Fmt.{digits}
use Rattle.model_rows.proofs.refusals.guest_owns_what_it_creates.Goals as goal

pub returns : goal.returns
unfolding digits
returns c = refl
