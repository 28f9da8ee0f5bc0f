use Rattle.std.proofs.Common.{refl}
use Rattle.std.specs.Fmt.{digits}
use Rattle.model_rows.proofs.first.value_with_nul_bytes.Goals as goal

pub returns : goal.returns
unfolding digits
returns c = refl
