use Rattle.std.proofs.Common.{refl}
use Rattle.std.specs.Fmt.{digits}
use Rattle.model_rows.proofs.parts.parts_of_a_directory.Goals as goal

pub returns : goal.returns
unfolding digits
returns c = refl
