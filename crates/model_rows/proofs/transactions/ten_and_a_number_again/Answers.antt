use Rattle.std.proofs.Common.{refl}
use Rattle.std.specs.Fmt.{digits}
use Rattle.model_rows.proofs.transactions.ten_and_a_number_again.Goals as goal

pub returns : goal.returns
unfolding digits
returns c = refl
