-- What is left of a source that was not read.
use Rattle.std.proofs.Common.{ℕ, List, [], refl, Option, Some, None}
use Rattle.program_io.specs.Ends.{ConsumesFront}

pub untouched : (left : Option (List ℕ)) → ConsumesFront left left
untouched None = ([], tt)
untouched (Some xs) = ([], refl)
