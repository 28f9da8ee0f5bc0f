use Rattle.xs_model.proofs.LengthLemmas.{spelled-short}
use Rattle.xs_model.proofs.ShortLemmas.{command_short}
use Rattle.xs_model.proofs.laws.paths_are_short.Goals as goal

pub returns : goal.returns
returns c = record { spelled = spelled-short; kept = command_short }
