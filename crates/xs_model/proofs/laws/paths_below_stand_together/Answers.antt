use Rattle.xs_model.proofs.OrderLemmas.{stand_together, stand_before}
use Rattle.xs_model.proofs.laws.paths_below_stand_together.Goals as goal

pub returns : goal.returns
returns c = record { between = stand_together; first = stand_before }
