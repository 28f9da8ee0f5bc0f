use Rattle.std.proofs.Common.{refl}
use Rattle.kept_model.specs.Loading.{unless, given}
use Rattle.kept_model.proofs.laws.the_empty_store.Goals as goal

pub returns-clause-records : goal.returns-clause-records
returns-clause-records c = refl

pub returns-clause-state : goal.returns-clause-state
unfolding unless given
returns-clause-state c = refl
