use Rattle.xs_model.proofs.RightLemmas.{given}
use Rattle.xs_model.proofs.laws.data_is_for_readers.Goals as goal

pub returns : goal.returns
returns c = λ operation path caller number tree payload reads e. given number tree path caller payload operation reads e
