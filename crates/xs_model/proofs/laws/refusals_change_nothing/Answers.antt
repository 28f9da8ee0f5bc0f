use Rattle.xs_model.proofs.RightLemmas.{unchanged_by_refusal}
use Rattle.xs_model.proofs.laws.refusals_change_nothing.Goals as goal

pub returns : goal.returns
returns c = unchanged_by_refusal
