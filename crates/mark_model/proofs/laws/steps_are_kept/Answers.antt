use Rattle.mark_model.proofs.MarkLaws.{laws}
use Rattle.mark_model.proofs.StoreKeepers.{followed_kept}
use Rattle.mark_model.proofs.StoreSteps.{steps_kept}
use Rattle.mark_model.proofs.laws.steps_are_kept.Goals as goal

pub returns-clause-step : goal.returns-clause-step
returns-clause-step c = steps_kept laws

pub returns-clause-kept : goal.returns-clause-kept
returns-clause-kept c = followed_kept laws
