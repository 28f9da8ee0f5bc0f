use Rattle.mark_model.proofs.MarkLaws.{laws}
use Rattle.mark_model.proofs.StoreKeepers.{begun_kept, begun_followed}
use Rattle.mark_model.proofs.StoreSteps.{steps_keep_stores}
use Rattle.mark_model.proofs.laws.stores_go_on.Goals as goal

pub returns-clause-store : goal.returns-clause-store
returns-clause-store c = begun_kept laws

pub returns-clause-followed : goal.returns-clause-followed
returns-clause-followed c = begun_followed laws

pub returns-clause-steps : goal.returns-clause-steps
returns-clause-steps c = steps_keep_stores laws
