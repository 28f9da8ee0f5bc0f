use Rattle.mark_model.proofs.MarkEditLemmas.{made_by_marks}
use Rattle.mark_model.proofs.StoreChanges.{same_change}
use Rattle.mark_model.proofs.laws.changes_go_through_marks.Goals as goal

pub returns-clause-edits : goal.returns-clause-edits
returns-clause-edits c = made_by_marks

pub returns-clause-same : goal.returns-clause-same
returns-clause-same c = same_change
