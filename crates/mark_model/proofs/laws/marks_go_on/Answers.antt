use Rattle.mark_model.proofs.MarkBegunLemmas.{begun_marks, begun_open}
use Rattle.mark_model.proofs.laws.marks_go_on.Goals as goal

pub returns-clause-marks : goal.returns-clause-marks
returns-clause-marks c = begun_marks

pub returns-clause-open : goal.returns-clause-open
returns-clause-open c = begun_open
