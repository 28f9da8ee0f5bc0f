use Rattle.std.proofs.Common.{refl}
use Rattle.mark_model.proofs.MarkOpenLemmas.{command_marks, others_noted}
use Rattle.mark_model.proofs.MarkOverLemmas.{open_over}
use Rattle.mark_model.proofs.laws.marks_follow_transactions.Goals as goal

pub returns-clause-start : goal.returns-clause-start
returns-clause-start c = λ tree. refl

pub returns-clause-command : goal.returns-clause-command
returns-clause-command c = command_marks

pub returns-clause-others : goal.returns-clause-others
returns-clause-others c = λ tree t paths o. others_noted tree t o paths

pub returns-clause-over : goal.returns-clause-over
returns-clause-over c = open_over
