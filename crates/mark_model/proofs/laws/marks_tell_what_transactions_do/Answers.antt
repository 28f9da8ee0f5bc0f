use Rattle.mark_model.proofs.MarkTellLemmas.{seen_through, conflicts_agree, commits_agree, written_known}
use Rattle.mark_model.proofs.laws.marks_tell_what_transactions_do.Goals as goal

pub returns-clause-seen : goal.returns-clause-seen
returns-clause-seen c = seen_through

pub returns-clause-conflict : goal.returns-clause-conflict
returns-clause-conflict c = conflicts_agree

pub returns-clause-commit : goal.returns-clause-commit
returns-clause-commit c = commits_agree

pub returns-clause-written : goal.returns-clause-written
returns-clause-written c = written_known
