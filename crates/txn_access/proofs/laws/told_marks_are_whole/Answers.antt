use Rattle.txn_access.proofs.EntryLemmas.{told_fits, told_whole}
use Rattle.txn_access.proofs.laws.told_marks_are_whole.Goals as goal

pub returns : goal.returns
returns c = record { fits = told_fits; same = told_whole }
