use Rattle.store_laws.proofs.RefusalLemmas.{refusals_leave}
use Rattle.store_laws.proofs.laws.refusals_leave_all.Goals as goal

pub returns : goal.returns
returns c = refusals_leave
