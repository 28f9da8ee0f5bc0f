use Rattle.store_laws.proofs.KeptLemmas.{new_kept, kept_moves}
use Rattle.store_laws.proofs.laws.lawful_stores_are_kept.Goals as goal

pub returns : goal.returns
returns c = record { new = new_kept; kept = λ served start moves k may. kept_moves served start moves k may }
