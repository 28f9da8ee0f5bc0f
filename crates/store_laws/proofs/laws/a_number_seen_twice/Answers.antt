use Rattle.store_laws.proofs.SeenLemmas.{seen_twice}
use Rattle.store_laws.proofs.InsideLemmas.{seen_twice_inside}
use Rattle.store_laws.proofs.laws.a_number_seen_twice.Goals as goal

pub returns : goal.returns
returns c = record { outside = seen_twice; inside = seen_twice_inside }
