use Rattle.machine_model.proofs.LimitLemmas.{least_free-is}
use Rattle.machine_model.proofs.IdLemmas.{run_ids}
use Rattle.machine_model.proofs.laws.connections_have_ids.Goals as goal

pub returns : goal.returns
returns c = record {
  ids = run_ids;
  next = λ served items. let ids = run_ids served items in least_free-is _ ids.rising ids.positive;
}
