use Rattle.std.proofs.Common.{refl}
use Rattle.world_model.specs.Served.{account_at_start}
use Rattle.world_laws.proofs.RunLemmas.{world_of_run, past_of_run, machine_of_run}
use Rattle.world_laws.proofs.laws.accounts_are_of_runs.Goals as goal

pub returns : goal.returns
returns c = λ types start events. record {
  world = world_of_run types (account_at_start start) events;
  past = past_of_run types (account_at_start start) events;
  machine = machine_of_run types (account_at_start start) events refl;
}
