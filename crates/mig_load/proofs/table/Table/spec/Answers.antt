use Rattle.std.proofs.Common.{◌≤◌}
use Rattle.machine_model.specs.declared.ConnSpec.{ConnSpec}
use Rattle.machine_model.specs.Connections.{caller_of}
use Rattle.mig_load.proofs.TableLemmas.{some_found}
use Rattle.mig_load.proofs.table.Table.spec.Goals as goal

pub returns-clause-caller : goal.returns-clause-caller
returns-clause-caller c = some_found (λ (spec : ConnSpec). (caller_of spec).domid ≤ 32751) c.args.id c.self.inside.conns c.spec.result c.spec.ensures.found c.self.invariant.callers
