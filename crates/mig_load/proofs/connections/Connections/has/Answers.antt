use Rattle.std.proofs.Common.{ℕ, List, is_some, ◌∙◌, ap, sym}
use Rattle.std.specs.Ordering.{nat_cmp}
use Rattle.std.specs.FinMap.{find}
use Rattle.kept_model.specs.States.{ConnectionOf}
use Rattle.kept_model.specs.Said.{Said}
use Rattle.mig_load.specs.CameView.{tables_of}
use Rattle.mig_load.proofs.CameLemmas.{came_there}
use Rattle.mig_load.proofs.connections.Connections.has.Goals as goal

pub returns : goal.returns
returns c =
    c.is_some.ensures ∙ ap is_some c.spec.ensures.found ∙ sym (came_there (tables_of c.self.inside) c.args.conn)
    ∙ ap (λ (conns : List (ℕ × ConnectionOf Said)). is_some (find nat_cmp c.args.conn conns)) c.self.view_is
