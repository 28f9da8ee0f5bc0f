use Rattle.std.proofs.Common.{ℕ, List, ◌||◌, is_some, ◌∙◌, ap}
use Rattle.std.specs.List.{list_any}
use Rattle.std.specs.Ordering.{nat_cmp}
use Rattle.std.specs.FinMap.{find}
use Rattle.kept_model.specs.States.{ConnectionOf}
use Rattle.kept_model.specs.Said.{Said}
use Rattle.kept_model.specs.Loading.{is_end_of}
use Rattle.mig_load.specs.CameView.{tables_of}
use Rattle.mig_load.proofs.CameLemmas.{taken_in}
use Rattle.mig_load.proofs.connections.Connections.is_taken.Goals as goal

pub returns : goal.returns
returns c =
    c.is_taken.ensures ∙ taken_in (tables_of c.self.inside) c.args.conn c.args.spec
    ∙ ap (λ (conns : List (ℕ × ConnectionOf Said)). is_some (find nat_cmp c.args.conn conns) || list_any (λ e. is_end_of c.args.spec e.1.spec) conns) c.self.view_is
