use Rattle.std.proofs.Common.{ℕ, List, Option, ◌∙◌, ap}
use Rattle.std.specs.Option.{option_copied}
use Rattle.std.specs.Ordering.{nat_cmp}
use Rattle.std.specs.FinMap.{find}
use Rattle.kept_model.specs.States.{ConnectionOf}
use Rattle.kept_model.specs.Said.{Said}
use Rattle.mig_load.specs.Came.{Opens, or_no_opens}
use Rattle.mig_load.specs.CameView.{tables_of}
use Rattle.mig_load.proofs.CameLemmas.{came_found}
use Rattle.mig_load.proofs.connections.Connections.txn.Goals as goal

pub returns-in_err-opens : goal.returns-in_err-opens
returns-in_err-opens c = λ found e.
    let came = came_found (tables_of c.self.inside) c.args.conn found (ap (λ (conns : List (ℕ × ConnectionOf Said)). find nat_cmp c.args.conn conns) c.self.view_is ∙ e) in
    ap option_copied c.from_residual.ensures
    ∙ ap (λ (o : Option Opens). find nat_cmp c.args.tx (or_no_opens o)) c.in_err-opens.ensures.value
    ∙ ap (λ (conn : ConnectionOf Said). find nat_cmp c.args.tx conn.opens) came.2

pub returns : goal.returns
returns c = λ found e.
    let came = came_found (tables_of c.self.inside) c.args.conn found (ap (λ (conns : List (ℕ × ConnectionOf Said)). find nat_cmp c.args.conn conns) c.self.view_is ∙ e) in
    c.txn.ensures
    ∙ ap (λ (o : Option Opens). find nat_cmp c.args.tx (or_no_opens o)) c.in_ok-opens.ensures.value
    ∙ ap (λ (conn : ConnectionOf Said). find nat_cmp c.args.tx conn.opens) came.2
