use Rattle.std.proofs.Common.{ℕ, List, ◌∙◌, ap}
use Rattle.std.specs.List.{list_any}
use Rattle.std.specs.Ordering.{nat_cmp}
use Rattle.std.specs.FinMap.{find}
use Rattle.xs_model.specs.Watches.{same_watch}
use Rattle.watch_table.specs.Tables.{watch_of}
use Rattle.kept_model.specs.States.{ConnectionOf}
use Rattle.kept_model.specs.Said.{Said}
use Rattle.mig_load.specs.CameView.{tables_of}
use Rattle.mig_load.proofs.CameLemmas.{came_found}
use Rattle.mig_load.proofs.connections.Connections.has_watch.Goals as goal

pub returns : goal.returns
returns c = λ found e.
    let came = came_found (tables_of c.self.inside) c.args.conn found (ap (λ (conns : List (ℕ × ConnectionOf Said)). find nat_cmp c.args.conn conns) c.self.view_is ∙ e) in
    c.has.ensures ∙ ap (λ (conn : ConnectionOf Said). list_any (same_watch (watch_of c.args.wpath.now c.args.token.now)) conn.watches) came.2
