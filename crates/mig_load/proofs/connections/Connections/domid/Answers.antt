use Rattle.std.proofs.Common.{ℕ, List, ◌≡◌, None, Some, Option, refl, ◌∙◌, ap, sym}
use Rattle.std.specs.Option.{option_map}
use Rattle.std.specs.Ordering.{nat_cmp}
use Rattle.std.specs.FinMap.{find}
use Rattle.machine_model.specs.declared.ConnSpec.{ConnSpec}
use Rattle.machine_model.specs.Connections.{caller_of}
use Rattle.kept_model.specs.States.{ConnectionOf}
use Rattle.kept_model.specs.Said.{Said}
use Rattle.mig_load.specs.Came.{Tables, connection_at, connections_in}
use Rattle.mig_load.specs.CameView.{tables_of}
use Rattle.mig_load.proofs.CameLemmas.{at_found}
use Rattle.mig_load.proofs.connections.Connections.domid.Goals as goal

by_spec : (t : Tables) (c : ℕ) (o : Option ConnSpec) → option_map (λ (s : ConnSpec). (caller_of s).domid) o ≡ option_map (λ (conn : ConnectionOf Said). (caller_of conn.spec).domid) (option_map (connection_at t c) o)
by_spec t c None = refl
by_spec t c (Some s) = refl

came_domid : (t : Tables) (c : ℕ) (o : Option ConnSpec) → o ≡ find nat_cmp c t.specs → option_map (λ (s : ConnSpec). (caller_of s).domid) o ≡ option_map (λ (conn : ConnectionOf Said). (caller_of conn.spec).domid) (find nat_cmp c (connections_in t))
came_domid t c o e = by_spec t c o ∙ ap (option_map (λ (conn : ConnectionOf Said). (caller_of conn.spec).domid)) (ap (option_map (connection_at t c)) e ∙ sym (at_found (connection_at t) c t.specs))

pub returns-in_err-spec-clause-found : goal.returns-in_err-spec-clause-found
returns-in_err-spec-clause-found c =
    c.from_residual.ensures
    ∙ came_domid (tables_of c.self.inside) c.args.conn None c.in_err-spec.ensures.found
    ∙ ap (λ (conns : List (ℕ × ConnectionOf Said)). option_map (λ (conn : ConnectionOf Said). (caller_of conn.spec).domid) (find nat_cmp c.args.conn conns)) c.self.view_is

pub returns-clause-found : goal.returns-clause-found
returns-clause-found c =
    ap Some c.domid_of.ensures
    ∙ ap (option_map (λ (s : ConnSpec). (caller_of s).domid)) (sym c.in_ok-spec.was)
    ∙ came_domid (tables_of c.self.inside) c.args.conn c.spec.result c.spec.ensures.found
    ∙ ap (λ (conns : List (ℕ × ConnectionOf Said)). option_map (λ (conn : ConnectionOf Said). (caller_of conn.spec).domid) (find nat_cmp c.args.conn conns)) c.self.view_is
