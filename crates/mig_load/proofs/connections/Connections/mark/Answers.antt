use Rattle.std.proofs.Common.{ℕ, List, ◌≡◌, true, is_some, ◌∙◌, ap, sym, refl}
use Rattle.std.specs.Ordering.{nat_cmp}
use Rattle.std.specs.FinMap.{find}
use Rattle.std.proofs.lemmas.Result.{on_ok_weaker}
use Rattle.kept_model.specs.States.{ConnectionOf}
use Rattle.kept_model.specs.Said.{Said}
use Rattle.mig_load.specs.Came.{Opens, Saids, said_of, connection_at, connections_in, changed_at, marked, marked_in}
use Rattle.mig_load.specs.CameView.{tables_of}
use Rattle.mig_load.proofs.CameLemmas.{came_there, came_at, said_changed, with_saids, told_either}
use Rattle.mig_load.proofs.connections.Connections.mark.Goals as goal

pub mark_in-requires : goal.mark_in-requires
mark_in-requires c =
    let conn = c.args.conn in
    let t = tables_of c.self.inside in
    let there : is_some (find nat_cmp conn (connections_in t)) ≡ true = ap (λ (conns : List (ℕ × ConnectionOf Said)). is_some (find nat_cmp conn conns)) c.self.view_is ∙ c.requires.there in
    let came = came_at t conn there in
    c.requires.open (connection_at t conn came.0) (sym (ap (λ (conns : List (ℕ × ConnectionOf Said)). find nat_cmp conn conns) c.self.view_is) ∙ came.2)

pub invariant_of-self : goal.invariant_of-self
invariant_of-self c =
    let conn = c.args.conn in
    let t = tables_of c.self.inside in
    let there : is_some (find nat_cmp conn (connections_in t)) ≡ true = ap (λ (conns : List (ℕ × ConnectionOf Said)). is_some (find nat_cmp conn conns)) c.self.view_is ∙ c.requires.there in
    let opens : Opens = marked_in c.args.tx c.args.path c.args.said (said_of conn t.saids) in
    record {
      own = c.self.invariant.own;
      named = c.self.invariant.named;
      told = told_either c.mark_in.result t.specs conn opens t.saids c.mark_in.new.saids.entries (sym (came_there t conn) ∙ there) c.self.invariant.told c.mark_in.ensures.ok c.mark_in.ensures.err;
      queued = c.self.invariant.queued;
      read = c.self.invariant.read;
      quiet = c.self.invariant.quiet;
    }

pub returns-clause-ok : goal.returns-clause-ok
returns-clause-ok c =
    let conn = c.args.conn in
    let t = tables_of c.self.inside in
    let there : is_some (find nat_cmp conn (connections_in t)) ≡ true = ap (λ (conns : List (ℕ × ConnectionOf Said)). is_some (find nat_cmp conn conns)) c.self.view_is ∙ c.requires.there in
    let opens : Opens = marked_in c.args.tx c.args.path c.args.said (said_of conn t.saids) in
    on_ok_weaker c.mark_in.result (λ is.
    ap (λ (saids : Saids). connections_in (with_saids saids t)) is
    ∙ said_changed t conn opens (marked c.args.tx c.args.path c.args.said) c.is_table.ensures.rising there (λ spec. refl)
    ∙ ap (changed_at conn (marked c.args.tx c.args.path c.args.said)) c.self.view_is) c.mark_in.ensures.ok
