use Rattle.std.proofs.Common.{ℕ, List, ◌≡◌, ◌++◌, [], ◌∷◌, true, Some, None, is_some, ◌∙◌, ap, sym, refl, subst}
use Rattle.std.specs.Option.{option_map}
use Rattle.std.specs.Ordering.{nat_cmp}
use Rattle.std.specs.FinMap.{find}
use Rattle.std.proofs.lemmas.Result.{on_ok_weaker, on_err_weaker}
use Rattle.xs_model.proofs.Maps.{from_Some, keys_put}
use Rattle.conn_rows.proofs.NoteLemmas.{either_way}
use Rattle.machine_model.specs.Connections.{caller_of}
use Rattle.watch_table.specs.Tables.{Made, watch_of}
use Rattle.watchers.specs.Watched.{Watched, made_by, AreOwn}
use Rattle.watchers.proofs.OwnLemmas.{own_added}
use Rattle.kept_model.specs.States.{ConnectionOf}
use Rattle.kept_model.specs.Said.{Said}
use Rattle.kept_model.specs.Loading.{with_watch}
use Rattle.mig_load.specs.Came.{AreOf, connection_at, connections_in, changed_at}
use Rattle.mig_load.specs.CameView.{tables_of}
use Rattle.mig_load.proofs.CameLemmas.{came_there, came_at, watch_changed, with_watched}
use Rattle.std.proofs.Common.{Option}
use Rattle.xs_model.proofs.Maps.{not_Some}
use Rattle.mig_load.proofs.connections.Connections.add_watch.Goals as goal

there_by : (o : Option (ConnectionOf Said)) (domid : ℕ) → option_map (λ (conn : ConnectionOf Said). (caller_of conn.spec).domid) o ≡ Some domid → is_some o ≡ true
there_by None domid e = not_Some e
there_by (Some conn) domid e = refl

pub add-requires-clause-other : goal.add-requires-clause-other
add-requires-clause-other c =
    let conn = c.args.conn in
    let t = tables_of c.self.inside in
    let own = ap (λ (conns : List (ℕ × ConnectionOf Said)). option_map (λ (conn : ConnectionOf Said). (caller_of conn.spec).domid) (find nat_cmp conn conns)) c.self.view_is ∙ c.requires.own in
    let there : is_some (find nat_cmp conn (connections_in t)) ≡ true = there_by (find nat_cmp conn (connections_in t)) c.args.domid own in
    let came = came_at t conn there in
    c.requires.other (connection_at t conn came.0) (sym (ap (λ (conns : List (ℕ × ConnectionOf Said)). find nat_cmp conn conns) c.self.view_is) ∙ came.2)

pub invariant_of-self : goal.invariant_of-self
invariant_of-self c =
    let conn = c.args.conn in
    let t = tables_of c.self.inside in
    let own = ap (λ (conns : List (ℕ × ConnectionOf Said)). option_map (λ (conn : ConnectionOf Said). (caller_of conn.spec).domid) (find nat_cmp conn conns)) c.self.view_is ∙ c.requires.own in
    let there : is_some (find nat_cmp conn (connections_in t)) ≡ true = there_by (find nat_cmp conn (connections_in t)) c.args.domid own in
    let came = came_at t conn there in
    let m : Made = record { watch = watch_of c.args.wpath c.args.token; domid = c.args.domid } in
    let made : List Made = made_by conn t.watched ++ m ∷ [] in
    let same : c.args.domid ≡ (caller_of came.0).domid = from_Some (sym own ∙ ap (option_map (λ (conn : ConnectionOf Said). (caller_of conn.spec).domid)) came.2) in
    let in_specs = sym (came_there t conn) ∙ there in
    record {
      own = either_way c.add.result
          (on_ok_weaker c.add.result (λ is. subst (λ (w : Watched). AreOwn t.specs w) (sym is) (own_added t.specs conn came.0 m t.watched c.self.invariant.own came.1 same)) c.add.ensures.ok)
          (on_err_weaker c.add.result (λ is. subst (λ (w : Watched). AreOwn t.specs w) (sym is) c.self.invariant.own) c.add.ensures.err);
      named = either_way c.add.result
          (on_ok_weaker c.add.result (λ is. subst (λ (w : Watched). AreOf t.specs w) (sym is) (keys_put nat_cmp (λ k. is_some (find nat_cmp k t.specs) ≡ true) conn made t.watched in_specs c.self.invariant.named)) c.add.ensures.ok)
          (on_err_weaker c.add.result (λ is. subst (λ (w : Watched). AreOf t.specs w) (sym is) c.self.invariant.named) c.add.ensures.err);
      told = c.self.invariant.told;
      queued = c.self.invariant.queued;
      read = c.self.invariant.read;
      quiet = c.self.invariant.quiet;
    }

pub returns-clause-ok : goal.returns-clause-ok
returns-clause-ok c =
    let conn = c.args.conn in
    let t = tables_of c.self.inside in
    let own = ap (λ (conns : List (ℕ × ConnectionOf Said)). option_map (λ (conn : ConnectionOf Said). (caller_of conn.spec).domid) (find nat_cmp conn conns)) c.self.view_is ∙ c.requires.own in
    let there : is_some (find nat_cmp conn (connections_in t)) ≡ true = there_by (find nat_cmp conn (connections_in t)) c.args.domid own in
    let came = came_at t conn there in
    let m : Made = record { watch = watch_of c.args.wpath c.args.token; domid = c.args.domid } in
    on_ok_weaker c.add.result (λ is.
    ap (λ (watched : Watched). connections_in (with_watched watched t)) is
    ∙ watch_changed t conn m c.is_table.ensures.rising there
    ∙ ap (changed_at conn (with_watch m.watch)) c.self.view_is) c.add.ensures.ok
