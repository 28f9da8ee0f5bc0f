use Rattle.std.proofs.Common.{ℕ, List, ◌≡◌, not, Some, Ok, Err, ap, ◌∙◌, sym, subst}
use Rattle.std.proofs.lemmas.Result.{on_ok_weaker, on_err_weaker}
use Rattle.std.specs.List.{list_any}
use Rattle.std.specs.Ordering.{nat_cmp}
use Rattle.std.specs.FinMap.{find}
use Rattle.xs_model.specs.Requests.{one_string, is_token, is_watch_path}
use Rattle.xs_model.specs.Watches.{same_watch}
use Rattle.machine_model.specs.Connections.{caller_of}
use Rattle.watch_table.specs.Tables.{watch_of}
use Rattle.stream_model.specs.Record.{WatchData}
use Rattle.kept_model.specs.declared.fault.LoadFault.TheVariants.{BadText, BadPath, Repeated, UnknownConn}
use Rattle.kept_model.specs.States.{ConnectionOf}
use Rattle.kept_model.specs.Said.{Said}
use Rattle.kept_model.specs.Loading.{Loading, load_watch, with_watch}
use Rattle.kept_model.proofs.LoadTests.{map_some}
use Rattle.mig_load.specs.Came.{changed_found, changed_at}
use Rattle.mig_load.specs.LoadingView.{loading_view}
use Rattle.mig_load.specs.Steps.{Steps, with_conns}
use Rattle.mig_load.proofs.StepLemmas.{stop, pass, lack, take, refused, edited, none_mapped}
use Rattle.mig_load.proofs.loading.Loading.watch.Goals as goal

pub returns-in_default : goal.returns-in_default
returns-in_default c =
    let n = c.args.rec in
    let d : WatchData = record { conn = c.args.conn; wpath = c.args.wpath.now; token = c.args.token.now } in
    let old = loading_view c.self.inside in
    let conns = c.self.inside.conns in
    refused (load_watch n c.args.self.now d) c.args.self.now (UnknownConn n)
    (subst (λ (l : Loading). load_watch n l d ≡ Err (UnknownConn n)) c.self.view_is
    (lack (find nat_cmp c.args.conn conns) (UnknownConn n) _ (none_mapped (λ (conn : ConnectionOf Said). (caller_of conn.spec).domid) (find nat_cmp c.args.conn conns) c.in_default.ensures.found)))

pub returns-in_default-one_string : goal.returns-in_default-one_string
returns-in_default-one_string c =
    let n = c.args.rec in
    let d : WatchData = record { conn = c.args.conn; wpath = c.args.wpath.now; token = c.args.token.now } in
    let old = loading_view c.self.inside in
    let conns = c.self.inside.conns in
    let found = map_some (λ (conn : ConnectionOf Said). (caller_of conn.spec).domid) (find nat_cmp c.args.conn conns) c.in-Some.domid (sym c.in-Some.ensures.found) in
    let conn = found.0 in
    refused (load_watch n c.args.self.now d) c.args.self.now (BadText n)
    (subst (λ (l : Loading). load_watch n l d ≡ Err (BadText n)) c.self.view_is
    (take (find nat_cmp c.args.conn conns) (UnknownConn n) _ conn _ found.1 (lack (one_string d.wpath) (BadText n) _ (sym (c.in_default-one_string.ensures ∙ ap one_string c.as_slice.ensures)))))

pub returns-in_default-one_string-2 : goal.returns-in_default-one_string-2
returns-in_default-one_string-2 c =
    let n = c.args.rec in
    let d : WatchData = record { conn = c.args.conn; wpath = c.args.wpath.now; token = c.args.token.now } in
    let old = loading_view c.self.inside in
    let conns = c.self.inside.conns in
    let found = map_some (λ (conn : ConnectionOf Said). (caller_of conn.spec).domid) (find nat_cmp c.args.conn conns) c.in-Some.domid (sym c.in-Some.ensures.found) in
    let conn = found.0 in
    let wpath = c.in-Some-one_string.wpath.now in
    let wpath_is : one_string d.wpath ≡ Some wpath = sym (c.in-Some-one_string.ensures ∙ ap one_string c.as_slice.ensures) in
    refused (load_watch n c.args.self.now d) c.args.self.now (BadText n)
    (subst (λ (l : Loading). load_watch n l d ≡ Err (BadText n)) c.self.view_is
    (take (find nat_cmp c.args.conn conns) (UnknownConn n) _ conn _ found.1 (take (one_string d.wpath) (BadText n) _ wpath _ wpath_is (lack (one_string d.token) (BadText n) _ (sym (c.in_default-one_string-2.ensures ∙ ap one_string c.as_slice-2.ensures))))))

pub returns-then-not-is_token : goal.returns-then-not-is_token
returns-then-not-is_token c =
    let n = c.args.rec in
    let d : WatchData = record { conn = c.args.conn; wpath = c.args.wpath.now; token = c.args.token.now } in
    let old = loading_view c.self.inside in
    let conns = c.self.inside.conns in
    let found = map_some (λ (conn : ConnectionOf Said). (caller_of conn.spec).domid) (find nat_cmp c.args.conn conns) c.in-Some.domid (sym c.in-Some.ensures.found) in
    let conn = found.0 in
    let wpath = c.in-Some-one_string.wpath.now in
    let wpath_is : one_string d.wpath ≡ Some wpath = sym (c.in-Some-one_string.ensures ∙ ap one_string c.as_slice.ensures) in
    let token = c.in-Some-one_string-2.token.now in
    let token_is : one_string d.token ≡ Some token = sym (c.in-Some-one_string-2.ensures ∙ ap one_string c.as_slice-2.ensures) in
    refused (load_watch n c.args.self.now d) c.args.self.now (BadText n)
    (subst (λ (l : Loading). load_watch n l d ≡ Err (BadText n)) c.self.view_is
    (take (find nat_cmp c.args.conn conns) (UnknownConn n) _ conn _ found.1 (take (one_string d.wpath) (BadText n) _ wpath _ wpath_is (take (one_string d.token) (BadText n) _ token _ token_is (stop (not (is_token token)) (BadText n) _ (ap not (sym c.if-not-is_token.ensures)))))))

pub returns-then-not-is_watch_path : goal.returns-then-not-is_watch_path
returns-then-not-is_watch_path c =
    let n = c.args.rec in
    let d : WatchData = record { conn = c.args.conn; wpath = c.args.wpath.now; token = c.args.token.now } in
    let old = loading_view c.self.inside in
    let conns = c.self.inside.conns in
    let found = map_some (λ (conn : ConnectionOf Said). (caller_of conn.spec).domid) (find nat_cmp c.args.conn conns) c.in-Some.domid (sym c.in-Some.ensures.found) in
    let conn = found.0 in
    let wpath = c.in-Some-one_string.wpath.now in
    let wpath_is : one_string d.wpath ≡ Some wpath = sym (c.in-Some-one_string.ensures ∙ ap one_string c.as_slice.ensures) in
    let token = c.in-Some-one_string-2.token.now in
    let token_is : one_string d.token ≡ Some token = sym (c.in-Some-one_string-2.ensures ∙ ap one_string c.as_slice-2.ensures) in
    refused (load_watch n c.args.self.now d) c.args.self.now (BadPath n)
    (subst (λ (l : Loading). load_watch n l d ≡ Err (BadPath n)) c.self.view_is
    (take (find nat_cmp c.args.conn conns) (UnknownConn n) _ conn _ found.1 (take (one_string d.wpath) (BadText n) _ wpath _ wpath_is (take (one_string d.token) (BadText n) _ token _ token_is (pass (not (is_token token)) (BadText n) _ _ (ap not (sym c.if-not-is_token.ensures)) (stop (not (is_watch_path wpath (caller_of conn.spec).domid)) (BadPath n) _ (ap (λ k. not (is_watch_path wpath k)) found.2 ∙ ap not (sym c.if-not-is_watch_path.ensures))))))))

pub returns-then-has_watch : goal.returns-then-has_watch
returns-then-has_watch c =
    let n = c.args.rec in
    let d : WatchData = record { conn = c.args.conn; wpath = c.args.wpath.now; token = c.args.token.now } in
    let old = loading_view c.self.inside in
    let conns = c.self.inside.conns in
    let found = map_some (λ (conn : ConnectionOf Said). (caller_of conn.spec).domid) (find nat_cmp c.args.conn conns) c.in-Some.domid (sym c.in-Some.ensures.found) in
    let conn = found.0 in
    let wpath = c.in-Some-one_string.wpath.now in
    let wpath_is : one_string d.wpath ≡ Some wpath = sym (c.in-Some-one_string.ensures ∙ ap one_string c.as_slice.ensures) in
    let token = c.in-Some-one_string-2.token.now in
    let token_is : one_string d.token ≡ Some token = sym (c.in-Some-one_string-2.ensures ∙ ap one_string c.as_slice-2.ensures) in
    refused (load_watch n c.args.self.now d) c.args.self.now (Repeated n)
    (subst (λ (l : Loading). load_watch n l d ≡ Err (Repeated n)) c.self.view_is
    (take (find nat_cmp c.args.conn conns) (UnknownConn n) _ conn _ found.1 (take (one_string d.wpath) (BadText n) _ wpath _ wpath_is (take (one_string d.token) (BadText n) _ token _ token_is (pass (not (is_token token)) (BadText n) _ _ (ap not (sym c.if-not-is_token.ensures)) (pass (not (is_watch_path wpath (caller_of conn.spec).domid)) (BadPath n) _ _ (ap (λ k. not (is_watch_path wpath k)) found.2 ∙ ap not (sym c.if-not-is_watch_path.ensures)) (stop (list_any (same_watch (watch_of wpath token)) conn.watches) (Repeated n) _ (sym (c.if-has_watch.ensures conn found.1)))))))))

pub returns : goal.returns
returns c =
    let n = c.args.rec in
    let d : WatchData = record { conn = c.args.conn; wpath = c.args.wpath.now; token = c.args.token.now } in
    let old = loading_view c.self.inside in
    let conns = c.self.inside.conns in
    let found = map_some (λ (conn : ConnectionOf Said). (caller_of conn.spec).domid) (find nat_cmp c.args.conn conns) c.in-Some.domid (sym c.in-Some.ensures.found) in
    let conn = found.0 in
    let wpath = c.in-Some-one_string.wpath.now in
    let wpath_is : one_string d.wpath ≡ Some wpath = sym (c.in-Some-one_string.ensures ∙ ap one_string c.as_slice.ensures) in
    let token = c.in-Some-one_string-2.token.now in
    let token_is : one_string d.token ≡ Some token = sym (c.in-Some-one_string-2.ensures ∙ ap one_string c.as_slice-2.ensures) in
    let new = with_conns c.watch.new.self old in
    let told : load_watch n old d ≡ Ok (with_conns (changed_at c.args.conn (with_watch (watch_of wpath token)) conns) old) =
    take (find nat_cmp c.args.conn conns) (UnknownConn n) _ conn _ found.1 (take (one_string d.wpath) (BadText n) _ wpath _ wpath_is (take (one_string d.token) (BadText n) _ token _ token_is (pass (not (is_token token)) (BadText n) _ _ (ap not (sym c.if-not-is_token.ensures)) (pass (not (is_watch_path wpath (caller_of conn.spec).domid)) (BadPath n) _ _ (ap (λ k. not (is_watch_path wpath k)) found.2 ∙ ap not (sym c.if-not-is_watch_path.ensures)) (pass (list_any (same_watch (watch_of wpath token)) conn.watches) (Repeated n) _ _ (sym (c.if-has_watch.ensures conn found.1)) (ap (λ o. Ok (with_conns (changed_found c.args.conn (with_watch (watch_of wpath token)) conns o) old)) (sym found.1))))))) in
    subst (λ (l : Loading). Steps (load_watch n l d) l new c.or_fault.result) c.self.view_is
    (edited (load_watch n old d) old new c.watch.result c.or_fault.result c.or_fault.ensures.same
    (on_ok_weaker c.watch.result (λ is. told ∙ ap (λ (conns : List (ℕ × ConnectionOf Said)). Ok (with_conns conns old)) (sym is)) c.watch.ensures.ok)
    (on_err_weaker c.watch.result (λ is. ap (λ (conns : List (ℕ × ConnectionOf Said)). with_conns conns old) is) c.watch.ensures.err))
