use Rattle.std.proofs.Common.{ℕ, List, ◌≡◌, [], ◌∷◌, ◌++◌, is_some, Option, Some, Result, Ok, Err, ap, ◌∙◌, sym, subst}
use Rattle.std.specs.Ordering.{nat_cmp}
use Rattle.std.specs.FinMap.{find, put}
use Rattle.xs_model.specs.Paths.{Path, path_cmp}
use Rattle.xs_model.specs.Trees.{Node}
use Rattle.stream_model.specs.Record.{NodeData}
use Rattle.kept_model.specs.declared.fault.LoadFault.{LoadFault}
use Rattle.kept_model.specs.declared.fault.LoadFault.TheVariants.{BadAccess, BadPerm, Repeated, UnknownConn, UnknownTxn}
use Rattle.kept_model.specs.States.{TransactionOf, ConnectionOf}
use Rattle.kept_model.specs.Said.{Said, access_of, found_by, lacks_entries, said_by}
use Rattle.kept_model.specs.Loading.{Loading, Pending, load_mark, with_said, with_opens}
use Rattle.txn_normal.specs.Views.{access_view}
use Rattle.mig_load.specs.Came.{changed_found, changed_at, marked_found, marked_in, marked}
use Rattle.mig_load.specs.LoadingView.{loading_view}
use Rattle.mig_load.proofs.CameLemmas.{there_is}
use Rattle.mig_load.proofs.StepLemmas.{stop, pass, lack, take, refused, at_ok, at_on_ok}
use Rattle.kept_model.proofs.LoadEnds.{none_found}
use Rattle.mig_load.proofs.loading.Loading.mark.Goals as goal

abbrev marked_pending : List (ℕ × ConnectionOf Said) → List Pending → Loading → Loading
marked_pending conns pending l = record {
  state = record { tree = l.state.tree; gens = l.state.gens; globals = l.state.globals; conns = conns };
  has_globals = l.has_globals;
  has_root = l.has_root;
  pending = pending;
}

pub returns-in_default : goal.returns-in_default
returns-in_default c =
    let n = c.args.rec in
    let p = c.args.path in
    let d : NodeData = c.args.item in
    refused (load_mark n c.args.self.now d p) c.args.self.now (BadAccess n)
    (lack (access_of d.access) (BadAccess n) _ (sym (c.in_default.ensures ∙ ap (λ (e : NodeData). access_of e.access) c.item.view_is)))

pub returns-then-lacks_entries : goal.returns-then-lacks_entries
returns-then-lacks_entries c =
    let n = c.args.rec in
    let p = c.args.path in
    let d : NodeData = c.args.item in
    let access = access_view c.in-Some.access in
    let access_is : access_of d.access ≡ Some access = sym (c.in-Some.ensures ∙ ap (λ (e : NodeData). access_of e.access) c.item.view_is) in
    refused (load_mark n c.args.self.now d p) c.args.self.now (BadAccess n)
    (take (access_of d.access) (BadAccess n) _ access _ access_is (stop (lacks_entries access d) (BadAccess n) _ (sym c.if-lacks_entries.ensures)))

pub returns-in_default-2 : goal.returns-in_default-2
returns-in_default-2 c =
    let n = c.args.rec in
    let p = c.args.path in
    let d : NodeData = c.args.item in
    let access = access_view c.in-Some.access in
    let access_is : access_of d.access ≡ Some access = sym (c.in-Some.ensures ∙ ap (λ (e : NodeData). access_of e.access) c.item.view_is) in
    let told : c.in_ok-found.field-0 ≡ found_by access d = at_ok (λ (o : Option (Option Node)). o ≡ found_by access d) c.found_by.result c.in_ok-found.field-0 c.in_ok-found.ensures.ok c.found_by.ensures in
    refused (load_mark n c.args.self.now d p) c.args.self.now (BadPerm n)
    (take (access_of d.access) (BadAccess n) _ access _ access_is (pass (lacks_entries access d) (BadAccess n) _ _ (sym c.if-lacks_entries.ensures) (lack (found_by access d) (BadPerm n) _ (sym told ∙ c.in_default-2.is))))

pub returns-then-not-has : goal.returns-then-not-has
returns-then-not-has c =
    let n = c.args.rec in
    let p = c.args.path in
    let d : NodeData = c.args.item in
    let access = access_view c.in-Some.access in
    let access_is : access_of d.access ≡ Some access = sym (c.in-Some.ensures ∙ ap (λ (e : NodeData). access_of e.access) c.item.view_is) in
    let told : c.in_ok-found.field-0 ≡ found_by access d = at_ok (λ (o : Option (Option Node)). o ≡ found_by access d) c.found_by.result c.in_ok-found.field-0 c.in_ok-found.ensures.ok c.found_by.ensures in
    let found = c.in-Some-2.found in
    let found_is : found_by access d ≡ Some found = sym told ∙ c.in-Some-2.is in
    let conns = c.self.inside.conns in
    let conn_is : c.item.inside.conn ≡ d.conn = ap (λ (e : NodeData). e.conn) c.item.view_is in
    let tx_is : c.item.inside.tx ≡ d.tx = ap (λ (e : NodeData). e.tx) c.item.view_is in
    refused (load_mark n c.args.self.now d p) c.args.self.now (UnknownConn n)
    (subst (λ (l : Loading). load_mark n l d p ≡ Err (UnknownConn n)) c.self.view_is
    (take (access_of d.access) (BadAccess n) _ access _ access_is (pass (lacks_entries access d) (BadAccess n) _ _ (sym c.if-lacks_entries.ensures) (take (found_by access d) (BadPerm n) _ found _ found_is (lack (find nat_cmp d.conn conns) (UnknownConn n) _ (none_found (find nat_cmp d.conn conns) (sym (c.if-not-has.ensures ∙ ap (λ k. is_some (find nat_cmp k conns)) conn_is))))))))

pub returns-then-not-has_txn : goal.returns-then-not-has_txn
returns-then-not-has_txn c =
    let n = c.args.rec in
    let p = c.args.path in
    let d : NodeData = c.args.item in
    let access = access_view c.in-Some.access in
    let access_is : access_of d.access ≡ Some access = sym (c.in-Some.ensures ∙ ap (λ (e : NodeData). access_of e.access) c.item.view_is) in
    let told : c.in_ok-found.field-0 ≡ found_by access d = at_ok (λ (o : Option (Option Node)). o ≡ found_by access d) c.found_by.result c.in_ok-found.field-0 c.in_ok-found.ensures.ok c.found_by.ensures in
    let found = c.in-Some-2.found in
    let found_is : found_by access d ≡ Some found = sym told ∙ c.in-Some-2.is in
    let conns = c.self.inside.conns in
    let conn_is : c.item.inside.conn ≡ d.conn = ap (λ (e : NodeData). e.conn) c.item.view_is in
    let tx_is : c.item.inside.tx ≡ d.tx = ap (λ (e : NodeData). e.tx) c.item.view_is in
    let at = there_is (find nat_cmp d.conn conns) (sym (c.if-not-has.ensures ∙ ap (λ k. is_some (find nat_cmp k conns)) conn_is)) in
    let conn = at.0 in
    let conn_at : find nat_cmp c.item.inside.conn conns ≡ Some conn = ap (λ k. find nat_cmp k conns) conn_is ∙ at.1 in
    refused (load_mark n c.args.self.now d p) c.args.self.now (UnknownTxn n)
    (subst (λ (l : Loading). load_mark n l d p ≡ Err (UnknownTxn n)) c.self.view_is
    (take (access_of d.access) (BadAccess n) _ access _ access_is (pass (lacks_entries access d) (BadAccess n) _ _ (sym c.if-lacks_entries.ensures) (take (found_by access d) (BadPerm n) _ found _ found_is (take (find nat_cmp d.conn conns) (UnknownConn n) _ conn _ at.1 (lack (find nat_cmp d.tx conn.opens) (UnknownTxn n) _ (none_found (find nat_cmp d.tx conn.opens) (sym (c.if-not-has_txn.ensures conn conn_at ∙ ap (λ k. is_some (find nat_cmp k conn.opens)) tx_is)))))))))

pub returns-then-has_mark : goal.returns-then-has_mark
returns-then-has_mark c =
    let n = c.args.rec in
    let p = c.args.path in
    let d : NodeData = c.args.item in
    let access = access_view c.in-Some.access in
    let access_is : access_of d.access ≡ Some access = sym (c.in-Some.ensures ∙ ap (λ (e : NodeData). access_of e.access) c.item.view_is) in
    let told : c.in_ok-found.field-0 ≡ found_by access d = at_ok (λ (o : Option (Option Node)). o ≡ found_by access d) c.found_by.result c.in_ok-found.field-0 c.in_ok-found.ensures.ok c.found_by.ensures in
    let found = c.in-Some-2.found in
    let found_is : found_by access d ≡ Some found = sym told ∙ c.in-Some-2.is in
    let conns = c.self.inside.conns in
    let conn_is : c.item.inside.conn ≡ d.conn = ap (λ (e : NodeData). e.conn) c.item.view_is in
    let tx_is : c.item.inside.tx ≡ d.tx = ap (λ (e : NodeData). e.tx) c.item.view_is in
    let at = there_is (find nat_cmp d.conn conns) (sym (c.if-not-has.ensures ∙ ap (λ k. is_some (find nat_cmp k conns)) conn_is)) in
    let conn = at.0 in
    let conn_at : find nat_cmp c.item.inside.conn conns ≡ Some conn = ap (λ k. find nat_cmp k conns) conn_is ∙ at.1 in
    let tat = there_is (find nat_cmp d.tx conn.opens) (sym (c.if-not-has_txn.ensures conn conn_at ∙ ap (λ k. is_some (find nat_cmp k conn.opens)) tx_is)) in
    let t = tat.0 in
    let t_at : find nat_cmp c.item.inside.tx conn.opens ≡ Some t = ap (λ k. find nat_cmp k conn.opens) tx_is ∙ tat.1 in
    refused (load_mark n c.args.self.now d p) c.args.self.now (Repeated n)
    (subst (λ (l : Loading). load_mark n l d p ≡ Err (Repeated n)) c.self.view_is
    (take (access_of d.access) (BadAccess n) _ access _ access_is (pass (lacks_entries access d) (BadAccess n) _ _ (sym c.if-lacks_entries.ensures) (take (found_by access d) (BadPerm n) _ found _ found_is (take (find nat_cmp d.conn conns) (UnknownConn n) _ conn _ at.1 (take (find nat_cmp d.tx conn.opens) (UnknownTxn n) _ t _ tat.1 (stop (is_some (find path_cmp p t.marks)) (Repeated n) _ (sym (c.if-has_mark.ensures conn conn_at t t_at)))))))))

pub returns : goal.returns
returns c =
    let n = c.args.rec in
    let p = c.args.path in
    let d : NodeData = c.args.item in
    let access = access_view c.in-Some.access in
    let access_is : access_of d.access ≡ Some access = sym (c.in-Some.ensures ∙ ap (λ (e : NodeData). access_of e.access) c.item.view_is) in
    let told : c.in_ok-found.field-0 ≡ found_by access d = at_ok (λ (o : Option (Option Node)). o ≡ found_by access d) c.found_by.result c.in_ok-found.field-0 c.in_ok-found.ensures.ok c.found_by.ensures in
    let found = c.in-Some-2.found in
    let found_is : found_by access d ≡ Some found = sym told ∙ c.in-Some-2.is in
    let conns = c.self.inside.conns in
    let conn_is : c.item.inside.conn ≡ d.conn = ap (λ (e : NodeData). e.conn) c.item.view_is in
    let tx_is : c.item.inside.tx ≡ d.tx = ap (λ (e : NodeData). e.tx) c.item.view_is in
    let at = there_is (find nat_cmp d.conn conns) (sym (c.if-not-has.ensures ∙ ap (λ k. is_some (find nat_cmp k conns)) conn_is)) in
    let conn = at.0 in
    let conn_at : find nat_cmp c.item.inside.conn conns ≡ Some conn = ap (λ k. find nat_cmp k conns) conn_is ∙ at.1 in
    let tat = there_is (find nat_cmp d.tx conn.opens) (sym (c.if-not-has_txn.ensures conn conn_at ∙ ap (λ k. is_some (find nat_cmp k conn.opens)) tx_is)) in
    let t = tat.0 in
    let t_at : find nat_cmp c.item.inside.tx conn.opens ≡ Some t = ap (λ k. find nat_cmp k conn.opens) tx_is ∙ tat.1 in
    let old = loading_view c.self.inside in
    let said = said_by access found in
    let kept : List Pending = old.pending ++ record { rec = n; conn = d.conn; tx = d.tx; path = p } ∷ [] in
    let opens_is : put nat_cmp d.tx (with_said p said t) conn.opens ≡ marked_in d.tx p said conn.opens = ap (marked_found d.tx p said conn.opens) (sym tat.1) in
    let last : ◌≡◌ {A = Result Loading LoadFault} (Ok (marked_pending (put nat_cmp d.conn (with_opens (put nat_cmp d.tx (with_said p said t) conn.opens) conn) conns) kept old)) (Ok (marked_pending (changed_at d.conn (marked d.tx p said) conns) kept old)) =
    ap (λ (o : List (ℕ × TransactionOf Said)). Ok (marked_pending (put nat_cmp d.conn (with_opens o conn) conns) kept old)) opens_is
    ∙ ap (λ o. Ok (marked_pending (changed_found d.conn (marked d.tx p said) conns o) kept old)) (sym at.1) in
    let made : load_mark n old d p ≡ Ok (marked_pending (changed_at d.conn (marked d.tx p said) conns) kept old) =
    take (access_of d.access) (BadAccess n) _ access _ access_is (pass (lacks_entries access d) (BadAccess n) _ _ (sym c.if-lacks_entries.ensures) (take (found_by access d) (BadPerm n) _ found _ found_is (take (find nat_cmp d.conn conns) (UnknownConn n) _ conn _ at.1 (take (find nat_cmp d.tx conn.opens) (UnknownTxn n) _ t _ tat.1 (pass (is_some (find path_cmp p t.marks)) (Repeated n) _ _ (sym (c.if-has_mark.ensures conn conn_at t t_at)) (last)))))) in
    let done : c.mark.new.self ≡ changed_at c.item.inside.conn (marked c.item.inside.tx p c.by.result) conns = at_on_ok c.mark.result c.in_ok-or_fault-2.field-0 c.in_ok-or_fault-2.ensures.ok c.mark.ensures.ok in
    let conns_are : c.mark.new.self ≡ changed_at d.conn (marked d.tx p said) conns =
    done ∙ ap (λ k. changed_at k (marked c.item.inside.tx p c.by.result) conns) conn_is ∙ ap (λ k. changed_at d.conn (marked k p c.by.result) conns) tx_is
    ∙ ap (λ (s : Said). changed_at d.conn (marked d.tx p s) conns) c.by.ensures in
    let place_is : c.in_ok-place.place ≡ p = at_ok (λ (q : Path). q ≡ p) c.copy.result c.in_ok-place.place c.in_ok-place.ensures.ok c.copy.ensures in
    let pending_are : c.push.new.list.items ≡ kept =
    c.push.ensures ∙ (λ i. c.reserve.ensures.items i ++ record { rec = n; conn = conn_is i; tx = tx_is i; path = place_is i } ∷ []) in
    sym (ap (λ (l : Loading). load_mark n l d p) c.self.view_is) ∙ made
    ∙ (λ i. Ok (marked_pending (sym conns_are i) (sym pending_are i) old))
