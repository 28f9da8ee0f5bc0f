use Rattle.std.proofs.Common.{ℕ, List, ◌≡◌, ◌==◌, Ok, Err, ap, ◌∙◌, sym, subst}
use Rattle.std.proofs.lemmas.Result.{on_ok_weaker, on_err_weaker}
use Rattle.std.proofs.lemmas.Bool.{ne_eqb}
use Rattle.stream_model.specs.Record.{TransactionData}
use Rattle.kept_model.specs.declared.fault.LoadFault.TheVariants.{BadSpec, Repeated, UnknownConn}
use Rattle.kept_model.specs.Loading.{Loading, load_transaction}
use Rattle.kept_model.specs.States.{ConnectionOf}
use Rattle.kept_model.specs.Said.{Said}
use Rattle.mig_load.specs.LoadingView.{loading_view}
use Rattle.mig_load.specs.Steps.{Steps, with_conns}
use Rattle.mig_load.proofs.StepLemmas.{refused, edited, transaction_unknown, transaction_zero, transaction_again, transaction_told}
use Rattle.mig_load.proofs.loading.Loading.transaction.Goals as goal

pub returns-then-not-has : goal.returns-then-not-has
returns-then-not-has c =
    let d : TransactionData = record { conn = c.args.conn; tx = c.args.tx; count = c.args.count } in
    refused (load_transaction c.args.rec c.args.self.now d) c.args.self.now (UnknownConn c.args.rec)
    (subst (λ (l : Loading). load_transaction c.args.rec l d ≡ Err (UnknownConn c.args.rec)) c.self.view_is (transaction_unknown c.args.rec _ d (sym c.if-not-has.ensures)))

pub returns-then-tx-eq0 : goal.returns-then-tx-eq0
returns-then-tx-eq0 c =
    let d : TransactionData = record { conn = c.args.conn; tx = c.args.tx; count = c.args.count } in
    refused (load_transaction c.args.rec c.args.self.now d) c.args.self.now (BadSpec c.args.rec)
    (subst (λ (l : Loading). load_transaction c.args.rec l d ≡ Err (BadSpec c.args.rec)) c.self.view_is (transaction_zero c.args.rec _ d (sym c.if-not-has.ensures) (ap (λ k. k == 0) c.if-tx-eq0.true)))

pub returns-then-has_txn : goal.returns-then-has_txn
returns-then-has_txn c =
    let d : TransactionData = record { conn = c.args.conn; tx = c.args.tx; count = c.args.count } in
    refused (load_transaction c.args.rec c.args.self.now d) c.args.self.now (Repeated c.args.rec)
    (subst (λ (l : Loading). load_transaction c.args.rec l d ≡ Err (Repeated c.args.rec)) c.self.view_is
    (transaction_again c.args.rec _ d (sym c.if-not-has.ensures) (ne_eqb c.args.tx 0 c.if-tx-eq0.false) (λ found e. sym (c.if-has_txn.ensures found e))))

pub returns : goal.returns
returns c =
    let n = c.args.rec in
    let d : TransactionData = record { conn = c.args.conn; tx = c.args.tx; count = c.args.count } in
    let old = loading_view c.self.inside in
    let new = with_conns c.open.new.self old in
    subst (λ (l : Loading). Steps (load_transaction n l d) l new c.or_fault.result) c.self.view_is
    (edited (load_transaction n old d) old new c.open.result c.or_fault.result c.or_fault.ensures.same
    (on_ok_weaker c.open.result (λ is. transaction_told n old d (sym c.if-not-has.ensures) (ne_eqb c.args.tx 0 c.if-tx-eq0.false) (λ found e. sym (c.if-has_txn.ensures found e))
    ∙ ap (λ (conns : List (ℕ × ConnectionOf Said)). Ok (with_conns conns old)) (sym is)) c.open.ensures.ok)
    (on_err_weaker c.open.result (λ is. ap (λ (conns : List (ℕ × ConnectionOf Said)). with_conns conns old) is) c.open.ensures.err))
