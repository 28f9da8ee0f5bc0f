use borrow.Follows.Closed.{read_of}
use Rattle.std.proofs.Common.{◌≡◌, ◌⊎◌, true, Option, None, MutBor, inl, inr, refl, sym, ap, subst, ◌∙◌}
use Rattle.std.specs.Option.{ghost_name_of, option_copied_mut}
use Rattle.std.specs.Ordering.{nat_cmp}
use Rattle.std.specs.FinMap.{find, put, is_sorted}
use Rattle.txn_access.specs.Txns.{Txn}
use Rattle.conn_rows.specs.Rows.{Txns, Rows, txns_of}
use Rattle.conn_rows.proofs.IdEntries.{put_again}
use Rattle.conn_rows.proofs.RowLemmas.{IsQuietOrBusy, view_of, with_txn, lent_row, txns_there, txns_absent, all_entry, quiet_put, is_busy}
use Rattle.conn_rows.proofs.rows.Rows.txn_mut.Goals as goal

-- what a loan leaves, said by two functions that answer alike
alike : {N W M : Type 0} {name : N} {f h : W → M} → ((w : W) → f w ≡ h w) → ◌≡◌ {A = (N × (W → M)) ⊎ M} (inl (name, f)) (inl (name, h))
alike {name = name} same = λ j. inl (name, λ w. same w j)

-- or no loan
unlent : (o : Option (MutBor Txn)) (f : Txn → Rows) (left now : Rows) → o ≡ None → left ≡ now → ◌≡◌ {A = _ ⊎ Rows} (inr left) (read_of (ghost_name_of o) f now)
unlent o f left now none same = ap inr same ∙ sym (ap (λ p. read_of (ghost_name_of p) f now) none)

pub returns-in_err-row : goal.returns-in_err-row
returns-in_err-row c = (
  unlent c.from_residual.result (λ txn. record c.args.self.now { txns = put nat_cmp c.args.conn (put nat_cmp c.args.tx txn (txns_of c.args.conn c.args.self.now.txns)) c.args.self.now.txns }) _ c.args.self.now c.from_residual.ensures c.self.view_is,
  record {
    writes_back = tt;
    value = ap option_copied_mut c.from_residual.ensures
        ∙ sym (ap (λ (txns : Txns). find nat_cmp c.args.tx txns) (txns_absent c.args.conn c.self.inside.rows.entries c.in_err-row.ensures.value))
        ∙ ap (λ (rows : Rows). find nat_cmp c.args.tx (txns_of c.args.conn rows.txns)) c.self.view_is;
    rising = subst (λ (rows : Rows). is_sorted nat_cmp (txns_of c.args.conn rows.txns) ≡ true) c.self.view_is
        (ap (λ (txns : Txns). is_sorted nat_cmp txns) (txns_absent c.args.conn c.self.inside.rows.entries c.in_err-row.ensures.value));
  },
)

pub invariant_of-self-in_err-txn : goal.invariant_of-self-in_err-txn
invariant_of-self-in_err-txn c =
    quiet_put c.self.inside.busy.entries c.args.conn c.in_ok-row.row.now c.in_ok-row.row.now c.self.inside.rows.entries c.in_ok-row.ensures.value refl c.self.invariant

pub returns-in_err-txn : goal.returns-in_err-txn
returns-in_err-txn c =
    let rows = c.self.inside.rows.entries in
    let spare = c.self.inside.rows.spare in (
      unlent c.from_residual-in_err-txn.result (λ txn. record c.args.self.now { txns = put nat_cmp c.args.conn (put nat_cmp c.args.tx txn (txns_of c.args.conn c.args.self.now.txns)) c.args.self.now.txns }) _ c.args.self.now c.from_residual-in_err-txn.ensures
          (ap (λ rs. view_of rs spare) (put_again c.args.conn c.in_ok-row.row.now rows c.get_mut.ensures.rising (sym c.in_ok-row.ensures.value)) ∙ c.self.view_is),
      record {
        writes_back = tt;
        value = ap option_copied_mut c.from_residual-in_err-txn.ensures ∙ c.in_err-txn.ensures.value
            ∙ sym (ap (λ (txns : Txns). find nat_cmp c.args.tx txns) (txns_there c.args.conn c.in_ok-row.row.now rows c.in_ok-row.ensures.value))
            ∙ ap (λ (rows : Rows). find nat_cmp c.args.tx (txns_of c.args.conn rows.txns)) c.self.view_is;
        rising = subst (λ (rows : Rows). is_sorted nat_cmp (txns_of c.args.conn rows.txns) ≡ true) c.self.view_is
            (ap (λ (txns : Txns). is_sorted nat_cmp txns) (txns_there c.args.conn c.in_ok-row.row.now rows c.in_ok-row.ensures.value) ∙ c.in_err-txn.ensures.rising);
      },
    )

pub invariant_of-self-lent : goal.invariant_of-self-lent
invariant_of-self-lent c = λ w.
    let busy = c.self.inside.busy.entries in
    let rows = c.self.inside.rows.entries in
    all_entry (IsQuietOrBusy busy) c.args.conn (with_txn c.args.tx w c.in_ok-row.row.now)
    (inr (is_busy busy c.args.conn c.in_ok-row.row.now rows c.args.tx c.in_ok-txn.txn.now c.in_ok-row.ensures.value (sym c.in_ok-txn.ensures.value) c.self.invariant)) rows c.self.invariant

pub returns : goal.returns
returns c =
    let rows = c.self.inside.rows.entries in (
      alike (λ w. lent_row c.args.conn c.args.tx c.in_ok-row.row.now rows c.self.inside.rows.spare c.args.self.now c.self.view_is c.get_mut.ensures.rising c.in_ok-row.ensures.value w),
      record {
        writes_back = tt;
        value = c.in_ok-txn.ensures.value
            ∙ sym (ap (λ (txns : Txns). find nat_cmp c.args.tx txns) (txns_there c.args.conn c.in_ok-row.row.now rows c.in_ok-row.ensures.value))
            ∙ ap (λ (rows : Rows). find nat_cmp c.args.tx (txns_of c.args.conn rows.txns)) c.self.view_is;
        rising = subst (λ (rows : Rows). is_sorted nat_cmp (txns_of c.args.conn rows.txns) ≡ true) c.self.view_is
            (ap (λ (txns : Txns). is_sorted nat_cmp txns) (txns_there c.args.conn c.in_ok-row.row.now rows c.in_ok-row.ensures.value) ∙ c.in_ok-txn.ensures.rising);
      },
    )
