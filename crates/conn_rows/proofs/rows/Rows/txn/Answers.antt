use Rattle.std.proofs.Common.{sym, ap, ◌∙◌}
use Rattle.std.specs.Option.{option_copied}
use Rattle.std.specs.Ordering.{nat_cmp}
use Rattle.std.specs.FinMap.{find}
use Rattle.conn_rows.specs.Rows.{Txns, Rows, txns_of}
use Rattle.conn_rows.proofs.RowLemmas.{txns_there, txns_absent}
use Rattle.conn_rows.proofs.rows.Rows.txn.Goals as goal

pub returns-in_err-row : goal.returns-in_err-row
returns-in_err-row c =
    ap option_copied c.from_residual.ensures
    ∙ sym (ap (λ (txns : Txns). find nat_cmp c.args.tx txns) (txns_absent c.args.conn c.self.inside.rows.entries c.in_err-row.ensures.value))
    ∙ ap (λ (rows : Rows). find nat_cmp c.args.tx (txns_of c.args.conn rows.txns)) c.self.view_is

pub returns : goal.returns
returns c =
    c.txn.ensures ∙ sym (ap (λ (txns : Txns). find nat_cmp c.args.tx txns) (txns_there c.args.conn c.in_ok-row.row.now c.self.inside.rows.entries c.in_ok-row.ensures.value))
    ∙ ap (λ (rows : Rows). find nat_cmp c.args.tx (txns_of c.args.conn rows.txns)) c.self.view_is
