use Rattle.std.proofs.Common.{length, sym, ap, ◌∙◌}
use Rattle.conn_rows.specs.Rows.{Txns, Rows, txns_of}
use Rattle.conn_rows.proofs.RowLemmas.{txns_there, txns_absent}
use Rattle.conn_rows.proofs.rows.Rows.open_count.Goals as goal

pub returns-in_default : goal.returns-in_default
returns-in_default c =
    sym (ap (λ (txns : Txns). length txns) (txns_absent c.args.conn c.self.inside.rows.entries c.in_default.ensures.value))
    ∙ ap (λ (rows : Rows). length (txns_of c.args.conn rows.txns)) c.self.view_is

pub returns : goal.returns
returns c =
    c.open_count.ensures ∙ sym (ap (λ (txns : Txns). length txns) (txns_there c.args.conn c.in-Some.row.now c.self.inside.rows.entries c.in-Some.ensures.value))
    ∙ ap (λ (rows : Rows). length (txns_of c.args.conn rows.txns)) c.self.view_is
