use Rattle.std.proofs.Common.{◌<◌, length, sym, ap, ◌∙◌, subst}
use Rattle.std.specs.Ordering.{nat_cmp}
use Rattle.std.specs.FinMap.{find}
use Rattle.machine_model.specs.Connections.{least_free}
use Rattle.conn_rows.specs.Rows.{Txns, Rows, txns_of}
use Rattle.conn_rows.proofs.RowLemmas.{txns_there, txns_absent}
use Rattle.conn_rows.proofs.rows.Rows.free_number.Goals as goal

pub returns-in_default-clause-value : goal.returns-in_default-clause-value
returns-in_default-clause-value c =
    sym (ap (λ (txns : Txns). least_free txns) (txns_absent c.args.conn c.self.inside.rows.entries c.in_default.ensures.value))
    ∙ ap (λ (rows : Rows). least_free (txns_of c.args.conn rows.txns)) c.self.view_is

pub returns-in_default-clause-free : goal.returns-in_default-clause-free
returns-in_default-clause-free c =
    sym (ap (λ (rows : Rows). find nat_cmp 1 (txns_of c.args.conn rows.txns)) c.self.view_is)
    ∙ ap (λ (txns : Txns). find nat_cmp 1 txns) (txns_absent c.args.conn c.self.inside.rows.entries c.in_default.ensures.value)

pub free_number-requires : goal.free_number-requires
free_number-requires c =
    subst (λ (txns : Txns). length txns < 4294967295) (txns_there c.args.conn c.in-Some.row.now c.self.inside.rows.entries c.in-Some.ensures.value)
    (subst (λ (rows : Rows). length (txns_of c.args.conn rows.txns) < 4294967295) (sym c.self.view_is) c.requires)

pub returns-clause-value : goal.returns-clause-value
returns-clause-value c =
    c.free_number.ensures.value ∙ sym (ap (λ (txns : Txns). least_free txns) (txns_there c.args.conn c.in-Some.row.now c.self.inside.rows.entries c.in-Some.ensures.value))
    ∙ ap (λ (rows : Rows). least_free (txns_of c.args.conn rows.txns)) c.self.view_is

pub returns-clause-free : goal.returns-clause-free
returns-clause-free c =
    sym (ap (λ (rows : Rows). find nat_cmp c.free_number.result (txns_of c.args.conn rows.txns)) c.self.view_is)
    ∙ ap (λ (txns : Txns). find nat_cmp c.free_number.result txns) (txns_there c.args.conn c.in-Some.row.now c.self.inside.rows.entries c.in-Some.ensures.value)
    ∙ c.free_number.ensures.free
