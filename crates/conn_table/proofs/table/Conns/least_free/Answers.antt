use Rattle.std.proofs.Common.{◌≡◌, true, subst}
use Rattle.std.specs.FinMap.{is_sorted}
use Rattle.std.specs.Ordering.{nat_cmp}
use Rattle.machine_model.proofs.LimitLemmas.{least_free-is}
use Rattle.machine_model.specs.Connections.{least_free}
use Rattle.machine_model.specs.Limits.{IsLeastFree}
use Rattle.conn_table.specs.Tables.{Specs}
use Rattle.conn_table.proofs.ConnLemmas.{same_free}
use Rattle.conn_table.proofs.table.Conns.least_free.Goals as goal

pub returns-clause-defined : goal.returns-clause-defined
returns-clause-defined c = λ positive.
    let l = c.least_free.ensures.least in
    let found : IsLeastFree c.least_free.result c.self.inside.specs.entries = record { positive = l.positive; free = l.free; least = l.least } in
    same_free c.least_free.result (least_free c.args.self.now) c.args.self.now
    (subst (λ (es : Specs). IsLeastFree c.least_free.result es) c.self.view_is found)
    (least_free-is c.args.self.now (subst (λ (es : Specs). is_sorted nat_cmp es ≡ true) c.self.view_is c.self.invariant.table.rising) positive)
