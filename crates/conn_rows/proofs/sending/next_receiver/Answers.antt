use Rattle.std.proofs.Common.{sym, ◌∙◌}
use Rattle.conn_rows.proofs.ReceiverLemmas.{asker_next, none_next}
use Rattle.conn_rows.proofs.sending.next_receiver.Goals as goal

pub returns-in_default-clause-some : goal.returns-in_default-clause-some
returns-in_default-clause-some c =
    asker_next c.args.conn c.args.owed.now c.args.at c.asker_above.result (sym c.next_after.ensures.next ∙ c.in_default.is) c.asker_above.ensures.some

pub returns-in_default-clause-none : goal.returns-in_default-clause-none
returns-in_default-clause-none c =
    none_next c.args.conn c.args.owed.now c.args.at c.asker_above.result (sym c.next_after.ensures.next ∙ c.in_default.is) c.asker_above.ensures.none
