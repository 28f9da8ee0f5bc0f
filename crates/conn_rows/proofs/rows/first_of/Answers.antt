use Rattle.std.proofs.Common.{◌≡◌, false, is_some}
use Rattle.conn_rows.proofs.BusyLemmas.{first_none, not_got}
use Rattle.conn_rows.proofs.rows.first_of.Goals as goal

pub returns-clause-none : goal.returns-clause-none
returns-clause-none c =
    let none : is_some c.get.result ≡ false = cc in
    first_none c.args.busy.now.entries (not_got c.get.result _ none c.get.ensures.value) c.next_after.result c.next_after.ensures.next
