use Rattle.std.proofs.Common.{◌≡◌, ◌≤◌, ℕ, Option, None, sym, subst}
use Rattle.std.specs.Ordering.{nat_cmp}
use Rattle.std.specs.FinMap.{find}
use Rattle.conn_rows.specs.Rows.{from_id}
use Rattle.conn_rows.proofs.BusyLemmas.{next_none}
use Rattle.conn_rows.proofs.rows.next_of.Goals as goal

pub returns-clause-none : goal.returns-clause-none
returns-clause-none c =
    subst (λ (at : Option ℕ). c.next_after.result ≡ None → (k : ℕ) → from_id at ≤ k → find nat_cmp k c.args.busy.now.entries ≡ None) (sym c.in-Some.is)
    (next_none c.args.busy.now.entries c.in-Some.at c.next_after.result c.next_after.ensures.next)
