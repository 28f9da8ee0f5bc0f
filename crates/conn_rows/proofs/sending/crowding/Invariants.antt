use Rattle.std.proofs.Common.{◌-◌}
use Rattle.conn_rows.proofs.CrowdLemmas.{FitUpTo}
use Rattle.conn_rows.proofs.sending.crowding.Given as goal

abbrev pub invariant-walk : goal.invariant-walk
invariant-walk l = record {
  fits : FitUpTo l.conn l.reply l.owed l.at l.rows.entries;
}

abbrev pub decreases-walk : goal.decreases-walk
decreases-walk l = 4294967296 - l.at
