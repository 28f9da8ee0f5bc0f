use Rattle.std.proofs.Common.{◌≡◌, ◌-◌}
use Rattle.conn_rows.specs.Receivers.{seen_in}
use Rattle.conn_rows.proofs.SendLemmas.{RoomUpTo}
use Rattle.conn_rows.proofs.sending.reserve_all.Given as goal

abbrev pub invariant-walk : goal.invariant-walk
invariant-walk l = record {
  room : RoomUpTo l.conn l.reply l.owed l.at l.rows.entries;
  seen : seen_in l.rows.entries ≡ seen_in l.fn.rows.entries;
}

abbrev pub decreases-walk : goal.decreases-walk
decreases-walk l = 4294967296 - l.at
