use Rattle.std.proofs.Common.{◌≡◌, ◌-◌, length}
use Rattle.conn_rows.specs.Receivers.{seen_after}
use Rattle.conn_rows.proofs.SendLemmas.{RoomBehind, awaited_in}
use Rattle.conn_rows.proofs.sending.send.Given as goal

abbrev pub invariant-walk : goal.invariant-walk
invariant-walk l = record {
  awaited : awaited_in l.conn l.reply l.owed l.at l.rows.entries ≡ seen_after l.conn l.reply l.owed l.fn.rows.entries;
  room : RoomBehind l.conn (length l.reply) l.owed l.at l.rows.entries;
}

abbrev pub decreases-walk : goal.decreases-walk
decreases-walk l = 4294967296 - l.at
