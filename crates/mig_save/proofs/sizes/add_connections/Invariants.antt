use Rattle.std.proofs.Common.{◌≡◌, ◌+◌, length, take}
use Rattle.mig_save.specs.Texts.{connections_text}
use Rattle.mig_save.proofs.sizes.add_connections.Given as goal

abbrev pub invariant-loop-entry : goal.invariant-loop-entry
invariant-loop-entry l = l.total ≡ l.fn.count + length (connections_text (take l.entry-index l.conns) l.rows.queues l.ins.entries)
