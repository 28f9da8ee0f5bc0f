use Rattle.std.proofs.Common.{◌≡◌, true, take}
use Rattle.std.specs.List.{AllByRecursion}
use Rattle.xs_model.specs.Wholes.{whole_behind}
use Rattle.conn_rows.proofs.rows.Rows.are_whole.Given as goal

abbrev pub invariant-loop-entry : goal.invariant-loop-entry
invariant-loop-entry l = AllByRecursion (λ e. whole_behind e.1.queue.rest e.1.queue.bytes ≡ true) (take l.entry-index l.rows)
