use Rattle.std.proofs.Common.{◌≡◌, ◌++◌, take}
use Rattle.watch_table.specs.Tables.{watches_in}
use Rattle.mig_save.specs.Texts.{watches_text}
use Rattle.mig_save.proofs.watches.write_each.Given as goal

abbrev pub invariant-loop-place : goal.invariant-loop-place
invariant-loop-place l = l.out ≡ l.fn.out ++ watches_text l.conn (watches_in (take l.place l.watches))
