use Rattle.std.specs.List.{list_any}
use Rattle.std.proofs.Common.{◌≡◌, false, take}
use Rattle.watch_table.specs.Tables.{is_on}
use Rattle.watch_table.proofs.table.Watches.is_on.Given as goal

-- no watch before the place is on the path
abbrev pub invariant-loop-place : goal.invariant-loop-place
invariant-loop-place l = list_any (is_on l.path) (take l.place l.self) ≡ false
