use Rattle.std.proofs.Common.{◌≡◌, false, take}
use Rattle.watch_table.specs.Tables.{watch_of}
use Rattle.watchers.specs.Index.{left_on}
use Rattle.watchers.proofs.listing.is_left_on.Given as goal

-- none before the place
abbrev pub invariant-loop-place : goal.invariant-loop-place
invariant-loop-place l = left_on (watch_of l.wpath l.token) l.node (take l.place l.watches) ≡ false
