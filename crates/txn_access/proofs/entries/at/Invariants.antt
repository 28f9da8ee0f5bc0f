use Rattle.std.proofs.Common.{◌≡◌, drop}
use Rattle.std.specs.Prelude.{slice_get}
use Rattle.path_map.specs.Chunks.{joined}
use Rattle.txn_access.proofs.entries.at.Given as goal

-- the place among those that are left
abbrev pub invariant-loop-chunk : goal.invariant-loop-chunk
invariant-loop-chunk l = slice_get (joined (drop l.chunk-index l.chunks)) l.left ≡ slice_get (joined l.chunks) l.place
