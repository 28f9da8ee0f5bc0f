use Rattle.std.proofs.Common.{◌≡◌, ◌++◌, drop}
use Rattle.path_map.specs.Chunks.{joined}
use Rattle.txn_access.proofs.copies.copied.Given as goal

-- so far, and what is left
abbrev pub invariant-loop-chunk : goal.invariant-loop-chunk
invariant-loop-chunk l = l.map.entries ++ joined (drop l.chunk-index l.chunks) ≡ joined l.chunks
