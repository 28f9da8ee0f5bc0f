use Rattle.std.proofs.Common.{◌≡◌, ◌++◌, length}
use Rattle.path_map.specs.Chunks.{joined}
use Rattle.path_map.proofs.walk.front.Given as goal

abbrev pub invariant-empty : goal.invariant-empty
invariant-empty g l = l.chunk ++ joined l.behind ≡ l.fn.chunk ++ joined l.fn.behind

abbrev pub decreases-empty : goal.decreases-empty
decreases-empty g l = length l.behind
