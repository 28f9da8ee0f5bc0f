use Rattle.std.proofs.Common.{◌-◌, ◌≤◌}
use Rattle.path_map.specs.Chunks.{IsRangeFor}
use Rattle.path_map.proofs.chunks.chunk_between.Given as goal

abbrev pub invariant-halves : goal.invariant-halves
invariant-halves g l = record {
  low : l.low ≤ l.from;
  high : l.to ≤ l.high;
  range : IsRangeFor l.path l.chunks l.from l.to;
}

abbrev pub decreases-halves : goal.decreases-halves
decreases-halves g l = l.to - l.from
