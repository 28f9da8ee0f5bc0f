use Rattle.std.proofs.Common.{◌-◌}
use Rattle.path_map.specs.Marks.{IsRangePast}
use Rattle.path_map.proofs.past.chunk_past.Given as goal

abbrev pub invariant-halves : goal.invariant-halves
invariant-halves g l = IsRangePast l.path l.leaf l.chunks l.from l.to

abbrev pub decreases-halves : goal.decreases-halves
decreases-halves g l = l.to - l.from
