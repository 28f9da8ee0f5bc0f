use Rattle.std.proofs.Common.{◌≡◌, ◌-◌, ◌≤◌, max, length, vec_len}
use Rattle.std.specs.List.{All}
use Rattle.path_map.proofs.chunks.fill.Given as goal

abbrev pub invariant-chunks : goal.invariant-chunks
invariant-chunks g l = record {
  unused : All (λ c. length c ≡ 0) l.spare.items;
  more : vec_len l.initial.spare ≤ vec_len l.spare;
  bound : vec_len l.spare ≤ max (vec_len l.initial.spare) l.count;
}

abbrev pub decreases-chunks : goal.decreases-chunks
decreases-chunks g l = l.count - vec_len l.spare
