use Rattle.std.proofs.Common.{◌≡◌, ◌+◌, ◌≤◌, ◌++◌, reverse, vec_len, vec_capacity}
use Rattle.path_map.proofs.moves.move_back.Given as goal

abbrev pub invariant-moves : goal.invariant-moves
invariant-moves g l = record {
  within : l.at ≤ vec_len l.from;
  items : l.from.items ++ reverse l.to.items ≡ l.initial.from.items;
  len : vec_len l.to + vec_len l.from ≡ vec_len l.initial.from;
  from_capacity : vec_capacity l.from ≡ vec_capacity l.initial.from;
  to_capacity : vec_capacity l.initial.to ≤ vec_capacity l.to;
}

abbrev pub decreases-moves : goal.decreases-moves
decreases-moves g l = vec_len l.from
