use Rattle.std.proofs.Common.{◌≡◌, ◌+◌, ◌-◌, ◌<◌, ◌≤◌, length}
use Rattle.std.specs.List.{HoldsAt}
use Rattle.id_map.proofs.map.in_row.Given as goal

abbrev pub invariant-loop-low : goal.invariant-loop-low
invariant-loop-low g l = record {
  in_order : l.low ≤ l.high;
  within : l.high ≤ length l.entries;
  ends : 0 < l.low → HoldsAt (λ e. e.0 ≡ l.low) l.entries (l.low - 1);
  stops : l.high < length l.entries → HoldsAt (λ e. l.high + 1 < e.0) l.entries l.high;
}

abbrev pub decreases-loop-low : goal.decreases-loop-low
decreases-loop-low g l = l.high - l.low
