use Rattle.std.proofs.Common.{◌≡◌, ◌++◌, map, length}
use Rattle.watch_events.proofs.change.keys.Given as goal

-- so far, and what is left
abbrev pub invariant-left : goal.invariant-left
invariant-left l = l.paths ++ map (λ e. e.0) l.left.entries ≡ map (λ e. e.0) l.fn.set.entries

abbrev pub decreases-left : goal.decreases-left
decreases-left l = length l.left.entries
