use Rattle.std.proofs.Common.{◌≡◌, ◌-◌, drop}
use Rattle.watch_events.specs.Rising.{is_rising}
use Rattle.watch_events.proofs.change.is_rising.Given as goal

-- those from the last one on rise where all do
abbrev pub invariant-loop-place : goal.invariant-loop-place
invariant-loop-place l = is_rising (drop (l.place - 1) l.paths) ≡ is_rising l.paths
