use Rattle.std.proofs.Common.{◌≡◌, ◌≤◌, drop, length}
use Rattle.xs_model.specs.Watches.{as_set}
use Rattle.watch_events.proofs.change.set_of.Given as goal

abbrev pub invariant-left : goal.invariant-left
invariant-left l = record {
  within : l.left ≤ length l.paths;
  set : l.set.entries ≡ as_set (drop l.left l.paths);
}

abbrev pub decreases-left : goal.decreases-left
decreases-left l = l.left
