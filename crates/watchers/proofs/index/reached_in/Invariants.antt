use Rattle.std.proofs.Common.{◌≡◌, true, length}
use Rattle.xs_model.specs.Paths.{is_below}
use Rattle.watchers.proofs.SetLemmas.{FoundTo}
use Rattle.watchers.proofs.index.reached_in.Given as goal

-- whoever is found on the way from the event's path up to this node is in the set
abbrev pub invariant-up : goal.invariant-up
invariant-up l = record {
  way : is_below l.node l.change.path ≡ true;
  found : FoundTo l.change.path l.index.entries l.node l.ids;
}

abbrev pub decreases-up : goal.decreases-up
decreases-up l = length l.node
