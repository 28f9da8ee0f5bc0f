use Rattle.std.proofs.Common.{◌-◌}
use Rattle.watchers.specs.Index.{StaysIn}
use Rattle.watchers.proofs.SetLemmas.{JoinedTo}
use Rattle.watchers.proofs.index.join.Given as goal

abbrev pub invariant-ids : goal.invariant-ids
invariant-ids l = record {
  joined : JoinedTo l.more.entries l.at l.ids.entries;
  kept : StaysIn l.fn.ids l.ids;
}

abbrev pub decreases-ids : goal.decreases-ids
decreases-ids l = 4294967296 - l.at
