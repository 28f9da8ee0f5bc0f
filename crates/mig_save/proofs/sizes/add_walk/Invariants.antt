use Rattle.std.proofs.Common.{◌≡◌, ◌+◌, length}
use Rattle.mig_save.specs.Texts.{nodes_text, EntriesFit}
use Rattle.mig_save.proofs.sizes.add_walk.Given as goal

-- so far, and what is left
abbrev pub invariant-nodes : goal.invariant-nodes
invariant-nodes l = record {
  size : l.total + length (nodes_text l.walk) ≡ l.fn.count + length (nodes_text l.fn.walk);
  fit : EntriesFit l.walk;
}

abbrev pub decreases-nodes : goal.decreases-nodes
decreases-nodes l = length l.walk
