use Rattle.std.proofs.Common.{◌≡◌, ◌++◌, length}
use Rattle.mig_save.specs.Texts.{nodes_text, EntriesFit}
use Rattle.mig_save.proofs.nodes.write_walk.Given as goal

-- so far, and what is left
abbrev pub invariant-nodes : goal.invariant-nodes
invariant-nodes l = record {
  text : l.out ++ nodes_text l.walk ≡ l.fn.out ++ nodes_text l.fn.walk;
  fit : EntriesFit l.walk;
}

abbrev pub decreases-nodes : goal.decreases-nodes
decreases-nodes l = length l.walk
