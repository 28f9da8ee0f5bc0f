use Rattle.std.proofs.Common.{subst}
use Rattle.node_tree.specs.KeptTree.{IsKept}
use Rattle.node_tree.proofs.Entries.{same_keys}
use Rattle.node_tree.proofs.Tree.is_kept.Goals as goal

pub returns : goal.returns
returns c =
    subst IsKept c.self.view_is
    record { tree = c.self.invariant.tree; keys = same_keys c.self.inside.map.entries; numbers = c.self.invariant.numbers; counter = c.self.invariant.counter }
