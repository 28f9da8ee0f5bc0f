use Rattle.node_tree.proofs.Shape.{IsTree-without}
use Rattle.node_tree.proofs.laws.remove_keeps_tree.Goals as goal

pub returns : goal.returns
returns c = IsTree-without
