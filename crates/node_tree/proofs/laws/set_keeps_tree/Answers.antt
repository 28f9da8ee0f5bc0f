use Rattle.node_tree.proofs.Shape.{IsTree-put}
use Rattle.node_tree.proofs.laws.set_keeps_tree.Goals as goal

pub returns : goal.returns
returns c = IsTree-put
