use Rattle.std.proofs.Common.{refl}
use Rattle.node_tree.proofs.Shape.{IsTree-root}
use Rattle.node_tree.proofs.laws.new_tree_is_tree.Goals as goal

pub returns : goal.returns
returns c = IsTree-root _ refl
