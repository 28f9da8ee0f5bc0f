use Rattle.xs_model.proofs.CommandLemmas.{command_keeps}
use Rattle.xs_model.proofs.laws.each_command_keeps_trees.Goals as goal

pub returns : goal.returns
returns c = λ operation path caller number tree is. command_keeps tree is operation path caller number
