use Rattle.std.proofs.Common.{◌≡◌, ◌++◌, drop}
use Rattle.xs_model.specs.Commands.{creation}
use Rattle.tree_ops.specs.Answers.{sets}
use Rattle.tree_ops.proofs.writing.new_nodes.Given as goal

-- so far, and what is left
abbrev pub invariant-loop-place : goal.invariant-loop-place
invariant-loop-place l = sets l.entries.items ++ creation l.perms l.value (drop l.place l.absent) ≡ creation l.perms l.value l.absent
