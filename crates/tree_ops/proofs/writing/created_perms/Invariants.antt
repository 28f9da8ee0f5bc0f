use Rattle.std.proofs.Common.{◌≡◌, ◌++◌, drop}
use Rattle.xs_model.specs.Perms.{created_perms}
use Rattle.tree_ops.proofs.writing.created_perms.Given as goal

-- so far, and what is left
abbrev pub invariant-loop-entry : goal.invariant-loop-entry
invariant-loop-entry l = l.perms ++ drop l.entry-index l.entry-items ≡ created_perms l.domid l.fn.above
