use Rattle.std.proofs.Common.{◌≡◌, ◌++◌, map, drop}
use Rattle.xs_model.specs.Messages.{strings}
use Rattle.xs_model.specs.Perms.{perm_text}
use Rattle.tree_ops.proofs.reading.perms_payload.Given as goal

-- so far, and what is left
abbrev pub invariant-loop-perm : goal.invariant-loop-perm
invariant-loop-perm l = l.payload ++ strings (map perm_text (drop l.perm-index l.perms)) ≡ strings (map perm_text l.perms)
