use Rattle.std.proofs.Common.{◌≡◌, take, map}
use Rattle.kept_model.specs.Said.{raw_of}
use Rattle.mig_save.proofs.scratch.set_perms.Given as goal

abbrev pub invariant-loop-perm : goal.invariant-loop-perm
invariant-loop-perm l = l.into.items ≡ map raw_of (take l.perm-index l.perms)
