use Rattle.std.proofs.Common.{◌≡◌, drop}
use Rattle.xs_base.specs.MemVault.{altered}
use Rattle.xs_base.proofs.mem_vault.alter_all.Given as goal

abbrev pub invariant-loop-alter : goal.invariant-loop-alter
invariant-loop-alter l = altered l.number (drop l.alter-index l.alters) l.given.items ≡ altered l.number l.alters l.fn.given.items
