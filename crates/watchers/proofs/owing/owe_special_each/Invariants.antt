use Rattle.std.proofs.Common.{◌≡◌, ◌++◌, ◌-◌, ℕ}
use Rattle.machine_model.specs.History.{unsent_to}
use Rattle.watchers.specs.Owing.{special_bytes}
use Rattle.watchers.proofs.WalkLemmas.{up_to}
use Rattle.watchers.proofs.owing.owe_special_each.Given as goal

-- those up to here have what they are owed
abbrev pub invariant-conns : goal.invariant-conns
invariant-conns l = (c : ℕ) → unsent_to c l.owed ≡ unsent_to c l.fn.owed ++ up_to l.at (special_bytes l.conns l.watchers l.special) c

abbrev pub decreases-conns : goal.decreases-conns
decreases-conns l = 4294967296 - l.at
