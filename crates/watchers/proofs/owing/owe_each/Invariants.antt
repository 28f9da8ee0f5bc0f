use Rattle.std.proofs.Common.{◌≡◌, ◌++◌, ◌-◌, ℕ}
use Rattle.machine_model.specs.History.{unsent_to}
use Rattle.watchers.specs.Owing.{event_bytes}
use Rattle.watchers.proofs.WalkLemmas.{up_to}
use Rattle.watchers.proofs.owing.owe_each.Given as goal

-- those up to here have what they are owed
abbrev pub invariant-ids : goal.invariant-ids
invariant-ids l = (c : ℕ) → unsent_to c l.owed ≡ unsent_to c l.fn.owed ++ up_to l.at (event_bytes l.conns l.watchers l.change l.perms) c

abbrev pub decreases-ids : goal.decreases-ids
decreases-ids l = 4294967296 - l.at
