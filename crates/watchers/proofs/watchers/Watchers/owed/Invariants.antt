use Rattle.std.proofs.Common.{◌≡◌, ℕ, take}
use Rattle.machine_model.specs.History.{unsent_to}
use Rattle.watchers.proofs.SentLemmas.{events_bytes}
use Rattle.watchers.proofs.watchers.Watchers.owed.Given as goal

-- what the events so far owe
abbrev pub invariant-loop-change : goal.invariant-loop-change
invariant-loop-change g l =
    (c : ℕ) → unsent_to c l.owed ≡ events_bytes (g.A.Nodes.nodes l.before) (g.B.Nodes.nodes l.after) l.conns l.self (take l.change-index l.change-items) c
