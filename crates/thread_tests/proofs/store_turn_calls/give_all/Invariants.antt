use Rattle.std.proofs.Common.{◌≡◌, All, length}
use Rattle.thread_tests.proofs.store_turn_calls.give_all.Given as goal

abbrev pub invariant-loop-caller : goal.invariant-loop-caller
invariant-loop-caller l = (l.callers.turn ≡ l.initial.callers.turn) × All (λ one. one.0.turn ≡ l.initial.callers.turn) l.back.items

abbrev pub decreases-loop-caller : goal.decreases-loop-caller
decreases-loop-caller l = length l.back.items
