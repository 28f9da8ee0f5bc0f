use Rattle.std.proofs.Common.{◌≡◌, All}
use Rattle.thread_tests.proofs.store_turn_calls.take_all.Given as goal

abbrev pub invariant-loop : goal.invariant-loop
invariant-loop l = (l.callers.turn ≡ l.initial.callers.turn) × All (λ caller. caller.turn ≡ l.initial.callers.turn) l.taken.items
