use Rattle.std.proofs.Common.{◌≡◌}
use Rattle.thread_tests.proofs.store_turn_calls.call_often.Given as goal

abbrev pub invariant-loop-number : goal.invariant-loop-number
invariant-loop-number g l = l.caller.turn ≡ l.initial.caller.turn
