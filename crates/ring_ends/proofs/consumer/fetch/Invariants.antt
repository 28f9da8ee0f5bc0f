use Rattle.std.proofs.Common.{take, ◌++◌}
use Rattle.ring_words.specs.Seats.{Becomes}
use Rattle.ring_ends.proofs.consumer.fetch.Given as goal

abbrev pub invariant-loop-k : goal.invariant-loop-k
invariant-loop-k l = Becomes l.initial.seat l.seat (record l.initial.seat.me.0 { read = l.initial.seat.me.0.read ++ take l.k l.into })
