use Rattle.std.proofs.Common.{take}
use Rattle.ring_words.specs.Seats.{Becomes}
use Rattle.ring_ends.proofs.producer.stage.Given as goal

abbrev pub invariant-loop-k : goal.invariant-loop-k
invariant-loop-k l = Becomes l.initial.seat l.seat (record l.initial.seat.me.0 { staged = take l.k l.bytes })
