use Rattle.std.proofs.Common.{◌≡◌, vec_len, vec_capacity}
use Rattle.xs_base.proofs.byte_queue.zeros.Given as goal

-- so many bytes were written, and the memory is still the one that was taken
abbrev pub invariant-loop : goal.invariant-loop
invariant-loop l = record {
  len : vec_len l.memory ≡ l.counter;
  capacity : vec_capacity l.memory ≡ l.count;
}
