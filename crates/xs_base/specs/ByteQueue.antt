-- A list of bytes that grows at its end and is taken from at its front. This project's own.
use Rattle.std.specs.Prelude.{ℕ, ◌-◌, List, length}

-- the bytes, for how many more there is memory behind them, and for how many there is memory in all
pub record QueueState : Type 0 where
  pub bytes : List ℕ
  pub spare : ℕ
  pub kept : ℕ

-- the bytes that left, whose memory is still held in front of the others
abbrev pub gone : QueueState → ℕ
gone queue = queue.kept - queue.spare - length queue.bytes
