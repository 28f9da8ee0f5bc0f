-- The bytes that a connection has still to send. They go out in pieces of any length, so the queue begins with what is
-- left of a message that was sent in part, and whole messages follow (xs_wire.h; the cut anywhere is of
-- xenstore-ring.txt).
use Rattle.std.specs.Prelude.{ℕ, Bool, ◌&&◌, List, length, nat_le}
use Rattle.xs_base.specs.ByteQueue.{QueueState}
use Rattle.xs_model.specs.Wholes.{whole_behind}

-- THE QUEUE: its bytes, how many of them end a message that was sent in part, for how many more it has memory behind
-- them, and for how many it has memory in all
pub record Queue : Type 0 where
  pub bytes : List ℕ
  pub rest : ℕ
  pub spare : ℕ
  pub kept : ℕ

-- the bytes with their memory
abbrev pub held : Queue → QueueState
held queue = record { bytes = queue.bytes; spare = queue.spare; kept = queue.kept }

-- so many bytes may wait to be sent
abbrev pub unsent_limit : ℕ
unsent_limit = 16777216

-- a stream may bring these bytes, of which the first `rest` end a message
abbrev pub is_queue : ℕ → List ℕ → Bool
is_queue rest bytes = nat_le (length bytes) unsent_limit && whole_behind rest bytes
