-- A sink in memory with a bounded room, some of whose calls fail. This project's own, for tests.
use Rattle.std.specs.Prelude.{ℕ, ◌==◌, Bool, ◌&&◌, ◌||◌, not, List, length}
use Rattle.xs_base.specs.Tally.{Tally, is_due}

-- the bytes written, how many more fit, and the tally of the writes
pub record SinkState : Type 0 where
  pub written : List ℕ
  pub room : ℕ
  pub tally : Tally

-- the write of a piece fails: by its number, or since no byte of it fits
abbrev pub write_fails : SinkState → List ℕ → Bool
write_fails sink piece = is_due sink.tally || (sink.room == 0 && not (length piece == 0))
