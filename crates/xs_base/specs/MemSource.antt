-- A source in memory, some of whose calls fail. This project's own, for tests.
use Rattle.std.specs.Prelude.{ℕ, List}
use Rattle.xs_base.specs.Tally.{Tally}

-- the bytes still to come, and the tally of the reads
pub record SourceState : Type 0 where
  pub left : List ℕ
  pub tally : Tally
