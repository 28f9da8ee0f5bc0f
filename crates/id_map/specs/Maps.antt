-- What contracts see of a map from ids to items. This project's own.
use Rattle.std.specs.Prelude.{ℕ, List}

-- the items by their ids, in rising order, and for how many more there is memory
pub record Map (T : Type 0) : Type 0 where
  pub entries : List (ℕ × T)
  pub spare : ℕ
