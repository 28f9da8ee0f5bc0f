-- The digits of a text, byte by byte.
use Rattle.std.proofs.Common.{ℕ, List, [], ◌∷◌, Option, Some, None}

-- the digit that is held, if one is
abbrev pub held : Option ℕ → List ℕ
held None = []
held (Some d) = d ∷ []
