-- The words of a line behind its first.
use Rattle.std.specs.Prelude.{ℕ, List, [], ◌∷◌}
use Rattle.world_model.specs.Transcripts.{spaced}

-- words with a space before each
abbrev pub spaced_behind : List (List ℕ) → List ℕ
spaced_behind [] = []
spaced_behind (w ∷ ws) = 32 ∷ spaced (w ∷ ws)
