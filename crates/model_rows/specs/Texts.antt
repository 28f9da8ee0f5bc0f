-- How rows spell scripts and transcripts: a list of lines.
use Rattle.std.specs.Prelude.{ℕ, List, [], ◌∷◌, ◌++◌, Option, None}
use Rattle.world_model.specs.Worlds.{World}

-- the lines, each ended by a line feed
abbrev pub text_of : List (List ℕ) → List ℕ
text_of [] = []
text_of (l ∷ ls) = l ++ 10 ∷ text_of ls

-- no row begins with a stream to resume
abbrev pub no_stream : List ℕ → Option World
no_stream stream = None
