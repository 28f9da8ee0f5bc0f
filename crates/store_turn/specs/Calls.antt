-- Histories of calls. A history is the list of the calls that changed an object, oldest first: of each, whose it was and
-- what it asked for. This project's own.
use Rattle.std.specs.Prelude.{◌≡◌, ℕ, ◌==◌, Bool, true, not, ◌&&◌, if◌then◌else◌, List, [], ◌∷◌, ◌++◌}
use Rattle.store_turn.specs.declared.history.Entry.{Entry}

-- the longer list begins with the shorter
abbrev pub Begins : {X : Type 0} → List X → List X → Type 0
Begins {X} short long = (rest : List X) × (long ≡ short ++ rest)

module _ {O Op Answer : Type 0} where
  abbrev pub entry : ℕ → Op → Entry O Op Answer
  entry caller op = record { caller = caller; op = op }

  -- the calls of one caller, in their order
  abbrev pub calls_by : ℕ → List (Entry O Op Answer) → List (Entry O Op Answer)
  calls_by number [] = []
  calls_by number (e ∷ es) = if e.caller == number then e ∷ calls_by number es else calls_by number es

  -- the history with one call more, but for a quiet answer
  abbrev pub noted : Bool → Entry O Op Answer → List (Entry O Op Answer) → List (Entry O Op Answer)
  noted quiet e es = if quiet then es else es ++ e ∷ []

  -- the object after all calls of a history
  abbrev pub after : (O → Op → O) → O → List (Entry O Op Answer) → O
  after next object [] = object
  after next object (e ∷ es) = after next (next object e.op) es

  -- no call of the history is answered quietly at its place
  abbrev pub is_loud : (O → Op → O) → (O → Op → Answer) → (Answer → Bool) → O → List (Entry O Op Answer) → Bool
  is_loud next answer quiet object [] = true
  is_loud next answer quiet object (e ∷ es) =
      not (quiet (answer object e.op)) && is_loud next answer quiet (next object e.op) es
