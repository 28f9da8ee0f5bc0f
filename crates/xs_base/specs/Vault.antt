-- The lists that a vault may tell, and what an honest vault gives back. This project's own.
use Rattle.std.specs.Prelude.{◌≡◌, ℕ, List, [], ◌∷◌, ◌++◌, Option}
use Rattle.std.specs.Option.{option_map}

-- a list that is told has one more at its end, and one that is not told stays untold
abbrev pub Gains : {X : Type 0} → Option (List X) → Option (List X) → X → Type 0
Gains old new x = new ≡ option_map (λ xs. xs ++ x ∷ []) old

-- the list stays as it was, told or not
abbrev pub Stays : {X : Type 0} → Option (List X) → Option (List X) → Type 0
Stays old new = new ≡ old

-- the last string of a list that follows `before`
abbrev pub last_after : List ℕ → List (List ℕ) → List ℕ
last_after before [] = before
last_after before (string ∷ strings) = last_after string strings

-- the string that was put last, and the empty string where none was
abbrev pub last_put : List (List ℕ) → List ℕ
last_put strings = last_after [] strings
