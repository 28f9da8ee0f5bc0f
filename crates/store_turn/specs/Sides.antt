-- A turn and its callers, as clauses see them.
use Rattle.std.specs.Prelude.{ℕ, suc, zero, List, [], ◌∷◌, Option, Some}
use Rattle.atomic_table.specs.Seated.{TableId}
use Rattle.store_turn.specs.declared.history.Entry.{Entry}
use Rattle.store_turn.specs.Calls.{calls_by}

-- which turn it is: its table, which no other turn shares, how many callers it has, and the object that it began with
pub record TurnId (O : Type 0) : Type 0 where
  pub table : TableId
  pub callers : ℕ
  pub start : Option O

-- a turn
pub record Side (O : Type 0) : Type 0 where
  pub id : TurnId O
  pub start : O

-- a caller: its turn, its number, the history that it has found, and its answered calls: of each, what it asked for and
-- how many calls it found in the history
pub record Party (O Op Answer : Type 0) : Type 0 where
  pub turn : TurnId O
  pub number : ℕ
  pub found : List (Entry O Op Answer)
  pub asked : List (Op × ℕ)

-- the callers that are with no thread: those of this turn, each at the place of its number
pub record Crowd (O Op Answer : Type 0) : Type 0 where
  pub turn : TurnId O
  pub there : List (Option (Party O Op Answer))

module _ {O Op Answer : Type 0} where
  -- a caller's calls that changed the object, of those that it has found
  abbrev pub mine : Party O Op Answer → List (Entry O Op Answer)
  mine party = calls_by party.number party.found

  -- a caller that has called nothing yet
  abbrev pub newcomer : TurnId O → ℕ → Party O Op Answer
  newcomer turn number = record { turn = turn; number = number; found = []; asked = [] }

  -- so many newcomers, numbered from the first number on
  abbrev pub newcomers : TurnId O → ℕ → ℕ → List (Option (Party O Op Answer))
  newcomers turn first zero = []
  newcomers turn first (suc count) = Some (newcomer turn first) ∷ newcomers turn (suc first) count
