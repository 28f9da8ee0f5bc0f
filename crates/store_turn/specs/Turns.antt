-- What a call promises, and what closing does.
use Rattle.std.specs.Prelude.{◌≡◌, ℕ, ◌<◌, ◌≤◌, Bool, None, Result, MatchResult, IsSomeAnd, List, [], ◌∷◌, ◌++◌, length, Option, Some, slice_get, IsSome}
use Rattle.atomic_table.specs.Seated.{TableId}
use Rattle.std.specs.declared.snapshot.Snapshot.{Snapshot}
use Rattle.store_turn.specs.declared.history.Entry.{Entry}
use Rattle.store_turn.specs.Calls.{Begins, entry, calls_by, noted, after}
use Rattle.store_turn.specs.Sides.{Party, Crowd, mine}

module _ {O Op Answer : Type 0} (next : O → Op → O) (answer : O → Op → Answer) (quiet : Answer → Bool) where
  -- The call was answered. It found this history, in which all stands that the caller had found before. The answer is
  -- the object's after this history. Where it is not quiet, just this call joins the history, as the caller's last.
  -- It is asked in any case
  pub record Answered (start : O) (before : Party O Op Answer) (op : Op) (given : Answer) (now : Party O Op Answer)
      (history : List (Entry O Op Answer)) : Type 0 where
    pub later : Begins before.found history
    pub replies : given ≡ answer (after next start history) op
    pub found : now.found ≡ noted (quiet given) (entry before.number op) history
    pub own : mine now ≡ noted (quiet given) (entry before.number op) (mine before)
    pub asked : now.asked ≡ before.asked ++ (op, length history) ∷ []

  abbrev pub IsAnswered : O → Party O Op Answer → Op → Answer → Party O Op Answer → Type 0
  IsAnswered start before op given now = (history : List (Entry O Op Answer)) × Answered start before op given now history

module _ {O Op Answer : Type 0} where
  -- No memory was found. The caller has seen more of the history, in which nothing of this call stands
  pub record Refused (before now : Party O Op Answer) : Type 0 where
    pub later : Begins before.found now.found
    pub own : mine now ≡ mine before
    pub asked : now.asked ≡ before.asked

  -- it is the same caller of the same turn
  abbrev pub IsSame : Party O Op Answer → Party O Op Answer → Type 0
  IsSame before now = (now.turn ≡ before.turn) × (now.number ≡ before.number)

  -- callers of this table stand in all places
  abbrev pub AreThere : TableId → List (Option (Party O Op Answer)) → Type 0
  AreThere table there = (k : ℕ) (place : Option (Party O Op Answer)) → slice_get there k ≡ Some place → IsSomeAnd place (λ caller. caller.turn.table ≡ table)

  -- a caller is there in all places, or in all those before one
  abbrev pub FilledBefore : List (Option (Party O Op Answer)) → ℕ → Type 0
  FilledBefore there count = (k : ℕ) (place : Option (Party O Op Answer)) → k < count → slice_get there k ≡ Some place → IsSome place

  abbrev pub Filled : List (Option (Party O Op Answer)) → Type 0
  Filled there = (k : ℕ) (place : Option (Party O Op Answer)) → slice_get there k ≡ Some place → IsSome place

  -- all callers of the turn are there
  abbrev pub AllThere : Crowd O Op Answer → Type 0
  AllThere crowd = Filled crowd.there

  -- the whole history begins with what each caller has found, has just its calls by its number, and no other calls
  pub record IsWhole (crowd : Crowd O Op Answer) (history : List (Entry O Op Answer)) : Type 0 where
    pub found : (k : ℕ) (caller : Party O Op Answer) → slice_get crowd.there k ≡ Some (Some caller) → Begins caller.found history
    pub own : (k : ℕ) (caller : Party O Op Answer) → slice_get crowd.there k ≡ Some (Some caller) → calls_by k history ≡ mine caller
    pub others : (k : ℕ) → length crowd.there ≤ k → calls_by k history ≡ []

module _ {O Op Answer : Type 0} (next : O → Op → O) (answer : O → Op → Answer) (quiet : Answer → Bool) where
  -- what becomes of the slot by a call
  abbrev pub Served : {Err : Type 0} → ℕ → Op → Result Answer Err → O → List (Entry O Op Answer) → O → List (Entry O Op Answer) → Option (Snapshot Op) → Type 0
  Served number op result start es start' es' last =
      (start' ≡ start)
      × MatchResult result
      (λ given. (given ≡ answer (after next start es) op) × (es' ≡ noted (quiet given) (entry number op) es) × IsSomeAnd last (λ asked. asked.value ≡ op))
      (λ _. (es' ≡ es) × (last ≡ None))
