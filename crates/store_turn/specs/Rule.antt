-- The rule of the table, and what each step on it tells. Word 0 is the next ticket, word 1 the one that is served. The
-- slot holds the object with its history, of which this file knows two functions.
use Rattle.std.specs.Prelude.{◌≡◌, ℕ, zero, suc, ◌+◌, ◌%◌, ◌^◌, ◌<◌, ◌≤◌, ◌==◌, ◌⊎◌, List, [], ◌∷◌, ◌++◌, length, take, drop, Option, Some, None, Bool, if◌then◌else◌, MatchBool}
use mathlib.Core.Option.{none, some}
use lib.ListN.{get_elem?}
use Rattle.std.specs.declared.snapshot.Snapshot.{Snapshot}
use Rattle.atomic_table.specs.Table.{State, Me, Step}
use Rattle.store_turn.specs.declared.history.Entry.{Entry}
use Rattle.store_turn.specs.declared.views.Stage.{Stage}
use Rattle.store_turn.specs.declared.views.Stage.TheVariants.{Idle, Waiting, Serving}
use Rattle.store_turn.specs.declared.views.Known.{Known}
use Rattle.store_turn.specs.declared.views.View.{View}
use Rattle.store_turn.specs.Calls.{Begins, entry, calls_by, noted}

-- f of each element, added up
abbrev pub total : {X : Type 0} → (X → ℕ) → List X → ℕ
total f [] = 0
total f (x ∷ xs) = f x + total f xs

-- P holds of each element
abbrev pub Each : {X : Type 0} → (X → Type 0) → List X → Type 0
Each P [] = Unit {0}
Each P (x ∷ xs) = P x × Each P xs

-- the ticket that is held, if any
abbrev pub ticket : Stage → Option ℕ
ticket Idle = None
ticket (Waiting t) = Some t
ticket (Serving t) = Some t

abbrev pub queued : Stage → ℕ
queued Idle = 0
queued (Waiting t) = 1
queued (Serving t) = 1

-- what a call asked, if it was answered, and how many calls it found
abbrev pub asked_at : {Op : Type 0} → Option (Snapshot Op) → ℕ → List (Op × ℕ)
asked_at None n = []
asked_at (Some op) n = (op.value, n) ∷ []

module _ {O Op Answer : Type 0} where
  abbrev pub known : ℕ → List (Entry O Op Answer) → List (Op × ℕ) → Known O Op Answer
  known number found asked = record { number = number; found = found; asked = asked }

  abbrev pub view : Stage → Option O → ℕ → List (Known O Op Answer) → View O Op Answer
  view stage start callers knowns = record { stage = stage; start = start; callers = callers; known = knowns }

  -- nothing is known yet of so many callers, numbered from the first number on
  abbrev pub fresh : ℕ → ℕ → List (Known O Op Answer)
  fresh first zero = []
  fresh first (suc count) = known first [] [] ∷ fresh (suc first) count

  abbrev pub is_number : ℕ → Known O Op Answer → ℕ
  is_number number k = if k.number == number then 1 else 0

  abbrev pub waits : View O Op Answer → ℕ
  waits v = queued v.stage

  abbrev pub knows : View O Op Answer → ℕ
  knows v = length v.known

  abbrev pub has_number : ℕ → View O Op Answer → ℕ
  has_number number v = total (is_number number) v.known

  -- what was found begins the history, in which no more calls of this number stand
  pub record Fits (callers : ℕ) (log : List (Entry O Op Answer)) (k : Known O Op Answer) : Type 0 where
    pub number : k.number < callers
    pub found : Begins k.found log
    pub mine : calls_by k.number log ≡ calls_by k.number k.found

  -- what is known of one caller, at its turn
  abbrev pub HasFound : List (Entry O Op Answer) → List (Known O Op Answer) → Type 0
  HasFound log [] = ⊥
  HasFound log (k ∷ []) = k.found ≡ log
  HasFound log (k ∷ l ∷ ks) = ⊥

  module _ {S : Type 0} (homes : List (mathlib.Core.Option.Option S)) (done drawn : ℕ) (log : List (Entry O Op Answer)) (knowns : List (Known O Op Answer)) where
    -- a ticket is one of those that are out; its holder is a caller; who has the slot has the first of them
    abbrev pub Holds : Stage → Type 0
    Holds Idle = Unit {0}
    Holds (Waiting t) = (done ≤ t) × (t < drawn) × (0 < length knowns)
    Holds (Serving t) = (t ≡ done) × (t < drawn) × (homes ≡ none ∷ []) × HasFound log knowns

  module _ {S : Type 0} (history : S → List (Entry O Op Answer)) (begun : S → O) (start : O) (callers : ℕ) where
    -- the slot is at home, with the history; or out with the seat of the ticket that is served
    abbrev pub Lies : State S (View O Op Answer) → ℕ → List (Entry O Op Answer) → Type 0
    Lies s done log =
        ((s.homes ≡ none ∷ []) × ((i : ℕ) × (v : View O Op Answer) × (get_elem? s.views i ≡ some v) × (v.stage ≡ Serving done)))
        ⊎ ((y : S) × (s.homes ≡ some y ∷ []) × (history y ≡ log) × (begun y ≡ start))

    pub record Sound (homes : List (mathlib.Core.Option.Option S)) (done drawn : ℕ) (log : List (Entry O Op Answer)) (v : View O Op Answer) : Type 0 where
      pub stage : Holds homes done drawn log v.known v.stage
      pub known : Each (Fits callers log) v.known
      pub origin : 0 < length v.known → (v.start ≡ Some start) × (v.callers ≡ callers)

    -- WHAT HOLDS BETWEEN ANY TWO STEPS
    pub record Kept (s : State S (View O Op Answer)) : Type 0 where
      -- how many turns are finished, how many tickets were drawn, and the history
      pub done : ℕ
      pub drawn : ℕ
      pub log : List (Entry O Op Answer)
      pub words : s.words ≡ drawn % 2 ^ 64 ∷ done % 2 ^ 64 ∷ []
      -- the tickets that are out are held, by one view each
      pub queue : drawn ≡ done + total waits s.views
      pub apart : (i j : ℕ) (v w : View O Op Answer) (t : ℕ) → get_elem? s.views i ≡ some v → get_elem? s.views j ≡ some w → ticket v.stage ≡ Some t → ticket w.stage ≡ Some t → i ≡ j
      pub each : (i : ℕ) (v : View O Op Answer) → get_elem? s.views i ≡ some v → Sound s.homes done drawn log v
      pub slot : Lies s done log
      -- each caller is known in one view, and no call is of a number that no caller has
      pub few : callers < 2 ^ 32
      pub count : total knows s.views ≡ callers
      pub numbers : (n : ℕ) → total (has_number n) s.views ≤ 1
      pub others : (n : ℕ) → callers ≤ n → calls_by n log ≡ []

  -- THE STEPS
  abbrev pub at_stage : Stage → View O Op Answer → View O Op Answer
  at_stage stage v = view stage v.start v.callers v.known

  -- what is known, with this history found
  abbrev pub finding : List (Entry O Op Answer) → List (Op × ℕ) → List (Known O Op Answer) → List (Known O Op Answer)
  finding log more [] = []
  finding log more (k ∷ ks) = known k.number log (k.asked ++ more) ∷ []

  -- a ticket is drawn
  abbrev pub Drawn : {S : Type 0} → Me S (View O Op Answer) → ℕ → Me S (View O Op Answer) → Type 0
  Drawn m n m' = (t : ℕ) × (n ≡ t % 2 ^ 64) × (m' ≡ (at_stage (Waiting t) m.0, m.1))

  abbrev pub Draws : {S : Type 0} → Step S → Me S (View O Op Answer) → ℕ → Me S (View O Op Answer) → Type 0
  Draws st m n m' = Drawn m n m'

  -- the seat waits with a ticket, whose word is this
  abbrev pub WaitsWith : {S : Type 0} → ℕ → Me S (View O Op Answer) → Type 0
  WaitsWith n m = (t : ℕ) × (n ≡ t % 2 ^ 64) × (m.0.stage ≡ Waiting t) × (length m.0.known ≡ 1)

  -- the seat has the slot
  abbrev pub Has : {S : Type 0} → Me S (View O Op Answer) → (S → Type 0) → Type 0
  Has {S} m P = (y : S) × (m.1 ≡ (0, y) ∷ []) × P y

  module _ {S : Type 0} (history : S → List (Entry O Op Answer)) (begun : S → O) where
    -- the slot is taken, and its history found
    pub record Takes (m : Me S (View O Op Answer)) (t : ℕ) (m' : Me S (View O Op Answer)) : Type 0 where
      pub desk : S
      pub seat : m' ≡ (view (Serving t) m.0.start m.0.callers (finding (history desk) [] m.0.known), (0, desk) ∷ m.1)
      pub from : m.0.start ≡ Some (begun desk)
      pub fits : Each (Fits m.0.callers (history desk)) m.0.known

    -- the slot was taken by who waited with a ticket, whose word is this
    abbrev pub Taken : ℕ → Me S (View O Op Answer) → Me S (View O Op Answer) → Type 0
    Taken n m m' = (t : ℕ) × (n ≡ t % 2 ^ 64) × Takes m t m'

    -- What is asked of who gives the slot back: it was taken with the ticket whose word is this, and what it had found
    -- grew by one call of its own at most
    pub record MayGive (n : ℕ) (m : Me S (View O Op Answer)) : Type 0 where
      pub t : ℕ
      pub word : n ≡ t % 2 ^ 64
      pub stage : m.0.stage ≡ Serving t
      pub desk : S
      pub seat : m.1 ≡ (0, desk) ∷ []
      pub from : m.0.start ≡ Some (begun desk)
      pub one : Known O Op Answer
      pub known : m.0.known ≡ one ∷ []
      pub quiet : Bool
      pub op : Op
      pub longer : history desk ≡ noted quiet (entry one.number op) one.found

    -- the served ticket is read. Where it is the own one, the slot is taken; else nothing changes
    abbrev pub Looks : Step S → Me S (View O Op Answer) → ℕ → Me S (View O Op Answer) → Type 0
    Looks st m n m' = (t : ℕ) → m.0.stage ≡ Waiting t → MatchBool (n == t % 2 ^ 64) (Takes m t m') (m' ≡ m)

  -- how many calls the caller had found
  abbrev pub found_length : List (Known O Op Answer) → ℕ
  found_length [] = 0
  found_length (k ∷ ks) = length k.found

  -- the view of who gives the slot back, with the history that it has then
  abbrev pub left_with : Option (Snapshot Op) → List (Entry O Op Answer) → View O Op Answer → View O Op Answer
  left_with op log v = view Idle v.start v.callers (finding log (asked_at op (found_length v.known)) v.known)

  module _ {S : Type 0} (history : S → List (Entry O Op Answer)) (last : S → Option (Snapshot Op)) where
    -- the slot is given back, and the next ticket served
    abbrev pub Gives : Step S → Me S (View O Op Answer) → ℕ → Me S (View O Op Answer) → Type 0
    Gives st m n m' = (y : S) → m.1 ≡ (0, y) ∷ [] → m' ≡ (left_with (last y) (history y) m.0, [])

  -- one caller's part of a view, and the rest
  abbrev pub first_of : View O Op Answer → View O Op Answer
  first_of v = view Idle v.start v.callers (take 1 v.known)

  abbrev pub rest_of : View O Op Answer → View O Op Answer
  rest_of v = view v.stage v.start v.callers (drop 1 v.known)

  -- two views put together
  abbrev pub both_of : View O Op Answer → View O Op Answer → View O Op Answer
  both_of v w = view v.stage w.start w.callers (v.known ++ w.known)

  abbrev pub spent : View O Op Answer
  spent = view Idle None 0 []
