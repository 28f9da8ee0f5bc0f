-- The seats of a turn, as its callers hold them.
use Rattle.std.specs.Prelude.{◌≡◌, ℕ, ◌<◌, ◌⊎◌, List, [], ◌∷◌, length, Option, Some, None, slice_get}
use Rattle.atomic_table.specs.Seated.{TableId}
use Rattle.store_turn.specs.declared.views.Stage.TheVariants.{Idle}
use Rattle.store_turn.specs.declared.views.Known.{Known}
use Rattle.store_turn.specs.declared.views.View.{View}
use Rattle.store_turn.specs.Rule.{known, spent}
use Rattle.store_turn.specs.Sides.{TurnId, Party}

module _ {O Op Answer : Type 0} where
  -- the view of a badge
  abbrev pub view_of : List (View O Op Answer) → View O Op Answer
  view_of [] = spent
  view_of (v ∷ vs) = v

  -- what is known of one caller
  abbrev pub one_of : List (Known O Op Answer) → Known O Op Answer
  one_of [] = known 0 [] []
  one_of (k ∷ ks) = k

  abbrev pub turn_id : TableId → View O Op Answer → TurnId O
  turn_id table v = record { table = table; callers = v.callers; start = v.start }

  -- a caller, by its number and its view
  abbrev pub party_at : TableId → ℕ → View O Op Answer → Party O Op Answer
  party_at table number v = record { turn = turn_id table v; number = number; found = (one_of v.known).found; asked = (one_of v.known).asked }

  abbrev pub party_of : TableId → ℕ → List (View O Op Answer) → Party O Op Answer
  party_of table number views = party_at table number (view_of views)

  -- the view is of the caller with this number, which calls nothing now
  pub record IsIdle (number : ℕ) (v : View O Op Answer) : Type 0 where
    pub stage : v.stage ≡ Idle
    pub known : length v.known ≡ 1
    pub its : (one_of v.known).number ≡ number
    pub below : number < v.callers

  pub record IsCaller (number : ℕ) (views : List (View O Op Answer)) : Type 0 where
    pub one : views ≡ view_of views ∷ []
    pub idle : IsIdle number (view_of views)

  -- no caller is there of a number below this one
  abbrev pub NoneBefore : List (Option (Party O Op Answer)) → ℕ → Type 0
  NoneBefore there place = (j : ℕ) → j < place → slice_get there j ≡ Some None

  -- the caller is the one with the lowest number of those that are there
  abbrev pub IsFirst : List (Option (Party O Op Answer)) → ℕ → Party O Op Answer → Type 0
  IsFirst there place caller = (slice_get there place ≡ Some (Some caller)) × NoneBefore there place

  abbrev pub NoneThere : List (Option (Party O Op Answer)) → Type 0
  NoneThere there = NoneBefore there (length there)

  -- what is known begins with a caller of this number that has called nothing
  abbrev pub IsNext : ℕ → List (Known O Op Answer) → Type 0
  IsNext number knowns = (rest : List (Known O Op Answer)) × (knowns ≡ known number [] [] ∷ rest)

  -- what is known of a caller
  abbrev pub known_of : Party O Op Answer → Known O Op Answer
  known_of party = known party.number party.found party.asked

  abbrev pub IsIn : Known O Op Answer → List (Known O Op Answer) → Type 0
  IsIn k [] = ⊥
  IsIn k (l ∷ ls) = (k ≡ l) ⊎ IsIn k ls

  -- all who were there are known
  abbrev pub AreKnown : List (Option (Party O Op Answer)) → List (Known O Op Answer) → Type 0
  AreKnown there knowns = (k : ℕ) (caller : Party O Op Answer) → slice_get there k ≡ Some (Some caller) → IsIn (known_of caller) knowns

  -- a seat that knows no caller, and a place for each caller, with none or with the one of that number
  pub record IsCrowd (table : TableId) (views : List (View O Op Answer)) (there : List (Option (Party O Op Answer))) : Type 0 where
    pub one : views ≡ view_of views ∷ []
    pub stage : (view_of views).stage ≡ Idle
    pub known : (view_of views).known ≡ []
    pub long : length there ≡ (view_of views).callers
    pub turns : (k : ℕ) (caller : Party O Op Answer) → slice_get there k ≡ Some (Some caller) → caller.turn ≡ turn_id table (view_of views)
    pub placed : (k : ℕ) (caller : Party O Op Answer) → slice_get there k ≡ Some (Some caller) → caller.number ≡ k
