-- What waits in the queues of connections, by their ids. This project's own.
use Rattle.std.specs.Prelude.{◌≡◌, ℕ, ◌≤◌, ◌++◌, List, map, min, take, drop, length, Option, Some, None}
use Rattle.std.specs.Ordering.{nat_cmp}
use Rattle.std.specs.FinMap.{find, put}
use Rattle.xs_model.specs.Wholes.{rest_after}
use Rattle.out_queues.specs.Queues.{Queue}

-- the bytes that wait in queues
abbrev pub unsent_of : List (ℕ × Queue) → List (ℕ × List ℕ)
unsent_of queues = map (λ e. (e.0, e.1.bytes)) queues

-- and how many of them end a message that was sent in part
abbrev pub rests_of : List (ℕ × Queue) → List (ℕ × ℕ)
rests_of queues = map (λ e. (e.0, e.1.rest)) queues

-- the queue of a connection has memory for so many bytes
abbrev pub HasRoom : ℕ → ℕ → List (ℕ × Queue) → Type 0
HasRoom c n queues = (queue : Queue) → find nat_cmp c queues ≡ Some queue → n ≤ queue.spare

-- the first bytes of a queue were moved into a place, as many as there are and as find room, and what is left of the
-- message in front follows
pub record Moves (old : List (ℕ × Queue)) (c : ℕ) (into : List ℕ) (new : List (ℕ × Queue)) (into_new : List ℕ) (n : ℕ) : Type 0 where
  pub bytes : List ℕ
  pub there : find nat_cmp c (unsent_of old) ≡ Some bytes
  pub count : n ≡ min (length into) (length bytes)
  pub taken : into_new ≡ take n bytes ++ drop n into
  pub unsent : unsent_of new ≡ put nat_cmp c (drop n bytes) (unsent_of old)
  pub rest : ℕ
  pub was : find nat_cmp c (rests_of old) ≡ Some rest
  pub rests : rests_of new ≡ put nat_cmp c (rest_after rest n bytes) (rests_of old)

abbrev pub PulledFrom : List (ℕ × Queue) → ℕ → List ℕ → List (ℕ × Queue) → List ℕ → Option ℕ → Type 0
PulledFrom old c into new into_new (Some n) = Moves old c into new into_new n
PulledFrom old c into new into_new None = (find nat_cmp c old ≡ None) × ((new ≡ old) × (into_new ≡ into))
