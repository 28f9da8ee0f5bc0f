-- A reply, and what connections are owed beside it, on the way to what is unsent to them. This project's own.
use Rattle.std.specs.Prelude.{◌≡◌, ℕ, ◌+◌, ◌≤◌, ◌==◌, List, [], ◌∷◌, ◌++◌, length, map, nat_lt, if◌then◌else◌, Option, Some, None}
use Rattle.std.specs.Ordering.{nat_cmp}
use Rattle.std.specs.FinMap.{find}
use Rattle.machine_model.specs.declared.bounds.TheConstants.{CROWD_LIMIT}
use Rattle.machine_model.specs.History.{Unsent, unsent_to}
use Rattle.out_queues.specs.Queues.{Queue}

-- the bytes for a connection: the reply first, where it is the one that asked, and then what it is owed
abbrev pub sent_by : ℕ → List ℕ → Unsent → ℕ → List ℕ
sent_by asker reply owed c = (if c == asker then reply else []) ++ unsent_to c owed

-- how many these are, where the reply has n
abbrev pub count_by : ℕ → ℕ → Unsent → ℕ → ℕ
count_by asker n owed c = (if c == asker then n else 0) + length (unsent_to c owed)

-- what is unsent once they are sent
abbrev pub joined_by : ℕ → List ℕ → Unsent → Unsent → Unsent
joined_by asker reply owed unsent = map (λ e. (e.0, e.1 ++ sent_by asker reply owed e.0)) unsent

-- each queue has memory for them
abbrev pub HasRoomFor : ℕ → ℕ → Unsent → List (ℕ × Queue) → Type 0
HasRoomFor asker n owed queues = (c : ℕ) (queue : Queue) → find nat_cmp c queues ≡ Some queue → count_by asker n owed c ≤ queue.spare

-- the first connection that would have too many bytes unsent, if any
abbrev pub crowding : ℕ → ℕ → Unsent → Unsent → Option ℕ
crowding asker n owed [] = None
crowding asker n owed (e ∷ unsent) =
    if nat_lt CROWD_LIMIT (length e.1 + count_by asker n owed e.0) then Some e.0 else crowding asker n owed unsent
