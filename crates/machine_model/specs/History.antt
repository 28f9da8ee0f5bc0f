-- Histories: what each connection asked for and was sent, over a list of items. A connection's life goes from the item
-- that made it to the item that removed it; its id may come again, in another life.
use Rattle.std.specs.Prelude.{ℕ, ◌==◌, Bool, true, ◌&&◌, List, [], ◌∷◌, ◌++◌, length, map, filter, filter_map, flat_map, nat_lt, if◌then◌else◌, Option, Some, None, is_some}
use Rattle.std.specs.List.{list_any}
use Rattle.std.specs.Ordering.{nat_cmp}
use Rattle.std.specs.FinMap.{find}
use Rattle.xs_model.specs.Messages.{message_bytes}
use Rattle.machine_model.specs.declared.bounds.TheConstants.{CROWD_LIMIT}
use Rattle.machine_model.specs.Connections.{Connection, Connections}
use Rattle.machine_model.specs.Machine.{Machine, Item, Asked, Lost, Send, Step, step_with}

pub record Life : Type 0 where
  -- the connection's id
  pub conn : ℕ
  -- the bytes of the requests taken from it, and those of all messages sent to it
  pub inputs : List ℕ
  pub outputs : List ℕ
  -- whether the connection is still there
  pub is_open : Bool

-- a life that begins with bytes that are still to be sent
abbrev pub begun_life : ℕ → List ℕ → Life
begun_life c unsent = record { conn = c; inputs = []; outputs = unsent; is_open = true }

abbrev pub new_life : ℕ → Life
new_life c = begun_life c []

-- the store after some items, and all lives so far, in the order in which they began
pub record Past : Type 0 where
  pub machine : Machine
  pub lives : List Life

-- the bytes that an item takes from a connection
abbrev pub taken_from : ℕ → Item → List ℕ
taken_from c (Asked d bytes) = if c == d then bytes else []
taken_from c (Lost d) = []

-- the bytes of the messages for a connection
abbrev pub sent_to : ℕ → List Send → List ℕ
sent_to c sends = flat_map (λ s. message_bytes s.1) (filter (λ s. c == s.0) sends)

-- an open life after an item, whose connection may be gone
abbrev pub grown : Item → List Send → Connections → Life → Life
grown item sends conns life = record {
  conn = life.conn;
  inputs = life.inputs ++ taken_from life.conn item;
  outputs = life.outputs ++ sent_to life.conn sends;
  is_open = is_some (find nat_cmp life.conn conns);
}

abbrev pub life_after : Item → List Send → Connections → Life → Life
life_after item sends conns life = if life.is_open then grown item sends conns life else life

-- a new life, where the connection has none that is open
abbrev pub life_if_new : List Life → ℕ × Connection → Option Life
life_if_new lives e = if list_any (λ life. life.is_open && life.conn == e.0) lives then None else Some (new_life e.0)

abbrev pub with_new_lives : Connections → List Life → List Life
with_new_lives conns lives = lives ++ filter_map (life_if_new lives) conns

abbrev pub past_after : Past → Item → Step → Past
past_after past item stepped = record {
  machine = stepped.0;
  lives = with_new_lives stepped.0.conns (map (life_after item stepped.1 stepped.0.conns) past.lives);
}

-- the past of a history, with the message types that are served
abbrev pub run_with : List ℕ → Past → List Item → Past
run_with served past [] = past
run_with served past (item ∷ items) = run_with served (past_after past item (step_with served past.machine item)) items

-- UNSENT BYTES, by connection
abbrev pub Unsent : Type 0
Unsent = List (ℕ × List ℕ)

abbrev pub bytes_or_none : Option (List ℕ) → List ℕ
bytes_or_none None = []
bytes_or_none (Some bytes) = bytes

abbrev pub unsent_to : ℕ → Unsent → List ℕ
unsent_to c unsent = bytes_or_none (find nat_cmp c unsent)

-- after a step: what is sent joins them, and a new connection had none
abbrev pub unsent_after : Step → Unsent → Unsent
unsent_after stepped unsent = map (λ e. (e.0, unsent_to e.0 unsent ++ sent_to e.0 stepped.1)) stepped.0.conns

-- the least connection that has too many, if any
abbrev pub crowded : Unsent → Option ℕ
crowded [] = None
crowded (e ∷ es) = if nat_lt CROWD_LIMIT (length e.1) then Some e.0 else crowded es

-- a store at the start of its history, when these bytes are unsent
abbrev pub past_at_start : Unsent → Machine → Past
past_at_start unsent m = record { machine = m; lives = map (λ e. begun_life e.0 (unsent_to e.0 unsent)) m.conns }
