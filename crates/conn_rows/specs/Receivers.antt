-- Who is sent something by a request: the connection that asked, and those that are owed something. This project's own.
use Rattle.std.specs.Prelude.{◌≡◌, ℕ, ◌<◌, ◌==◌, false, List, [], ◌++◌, map}
use Rattle.machine_model.specs.History.{Unsent, unsent_to}
use Rattle.out_queues.specs.Queues.{Queue}
use Rattle.conn_rows.specs.Rows.{Row, Txns}
use Rattle.conn_rows.specs.Sending.{sent_by}

-- nothing is sent to a connection: it is not the one that asked, and it is owed nothing
pub record GetsNothing (asker : ℕ) (owed : Unsent) (c : ℕ) : Type 0 where
  pub apart : (c == asker) ≡ false
  pub nothing : unsent_to c owed ≡ []

-- the least above an id that may be sent something
pub record IsNextReceiver (asker : ℕ) (owed : Unsent) (at next : ℕ) : Type 0 where
  pub above : at < next
  pub between : (c : ℕ) → at < c → c < next → GetsNothing asker owed c

-- the queues of rows
abbrev pub queues_of : List (ℕ × Row) → List (ℕ × Queue)
queues_of rows = map (λ e. (e.0, e.1.queue)) rows

-- what callers see of a row: the bytes, how many of them end a message, and the transactions
abbrev pub Seen : Type 0
Seen = List ℕ × (ℕ × Txns)

abbrev pub seen_in : List (ℕ × Row) → List (ℕ × Seen)
seen_in rows = map (λ e. (e.0, (e.1.queue.bytes, (e.1.queue.rest, e.1.txns)))) rows

-- once each was sent what is for it
abbrev pub seen_after : ℕ → List ℕ → Unsent → List (ℕ × Row) → List (ℕ × Seen)
seen_after asker reply owed rows = map (λ e. (e.0, (e.1.queue.bytes ++ sent_by asker reply owed e.0, (e.1.queue.rest, e.1.txns)))) rows
