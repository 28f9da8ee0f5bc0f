-- The state that a store is in: what it keeps, with the bytes that were read from its connections and are not answered.
-- This project's own.
use Rattle.std.specs.Prelude.{ℕ, List, map, Option, Some, None}
use Rattle.std.specs.Ordering.{nat_cmp}
use Rattle.std.specs.FinMap.{find}
use Rattle.machine_model.specs.declared.ConnSpec.{ConnSpec}
use Rattle.machine_model.specs.History.{bytes_or_none}
use Rattle.mark_model.specs.Marks.{Mark}
use Rattle.mark_model.specs.Stores.{KeptTransaction, Opens, opens_of}
use Rattle.kept_model.specs.States.{TransactionOf, ConnectionOf, State}
use Rattle.watchers.specs.Watched.{watches_of}
use Rattle.store_parts.specs.Kept.{Kept}

-- the bytes that were read, by the ids of the connections; of one that is not named there are none
abbrev pub Inboxes : Type 0
Inboxes = List (ℕ × List ℕ)

abbrev pub or_zero : Option ℕ → ℕ
or_zero None = 0
or_zero (Some n) = n

abbrev pub rest_of : ℕ → List (ℕ × ℕ) → ℕ
rest_of c rests = or_zero (find nat_cmp c rests)

abbrev pub transaction_of : KeptTransaction → TransactionOf Mark
transaction_of t = record { count = t.count; marks = t.marks }

abbrev pub transactions_of : Opens → List (ℕ × TransactionOf Mark)
transactions_of opens = map (λ e. (e.0, transaction_of e.1)) opens

abbrev pub connection_of : Kept → Inboxes → ℕ → ConnSpec → ConnectionOf Mark
connection_of kept ins c spec = record {
  spec = spec;
  watches = watches_of c kept.watched;
  inbox = bytes_or_none (find nat_cmp c ins);
  rest = rest_of c kept.rests;
  unsent = bytes_or_none (find nat_cmp c kept.unsent);
  opens = transactions_of (opens_of c kept.opens);
}

abbrev pub state_of : Kept → Inboxes → State
state_of kept ins = record {
  tree = kept.tree;
  gens = kept.gens;
  globals = kept.globals;
  conns = map (λ e. (e.0, connection_of kept ins e.0 e.1)) kept.specs;
}
