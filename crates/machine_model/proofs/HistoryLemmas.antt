-- What each step keeps, a history keeps.
use Rattle.std.specs.Prelude.{◌≡◌, ℕ, false, List, [], ◌∷◌}
use Rattle.machine_model.specs.Machine.{Machine, Item, step_with}
use Rattle.xs_model.specs.Trees.{IsTree, edited}
use Rattle.machine_model.specs.Transactions.{after, is_in_conflict}
use Rattle.machine_model.specs.Laws.{HasTrees}
use Rattle.machine_model.proofs.RunLemmas.{run_list-tree}
use Rattle.machine_model.specs.History.{Past, past_after, past_at_start, run_with}
use Rattle.machine_model.specs.Serial.{RunsAlike, IsOpenOver, IsFollowed, IsSerial}
use Rattle.machine_model.proofs.OpenLemmas.{runs_alike}
use Rattle.machine_model.proofs.KeepLemmas.{each_open, step_keeps}

pub run_keeps : (P : Machine → Type 0) → ((m : Machine) → P m → (served : List ℕ) (item : Item) → P (step_with served m item).0) → (served : List ℕ) (past : Past) (items : List Item) → P past.machine → P (run_with served past items).machine
run_keeps P to served past [] h = h
run_keeps P to served past (item ∷ items) h = run_keeps P to served (past_after past item (step_with served past.machine item)) items (to past.machine h served item)

pub run_follows : (served : List ℕ) (start : Machine) (items : List Item) → IsFollowed start → IsFollowed (run_with served (past_at_start [] start) items).machine
run_follows served start items h = run_keeps IsFollowed (λ m is served item. step_keeps m is served item) served (past_at_start [] start) items h

pub serial_of : (m : Machine) → IsFollowed m → IsSerial m
serial_of m is = each_open (IsOpenOver m.tree) (λ t. is_in_conflict t ≡ false → RunsAlike m.tree t) (λ t o free. runs_alike m.tree t is.tree o free) m.conns is.transactions

pub trees_of : (m : Machine) → IsFollowed m → HasTrees m
trees_of m is = record {
  tree = is.tree;
  transactions = each_open (IsOpenOver m.tree) (λ t. IsTree t.copy × IsTree (after t)) (λ t o. (o.copy, run_list-tree (edited t.copy t.prior.edits) t.list o.began)) m.conns is.transactions;
}
