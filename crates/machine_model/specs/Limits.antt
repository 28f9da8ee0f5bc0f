-- Ids and limits: the words of their laws, which are proved of functions in `src/laws.rt`.
use Rattle.std.specs.Prelude.{◌≡◌, ℕ, ◌<◌, ◌≤◌, true, List, length, Some, None, is_some, decimal, ◌≢◌}
use Rattle.std.specs.List.{AllByRecursion}
use Rattle.std.specs.Ordering.{nat_cmp}
use Rattle.std.specs.FinMap.{find, is_sorted}
use Rattle.xs_model.specs.Messages.{string}
use Rattle.machine_model.specs.Connections.{Connection, Connections, caller_of}
use Rattle.machine_model.specs.Transactions.{started}
use Rattle.machine_model.specs.Machine.{Machine, with_transaction}

-- CONNECTIONS whose ids rise from 1 on, so that each stands once
pub record HasIds (conns : Connections) : Type 0 where
  pub rising : is_sorted nat_cmp conns ≡ true
  pub positive : AllByRecursion (λ e. 1 ≤ e.0) conns

-- a connection whose open transactions have rising ids from 1 on, and are not too many, nor are its watches
pub record IsWithinLimits (conn : Connection) : Type 0 where
  pub rising : is_sorted nat_cmp conn.transactions ≡ true
  pub positive : AllByRecursion (λ e. 1 ≤ e.0) conn.transactions
  pub control_transactions : (caller_of conn.spec).domid ≡ 0 → length conn.transactions ≤ 65535
  pub guest_transactions : (caller_of conn.spec).domid ≢ 0 → length conn.transactions ≤ 10
  pub guest_watches : (caller_of conn.spec).domid ≢ 0 → length conn.watches ≤ 128

-- the least positive id that none of the entries has
pub record IsLeastFree {A : Type 0} (id : ℕ) (es : List (ℕ × A)) : Type 0 where
  pub positive : 1 ≤ id
  pub free : find nat_cmp id es ≡ None
  pub least : (i : ℕ) → 1 ≤ i → i < id → is_some (find nat_cmp i es) ≡ true

-- START was granted: the least free id was given and opened, with the tree as it stands
pub record IsStarted (m : Machine) (c : ℕ) (conn : Connection) (payload : List ℕ) (after : Machine) : Type 0 where
  pub id : ℕ
  pub given : payload ≡ string (decimal id)
  pub least : IsLeastFree id conn.transactions
  pub opened : find nat_cmp c after.conns ≡ Some (with_transaction id (started m.tree) conn)
