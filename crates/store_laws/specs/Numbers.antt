-- A number seen twice: what DIRECTORY_PART shows with a list of children tells whether it changed.
use Rattle.std.specs.Prelude.{◌≡◌, ℕ, ◌<◌, true, List, ◌++◌, Ok, decimal}
use Rattle.xs_model.specs.Paths.{Path}
use Rattle.xs_model.specs.Trees.{Tree, node_at, is_present, children}
use Rattle.xs_model.specs.Messages.{string}
use Rattle.xs_model.specs.Requests.{Command, DirectoryPart}
use Rattle.xs_model.specs.Generations.{generation_max}
use Rattle.machine_model.specs.Connections.{Connection}
use Rattle.machine_model.specs.Transactions.{Transaction, Ran, outcome_on, after, count, count_max}
use Rattle.machine_model.specs.Machine.{Machine, act, ran_by}
use Rattle.store_laws.specs.Lawful.{Move, moved_by, MayMoveBy, IsKept}

-- a DIRECTORY_PART of this path, outside of transactions, is answered with this number and a part
pub record Shows (m : Machine) (path : Path) (number : ℕ) : Type 0 where
  pub conn : ℕ
  pub asker : Connection
  pub offset : ℕ
  pub part : List ℕ
  pub reply : (act m conn asker 0 (Command (DirectoryPart offset) path)).reply ≡ Ok (string (decimal number) ++ part)

-- a path is there in both trees, with the same value, entries and names of children
pub record IsSame (path : Path) (before after : Tree) : Type 0 where
  pub there : is_present before path ≡ true
  pub node : node_at after path ≡ node_at before path
  pub names : children after path ≡ children before path

-- If the same number is shown twice, below the greatest, then nothing changed there in any state between
abbrev pub NumberSeenTwice : Type 0
NumberSeenTwice =
    (served : List ℕ) (m : Machine) (moves more : List Move) (path : Path) (number : ℕ) → IsKept m → MayMoveBy served m (moves ++ more)
    → number < generation_max → Shows m path number → Shows (moved_by served m (moves ++ more)) path number
    → IsSame path m.tree (moved_by served m moves).tree

-- INSIDE A TRANSACTION the number is its count: how many of its commands wrote something
pub record ShowsInside (t : Transaction) (path : Path) (number : ℕ) : Type 0 where
  pub asker : Connection
  pub offset : ℕ
  pub part : List ℕ
  pub reply : (outcome_on (after t) (ran_by asker (DirectoryPart offset) path (count t))).reply ≡ Ok (string (decimal number) ++ part)

-- the transaction once more commands ran in it
abbrev pub with_more : List Ran → Transaction → Transaction
with_more list t = record { copy = t.copy; prior = t.prior; list = t.list ++ list; others = t.others }

abbrev pub NumberSeenTwiceInside : Type 0
NumberSeenTwiceInside =
    (t : Transaction) (list more : List Ran) (path : Path) (number : ℕ) → number < count_max
    → ShowsInside t path number → ShowsInside (with_more (list ++ more) t) path number → IsSame path (after t) (after (with_more list t))
