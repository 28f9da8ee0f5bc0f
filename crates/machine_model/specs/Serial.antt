-- Serial commit: a transaction that nobody disturbed gets of the current tree what it got of its copy. The law is
-- proved of a function in `src/laws.rt`.
use Rattle.std.specs.Prelude.{◌≡◌, true, false, ◌&&◌, ◌++◌}
use Rattle.std.specs.List.{AllByRecursion}
use Rattle.xs_model.specs.Paths.{Name, Path, has_path, child}
use Rattle.xs_model.specs.Trees.{Tree, IsTree, node_at, is_present, edited, edit_paths}
use Rattle.machine_model.specs.Transactions.{Transaction, run_on, after, wrote, accessed, is_in_conflict}
use Rattle.machine_model.specs.Connections.{Connections}
use Rattle.machine_model.specs.Machine.{Machine}

-- P of each open transaction of some connections
abbrev pub EachOpen : (Transaction → Type 0) → Connections → Type 0
EachOpen P conns = AllByRecursion (λ e. AllByRecursion (λ f. P f.1) e.1.transactions) conns

-- Its commands run on a tree as they ran on its copy: the same replies, the same written paths, and the same node, or
-- none, at each path that it accessed. At each path that it did not write the tree keeps what it had.
pub record RunsAlike (tree : Tree) (t : Transaction) : Type 0 where
  pub replies : (run_on tree t).replies ≡ (run_on t.copy t).replies
  pub written : (run_on tree t).written ≡ (run_on t.copy t).written
  pub nodes : (p : Path) → has_path p (accessed t) ≡ true → node_at (run_on tree t).tree p ≡ node_at (after t) p
  pub elsewhere : (p : Path) → has_path p (wrote t) ≡ false → node_at (run_on tree t).tree p ≡ node_at tree p

-- What a run keeps of an open transaction and the current tree. For one that was started here, which brought nothing
-- along, it says: its copy is a tree, and it differs from the current tree in nothing but `others` and the presence of
-- children of those.
pub record IsOpenOver (tree : Tree) (t : Transaction) : Type 0 where
  pub copy : IsTree t.copy
  -- with the edits that it brought along the copy is a tree
  pub began : IsTree (edited t.copy t.prior.edits)
  pub nodes : (p : Path) → has_path p t.others ≡ false → node_at (edited t.copy t.prior.edits) p ≡ node_at (edited tree t.prior.edits) p
  -- a child that it brought along as looked at, and that others changed, may be present in one of the two alone
  pub children : (p : Path) (n : Name) → has_path p t.others ≡ false → (has_path (child p n) t.prior.seen && has_path (child p n) t.others) ≡ false
      → is_present (edited t.copy t.prior.edits) (child p n) ≡ is_present (edited tree t.prior.edits) (child p n)
  -- where it brought along a node that the current tree lacks, it brought along the node's parent as looked at or written
  pub parents : (p : Path) (n : Name) → has_path (child p n) (edit_paths t.prior.edits) ≡ true → has_path (child p n) t.others ≡ false
      → is_present (edited t.copy t.prior.edits) (child p n) ≡ true → is_present tree (child p n) ≡ false
      → has_path p (t.prior.seen ++ edit_paths t.prior.edits) ≡ true

-- a store whose current tree and open transactions are in that state
pub record IsFollowed (m : Machine) : Type 0 where
  pub tree : IsTree m.tree
  pub transactions : EachOpen (IsOpenOver m.tree) m.conns

-- no open transaction without conflict would get anything else of the current tree
abbrev pub IsSerial : Machine → Type 0
IsSerial m = EachOpen (λ t. is_in_conflict t ≡ false → RunsAlike m.tree t) m.conns
