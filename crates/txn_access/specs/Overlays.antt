-- What edits make of what a transaction sees. This project's own.
use Rattle.std.specs.Prelude.{◌≡◌, ◌≤◌, List}
use Rattle.xs_model.specs.Trees.{Edit}
use Rattle.mark_model.specs.Marks.{write_all}
use Rattle.txn_access.specs.declared.overlays.Overlay.{Overlay}

-- The tree and the transaction are the same, and so is the tree's value; the edits are written as marks, and room for the
-- paths that are looked at stays.
pub record IsWritten (before : Overlay) (edits : List Edit) (after : Overlay) : Type 0 where
  pub tree : after.tree ≡ before.tree
  pub same_reference : after.txn.ghost_name ≡ before.txn.ghost_name
  pub looks : after.looks ≡ before.looks
  pub marks : after.txn.now.marks ≡ write_all edits before.txn.now.marks
  pub count : after.txn.now.count ≡ before.txn.now.count
  pub room : before.looks ≤ before.txn.now.spare → before.looks ≤ after.txn.now.spare
