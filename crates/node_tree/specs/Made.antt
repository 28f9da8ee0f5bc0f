-- What edits make of a tree in memory. This project's own.
use Rattle.std.specs.Prelude.{◌≡◌, List}
use Rattle.xs_model.specs.Trees.{Edit, edited}
use Rattle.node_tree.specs.KeptTree.{KeptTree}
use Rattle.node_tree.specs.Numbers.{renumbered}

pub record IsMade (before : KeptTree) (edits : List Edit) (after : KeptTree) : Type 0 where
  pub nodes : after.nodes ≡ edited before.nodes edits
  pub gens : after.gens ≡ renumbered before.gens edits
  pub counter : after.counter ≡ before.counter
