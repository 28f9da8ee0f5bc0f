-- Edits that a view takes. This project's own.
use Rattle.std.specs.Prelude.{◌≡◌, true, List, [], ◌∷◌, ◌++◌, Some}
use Rattle.tree_ops.specs.declared.answer.Edits.{Edits}
use Rattle.tree_ops.specs.declared.answer.Edits.TheVariants.{Sets, Removals}
use Rattle.xs_model.specs.Paths.{Path, Name}
use Rattle.xs_model.specs.Trees.{Node, Tree, IsTree, edited, edited_at, has_entry, all_below}
use Rattle.xs_model.specs.Commands.{removals}
use Rattle.node_tree.specs.KeptTree.{has_parent}

-- each node has an entry, and each path a parent when it gets its node
abbrev pub FitsSets : Tree → List (Path × Node) → Type 0
FitsSets tree [] = Unit {0}
FitsSets tree (e ∷ es) = (has_parent tree e.0 ≡ true) × (has_entry e.1.perms ≡ true) × FitsSets (edited_at tree e.0 (Some e.1)) es

-- no path, or all at and below a path that is not `/`
abbrev pub FitsRemovals : Tree → List Path → Type 0
FitsRemovals tree [] = Unit {0}
FitsRemovals tree (p ∷ ps) = (m : Name) × (top : Path) × IsTree tree × (p ∷ ps ≡ all_below tree (m ∷ top))

abbrev pub Fits : Tree → Edits → Type 0
Fits tree (Sets entries) = FitsSets tree entries.items
Fits tree (Removals paths) = FitsRemovals tree paths.items

-- of some paths of a tree, those behind the ones that are left are removed
pub record IsRemoving (tree : Tree) (paths left : List Path) (now : Tree) : Type 0 where
  pub gone : List Path
  pub parts : paths ≡ left ++ gone
  pub made : now ≡ edited tree (removals gone)
