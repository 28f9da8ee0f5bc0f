-- What a commit makes of a tree, in the order in which it goes, and what it prepares. This project's own.
use Rattle.std.specs.Prelude.{◌≡◌, ◌≤◌, true, false, ⊤, List, [], ◌∷◌, ◌++◌, length, vec_capacity, Option, Some, None, is_some}
use Rattle.node_tree.specs.KeptTree.{KeptTree, has_parent}
use Rattle.node_tree.specs.Made.{IsMade}
use Rattle.xs_model.specs.Changes.{change_at, changed_paths}
use Rattle.xs_model.specs.Commands.{removals}
use Rattle.xs_model.specs.Paths.{Path}
use Rattle.xs_model.specs.Requests.{is_root}
use Rattle.xs_model.specs.Trees.{Node, Tree, Edit, is_present, children, edited_at, edited, edit_paths, has_entry}
use Rattle.mark_model.specs.Marks.{Mark, Seen, Changed, Wrote, Gone, Kept, Marks, edits_by, written, written_paths, committed}
use Rattle.txn_access.specs.declared.plan.Plan.{Plan}

-- the node that a commit sets
abbrev pub wrote : Mark → Option (Option Node)
wrote Seen = None
wrote (Changed old) = None
wrote (Wrote others node) = Some (Some node)
wrote (Gone others) = None
wrote (Kept old) = None

-- whether it removes one
abbrev pub gone : Mark → Option (Option Node)
gone Seen = None
gone (Changed old) = None
gone (Wrote others node) = None
gone (Gone others) = Some None
gone (Kept old) = None

abbrev pub gone_paths : Marks → List Path
gone_paths marks = edit_paths (edits_by gone marks)

-- the edit that a mark is, if it is one
abbrev pub edits_at : Path → Option (Option Node) → List Edit
edits_at p None = []
edits_at p (Some new) = (p, new) ∷ []

-- SETS, the first one first: each path has its parent when its turn comes
abbrev pub FitsSet : Tree → Path → Option Node → Type 0
FitsSet tree p None = ⊤
FitsSet tree p (Some node) = (has_parent tree p ≡ true) × (has_entry node.perms ≡ true)

abbrev pub FitsSets : Tree → List Edit → Type 0
FitsSets tree [] = ⊤
FitsSets tree (e ∷ es) = FitsSet tree e.0 e.1 × FitsSets (edited_at tree e.0 e.1) es

-- REMOVALS, the last one first: none has a child when its turn comes
pub record FitsGoneAt (tree : Tree) (p : Path) (later : List Path) : Type 0 where
  pub below : is_root p ≡ false
  pub childless : children (edited tree (removals later)) p ≡ []

abbrev pub FitsGone : Tree → List Path → Type 0
FitsGone tree [] = ⊤
FitsGone tree (p ∷ ps) = FitsGoneAt tree p ps × FitsGone tree ps

-- what changes at a path, by what the commit makes of it
abbrev pub change_by : Tree → Path → Option (Option Node) → List Path
change_by tree p None = []
change_by tree p (Some new) = change_at (is_present tree p) (is_some new) p

-- at all of them
abbrev pub changes : Tree → Marks → List Path
changes tree [] = []
changes tree (e ∷ marks) = change_by tree e.0 (written e.1) ++ changes tree marks

-- the path, if a commit makes something of it
abbrev pub written_here : Path → Option (Option Node) → List Path
written_here p None = []
written_here p (Some new) = p ∷ []

-- A plan for a commit of these marks to this tree: which paths it writes and which change, with memory for what it does
pub record IsPlan (marks : Marks) (tree : KeptTree) (plan : Plan) : Type 0 where
  pub written : plan.written ≡ written_paths marks
  pub changed : plan.changed ≡ changed_paths tree.nodes (written_paths marks) (committed tree.nodes marks)
  pub unused : plan.gone.items ≡ []
  pub room : length (written_paths marks) ≤ vec_capacity plan.gone
  pub spare : length (written_paths marks) ≤ tree.spare

-- so far these paths were removed, those behind the ones that are left
pub record IsRemoved (before : KeptTree) (paths left : List Path) (now : KeptTree) : Type 0 where
  pub done : List Path
  pub parts : paths ≡ left ++ done
  pub made : IsMade before (removals done) now
