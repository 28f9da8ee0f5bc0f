-- Steps from name to name until a child is found that a transaction sees, where what it sees need not be a tree. This
-- project's own.
use Rattle.std.specs.Prelude.{◌≡◌, ◌<◌, Bool, Option, Some, None}
use Rattle.std.specs.Borrow.{Bor}
use Rattle.std.specs.List.{list_any}
use Rattle.path_map.specs.Marks.{is_above}
use Rattle.xs_model.specs.Paths.{Path, Name}
use Rattle.xs_model.specs.Trees.{Tree, children}
use Rattle.mark_model.specs.Marks.{Marks, overlay}
use Rattle.txn_access.specs.Steps.{past_count}
use Rattle.txn_access.specs.declared.presence.Search.{Search}

-- whether there is a child whose name stands above a leaf, an empty one standing below all
abbrev pub any_above : Name → Tree → Path → Bool
any_above leaf tree p = list_any (is_above leaf) (children tree p)

-- A step from a leaf: it passed a name where no node is seen, and no other one
pub record IsPast (tree : Tree) (marks : Marks) (p : Path) (leaf name : Name) : Type 0 where
  pub same : any_above leaf (overlay tree marks) p ≡ any_above name (overlay tree marks) p
  pub fewer : past_count p name marks < past_count p leaf marks

-- or it found whether there is one
abbrev pub IsSearchTo : Tree → Marks → Path → Name → Option (Bor Name) → Bool → Type 0
IsSearchTo tree marks p leaf None found = found ≡ any_above leaf (overlay tree marks) p
IsSearchTo tree marks p leaf (Some name) found = IsPast tree marks p leaf name.now

abbrev pub IsSearch : Tree → Marks → Path → Name → Search → Type 0
IsSearch tree marks p leaf step = IsSearchTo tree marks p leaf step.passed step.found
