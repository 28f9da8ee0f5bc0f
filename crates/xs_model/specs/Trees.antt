-- The tree of nodes: a finite map from paths to nodes, as a list of entries in the order of their paths.
use Rattle.std.specs.Prelude.{◌≡◌, ℕ, Bool, true, false, not, List, [], ◌∷◌, if◌then◌else◌, Option, Some, None, is_some, filter_map}
use Rattle.std.specs.FinMap.{find, put, is_sorted}
use Rattle.std.specs.FinMap.Entries.{where_key}
use Rattle.std.specs.List.{AllByRecursion}
use Rattle.xs_model.specs.declared.perm.Perm.{Perm}
use Rattle.xs_model.specs.Paths.{Path, Name, path_cmp, same_path, child, names_below}
use Rattle.xs_model.specs.Perms.{new_root_perms}

-- a value and one or more permission entries
pub record Node : Type 0 where
  pub value : List ℕ
  pub perms : List Perm

abbrev pub Tree : Type 0
Tree = List (Path × Node)

abbrev pub node_at : Tree → Path → Option Node
node_at tree p = find path_cmp p tree

abbrev pub is_present : Tree → Path → Bool
is_present tree p = is_some (node_at tree p)

-- whether there is an entry
abbrev pub has_entry : List Perm → Bool
has_entry [] = false
has_entry (perm ∷ perms) = true

-- a new store: `/` alone, with an empty value
abbrev pub new_tree : Tree
new_tree = ([], record { value = []; perms = new_root_perms }) ∷ []

-- BELOW A NODE. The last name of q, if q is a child of p
abbrev pub only_name : Option (List Name) → Option Name
only_name None = None
only_name (Some []) = None
only_name (Some (n ∷ [])) = Some n
only_name (Some (n ∷ m ∷ ns)) = None

abbrev pub child_name : Path → Path → Option Name
child_name p q = only_name (names_below p q)

-- the names of p's children, rising
abbrev pub children : Tree → Path → List Name
children tree p = filter_map (λ e. child_name p e.0) tree

abbrev pub if_below : Path → Path → Option Path
if_below p q = if is_some (names_below p q) then Some q else None

-- p and every path below it that is there, rising
abbrev pub all_below : Tree → Path → List Path
all_below tree p = filter_map (λ e. if_below p e.0) tree

-- EDITS. A path, with the node that it gets, or none where it is removed
abbrev pub Edit : Type 0
Edit = Path × Option Node

abbrev pub edited_at : Tree → Path → Option Node → Tree
edited_at tree p (Some node) = put path_cmp p node tree
edited_at tree p None = where_key path_cmp (λ q. not (same_path p q)) tree

-- the tree after edits, the first one first
abbrev pub edited : Tree → List Edit → Tree
edited tree [] = tree
edited tree (e ∷ es) = edited (edited_at tree e.0 e.1) es

-- the paths that edits wrote
abbrev pub edit_paths : List Edit → List Path
edit_paths [] = []
edit_paths (e ∷ es) = e.0 ∷ edit_paths es

-- A tree holds `/` and the parent of each of its other paths, its paths stand in order, and each node has an entry.
pub record IsTree (tree : Tree) : Type 0 where
  pub rising : is_sorted path_cmp tree ≡ true
  pub root : is_present tree [] ≡ true
  pub parents : (p : Path) (n : Name) → is_present tree (child p n) ≡ true → is_present tree p ≡ true
  pub perms : AllByRecursion (λ e. has_entry e.1.perms ≡ true) tree
