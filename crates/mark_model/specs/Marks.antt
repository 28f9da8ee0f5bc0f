-- Marks: what a transaction keeps while it is open (xenstore.txt, "Transactions"). The tree stays where it is, and a
-- transaction keeps a mark at each path that matters to it. It sees the tree with its marks, so that a transaction that
-- did nothing keeps nothing. How it is kept is this project's own.
use Rattle.std.specs.Prelude.{◌≡◌, Bool, true, false, List, [], ◌∷◌, if◌then◌else◌, Option, Some, None, filter_map, is_some}
use Rattle.std.specs.List.{list_any}
use Rattle.std.specs.FinMap.{find, put, is_sorted}
use Rattle.xs_model.specs.Paths.{Path, Name, path_cmp, child}
use Rattle.xs_model.specs.Trees.{Node, Tree, IsTree, node_at, is_present, Edit, edited, edit_paths}

-- The node that stood at a path, or none, is that before the first change by others.
pub data Mark : Type 0 where
  -- its commands looked at the path
  Seen : Mark
  -- they looked at it, and others changed it: what stood there
  Changed : Option Node → Mark
  -- they gave it this node; whether others changed it
  Wrote : Bool → Node → Mark
  -- they removed it; whether others changed it
  Gone : Bool → Mark
  -- others changed it, and no command looked at it: what stood there
  Kept : Option Node → Mark

-- by path, in the order of the paths
abbrev pub Marks : Type 0
Marks = List (Path × Mark)

abbrev pub mark_at : Marks → Path → Option Mark
mark_at marks p = find path_cmp p marks

-- whether there is a mark that says that a command looked at the path or wrote it
abbrev pub is_accessed : Option Mark → Bool
is_accessed None = false
is_accessed (Some Seen) = true
is_accessed (Some (Changed old)) = true
is_accessed (Some (Wrote others node)) = true
is_accessed (Some (Gone others)) = true
is_accessed (Some (Kept old)) = false

-- whether there is one that says that others changed it
abbrev pub is_changed : Option Mark → Bool
is_changed None = false
is_changed (Some Seen) = false
is_changed (Some (Changed old)) = true
is_changed (Some (Wrote others node)) = others
is_changed (Some (Gone others)) = others
is_changed (Some (Kept old)) = true

-- WHAT IS SEEN. The node, or none, that a mark shows in the place of the tree's, if it shows one
abbrev pub shown : Mark → Option (Option Node)
shown Seen = None
shown (Changed old) = Some old
shown (Wrote others node) = Some (Some node)
shown (Gone others) = Some None
shown (Kept old) = Some old

-- what it makes of the tree's at a commit, if anything
abbrev pub written : Mark → Option (Option Node)
written Seen = None
written (Changed old) = None
written (Wrote others node) = Some (Some node)
written (Gone others) = Some None
written (Kept old) = None

abbrev pub edit_of : Path → Option (Option Node) → Option Edit
edit_of p None = None
edit_of p (Some new) = Some (p, new)

-- the edits that marks are, read in one of these two ways
abbrev pub edits_by : (Mark → Option (Option Node)) → Marks → List Edit
edits_by read marks = filter_map (λ e. edit_of e.0 (read e.1)) marks

-- the tree as the transaction sees it
abbrev pub overlay : Tree → Marks → Tree
overlay tree marks = edited tree (edits_by shown marks)

-- the tree once the transaction is committed, and the paths that this writes
abbrev pub committed : Tree → Marks → Tree
committed tree marks = edited tree (edits_by written marks)

abbrev pub written_paths : Marks → List Path
written_paths marks = edit_paths (edits_by written marks)

-- WHAT MARKS BECOME. Another one at a path, by the one that is there
abbrev pub remarked : (Option Mark → Mark) → Path → Marks → Marks
remarked become p marks = put path_cmp p (become (mark_at marks p)) marks

-- a command looked at the path
abbrev pub accessed_mark : Option Mark → Mark
accessed_mark None = Seen
accessed_mark (Some Seen) = Seen
accessed_mark (Some (Changed old)) = Changed old
accessed_mark (Some (Wrote others node)) = Wrote others node
accessed_mark (Some (Gone others)) = Gone others
accessed_mark (Some (Kept old)) = Changed old

-- a command gave it a node, or removed it
abbrev pub written_mark : Option Node → Bool → Mark
written_mark (Some new) others = Wrote others new
written_mark None others = Gone others

-- others changed it: what stood there just before
abbrev pub noted_mark : Option Node → Option Mark → Mark
noted_mark old None = Kept old
noted_mark old (Some Seen) = Changed old
noted_mark old (Some (Changed first)) = Changed first
noted_mark old (Some (Wrote others node)) = Wrote true node
noted_mark old (Some (Gone others)) = Gone true
noted_mark old (Some (Kept first)) = Kept first

abbrev pub access : Path → Marks → Marks
access = remarked accessed_mark

abbrev pub write : Path → Option Node → Marks → Marks
write p node = remarked (λ mark. written_mark node (is_changed mark)) p

abbrev pub note : Path → Option Node → Marks → Marks
note p old = remarked (noted_mark old) p

abbrev pub access_all : List Path → Marks → Marks
access_all [] marks = marks
access_all (p ∷ ps) marks = access_all ps (access p marks)

abbrev pub write_all : List Edit → Marks → Marks
write_all [] marks = marks
write_all (e ∷ es) marks = write_all es (write e.0 e.1 marks)

-- others changed these paths of a tree
abbrev pub note_all : Tree → List Path → Marks → Marks
note_all tree [] marks = marks
note_all tree (p ∷ ps) marks = note_all tree ps (note p (node_at tree p) marks)

-- CONFLICT: others changed a path that a command looked at or wrote
abbrev pub is_conflict : Mark → Bool
is_conflict Seen = false
is_conflict (Changed old) = true
is_conflict (Wrote others node) = others
is_conflict (Gone others) = others
is_conflict (Kept old) = false

abbrev pub has_conflict : Marks → Bool
has_conflict marks = list_any (λ e. is_conflict e.1) marks

-- the least path of them
abbrev pub first_conflict : Marks → Option Path
first_conflict [] = None
first_conflict (e ∷ marks) = if is_conflict e.1 then Some e.0 else first_conflict marks

-- MARKS OVER A TREE. What each open transaction keeps over the current tree: what it sees is a tree, and two facts more,
-- without which a commit would leave a node with no parent, or a list would show a child that the tree lacks
pub record AreOver (tree : Tree) (marks : Marks) : Type 0 where
  pub rising : is_sorted path_cmp marks ≡ true
  pub seen : IsTree (overlay tree marks)
  -- a node that it wrote, that nobody else changed and that the tree lacks, was made: its parent was looked at
  pub made : (p : Path) (n : Name) (node : Node) → mark_at marks (child p n) ≡ Some (Wrote false node)
      → is_present tree (child p n) ≡ false → is_accessed (mark_at marks p) ≡ true
  -- unless others changed the parent of a path too, the path is there if it was there before they changed it
  pub came : (p : Path) (n : Name) (old : Option Node) → mark_at marks (child p n) ≡ Some (Kept old)
      → is_changed (mark_at marks p) ≡ false → is_some old ≡ is_present tree (child p n)
