-- A mark told one by one: what its commands did at the path, whether others changed it, and a node. This project's own.
use Rattle.std.specs.Prelude.{◌≡◌, ⊤, Bool, true, false, Option, Some, None, is_some}
use Rattle.std.specs.Borrow.{Bor}
use Rattle.std.specs.Option.{option_copied}
use Rattle.mark_model.specs.Marks.{Mark, Seen, Changed, Wrote, Gone, Kept, is_changed}
use Rattle.xs_model.specs.Paths.{Path}
use Rattle.xs_model.specs.Trees.{Node}
use Rattle.txn_access.specs.declared.entry.EntryKind.{EntryKind}
use Rattle.txn_access.specs.declared.entry.EntryKind.TheVariants as kind

abbrev pub kind_of : Mark → EntryKind
kind_of Seen = kind.Seen
kind_of (Changed old) = kind.Seen
kind_of (Wrote others node) = kind.Wrote
kind_of (Gone others) = kind.Gone
kind_of (Kept old) = kind.Kept

-- the node that it was given, or else what stood there before others changed it
abbrev pub node_of : Mark → Option Node
node_of Seen = None
node_of (Changed old) = old
node_of (Wrote others node) = Some node
node_of (Gone others) = None
node_of (Kept old) = old

-- A path with its kind, whether others changed it, and the node, if there is one
abbrev pub Entry : Type 0
Entry = Path × EntryKind × Bool × Option Node

abbrev pub entry_of : Path × Mark → Entry
entry_of e = (e.0, kind_of e.1, is_changed (Some e.1), node_of e.1)

-- what references to its parts stand for
abbrev pub entry_at : Bor Path × EntryKind × Bool × Option (Bor Node) → Entry
entry_at e = (e.0.now, e.1, e.2, option_copied e.3)

-- THE OTHER WAY. The mark that is told so. Where a node is told with no kind to keep it, it is let go.
abbrev pub mark_by : EntryKind → Bool → Option Node → Mark
mark_by kind.Seen true told = Changed told
mark_by kind.Seen false _ = Seen
mark_by kind.Wrote changed (Some told) = Wrote changed told
mark_by kind.Wrote changed None = Gone changed
mark_by kind.Gone changed _ = Gone changed
mark_by kind.Kept _ told = Kept told

-- whether a mark may be told so
abbrev pub FitsKind : EntryKind → Bool → Option Node → Type 0
FitsKind kind.Seen _ _ = ⊤
FitsKind kind.Wrote _ told = is_some told ≡ true
FitsKind kind.Gone _ _ = ⊤
FitsKind kind.Kept changed _ = changed ≡ true
