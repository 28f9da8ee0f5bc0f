-- How a mark's record tells what is told of the mark. This project's own.
use Rattle.std.specs.Prelude.{ℕ, Bool, true, false, List, Option}
use Rattle.xs_model.specs.Paths.{Path}
use Rattle.xs_model.specs.Trees.{Node, Tree, node_at}
use Rattle.stream_model.specs.Spelling.{canonical_record}
use Rattle.kept_model.specs.Sound.{FoundFits}
use Rattle.kept_model.specs.Images.{access_number, found_record}
use Rattle.txn_access.specs.Entries.{Entry}
use Rattle.txn_access.specs.declared.entry.EntryKind.{EntryKind}
use Rattle.txn_access.specs.declared.entry.EntryKind.TheVariants as kind

abbrev pub told_access : EntryKind → Bool → ℕ
told_access kind.Seen changed = access_number changed 1
told_access kind.Wrote changed = access_number changed 2
told_access kind.Gone changed = access_number changed 0
told_access kind.Kept changed = 49152

-- a path that was looked at and that nobody changed has the node that stands there
abbrev pub told_node : Tree → Path → EntryKind → Bool → Option Node → Option Node
told_node tree p kind.Seen false given = node_at tree p
told_node tree p kind.Seen true given = given
told_node tree p kind.Wrote changed given = given
told_node tree p kind.Gone changed given = given
told_node tree p kind.Kept changed given = given

abbrev pub told_text : Tree → ℕ → ℕ → Entry → List ℕ
told_text tree c tx t = canonical_record (found_record c tx (told_access t.1 t.2) t.0 (told_node tree t.0 t.1 t.2 t.3))

abbrev pub ToldFits : Tree → Entry → Type 0
ToldFits tree t = FoundFits (told_node tree t.0 t.1 t.2 t.3)
