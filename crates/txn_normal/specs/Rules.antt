-- Which marks ask for one at the parent, of marks as they are told one by one. This project's own.
use Rattle.std.specs.Prelude.{Bool, false, not, ◌&&◌, List, [], if◌then◌else◌, Option, is_some}
use Rattle.xs_model.specs.Paths.{Path}
use Rattle.xs_model.specs.Trees.{Node, Tree, is_present}
use Rattle.mark_model.specs.Marks.{Mark}
use Rattle.kept_model.specs.Normal.{is_made, came_or_went, bool_differs, parent_or_root}
use Rattle.txn_access.specs.Entries.{Entry}
use Rattle.txn_access.specs.declared.entry.EntryKind.{EntryKind}
use Rattle.txn_access.specs.declared.entry.EntryKind.TheVariants as kind
use Rattle.txn_normal.specs.declared.parents.Rule.{Rule}
use Rattle.txn_normal.specs.declared.parents.Rule.TheVariants as rule

abbrev pub asks : Rule → Tree → Path → Mark → Bool
asks rule.Made tree = is_made tree
asks rule.CameOrWent tree = came_or_went tree

abbrev pub told_made : Tree → Path → EntryKind → Bool → Bool
told_made tree p kind.Seen others = false
told_made tree p kind.Wrote others = not others && not (is_present tree p)
told_made tree p kind.Gone others = false
told_made tree p kind.Kept others = false

abbrev pub told_came : Tree → Path → EntryKind → Option Node → Bool
told_came tree p kind.Seen old = false
told_came tree p kind.Wrote old = false
told_came tree p kind.Gone old = false
told_came tree p kind.Kept old = bool_differs (is_some old) (is_present tree p)

abbrev pub asks_told : Rule → Tree → Entry → Bool
asks_told rule.Made tree e = told_made tree e.0 e.1 e.2
asks_told rule.CameOrWent tree e = told_came tree e.0 e.1 e.3

-- the parent that a mark asks for, if it does
abbrev pub asked_at : Rule → Tree → Entry → List Path
asked_at rule tree e = if asks_told rule tree e then parent_or_root e.0 else []
