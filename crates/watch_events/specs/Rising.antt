-- Paths in order, and the entries of a path's node through a change. This project's own.
use Rattle.std.specs.Prelude.{Bool, true, ◌&&◌, ◌||◌, List, [], ◌∷◌, if◌then◌else◌, Option, Some, None}
use Rattle.std.specs.Ordering.{is_lt}
use Rattle.xs_model.specs.declared.perm.Perm.{Perm}
use Rattle.xs_model.specs.Paths.{Path, path_cmp}
use Rattle.xs_model.specs.Trees.{Tree, is_present}
use Rattle.xs_model.specs.Watches.{event_perms}

-- whether each path stands behind the one before it
abbrev pub is_rising : List Path → Bool
is_rising [] = true
is_rising (p ∷ []) = true
is_rising (p ∷ q ∷ ps) = is_lt (path_cmp p q) && is_rising (q ∷ ps)

-- the entries by which an event at a path is judged, if it has a node before or after the change
abbrev pub perms_there : Tree → Tree → Path → Option (List Perm)
perms_there before after p = if is_present before p || is_present after p then Some (event_perms before after p) else None
