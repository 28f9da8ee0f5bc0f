-- Watches and the events that they are owed (xenstore.txt, "Watches"). Which paths of a change have events, their
-- order, and who may have them is this project's own.
use Rattle.std.specs.Prelude.{ℕ, ◌+◌, ◌==◌, Bool, false, not, ◌&&◌, ◌||◌, List, [], ◌∷◌, ◌++◌, length, drop, map, filter, filter_map, if◌then◌else◌, Option, Some, None}
use Rattle.std.specs.List.{list_all}
use Rattle.std.specs.Str.{bytes_eq}
use Rattle.std.specs.FinMap.{put}
use Rattle.xs_model.specs.declared.perm.Perm.{Perm}
use Rattle.xs_model.specs.declared.message.kind.TheConstants.{WATCH_EVENT}
use Rattle.xs_model.specs.Paths.{Path, path_cmp, same_path, is_below, parents, text, home, is_absolute, path_of}
use Rattle.xs_model.specs.Perms.{Caller, rights_of}
use Rattle.xs_model.specs.Trees.{Node, Tree, node_at, is_present}
use Rattle.xs_model.specs.Messages.{Message, string}
use Rattle.xs_model.specs.Requests.{ok_value}

-- what a connection asked to hear of, as it gave it
pub record Watch : Type 0 where
  pub wpath : List ℕ
  pub token : List ℕ

abbrev pub same_watch : Watch → Watch → Bool
same_watch v w = bytes_eq v.wpath w.wpath && bytes_eq v.token w.token

-- the node that a domain's watch is on; a special path is none
abbrev pub watched_path : ℕ → Watch → Option Path
watched_path domid w = ok_value (path_of w.wpath domid)

-- EVENTS. Something happened at a path. An exact event, at a node that went with its parent, is for watches on that
-- node alone; a broad one is also for watches above it.
pub record Event : Type 0 where
  pub path : Path
  pub exact : Bool

abbrev pub reaches : Event → Path → Bool
reaches event watched = if event.exact then same_path watched event.path else is_below watched event.path

abbrev pub reaches_watched : Event → Option Path → Bool
reaches_watched event None = false
reaches_watched event (Some watched) = reaches event watched

abbrev pub matches : ℕ → Event → Watch → Bool
matches domid event w = reaches_watched event (watched_path domid w)

-- the paths of a list in order, each once
abbrev pub as_set : List Path → List (Path × Unit {0})
as_set [] = []
as_set (p ∷ ps) = put path_cmp p tt (as_set ps)

abbrev pub in_order : List Path → List Path
in_order ps = map (λ e. e.0) (as_set ps)

-- whether the path is gone together with its parent
abbrev pub is_gone_with_parent : Tree → Path → Bool
is_gone_with_parent tree p = not (is_present tree p) && list_all (λ q. not (is_present tree q)) (parents p)

abbrev pub event_at : Tree → Tree → Path → Option Event
event_at before after p =
    if is_present before p || is_present after p then Some (record { path = p; exact = is_gone_with_parent after p }) else None

-- the events of a change that wrote these paths, rising
abbrev pub events : Tree → List Path → Tree → List Event
events before written after = filter_map (event_at before after) (in_order written)

-- the entries of a path's node after the change, or before it where the node is gone
abbrev pub perms_or : List Perm → Option Node → List Perm
perms_or perms None = perms
perms_or perms (Some node) = node.perms

abbrev pub event_perms : Tree → Tree → Path → List Perm
event_perms before after p = perms_or (perms_or [] (node_at before p)) (node_at after p)

-- WHAT IS SENT. The path as the watch names paths: whole, or from the domain's home on
abbrev pub named_path : ℕ → Watch → Path → List ℕ
named_path domid w p = if is_absolute w.wpath then text p else drop (length (text (home domid)) + 1) (text p)

abbrev pub event_message : List ℕ → List ℕ → Message
event_message path token = record { kind = WATCH_EVENT; req_id = 0; tx_id = 0; payload = string path ++ string token }

-- the messages for one event, in the order in which the watches were made, where the caller may read the node
abbrev pub owed : Caller → List Watch → Event → List Perm → List Message
owed caller watches event perms =
    if (rights_of caller perms).can_read
    then map (λ w. event_message (named_path caller.domid w event.path) w.token) (filter (matches caller.domid event) watches)
    else []

-- The messages for a special event. Only domain 0 is owed them.
abbrev pub special_owed : Caller → List Watch → List ℕ → List Message
special_owed caller watches special =
    if caller.domid == 0 then map (λ w. event_message special w.token) (filter (λ w. bytes_eq w.wpath special) watches) else []

-- the first event of a new watch: the path as given
abbrev pub first_event : Watch → Message
first_event w = event_message w.wpath w.token
