-- The eight tree commands (xenstore.txt, "Database read, write and permissions operations"). What a command sees of
-- the tree is a few facts about its path; what it does is a reply and some edits. The order of checks, the answers at
-- an absent path, the two sets of paths, and how DIRECTORY_PART cuts a list are this project's own.
use Rattle.std.specs.Prelude.{ℕ, ◌-◌, ◌==◌, Bool, false, not, ◌&&◌, ◌||◌, List, [], ◌∷◌, ◌++◌, length, take, drop, nat_lt, if◌then◌else◌, Option, Some, None, Result, Ok, Err, map, decimal}
use Rattle.xs_model.specs.declared.perm.Perm.{Perm}
use Rattle.xs_model.specs.declared.perm.Rights.{Rights}
use Rattle.xs_model.specs.declared.message.WireErr.{WireErr}
use Rattle.xs_model.specs.declared.message.WireErr.TheVariants.{Einval, Eacces, Enoent, E2big}
use Rattle.xs_model.specs.declared.message.TheConstants.{PAYLOAD_MAX}
use Rattle.xs_model.specs.Paths.{Path, Name, way_down}
use Rattle.xs_model.specs.Perms.{Caller, rights_of, created_perms, perm_text}
use Rattle.xs_model.specs.Trees.{Node, Tree, node_at, is_present, children, all_below, has_entry, Edit, edited, edit_paths}
use Rattle.xs_model.specs.Messages.{string, strings, ok_payload}
use Rattle.xs_model.specs.Requests.{Operation, Directory, Read, GetPerms, Write, Mkdir, Rm, SetPerms, DirectoryPart, is_root}

-- WHAT A COMMAND SEES. Of the paths on a way down, those from the first absent one on
abbrev pub absent_of : Tree → List Path → List Path
absent_of tree [] = []
absent_of tree (p ∷ ps) = if is_present tree p then absent_of tree ps else p ∷ ps

-- of the paths on a way down, the last one before the first absent one, or else `above`
abbrev pub nearest_of : Tree → Path → List Path → Path
nearest_of tree above [] = above
nearest_of tree above (p ∷ ps) = if is_present tree p then nearest_of tree p ps else above

abbrev pub node_or_empty : Option Node → Node
node_or_empty None = record { value = []; perms = [] }
node_or_empty (Some node) = node

pub record Sight : Type 0 where
  -- the nearest present path at or above the command's path, and its node
  pub nearest : Path
  pub node : Node
  -- the absent paths from below it down to the command's path: none where that is present
  pub absent : List Path
  -- the names of the children, for DIRECTORY and DIRECTORY_PART alone
  pub names : List Name
  -- the number that DIRECTORY_PART shows, which tells whether the list changed between two parts
  pub number : ℕ

abbrev pub seen_names : Operation → Tree → Path → List Name
seen_names Directory tree path = children tree path
seen_names Read tree path = []
seen_names GetPerms tree path = []
seen_names (Write value) tree path = []
seen_names Mkdir tree path = []
seen_names Rm tree path = []
seen_names (SetPerms perms) tree path = []
seen_names (DirectoryPart offset) tree path = children tree path

-- the sight of what lies on the way down to a path
abbrev pub sight_on : Operation → ℕ → Tree → Path → List Path → Sight
sight_on operation number tree path way = record {
  nearest = nearest_of tree [] way;
  node = node_or_empty (node_at tree (nearest_of tree [] way));
  absent = absent_of tree way;
  names = seen_names operation tree path;
  number = number;
}

abbrev pub sight_of : Operation → ℕ → Tree → Path → Sight
sight_of operation number tree path = sight_on operation number tree path (way_down [] path)

-- WHAT IT ANSWERS. A reply payload or an error, and the edits
pub record Answer : Type 0 where
  pub reply : Result (List ℕ) WireErr
  pub edits : List Edit

abbrev pub refusal : WireErr → Answer
refusal error = record { reply = Err error; edits = [] }

abbrev pub success : List Edit → Answer
success edits = record { reply = Ok ok_payload; edits = edits }

-- a reply that is longer than a payload may be is refused
abbrev pub sized : List ℕ → Result (List ℕ) WireErr
sized payload = if nat_lt PAYLOAD_MAX (length payload) then Err E2big else Ok payload

-- at an absent path: whoever may not read the nearest node does not learn that the path is absent
abbrev pub absent_refusal : Rights → Answer
absent_refusal rights = if rights.can_read then refusal Enoent else refusal Eacces

-- data of a node, for those who may read it
abbrev pub shown : Rights → List ℕ → Answer
shown rights payload = if rights.can_read then record { reply = sized payload; edits = [] } else refusal Eacces

-- data of a node, with what lies absent on the way to it
abbrev pub looked_up : Rights → List ℕ → List Path → Answer
looked_up rights payload [] = shown rights payload
looked_up rights payload (p ∷ ps) = absent_refusal rights

-- A PART OF A LIST. Bytes up to their last NUL
abbrev pub onto_kept : ℕ → List ℕ → List ℕ
onto_kept b [] = if b == 0 then b ∷ [] else []
onto_kept b (c ∷ cs) = b ∷ c ∷ cs

abbrev pub up_to_last_nul : List ℕ → List ℕ
up_to_last_nul [] = []
up_to_last_nul (b ∷ bs) = onto_kept b (up_to_last_nul bs)

-- The number, and of the list from the offset on as many whole names as the payload takes. The list ends with an empty
-- name, so that a reader knows the last part.
abbrev pub part_of_list : List ℕ → List ℕ → List ℕ
part_of_list head list = head ++ up_to_last_nul (take (PAYLOAD_MAX - length head) (string list))

abbrev pub part_payload : ℕ → ℕ → List ℕ → List ℕ
part_payload number offset list = part_of_list (string (decimal number)) (drop offset list)

abbrev pub part_shown : Rights → ℕ → ℕ → List ℕ → Answer
part_shown rights number offset list =
    if not rights.can_read then refusal Eacces
    else (if nat_lt (length list) offset then refusal Einval else shown rights (part_payload number offset list))

abbrev pub part_answer : Rights → ℕ → ℕ → List ℕ → List Path → Answer
part_answer rights number offset list [] = part_shown rights number offset list
part_answer rights number offset list (p ∷ ps) = absent_refusal rights

-- new nodes on the way down: empty ones, and the last with the value
abbrev pub creation : List Perm → List ℕ → List Path → List Edit
creation perms value [] = []
creation perms value (p ∷ []) = (p, Some (record { value = value; perms = perms })) ∷ []
creation perms value (p ∷ q ∷ ps) = (p, Some (record { value = []; perms = perms })) ∷ creation perms value (q ∷ ps)

-- edits, for those who may write the node
abbrev pub written_by : Rights → List Edit → Answer
written_by rights edits = if rights.can_write then success edits else refusal Eacces

-- a value for a path that is present, or whose missing nodes are created
abbrev pub write_edits : Caller → Sight → List ℕ → Path → List Path → List Edit
write_edits caller sight value path [] = (path, Some (record { value = value; perms = sight.node.perms })) ∷ []
write_edits caller sight value path (p ∷ ps) = creation (created_perms caller.domid sight.node.perms) value (p ∷ ps)

abbrev pub mkdir_edits : Caller → Sight → List Path → List Edit
mkdir_edits caller sight absent = creation (created_perms caller.domid sight.node.perms) [] absent

abbrev pub removals : List Path → List Edit
removals paths = map (λ p. (p, None)) paths

-- an absent path whose parent is present counts as removed already
abbrev pub rm_absent : Rights → List Path → Answer
rm_absent rights [] = success []
rm_absent rights (p ∷ []) = if rights.can_read then success [] else refusal Eacces
rm_absent rights (p ∷ q ∷ ps) = absent_refusal rights

abbrev pub rm_answer : Rights → List Path → List Path → Answer
rm_answer rights [] below = written_by rights (removals below)
rm_answer rights (p ∷ ps) below = rm_absent rights (p ∷ ps)

-- the domain of the first entry
abbrev pub owner_of : List Perm → ℕ
owner_of [] = 0
owner_of (first ∷ later) = first.domid

-- a guest can't give its node away
abbrev pub gives_away : Caller → List Perm → List Perm → Bool
gives_away caller old new = not (caller.domid == 0) && not (owner_of new == owner_of old)

abbrev pub set_perms_present : Caller → Rights → Node → List Perm → Path → Answer
set_perms_present caller rights node perms path =
    if not rights.owner || gives_away caller node.perms perms then refusal Eacces
    else success ((path, Some (record { value = node.value; perms = perms })) ∷ [])

abbrev pub set_perms_answer : Caller → Rights → Node → List Perm → Path → List Path → Answer
set_perms_answer caller rights node perms path [] = set_perms_present caller rights node perms path
set_perms_answer caller rights node perms path (p ∷ ps) = absent_refusal rights

-- The answer to a command that may have it, by the rights at the nearest node, what is seen, and the present paths at
-- and below the command's path
abbrev pub permitted : Operation → Caller → Rights → Sight → Path → List Path → Answer
permitted Directory caller rights sight path below = looked_up rights (strings sight.names) sight.absent
permitted Read caller rights sight path below = looked_up rights sight.node.value sight.absent
permitted GetPerms caller rights sight path below = looked_up rights (strings (map perm_text sight.node.perms)) sight.absent
permitted (Write value) caller rights sight path below = written_by rights (write_edits caller sight value path sight.absent)
permitted Mkdir caller rights sight path below = written_by rights (mkdir_edits caller sight sight.absent)
permitted Rm caller rights sight path below = rm_answer rights sight.absent below
permitted (SetPerms perms) caller rights sight path below = set_perms_answer caller rights sight.node perms path sight.absent
permitted (DirectoryPart offset) caller rights sight path below =
    part_answer rights sight.number offset (strings sight.names) sight.absent

-- RM of `/`, and SET_PERMS to no entries, which no payload asks for
abbrev pub is_out_of_form : Operation → Path → Bool
is_out_of_form Directory path = false
is_out_of_form Read path = false
is_out_of_form GetPerms path = false
is_out_of_form (Write value) path = false
is_out_of_form Mkdir path = false
is_out_of_form Rm path = is_root path
is_out_of_form (SetPerms perms) path = not (has_entry perms)
is_out_of_form (DirectoryPart offset) path = false

abbrev pub answer : Operation → Caller → Sight → Path → List Path → Answer
answer operation caller sight path below =
    if is_out_of_form operation path then refusal Einval
    else permitted operation caller (rights_of caller sight.node.perms) sight path below

-- A WHOLE COMMAND: its reply, the tree after it, the paths that it looked at whatever the answer, and those that it
-- created, set or removed. The number is what DIRECTORY_PART shows; no other command looks at it.
pub record Outcome : Type 0 where
  pub reply : Result (List ℕ) WireErr
  pub tree : Tree
  pub touched : List Path
  pub written : List Path

abbrev pub outcome_of : Tree → Sight → Answer → Outcome
outcome_of tree sight given = record {
  reply = given.reply;
  tree = edited tree given.edits;
  touched = sight.nearest ∷ sight.absent;
  written = edit_paths given.edits;
}

abbrev pub answer_on : Operation → Path → Caller → ℕ → Tree → Answer
answer_on operation path caller number tree =
    answer operation caller (sight_of operation number tree path) path (all_below tree path)

-- the edits that a command makes
abbrev pub command_edits : Operation → Path → Caller → ℕ → Tree → List Edit
command_edits operation path caller number tree = (answer_on operation path caller number tree).edits

abbrev pub command : Operation → Path → Caller → ℕ → Tree → Outcome
command operation path caller number tree =
    outcome_of tree (sight_of operation number tree path) (answer_on operation path caller number tree)
