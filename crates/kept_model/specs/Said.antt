-- What a record says of a node (xenstore-migration.md, NODE_DATA). Accesses, and how entries are numbered, are this
-- project's own.
use Rattle.std.specs.Prelude.{ℕ, ◌%◌, ◌==◌, Bool, true, false, not, ◌&&◌, List, [], ◌∷◌, nat_le, if◌then◌else◌, Option, Some, None, option_map}
use Rattle.xs_model.specs.declared.perm.Letter.{Letter}
use Rattle.xs_model.specs.declared.perm.Letter.TheVariants.{N, R, W, B}
use Rattle.xs_model.specs.declared.perm.Perm.{Perm}
use Rattle.xs_model.specs.Requests.{◌>>=◌}
use Rattle.xs_model.specs.Trees.{Node}
use Rattle.mark_model.specs.Marks.{Mark, Changed, Wrote, Gone, Kept}
use Rattle.stream_model.specs.declared.record.RawPerm.{RawPerm}
use Rattle.stream_model.specs.Record.{NodeData}

-- what a record says that there is at a path of a transaction: a mark, or that its commands looked at this node or none
-- there, and nobody is said to have changed it
pub data Said : Type 0 where
  Is : Mark → Said
  Saw : Option Node → Said

abbrev pub is_empty : {A : Type 0} → List A → Bool
is_empty [] = true
is_empty (x ∷ xs) = false

-- ENTRIES. A letter by its byte
abbrev pub letter_of : ℕ → Option Letter
letter_of b =
    if b == 119 then Some W
    else (if b == 114 then Some R
    else (if b == 98 then Some B
    else (if b == 110 then Some N else None)))

abbrev pub letter_byte : Letter → ℕ
letter_byte W = 119
letter_byte R = 114
letter_byte B = 98
letter_byte N = 110

-- the flag 1 stands for a stale entry, and there is no other
abbrev pub stale_of : ℕ → Option Bool
stale_of flags = if flags == 0 then Some false else (if flags == 1 then Some true else None)

abbrev pub flags_of : Bool → ℕ
flags_of false = 0
flags_of true = 1

abbrev pub perm_of : RawPerm → Option Perm
perm_of raw = do
  letter ← letter_of raw.letter
  stale ← stale_of raw.flags
  Some (record { letter = letter; stale = stale; domid = raw.domid })

abbrev pub raw_of : Perm → RawPerm
raw_of perm = record { letter = letter_byte perm.letter; flags = flags_of perm.stale; domid = perm.domid }

-- each of them, or none at all
abbrev pub perms_of : List RawPerm → Option (List Perm)
perms_of [] = Some []
perms_of (raw ∷ raws) = do
  perm ← perm_of raw
  perms ← perms_of raws
  Some (perm ∷ perms)

-- ACCESSES. What the commands of a transaction did at a path, and whether others changed it
pub data Access : Type 0 where
  Looked : Bool → Access
  Gave : Bool → Access
  Removed : Bool → Access
  -- they did nothing, and others changed it
  Untouched : Access

abbrev pub access_by : Bool → ℕ → Option Access
access_by others low =
    if low == 0 then Some (Removed others)
    else (if low == 1 then Some (Looked others)
    else (if low == 2 then Some (Gave others)
    else (if low == 3 then Some (Gave others) else None)))

-- the highest of its 16 bits says that others changed it
abbrev pub access_of : ℕ → Option Access
access_of number = if number == 49152 then Some Untouched else access_by (nat_le 32768 number) (number % 32768)

-- NODES. A removal tells of no node, and its record's entries and value mean nothing
abbrev pub node_or_none : List ℕ → List Perm → Option Node
node_or_none value [] = None
node_or_none value (perm ∷ perms) = Some (record { value = value; perms = perm ∷ perms })

abbrev pub found_in : NodeData → Option (Option Node)
found_in d = option_map (node_or_none d.value) (perms_of d.perms)

abbrev pub found_by : Access → NodeData → Option (Option Node)
found_by (Looked others) d = found_in d
found_by (Gave others) d = found_in d
found_by (Removed others) d = Some None
found_by Untouched d = found_in d

-- a record without entries: where a node was given there must be some, and where none was found there is no value
abbrev pub lacks_entries : Access → NodeData → Bool
lacks_entries (Looked others) d = is_empty d.perms && not (is_empty d.value)
lacks_entries (Gave others) d = is_empty d.perms
lacks_entries (Removed others) d = false
lacks_entries Untouched d = is_empty d.perms && not (is_empty d.value)

-- that no node was given does not come
abbrev pub said_by : Access → Option Node → Said
said_by (Looked true) found = Is (Changed found)
said_by (Looked false) found = Saw found
said_by (Gave others) (Some node) = Is (Wrote others node)
said_by (Gave others) None = Is (Gone others)
said_by (Removed others) found = Is (Gone others)
said_by Untouched found = Is (Kept found)
