-- Paths (xenstore.txt, "Paths" and the permitted characters). A path is the list of the names that lead to a
-- node from the root; `/` is the empty list. The limits and the order of faults are this project's own where
-- that document leaves them open.
use Rattle.std.specs.Prelude.{ℕ, ◌+◌, ◌-◌, ◌==◌, Bool, false, not, ◌&&◌, ◌||◌, List, [], ◌∷◌, ◌++◌, length, take, slice_index, nat_le, nat_lt, if◌then◌else◌, Option, Some, None, Result, Ok, Err, codes, decimal, is_some}
use Rattle.std.specs.Ordering.{nat_cmp, is_eq}
use Rattle.std.specs.Cmp.Lexicographic.{slice_cmp}
use Rattle.std.specs.declared.cmp.Ordering.{Ordering}
use Rattle.std.specs.List.{list_any}
use Rattle.xs_model.specs.declared.path.PathFault.{PathFault}
use Rattle.xs_model.specs.declared.path.PathFault.TheVariants.{Empty, TooLong, BadByte, DoubleSlash, TrailingSlash}

-- a name: the bytes between two slashes
abbrev pub Name : Type 0
Name = List ℕ

abbrev pub Path : Type 0
Path = List Name

-- ORDER. Names in the order of their bytes, and a node before all nodes below it.
abbrev pub name_cmp : Name → Name → Ordering
name_cmp = slice_cmp nat_cmp

abbrev pub path_cmp : Path → Path → Ordering
path_cmp = slice_cmp name_cmp

abbrev pub same_name : Name → Name → Bool
same_name m n = is_eq (name_cmp m n)

abbrev pub same_path : Path → Path → Bool
same_path p q = is_eq (path_cmp p q)

-- whether a set of paths, given as a list, has the path
abbrev pub has_path : Path → List Path → Bool
has_path p ps = list_any (same_path p) ps

-- UP AND DOWN. The path of a name below p
abbrev pub child : Path → Name → Path
child p n = p ++ n ∷ []

-- the path without its last name, in a list; `/` has none
abbrev pub parents : Path → List Path
parents [] = []
parents (n ∷ ns) = take (length ns) (n ∷ ns) ∷ []

-- the names that lead from p down to q, where q is p or below it
abbrev pub names_below : Path → Path → Option (List Name)
names_below [] q = Some q
names_below (m ∷ p) [] = None
names_below (m ∷ p) (n ∷ q) = if same_name m n then names_below p q else None

-- whether q is p or below it
abbrev pub is_below : Path → Path → Bool
is_below p q = is_some (names_below p q)

-- p, and the paths on the way down from it by these names
abbrev pub way_down : Path → List Name → List Path
way_down p [] = p ∷ []
way_down p (n ∷ ns) = p ∷ way_down (child p n) ns

-- TEXT. A slash before each name, or a slash alone
abbrev pub names_text : Path → List ℕ
names_text [] = []
names_text (n ∷ ns) = (47 ∷ n) ++ names_text ns

abbrev pub text : Path → List ℕ
text [] = 47 ∷ []
text (n ∷ ns) = names_text (n ∷ ns)

-- where a domain's relative paths begin: `/local/domain/<domid>`
abbrev pub home : ℕ → Path
home domid = codes "local" ∷ codes "domain" ∷ decimal domid ∷ []

-- READING. ASCII letters, digits, `-`, `/`, `_` and `@`
abbrev pub is_path_byte : ℕ → Bool
is_path_byte b =
    (nat_le 97 b && nat_le b 122) || (nat_le 65 b && nat_le b 90) || (nat_le 48 b && nat_le b 57) || b == 45 || b == 47 || b == 95 || b == 64

-- whether the bytes are those of an absolute path
abbrev pub is_absolute : List ℕ → Bool
is_absolute [] = false
is_absolute (b ∷ bs) = b == 47

-- the most bytes that a path may have
abbrev pub path_limit : List ℕ → ℕ
path_limit bytes = if is_absolute bytes then 3072 else 2048

-- The leftmost place at fault in bytes that begin at place `at`, behind the byte `before` (0 at the start): a byte
-- that no path has, `@` in front, or the second of two slashes
abbrev pub fault_from : ℕ → ℕ → List ℕ → Option PathFault
fault_from at before [] = None
fault_from at before (b ∷ bs) =
    if not (is_path_byte b) || (at == 0 && b == 64) then Some (BadByte at)
    else (if before == 47 && b == 47 then Some (DoubleSlash at) else fault_from (at + 1) b bs)

-- a last slash, in any path but `/`
abbrev pub trailing_fault : List ℕ → Option PathFault
trailing_fault bytes =
    if nat_lt 1 (length bytes) && slice_index bytes (length bytes - 1) == 47 then Some TrailingSlash else None

-- the first fault of two, the second counting where the first is none
abbrev pub or_else : Option PathFault → Option PathFault → Option PathFault
or_else (Some fault) other = Some fault
or_else None other = other

-- the first fault of a path's bytes
abbrev pub path_fault : List ℕ → Option PathFault
path_fault [] = Some Empty
path_fault (b ∷ bs) =
    if nat_lt (path_limit (b ∷ bs)) (length (b ∷ bs)) then Some (TooLong (length (b ∷ bs)))
    else or_else (fault_from 0 0 (b ∷ bs)) (trailing_fault (b ∷ bs))

-- a byte before the first of some names
abbrev pub onto_first : ℕ → List Name → List Name
onto_first b [] = (b ∷ []) ∷ []
onto_first b (n ∷ ns) = (b ∷ n) ∷ ns

-- the names between the slashes of a text
abbrev pub split_names : List ℕ → List Name
split_names [] = [] ∷ []
split_names (b ∷ bs) = if b == 47 then [] ∷ split_names bs else onto_first b (split_names bs)

-- the path that an absolute text spells
abbrev pub absolute_path : List ℕ → Path
absolute_path [] = []
absolute_path (b ∷ []) = []
absolute_path (b ∷ c ∷ bs) = split_names (c ∷ bs)

-- the path that bytes without a fault spell for a domain
abbrev pub spelled_path : List ℕ → ℕ → Path
spelled_path bytes domid = if is_absolute bytes then absolute_path bytes else home domid ++ split_names bytes

abbrev pub path_unless : Option PathFault → List ℕ → ℕ → Result Path PathFault
path_unless (Some fault) bytes domid = Err fault
path_unless None bytes domid = Ok (spelled_path bytes domid)

-- the path that a domain's bytes are, or their first fault
abbrev pub path_of : List ℕ → ℕ → Result Path PathFault
path_of bytes domid = path_unless (path_fault bytes) bytes domid
