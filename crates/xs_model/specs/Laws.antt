-- The laws above the definitions of this crate, as statements. Each is proved of a function in `src/laws.rt`.
use Rattle.std.specs.Prelude.{◌≡◌, ◌≤◌, length, ◌+◌, ◌<◌, ◌==◌, ◌≢◌, if◌then◌else◌, ℕ, Bool, true, false, List, [], Some, Ok, Err, map}
use Rattle.std.specs.List.{AllByRecursion}
use Rattle.std.specs.Ordering.{nat_cmp, is_le}
use Rattle.std.specs.Cmp.Lexicographic.{slice_cmp}
use Rattle.std.specs.declared.cmp.Ordering.{Ordering}
use Rattle.xs_model.specs.declared.message.WireErr.{WireErr}
use Rattle.xs_model.specs.Paths.{Path, Name, path_cmp, is_below, text, path_of}
use Rattle.xs_model.specs.Perms.{Caller, rights_of, perm_text}
use Rattle.xs_model.specs.Trees.{Node, Tree, node_at, is_present, children, IsTree}
use Rattle.xs_model.specs.Messages.{strings}
use Rattle.xs_model.specs.Requests.{Operation, Directory, Read, GetPerms, Write, Mkdir, Rm, SetPerms, DirectoryPart}
use Rattle.xs_model.specs.Commands.{command, part_payload}

-- ORDER. Texts by their bytes, with a slash below every other byte
abbrev pub byte_rank : ℕ → ℕ
byte_rank b = if b == 47 then 0 else b + 1

abbrev pub byte_cmp : ℕ → ℕ → Ordering
byte_cmp a b = nat_cmp (byte_rank a) (byte_rank b)

abbrev pub text_cmp : List ℕ → List ℕ → Ordering
text_cmp = slice_cmp byte_cmp

-- a name that a path may have: a byte or more, and no slash among them
pub record IsName (n : Name) : Type 0 where
  pub filled : 0 < length n
  pub no_slash : AllByRecursion (λ b. b ≢ 47) n

abbrev pub HasNames : Path → Type 0
HasNames p = AllByRecursion IsName p

abbrev pub SpelledPathsHaveNames : Type 0
SpelledPathsHaveNames = (bytes : List ℕ) (domid : ℕ) (p : Path) → path_of bytes domid ≡ Ok p → HasNames p

-- the order of paths is the order of their texts
abbrev pub PathOrderIsTextOrder : Type 0
PathOrderIsTextOrder = (p q : Path) → HasNames p → HasNames q → path_cmp p q ≡ text_cmp (text p) (text q)

-- what stands between two paths at or below a path is at or below it
abbrev pub PathsBelowStandTogether : Type 0
PathsBelowStandTogether =
    (a p q r : Path) → is_below a p ≡ true → is_below a r ≡ true → is_le (path_cmp p q) ≡ true → is_le (path_cmp q r) ≡ true → is_below a q ≡ true

abbrev pub PathsStandBeforeThoseBelow : Type 0
PathsStandBeforeThoseBelow = (a q : Path) → is_below a q ≡ true → is_le (path_cmp a q) ≡ true

-- TREES. A command on a tree, whatever it answers, leaves a tree
abbrev pub EachCommandKeepsTrees : Type 0
EachCommandKeepsTrees =
    (operation : Operation) (path : Path) (caller : Caller) (number : ℕ) (tree : Tree) → IsTree tree → IsTree (command operation path caller number tree).tree

-- SIZES. A path whose text is within the limit of absolute paths
abbrev pub IsShort : Path → Type 0
IsShort p = length (text p) ≤ 3072

-- each path of a tree is short
abbrev pub HasShortPaths : Tree → Type 0
HasShortPaths tree = (p : Path) → is_present tree p ≡ true → IsShort p

abbrev pub SpelledPathsAreShort : Type 0
SpelledPathsAreShort = (bytes : List ℕ) (domid : ℕ) (p : Path) → path_of bytes domid ≡ Ok p → IsShort p

abbrev pub EachCommandKeepsPathsShort : Type 0
EachCommandKeepsPathsShort =
    (operation : Operation) (path : Path) (caller : Caller) (number : ℕ) (tree : Tree) → IsShort path → HasShortPaths tree
    → HasShortPaths (command operation path caller number tree).tree

-- a reply payload of a command has at most 4096 bytes
abbrev pub EachReplyIsShort : Type 0
EachReplyIsShort =
    (operation : Operation) (path : Path) (caller : Caller) (number : ℕ) (tree : Tree) (payload : List ℕ)
    → (command operation path caller number tree).reply ≡ Ok payload → length payload ≤ 4096

-- RIGHTS. The commands that give data
abbrev pub is_reading : Operation → Bool
is_reading Directory = true
is_reading Read = true
is_reading GetPerms = true
is_reading (Write value) = false
is_reading Mkdir = false
is_reading Rm = false
is_reading (SetPerms perms) = false
is_reading (DirectoryPart offset) = true

-- the data of the node at a path that a command gives
abbrev pub data_of : Operation → ℕ → Tree → Path → Node → List ℕ
data_of Directory number tree path node = strings (children tree path)
data_of Read number tree path node = node.value
data_of GetPerms number tree path node = strings (map perm_text node.perms)
data_of (Write value) number tree path node = []
data_of Mkdir number tree path node = []
data_of Rm number tree path node = []
data_of (SetPerms perms) number tree path node = []
data_of (DirectoryPart offset) number tree path node = part_payload number offset (strings (children tree path))

-- the payload is the data of the node at the path, and the caller may read that node
pub record IsGiven (operation : Operation) (number : ℕ) (tree : Tree) (path : Path) (caller : Caller) (payload : List ℕ) : Type 0 where
  pub node : Node
  pub there : node_at tree path ≡ Some node
  pub right : (rights_of caller node.perms).can_read ≡ true
  pub whole : payload ≡ data_of operation number tree path node

abbrev pub DataIsForReaders : Type 0
DataIsForReaders =
    (operation : Operation) (path : Path) (caller : Caller) (number : ℕ) (tree : Tree) (payload : List ℕ) → is_reading operation ≡ true
    → (command operation path caller number tree).reply ≡ Ok payload → IsGiven operation number tree path caller payload

-- a refused command wrote nothing, and leaves the tree as it was
abbrev pub RefusalsChangeNothing : Type 0
RefusalsChangeNothing =
    (operation : Operation) (path : Path) (caller : Caller) (number : ℕ) (tree : Tree) (error : WireErr)
    → (command operation path caller number tree).reply ≡ Err error
    → ((command operation path caller number tree).tree ≡ tree) × ((command operation path caller number tree).written ≡ [])
