-- Who may change what: a command changes nodes only where its caller may.
use Rattle.std.specs.Prelude.{◌≡◌, ℕ, true, false, Some, ◌⊎◌}
use Rattle.xs_model.specs.declared.perm.Rights.{Rights}
use Rattle.xs_model.specs.Paths.{Path, has_path, is_below}
use Rattle.xs_model.specs.Perms.{Caller, rights_of}
use Rattle.xs_model.specs.Trees.{Node, Tree, node_at, is_present, IsTree}
use Rattle.xs_model.specs.Requests.{Operation, Directory, Read, GetPerms, Write, Mkdir, Rm, SetPerms, DirectoryPart}
use Rattle.xs_model.specs.Commands.{command}

-- what right a change wants at the node that decides
abbrev pub MayChange : Operation → Rights → Type 0
MayChange Directory rights = ⊥
MayChange Read rights = ⊥
MayChange GetPerms rights = ⊥
MayChange (Write value) rights = rights.can_write ≡ true
MayChange Mkdir rights = rights.can_write ≡ true
MayChange Rm rights = rights.can_write ≡ true
MayChange (SetPerms perms) rights = rights.owner ≡ true
MayChange (DirectoryPart offset) rights = ⊥

-- where the path q lies that was written: the path of the command, or for WRITE and MKDIR an absent one on the way down to
-- it, or for RM one at or below it. `nearest` is the present path at or nearest above the command's.
abbrev pub IsReached : Operation → Tree → Path → Path → Path → Type 0
IsReached Directory tree nearest path q = ⊥
IsReached Read tree nearest path q = ⊥
IsReached GetPerms tree nearest path q = ⊥
IsReached (Write value) tree nearest path q = ((nearest ≡ path) × (q ≡ path)) ⊎ ((is_below nearest q ≡ true) × ((is_below q path ≡ true) × (is_present tree q ≡ false)))
IsReached Mkdir tree nearest path q = (is_below nearest q ≡ true) × ((is_below q path ≡ true) × (is_present tree q ≡ false))
IsReached Rm tree nearest path q = (nearest ≡ path) × (is_below path q ≡ true)
IsReached (SetPerms perms) tree nearest path q = (nearest ≡ path) × (q ≡ path)
IsReached (DirectoryPart offset) tree nearest path q = ⊥

-- the present path at or nearest above a path
pub record IsNearest (tree : Tree) (path nearest : Path) : Type 0 where
  pub above : is_below nearest path ≡ true
  pub there : is_present tree nearest ≡ true
  pub closest : (p : Path) → is_below p path ≡ true → is_present tree p ≡ true → is_below p nearest ≡ true

-- the caller may change the path q by its command: it has the right at the nearest present node
pub record IsAllowed (operation : Operation) (path : Path) (caller : Caller) (tree : Tree) (q : Path) : Type 0 where
  pub nearest : Path
  pub node : Node
  pub stands : IsNearest tree path nearest
  pub there : node_at tree nearest ≡ Some node
  pub right : MayChange operation (rights_of caller node.perms)
  pub reached : IsReached operation tree nearest path q

abbrev pub ChangesAreAllowed : Type 0
ChangesAreAllowed =
    (operation : Operation) (path : Path) (caller : Caller) (number : ℕ) (tree : Tree) (q : Path) → IsTree tree
    → has_path q (command operation path caller number tree).written ≡ true → IsAllowed operation path caller tree q
