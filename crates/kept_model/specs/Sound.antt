-- Sound states: those that a run can reach, and that a stream can tell. The bounds are those of the fields of a stream, or
-- limits of the store; they are this project's own.
use Rattle.std.specs.Prelude.{◌≡◌, ℕ, ◌<◌, ◌≤◌, ◌^◌, ◌==◌, Bool, true, false, not, List, [], ◌∷◌, length, map, filter, Option, IfSome, Ok, FitsSigned, ⊤}
use Rattle.std.specs.Int.{w32}
use Rattle.std.specs.List.{AllByRecursion, list_any}
use Rattle.std.specs.Ordering.{nat_cmp}
use Rattle.std.specs.FinMap.{is_sorted}
use Rattle.xs_model.specs.Paths.{Path, text, path_of}
use Rattle.xs_model.specs.Trees.{Node, Tree}
use Rattle.xs_model.specs.Generations.{Generations, generation_max}
use Rattle.xs_model.specs.Requests.{is_watch_path, is_token}
use Rattle.xs_model.specs.Watches.{Watch, same_watch}
use Rattle.xs_model.specs.Wholes.{whole_behind}
use Rattle.machine_model.specs.declared.ConnSpec.{ConnSpec}
use Rattle.machine_model.specs.declared.ConnSpec.TheVariants.{Ring, Socket}
use Rattle.machine_model.specs.declared.bounds.TheConstants.{CROWD_LIMIT}
use Rattle.machine_model.specs.Connections.{Connections, caller_of, is_ring_of}
use Rattle.mark_model.specs.Marks.{Mark, Seen, Changed, Wrote, Gone, Kept, Marks}
use Rattle.mark_model.specs.Stores.{KeptStore, Opens, IsKeptStore}
use Rattle.machine_model.specs.declared.Globals.{Globals}
use Rattle.kept_model.specs.States.{State, ConnectionOf, store_of}

-- NODES. A path is one that its text is read as: it has names, and its text is not too long
abbrev pub IsSpelled : Path → Type 0
IsSpelled p = path_of (text p) 0 ≡ Ok p

-- a value, and entries, of which a stream can tell
pub record NodeFits (node : Node) : Type 0 where
  pub value : length node.value < 2 ^ 16
  pub entries : length node.perms < 2 ^ 16
  pub domids : AllByRecursion (λ perm. perm.domid < 2 ^ 16) node.perms

abbrev pub FoundFits : Option Node → Type 0
FoundFits found = IfSome found NodeFits

abbrev pub MarkFits : Mark → Type 0
MarkFits Seen = ⊤
MarkFits (Changed old) = FoundFits old
MarkFits (Wrote others node) = NodeFits node
MarkFits (Gone others) = ⊤
MarkFits (Kept old) = FoundFits old

abbrev pub NodesFit : Tree → Type 0
NodesFit tree = AllByRecursion (λ e. IsSpelled e.0 × NodeFits e.1) tree

abbrev pub MarksFit : Marks → Type 0
MarksFit marks = AllByRecursion (λ e. IsSpelled e.0 × MarkFits e.1) marks

-- a number of 48 bits for each path of the tree, and for no other
pub record AreNumbers (tree : Tree) (gens : Generations) : Type 0 where
  pub paths : map (λ e. e.0) gens ≡ map (λ e. e.0) tree
  pub small : AllByRecursion (λ e. e.1 ≤ generation_max) gens

-- CONNECTIONS
abbrev pub is_socket : ConnSpec → Bool
is_socket (Ring domid target evtchn) = false
is_socket (Socket fd) = true

-- domids are below the reserved ones, and the other numbers have 32 bits
abbrev pub SpecFits : ConnSpec → Type 0
SpecFits (Ring domid target evtchn) = (domid ≤ 32751) × IfSome target (λ d. d ≤ 32751) × (evtchn < 2 ^ 32)
SpecFits (Socket fd) = fd < 2 ^ 32

-- so many connections have an end that passes a test
abbrev pub count_ends : (ConnSpec → Bool) → Connections → ℕ
count_ends test conns = length (filter (λ e. test e.1.spec) conns)

-- a text on the wire ends at its first NUL, so none stands in it
abbrev pub has_nul : List ℕ → Bool
has_nul bytes = list_any (λ b. b == 0) bytes

-- different watches, each with a path and a token that the domain may give
abbrev pub AreWatches : ℕ → List Watch → Type 0
AreWatches domid [] = ⊤
AreWatches domid (w ∷ ws) =
    (is_watch_path w.wpath domid ≡ true) × (is_token w.token ≡ true) × (has_nul w.token ≡ false) × (list_any (same_watch w) ws ≡ false)
    × AreWatches domid ws

-- transactions by rising numbers of 32 bits from 1 on
pub record OpensFit (transactions : Opens) : Type 0 where
  pub rising : is_sorted nat_cmp transactions ≡ true
  pub numbers : AllByRecursion (λ e. (1 ≤ e.0) × (e.0 < 2 ^ 32)) transactions
  pub marks : AllByRecursion (λ e. MarksFit e.1.marks) transactions

-- A SOUND STORE. Each step leaves one.
pub record IsSoundStore (k : KeptStore) : Type 0 where
  pub kept : IsKeptStore k
  pub nodes : NodesFit k.machine.tree
  pub numbers : AreNumbers k.machine.tree k.machine.gens
  pub ids : AllByRecursion (λ e. e.0 < 2 ^ 32) k.machine.conns
  pub ends : AllByRecursion (λ e. SpecFits e.1.spec) k.machine.conns
  -- a domain has one ring at the most
  pub rings : (domid : ℕ) → count_ends (is_ring_of domid) k.machine.conns ≤ 1
  pub sockets : count_ends is_socket k.machine.conns ≤ 65536
  pub watches : AllByRecursion (λ e. AreWatches (caller_of e.1.spec).domid e.1.watches) k.machine.conns
  pub opens : AllByRecursion (λ e. OpensFit e.1) k.opens

-- BYTES UNDER WAY: not too many, and what is unsent is a rest and then whole messages
pub record BytesFit {M : Type 0} (conn : ConnectionOf M) : Type 0 where
  pub inbox : length conn.inbox ≤ 16777216
  pub unsent : length conn.unsent ≤ CROWD_LIMIT
  pub whole : whole_behind conn.rest conn.unsent ≡ true

pub record GlobalsFit (globals : Globals) : Type 0 where
  pub rw_socket_fd : FitsSigned w32 globals.rw_socket_fd
  pub evtchn_fd : FitsSigned w32 globals.evtchn_fd

-- A SOUND STATE
pub record IsSound (s : State) : Type 0 where
  pub store : IsSoundStore (store_of s)
  pub globals : GlobalsFit s.globals
  pub bytes : AllByRecursion (λ e. BytesFit e.1) s.conns
