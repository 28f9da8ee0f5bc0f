-- Connections, by their ids (xenstore.txt, "Domain management requests").
use Rattle.std.specs.Prelude.{ℕ, ◌+◌, ◌==◌, Bool, false, List, [], ◌∷◌, if◌then◌else◌, Option, Some, None, is_some}
use Rattle.machine_model.specs.declared.ConnSpec.{ConnSpec}
use Rattle.machine_model.specs.declared.ConnSpec.TheVariants.{Ring, Socket}
use Rattle.xs_model.specs.Perms.{Caller}
use Rattle.xs_model.specs.Watches.{Watch}
use Rattle.machine_model.specs.Transactions.{Transaction}

-- a connection: its other end, its watches in the order made, and its open transactions by id
pub record Connection : Type 0 where
  pub spec : ConnSpec
  pub watches : List Watch
  pub transactions : List (ℕ × Transaction)

abbrev pub Connections : Type 0
Connections = List (ℕ × Connection)

-- a connection that was just made
abbrev pub fresh : ConnSpec → Connection
fresh spec = record { spec = spec; watches = []; transactions = [] }

-- who asks through a connection; a socket asks as domain 0
abbrev pub caller_of : ConnSpec → Caller
caller_of (Ring domid target evtchn) = record { domid = domid; target = target }
caller_of (Socket fd) = record { domid = 0; target = None }

-- whether this is the ring of a domain
abbrev pub is_ring_of : ℕ → ConnSpec → Bool
is_ring_of d (Ring domid target evtchn) = d == domid
is_ring_of d (Socket fd) = false

-- the id of a domain's ring connection
abbrev pub ring_of : ℕ → Connections → Option ℕ
ring_of d [] = None
ring_of d (e ∷ es) = if is_ring_of d e.1.spec then Some e.0 else ring_of d es

abbrev pub has_ring : ℕ → Connections → Bool
has_ring d conns = is_some (ring_of d conns)

-- the same end with another event channel, or another target
abbrev pub with_evtchn : ℕ → ConnSpec → ConnSpec
with_evtchn evtchn (Ring domid target old) = Ring domid target evtchn
with_evtchn evtchn (Socket fd) = Socket fd

abbrev pub with_target : ℕ → ConnSpec → ConnSpec
with_target target (Ring domid old evtchn) = Ring domid (Some target) evtchn
with_target target (Socket fd) = Socket fd

-- of ids in order, the least one from n on that none of them is
abbrev pub least_free_from : {A : Type 0} → ℕ → List (ℕ × A) → ℕ
least_free_from n [] = n
least_free_from n (e ∷ es) = if e.0 == n then least_free_from (n + 1) es else n

-- the least positive id that is free
abbrev pub least_free : {A : Type 0} → List (ℕ × A) → ℕ
least_free es = least_free_from 1 es
