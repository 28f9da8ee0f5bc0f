-- What a step may send: the words of the laws on replies and events. They are proved of functions in `src/laws.rt`.
use Rattle.std.specs.Prelude.{◌≡◌, ℕ, true, List, [], ◌∷◌, ◌++◌, Some, None, ◌⊎◌, ◌≢◌}
use Rattle.std.specs.List.{AllByRecursion, Contains}
use Rattle.std.specs.Ordering.{nat_cmp}
use Rattle.std.specs.FinMap.{find}
use Rattle.xs_model.specs.declared.message.Header.{Header}
use Rattle.xs_model.specs.declared.message.kind.TheConstants.{WATCH_EVENT, ERROR}
use Rattle.xs_model.specs.Paths.{Path}
use Rattle.xs_model.specs.Perms.{Caller, rights_of}
use Rattle.xs_model.specs.Trees.{Node, Tree, node_at}
use Rattle.xs_model.specs.Messages.{Message}
use Rattle.xs_model.specs.Requests.{introduce_domain, release_domain}
use Rattle.xs_model.specs.Watches.{Watch, Event, event_at, matches, named_path, event_message, first_event}
use Rattle.machine_model.specs.Connections.{Connection, Connections, caller_of}
use Rattle.machine_model.specs.Machine.{Machine, Send, Step}

-- REPLIES. What is sent for a request with this header: one reply to its own connection, and then events. The reply is
-- of the request's type or of type ERROR, and is no event itself.
pub record IsAnswered (c : ℕ) (head : Header) (sends : List Send) : Type 0 where
  pub reply : Message
  pub events : List Send
  pub first : sends ≡ (c, reply) ∷ events
  pub req_id : reply.req_id ≡ head.req_id
  pub tx_id : reply.tx_id ≡ head.tx_id
  pub kind : (reply.kind ≡ head.kind) ⊎ (reply.kind ≡ ERROR)
  pub no_event : reply.kind ≢ WATCH_EVENT
  pub then_events : AllByRecursion (λ s. s.1.kind ≡ WATCH_EVENT) events

-- EVENTS. A node that the caller may read: the one after a change, or the one before it where it is gone
pub record MayRead (caller : Caller) (before after : Tree) (p : Path) : Type 0 where
  pub node : Node
  pub stood : (node_at after p ≡ Some node) ⊎ ((node_at after p ≡ None) × (node_at before p ≡ Some node))
  pub right : (rights_of caller node.perms).can_read ≡ true

-- Why a connection c is sent a message for a change of the tree: among these connections it has a watch that the event
-- reaches, and it may read the node
pub record IsDueToChange (before after : Tree) (conns : Connections) (c : ℕ) (message : Message) : Type 0 where
  pub conn : Connection
  pub there : Contains conns (c, conn)
  pub watch : Watch
  pub watches : Contains conn.watches watch
  pub event : Event
  pub happened : event_at before after event.path ≡ Some event
  pub matched : matches (caller_of conn.spec).domid event watch ≡ true
  pub readable : MayRead (caller_of conn.spec) before after event.path
  pub sent : message ≡ event_message (named_path (caller_of conn.spec).domid watch event.path) watch.token

-- Why it is sent one for a domain that came or went: it acts for domain 0, and has a watch on that special path
pub record IsDueToSpecial (conns : Connections) (c : ℕ) (message : Message) : Type 0 where
  pub conn : Connection
  pub there : Contains conns (c, conn)
  pub control : (caller_of conn.spec).domid ≡ 0
  pub watch : Watch
  pub watches : Contains conn.watches watch
  pub special : (watch.wpath ≡ introduce_domain) ⊎ (watch.wpath ≡ release_domain)
  pub sent : message ≡ event_message watch.wpath watch.token

-- why it is sent one for a new watch: the watch is its own, and was not there before
pub record IsDueToWatch (before after : Connections) (c : ℕ) (message : Message) : Type 0 where
  pub old : Connection
  pub stood : find nat_cmp c before ≡ Some old
  pub conn : Connection
  pub there : Contains after (c, conn)
  pub watch : Watch
  pub made : conn.watches ≡ old.watches ++ watch ∷ []
  pub sent : message ≡ first_event watch

-- why a step from one machine to another sends an event, by the connections after it
abbrev pub IsDue : Machine → Machine → Send → Type 0
IsDue before after s =
    IsDueToChange before.tree after.tree after.conns s.0 s.1 ⊎ (IsDueToSpecial after.conns s.0 s.1 ⊎ IsDueToWatch before.conns after.conns s.0 s.1)

-- DROPS. The loss of a connection: nothing is sent, the tree stays, and each other connection stays whole, with its
-- watches and transactions
pub record IsDrop (c : ℕ) (before : Machine) (stepped : Step) : Type 0 where
  pub sends : stepped.1 ≡ []
  pub tree : stepped.0.tree ≡ before.tree
  pub gens : stepped.0.gens ≡ before.gens
  pub gone : find nat_cmp c stepped.0.conns ≡ None
  pub others : (d : ℕ) → (d ≢ c) → find nat_cmp d stepped.0.conns ≡ find nat_cmp d before.conns
