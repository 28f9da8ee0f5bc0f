-- What one request does to the tree and to the connections of a daemon. This project's own.
use Rattle.std.specs.Prelude.{◌≡◌, ℕ, ◌+◌, ◌==◌, not, true, List, map, length, ◌≤◌, Some, None, Result, Ok, Err, IfOk}
use Rattle.std.specs.Ordering.{nat_cmp}
use Rattle.std.specs.FinMap.{find, put}
use Rattle.std.specs.FinMap.Entries.{where_key}
use Rattle.machine_model.specs.declared.ConnSpec.TheVariants.{Ring}
use Rattle.machine_model.specs.declared.Globals.{Globals}
use Rattle.machine_model.specs.Connections.{Connections, fresh, ring_of}
use Rattle.machine_model.specs.Machine.{Done}
use Rattle.mark_model.specs.Stores.{KeptDone, KeptStore, opens_by}
use Rattle.kept_model.specs.Sound.{IsSoundStore}
use Rattle.machine_model.specs.History.{Unsent, unsent_to, sent_to}
use Rattle.xs_model.specs.declared.message.WireErr.{WireErr}
use Rattle.xs_model.specs.Generations.{Generations, greatest}
use Rattle.xs_model.specs.Messages.{string, error_name}
use Rattle.xs_model.specs.Trees.{Tree}
use Rattle.conn_table.specs.Tables.{Specs}
use Rattle.xs_model.specs.Wholes.{whole_behind}
use Rattle.daemon.specs.declared.answer.Door.{Door}
use Rattle.daemon.specs.declared.answer.Door.TheVariants.{Same, Opened, Closed}
use Rattle.daemon.specs.declared.reply.Answer.{Answer}
use Rattle.daemon.specs.declared.reply.Answered.{Answered}
use Rattle.daemon.specs.declared.reply.Answered.TheVariants as answered
use Rattle.node_tree.specs.KeptTree.{KeptTree}
use Rattle.store_parts.specs.Kept.{Kept, kept_by as kept_by_parts}
use Rattle.store_parts.specs.States.{rest_of}
use Rattle.daemon.specs.Keeps.{machine_of}
use Rattle.conn_rows.specs.Rows.{Rows, opens_of}
use Rattle.conn_rows.specs.Queued.{unsent_of, rests_of}
use Rattle.conn_rows.specs.Sending.{HasRoomFor, crowding}
use Rattle.daemon.specs.Peers.{Connected, IsSound, conns_in, message_limit}

-- the rows of the connections
abbrev pub rows_in : Connected → Rows
rows_in peers = record { queues = peers.queues; txns = peers.txns; spare = 0 }

-- what a daemon keeps, by its tree, its connections and its descriptors
abbrev pub kept_by : KeptTree → Connected → Globals → Kept
kept_by tree peers globals = kept_by_parts peers.specs peers.watched (rows_in peers) tree globals

-- and the store that is kept
abbrev pub store_in : KeptTree → Connected → KeptStore
store_in tree peers = record { machine = machine_of tree.nodes tree.gens peers.specs peers.watched; opens = opens_of peers.txns }

-- it is of the kind that steps keep, and the next number is counted from the greatest
pub record IsWhole (tree : KeptTree) (peers : Connected) : Type 0 where
  pub sound : IsSound peers
  pub store : IsSoundStore (store_in tree peers)
  pub counter : tree.counter ≡ greatest tree.gens

-- A DOOR: the ring connection of a domain that came
pub record Opens (d : ℕ) (before after : Connections) : Type 0 where
  pub conn : ℕ
  pub evtchn : ℕ
  pub none : ring_of d before ≡ None
  pub free : find nat_cmp conn before ≡ None
  pub made : after ≡ put nat_cmp conn (fresh (Ring d None evtchn)) before

-- or the one that went
pub record Closes (d : ℕ) (before after : Connections) : Type 0 where
  pub conn : ℕ
  pub was : ring_of d before ≡ Some conn
  pub removed : after ≡ where_key nat_cmp (λ c. not (conn == c)) before

-- or none, and the same connections are there
abbrev pub IsDoor : Connections → Connections → Door → Type 0
IsDoor before after Same = map (λ e. e.0) after ≡ map (λ e. e.0) before
IsDoor before after (Opened d) = Opens d before after
IsDoor before after (Closed d) = Closes d before after

-- UNSENT BYTES of the connections of this table: what was unsent, and none for a new one
abbrev pub unsent_by : Specs → Unsent → Unsent
unsent_by specs unsent = map (λ e. (e.0, unsent_to e.0 unsent)) specs

-- and the rests of messages: as they were, and 0 for a new one
abbrev pub rests_by : Specs → List (ℕ × ℕ) → List (ℕ × ℕ)
rests_by specs rests = map (λ e. (e.0, rest_of e.0 rests)) specs

-- the number of bytes of a reply's message
abbrev pub reply_length : Result (List ℕ) WireErr → ℕ
reply_length (Ok payload) = 16 + length payload
reply_length (Err error) = 16 + length (string (error_name error))

-- WHAT A REQUEST of the connection c did: what the definition says; what is unsent to the connections that stay is as it
-- was, and there is memory for a reply and for what is owed, by which nobody has too many bytes unsent
pub record Did (c : ℕ) (tree : KeptTree) (peers : Connected) (done : KeptDone) (answer : Answer) (tree_new : KeptTree) (peers_new : Connected) : Type 0 where
  pub reply : answer.reply ≡ done.reply
  pub store : done.store ≡ store_in tree_new peers_new
  pub sends : (d : ℕ) → sent_to d done.sends ≡ unsent_to d answer.owed
  pub counter : tree_new.counter ≡ greatest tree_new.gens
  pub door : IsDoor (conns_in peers) (conns_in peers_new) answer.door
  pub unsent : unsent_of peers_new.queues ≡ unsent_by peers_new.specs (unsent_of peers.queues)
  pub rests : rests_of peers_new.queues ≡ rests_by peers_new.specs (rests_of peers.queues)
  pub room : HasRoomFor c message_limit answer.owed peers_new.queues
  pub uncrowded : crowding c (reply_length answer.reply) answer.owed (unsent_of peers_new.queues) ≡ None
  pub sound : IsSound peers_new

-- nothing of the connections has changed but memory
pub record IsSameKept (peers peers_new : Connected) : Type 0 where
  pub specs : peers_new.specs ≡ peers.specs
  pub watched : peers_new.watched ≡ peers.watched
  pub opens : opens_of peers_new.txns ≡ opens_of peers.txns
  pub unsent : unsent_of peers_new.queues ≡ unsent_of peers.queues
  pub rests : rests_of peers_new.queues ≡ rests_of peers.queues

-- and nothing of the tree
pub record IsAsBefore (tree : KeptTree) (peers : Connected) (tree_new : KeptTree) (peers_new : Connected) : Type 0 where
  pub nodes : tree_new.nodes ≡ tree.nodes
  pub gens : tree_new.gens ≡ tree.gens
  pub counter : tree_new.counter ≡ tree.counter
  pub conns : IsSameKept peers peers_new

-- or it was not done, since a connection would have too many bytes unsent
pub record IsCrowding (c : ℕ) (tree : KeptTree) (peers : Connected) (done : KeptDone) (d : ℕ) (tree_new : KeptTree) (peers_new : Connected) : Type 0 where
  pub owed : Unsent
  pub sends : (e : ℕ) → sent_to e done.sends ≡ unsent_to e owed
  pub crowds : crowding c (reply_length done.reply) owed (map (λ e. (e.0, unsent_to e.0 (unsent_of peers.queues))) done.store.machine.conns) ≡ Some d
  pub unchanged : IsAsBefore tree peers tree_new peers_new

abbrev pub IsAnswered : ℕ → KeptTree → Connected → KeptDone → Answered → KeptTree → Connected → Type 0
IsAnswered c tree peers done (answered.Done answer) tree_new peers_new = Did c tree peers done answer tree_new peers_new
IsAnswered c tree peers done (answered.Crowded d) tree_new peers_new = IsCrowding c tree peers done d tree_new peers_new

-- a reply that fits in a message
abbrev pub IsShort : Answered → Type 0
IsShort (answered.Done answer) = IfOk answer.reply (λ payload. length payload ≤ 4096)
IsShort (answered.Crowded d) = Unit {0}

-- what a request on domains did, in the store without transactions; those of the connections that stay stay open
pub record DidBeside (c : ℕ) (peers : Connected) (done : Done) (tree : Tree) (gens : Generations) (answer : Answer) (peers_new : Connected) : Type 0 where
  pub reply : answer.reply ≡ done.reply
  pub machine : done.machine ≡ machine_of tree gens peers_new.specs peers_new.watched
  pub sends : (d : ℕ) → sent_to d done.sends ≡ unsent_to d answer.owed
  pub opens : opens_of peers_new.txns ≡ opens_by (conns_in peers_new) (opens_of peers.txns)
  pub door : IsDoor (conns_in peers) (conns_in peers_new) answer.door
  pub unsent : unsent_of peers_new.queues ≡ unsent_by peers_new.specs (unsent_of peers.queues)
  pub rests : rests_of peers_new.queues ≡ rests_by peers_new.specs (rests_of peers.queues)
  pub room : HasRoomFor c message_limit answer.owed peers_new.queues
  pub uncrowded : crowding c (reply_length answer.reply) answer.owed (unsent_of peers_new.queues) ≡ None
  pub sound : IsSound peers_new

pub record IsCrowdingBeside (c : ℕ) (peers : Connected) (done : Done) (d : ℕ) (peers_new : Connected) : Type 0 where
  pub owed : Unsent
  pub sends : (e : ℕ) → sent_to e done.sends ≡ unsent_to e owed
  pub crowds : crowding c (reply_length done.reply) owed (map (λ e. (e.0, unsent_to e.0 (unsent_of peers.queues))) done.machine.conns) ≡ Some d
  pub unchanged : IsSameKept peers peers_new

abbrev pub IsAnsweredBeside : ℕ → Connected → Done → Tree → Generations → Answered → Connected → Type 0
IsAnsweredBeside c peers done tree gens (answered.Done answer) peers_new = DidBeside c peers done tree gens answer peers_new
IsAnsweredBeside c peers done tree gens (answered.Crowded d) peers_new = IsCrowdingBeside c peers done d peers_new

-- the bytes of a reply may be sent: they are whole messages, and so few
pub record IsReply (bytes : List ℕ) : Type 0 where
  pub whole : whole_behind 0 bytes ≡ true
  pub short : length bytes ≤ message_limit
