-- The sequential store, and its step: one request of one connection, or the loss of a connection. It knows neither
-- rings nor migration.
use Rattle.std.specs.Prelude.{ℕ, ◌==◌, Bool, true, false, not, ◌||◌, List, [], ◌∷◌, ◌++◌, length, map, filter, flat_map, nat_lt, nat_le, if◌then◌else◌, Option, Some, None, Result, Ok, Err, decimal, codes}
use Rattle.std.specs.List.{list_any}
use Rattle.std.specs.Ordering.{nat_cmp}
use Rattle.std.specs.FinMap.{find, put}
use Rattle.std.specs.FinMap.Entries.{where_key}
use Rattle.machine_model.specs.declared.bounds.TheConstants.{CONTROL_TRANSACTIONS, GUEST_TRANSACTIONS, WATCH_LIMIT}
use Rattle.machine_model.specs.declared.ConnSpec.{ConnSpec}
use Rattle.machine_model.specs.declared.ConnSpec.TheVariants.{Ring}
use Rattle.xs_model.specs.declared.message.Header.{Header}
use Rattle.xs_model.specs.declared.message.WireErr.{WireErr}
use Rattle.xs_model.specs.declared.message.WireErr.TheVariants.{Eacces, Eexist, Enoent, Enospc, Ebusy, Eagain, E2big}
use Rattle.xs_model.specs.declared.message.kind.TheConstants.{ERROR}
use Rattle.xs_model.specs.Paths.{Path, text, home}
use Rattle.xs_model.specs.Perms.{Caller}
use Rattle.xs_model.specs.Trees.{Tree, new_tree}
use Rattle.xs_model.specs.Messages.{Message, header_of, payload_of, error_name, string, ok_payload}
use Rattle.xs_model.specs.Generations.{Generations, new_generations, generation_of, stamped}
use Rattle.xs_model.specs.Requests.{Operation, Request, Command, Watch as WatchRequest, Unwatch, Start, End, Introduce, Release, DomainPath, IsIntroduced, SetTarget, ResetWatches, request_of, all_types, introduce_domain, release_domain}
use Rattle.xs_model.specs.Commands.{Outcome}
use Rattle.xs_model.specs.Changes.{changed_paths}
use Rattle.xs_model.specs.Watches.{Watch, same_watch, Event, events, event_perms, owed, special_owed, first_event}
use Rattle.machine_model.specs.Connections.{Connection, Connections, fresh, caller_of, ring_of, has_ring, with_evtchn, with_target, least_free}
use Rattle.machine_model.specs.Transactions.{Transaction, Ran, Ending, started, outcome_on, run_on, after, wrote, count, is_in_conflict, with_command, with_others}

pub record Machine : Type 0 where
  pub tree : Tree
  -- a number for each path of the tree
  pub gens : Generations
  pub conns : Connections

-- a new store, where only domain 0 is connected
abbrev pub new_machine : Machine
new_machine = record { tree = new_tree; gens = new_generations; conns = (1, fresh (Ring 0 None 0)) ∷ [] }

-- WHAT HAPPENS: the bytes of one whole request come from a connection, or the connection is lost
pub data Item : Type 0 where
  Asked : ℕ → List ℕ → Item
  Lost : ℕ → Item

-- a message for a connection
abbrev pub Send : Type 0
Send = ℕ × Message

-- What a request did: its reply (a payload or an error), the machine after it, and what is sent besides
pub record Done : Type 0 where
  pub reply : Result (List ℕ) WireErr
  pub machine : Machine
  pub sends : List Send

abbrev pub refused : WireErr → Machine → Done
refused error m = record { reply = Err error; machine = m; sends = [] }

abbrev pub replied : List ℕ → Machine → Done
replied payload m = record { reply = Ok payload; machine = m; sends = [] }

abbrev pub granted : Machine → Done
granted m = replied ok_payload m

-- PARTS OF A MACHINE. Another connection in the place of one
abbrev pub with_conn : ℕ → Connection → Machine → Machine
with_conn c conn m = record { tree = m.tree; gens = m.gens; conns = put nat_cmp c conn m.conns }

-- without a connection, its watches and its transactions
abbrev pub without_conn : ℕ → Machine → Machine
without_conn c m = record { tree = m.tree; gens = m.gens; conns = where_key nat_cmp (λ d. not (c == d)) m.conns }

abbrev pub with_watches : List Watch → Connection → Connection
with_watches watches conn = record { spec = conn.spec; watches = watches; transactions = conn.transactions }

abbrev pub with_transaction : ℕ → Transaction → Connection → Connection
with_transaction id t conn = record { spec = conn.spec; watches = conn.watches; transactions = put nat_cmp id t conn.transactions }

abbrev pub without_transaction : ℕ → Connection → Connection
without_transaction id conn =
    record { spec = conn.spec; watches = conn.watches; transactions = where_key nat_cmp (λ i. not (id == i)) conn.transactions }

abbrev pub with_spec : ConnSpec → Connection → Connection
with_spec spec conn = record { spec = spec; watches = conn.watches; transactions = conn.transactions }

-- A CHANGE of the tree: every open transaction is told which paths changed, and these get a new number
abbrev pub told : List Path → Connection → Connection
told paths conn =
    record { spec = conn.spec; watches = conn.watches; transactions = map (λ e. (e.0, with_others paths e.1)) conn.transactions }

abbrev pub told_all : List Path → Connections → Connections
told_all paths conns = map (λ e. (e.0, told paths e.1)) conns

-- a change of nothing tells nobody
abbrev pub tell : List Path → Connections → Connections
tell [] conns = conns
tell (p ∷ ps) conns = told_all (p ∷ ps) conns

abbrev pub changed_machine : Tree → List Path → Machine → Machine
changed_machine tree written m = record {
  tree = tree;
  gens = stamped m.gens m.tree written tree;
  conns = tell (changed_paths m.tree written tree) m.conns;
}

-- the events that one connection is owed for a change, in their order
abbrev pub owed_events : Tree → Tree → Caller → List Watch → List Event → List Message
owed_events before after caller watches es = flat_map (λ e. owed caller watches e (event_perms before after e.path)) es

abbrev pub sends_to : ℕ → List Message → List Send
sends_to c messages = map (λ m. (c, m)) messages

abbrev pub change_sends : Tree → List Path → Tree → Connections → List Send
change_sends before written after conns =
    flat_map (λ e. sends_to e.0 (owed_events before after (caller_of e.1.spec) e.1.watches (events before written after))) conns

abbrev pub special_sends : List ℕ → Connections → List Send
special_sends special conns = flat_map (λ e. sends_to e.0 (special_owed (caller_of e.1.spec) e.1.watches special)) conns

-- TREE COMMANDS, with the number that DIRECTORY_PART shows: outside of transactions that of the path, inside the
-- transaction's count
abbrev pub ran_by : Connection → Operation → Path → ℕ → Ran
ran_by conn operation path number =
    record { operation = operation; path = path; caller = caller_of conn.spec; number = number }

-- outside of transactions they change the tree at once
abbrev pub done_command : Machine → Outcome → Done
done_command m outcome = record {
  reply = outcome.reply;
  machine = changed_machine outcome.tree outcome.written m;
  sends = change_sends m.tree outcome.written outcome.tree m.conns;
}

-- in a transaction they run on what it sees, and join its list whatever they answer
abbrev pub done_inside : Machine → ℕ → Connection → ℕ → Transaction → Ran → Done
done_inside m c conn id t ran = record {
  reply = (outcome_on (after t) ran).reply;
  machine = with_conn c (with_transaction id (with_command ran t) conn) m;
  sends = [];
}

abbrev pub command_inside : Machine → ℕ → Connection → ℕ → Operation → Path → Option Transaction → Done
command_inside m c conn id operation path None = refused Enoent m
command_inside m c conn id operation path (Some t) = done_inside m c conn id t (ran_by conn operation path (count t))

abbrev pub run_command : Machine → ℕ → Connection → ℕ → Operation → Path → Done
run_command m c conn tx operation path =
    if tx == 0 then done_command m (outcome_on m.tree (ran_by conn operation path (generation_of m.gens path)))
    else command_inside m c conn tx operation path (find nat_cmp tx conn.transactions)

-- TRANSACTIONS. How many may be open
abbrev pub transaction_limit : ConnSpec → ℕ
transaction_limit spec = if (caller_of spec).domid == 0 then CONTROL_TRANSACTIONS else GUEST_TRANSACTIONS

abbrev pub start : Machine → ℕ → Connection → ℕ → Done
start m c conn tx =
    if not (tx == 0) then refused Ebusy m
    else (if nat_le (transaction_limit conn.spec) (length conn.transactions) then refused Enospc m
    else replied (string (decimal (least_free conn.transactions)))
    (with_conn c (with_transaction (least_free conn.transactions) (started m.tree) conn) m))

-- Commit: the transaction's commands run on the current tree. `m` is without the transaction.
abbrev pub committed : Machine → Transaction → Ending → Done
committed m t ending = record {
  reply = Ok ok_payload;
  machine = changed_machine ending.tree (wrote t) m;
  sends = change_sends m.tree (wrote t) ending.tree m.conns;
}

abbrev pub finish : Bool → Machine → Transaction → Done
finish false m t = granted m
finish true m t = if is_in_conflict t then refused Eagain m else committed m t (run_on m.tree t)

-- in each of its answers the transaction is closed
abbrev pub close : Bool → Machine → ℕ → Connection → ℕ → Option Transaction → Done
close commit m c conn id None = refused Enoent m
close commit m c conn id (Some t) = finish commit (with_conn c (without_transaction id conn) m) t

-- WATCHES. A guest may have so many
abbrev pub may_watch : Connection → Bool
may_watch conn = (caller_of conn.spec).domid == 0 || nat_lt (length conn.watches) WATCH_LIMIT

abbrev pub add_watch : Machine → ℕ → Connection → Watch → Done
add_watch m c conn w =
    if list_any (same_watch w) conn.watches then refused Eexist m
    else (if not (may_watch conn) then refused E2big m
    else record {
      reply = Ok ok_payload;
      machine = with_conn c (with_watches (conn.watches ++ w ∷ []) conn) m;
      sends = (c, first_event w) ∷ [];
    })

abbrev pub remove_watch : Machine → ℕ → Connection → Watch → Done
remove_watch m c conn w =
    if list_any (same_watch w) conn.watches
    then granted (with_conn c (with_watches (filter (λ v. not (same_watch w v)) conn.watches) conn) m)
    else refused Enoent m

-- DOMAINS. What only domain 0 may ask for
abbrev pub if_control : Connection → Machine → Done → Done
if_control conn m done = if (caller_of conn.spec).domid == 0 then done else refused Eacces m

abbrev pub set_spec : (ConnSpec → ConnSpec) → ℕ → Option Connection → Machine → Machine
set_spec change c None m = m
set_spec change c (Some conn) m = with_conn c (with_spec (change conn.spec) conn) m

abbrev pub set_spec_of : (ConnSpec → ConnSpec) → ℕ → Machine → Machine
set_spec_of change c m = set_spec change c (find nat_cmp c m.conns) m

-- a connection that is there gets the event channel; else one is made
abbrev pub introduce : Machine → ℕ → ℕ → Option ℕ → Done
introduce m domid evtchn (Some id) = granted (set_spec_of (with_evtchn evtchn) id m)
introduce m domid evtchn None =
    let new = with_conn (least_free m.conns) (fresh (Ring domid None evtchn)) m in
    record { reply = Ok ok_payload; machine = new; sends = special_sends introduce_domain new.conns }

abbrev pub release : Machine → Option ℕ → Done
release m None = refused Enoent m
release m (Some id) =
    let new = without_conn id m in
    record { reply = Ok ok_payload; machine = new; sends = special_sends release_domain new.conns }

abbrev pub set_target : Machine → ℕ → Option ℕ → Bool → Done
set_target m target None target_there = refused Enoent m
set_target m target (Some id) false = refused Enoent m
set_target m target (Some id) true = granted (set_spec_of (with_target target) id m)

abbrev pub introduced_payload : Bool → List ℕ
introduced_payload true = string (codes "T")
introduced_payload false = string (codes "F")

-- ONE REQUEST of the connection `conn`, whose id is c, under the transaction number tx
abbrev pub act : Machine → ℕ → Connection → ℕ → Request → Done
act m c conn tx (Command operation path) = run_command m c conn tx operation path
act m c conn tx (WatchRequest wpath token) = add_watch m c conn (record { wpath = wpath; token = token })
act m c conn tx (Unwatch wpath token) = remove_watch m c conn (record { wpath = wpath; token = token })
act m c conn tx Start = start m c conn tx
act m c conn tx (End commit) = close commit m c conn tx (find nat_cmp tx conn.transactions)
act m c conn tx (Introduce domid evtchn) = if_control conn m (introduce m domid evtchn (ring_of domid m.conns))
act m c conn tx (Release domid) = if_control conn m (release m (ring_of domid m.conns))
act m c conn tx (DomainPath domid) = replied (string (text (home domid))) m
act m c conn tx (IsIntroduced domid) = replied (introduced_payload (has_ring domid m.conns)) m
act m c conn tx (SetTarget domid target) =
    if_control conn m (set_target m target (ring_of domid m.conns) (has_ring target m.conns))
act m c conn tx ResetWatches = granted (with_conn c (fresh conn.spec) m)

abbrev pub act_or_refuse : Machine → ℕ → Connection → ℕ → Result Request WireErr → Done
act_or_refuse m c conn tx (Err error) = refused error m
act_or_refuse m c conn tx (Ok request) = act m c conn tx request

-- the reply to a request with this header: of its type, or of type ERROR with the error's name
abbrev pub reply_message : Header → Result (List ℕ) WireErr → Message
reply_message head (Ok payload) = record { kind = head.kind; req_id = head.req_id; tx_id = head.tx_id; payload = payload }
reply_message head (Err error) =
    record { kind = ERROR; req_id = head.req_id; tx_id = head.tx_id; payload = string (error_name error) }

-- THE STEP: the machine after an item, and what is sent, in order. The reply comes first.
abbrev pub Step : Type 0
Step = Machine × List Send

abbrev pub answered : ℕ → Header → Done → Step
answered c head done = (done.machine, (c, reply_message head done.reply) ∷ done.sends)

abbrev pub step_of_conn : List ℕ → Machine → ℕ → List ℕ → Option Connection → Step
step_of_conn served m c bytes None = (m, [])
step_of_conn served m c bytes (Some conn) =
    let head = header_of bytes in
    answered c head
    (act_or_refuse m c conn head.tx_id (request_of served head.kind (payload_of bytes) (caller_of conn.spec).domid))

abbrev pub step_with : List ℕ → Machine → Item → Step
step_with served m (Asked c bytes) = step_of_conn served m c bytes (find nat_cmp c m.conns)
step_with served m (Lost c) = (without_conn c m, [])

-- the store of the whole profile
abbrev pub step : Machine → Item → Step
step = step_with all_types
