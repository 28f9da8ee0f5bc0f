-- The store that is kept: the sequential store with marks in the place of its transactions. A law in `src/laws.rt` says
-- that each step of it is the step of the sequential store.
use Rattle.std.specs.Prelude.{◌≡◌, ℕ, ◌==◌, ◌≤◌, Bool, true, false, not, List, [], ◌∷◌, length, map, nat_le, decimal, if◌then◌else◌, Option, Some, None, Result, Ok, Err}
use Rattle.std.specs.List.{AllByRecursion}
use Rattle.std.specs.Ordering.{nat_cmp}
use Rattle.std.specs.FinMap.{find, put}
use Rattle.std.specs.FinMap.Entries.{where_key}
use Rattle.xs_model.specs.declared.message.Header.{Header}
use Rattle.xs_model.specs.declared.message.WireErr.{WireErr}
use Rattle.xs_model.specs.declared.message.WireErr.TheVariants.{Enoent, Enospc, Ebusy, Eagain}
use Rattle.xs_model.specs.Paths.{Path}
use Rattle.xs_model.specs.Trees.{Tree, Edit, IsTree}
use Rattle.xs_model.specs.Messages.{header_of, payload_of, string, ok_payload}
use Rattle.xs_model.specs.Generations.{generation_of, stamped}
use Rattle.xs_model.specs.Requests.{Operation, Request, Command, Watch as WatchRequest, Unwatch, Start, End, Introduce, Release, DomainPath, IsIntroduced, SetTarget, ResetWatches, request_of}
use Rattle.xs_model.specs.Commands.{Outcome, command_edits}
use Rattle.xs_model.specs.Changes.{changed_paths}
use Rattle.machine_model.specs.Connections.{Connection, Connections, caller_of, least_free}
use Rattle.machine_model.specs.Transactions.{Transaction, Ran, outcome_on, count, count_max, within_count, if_any}
use Rattle.machine_model.specs.Machine.{Machine, Item, Asked, Lost, Done, Send, act, change_sends, ran_by, reply_message, transaction_limit, without_conn}
use Rattle.machine_model.specs.Limits.{HasIds}
use Rattle.mark_model.specs.Marks.{Marks, overlay, committed, written_paths, access_all, write_all, note_all, has_conflict, AreOver}
use Rattle.mark_model.specs.Open.{marks_of, begun}

-- an open transaction: its marks, and how many of its commands wrote something
pub record KeptTransaction : Type 0 where
  pub marks : Marks
  pub count : ℕ

-- the open transactions of a connection, by number
abbrev pub Opens : Type 0
Opens = List (ℕ × KeptTransaction)

pub record KeptStore : Type 0 where
  -- the store, with connections that have no transaction open
  pub machine : Machine
  -- and the open transactions of each connection, by its id
  pub opens : List (ℕ × Opens)

-- WHAT IS KEPT of the sequential store
abbrev pub kept_transaction : Transaction → KeptTransaction
kept_transaction t = record { marks = marks_of t; count = count t }

abbrev pub opens_in : Connection → Opens
opens_in conn = map (λ e. (e.0, kept_transaction e.1)) conn.transactions

abbrev pub without_transactions : Connection → Connection
without_transactions conn = record { spec = conn.spec; watches = conn.watches; transactions = [] }

abbrev pub bare : Machine → Machine
bare m = record { tree = m.tree; gens = m.gens; conns = map (λ e. (e.0, without_transactions e.1)) m.conns }

abbrev pub kept_of : Machine → KeptStore
kept_of m = record { machine = bare m; opens = map (λ e. (e.0, opens_in e.1)) m.conns }

-- THE OTHER WAY: the sequential store with which a kept one goes on
abbrev pub or_no_opens : Option Opens → Opens
or_no_opens None = []
or_no_opens (Some transactions) = transactions

abbrev pub opens_of : ℕ → List (ℕ × Opens) → Opens
opens_of c opens = or_no_opens (find nat_cmp c opens)

abbrev pub begun_transaction : Tree → KeptTransaction → Transaction
begun_transaction tree t = begun tree t.marks t.count

abbrev pub begun_conn : Tree → Opens → Connection → Connection
begun_conn tree transactions conn = record {
  spec = conn.spec;
  watches = conn.watches;
  transactions = map (λ e. (e.0, begun_transaction tree e.1)) transactions;
}

abbrev pub begun_machine : KeptStore → Machine
begun_machine k = record {
  tree = k.machine.tree;
  gens = k.machine.gens;
  conns = map (λ e. (e.0, begun_conn k.machine.tree (opens_of e.0 k.opens) e.1)) k.machine.conns;
}

-- A kept store of the kind that steps keep
pub record IsKeptTransaction (tree : Tree) (t : KeptTransaction) : Type 0 where
  pub marks : AreOver tree t.marks
  pub count : t.count ≤ count_max

pub record IsKeptStore (k : KeptStore) : Type 0 where
  pub tree : IsTree k.machine.tree
  pub ids : HasIds k.machine.conns
  pub none_open : AllByRecursion (λ e. e.1.transactions ≡ []) k.machine.conns
  pub keys : map (λ e. e.0) k.opens ≡ map (λ e. e.0) k.machine.conns
  pub each : AllByRecursion (λ e. AllByRecursion (λ f. IsKeptTransaction k.machine.tree f.1) e.1) k.opens

-- A REQUEST: its reply, the store after it, and what is sent besides
pub record KeptDone : Type 0 where
  pub reply : Result (List ℕ) WireErr
  pub store : KeptStore
  pub sends : List Send

abbrev pub kept_refused : WireErr → KeptStore → KeptDone
kept_refused error k = record { reply = Err error; store = k; sends = [] }

abbrev pub kept_replied : List ℕ → KeptStore → KeptDone
kept_replied payload k = record { reply = Ok payload; store = k; sends = [] }

abbrev pub with_opens : ℕ → Opens → KeptStore → KeptStore
with_opens c transactions k = record { machine = k.machine; opens = put nat_cmp c transactions k.opens }

abbrev pub without_open : ℕ → Opens → Opens
without_open id transactions = where_key nat_cmp (λ i. not (id == i)) transactions

-- A CHANGE of the tree: each open transaction notes the changed paths, and these get a new number
abbrev pub noted : Tree → List Path → Opens → Opens
noted tree changed transactions = map (λ e. (e.0, record { marks = note_all tree changed e.1.marks; count = e.1.count })) transactions

-- a change of nothing is noted nowhere
abbrev pub noted_all : Tree → List Path → List (ℕ × Opens) → List (ℕ × Opens)
noted_all tree [] opens = opens
noted_all tree (p ∷ ps) opens = map (λ e. (e.0, noted tree (p ∷ ps) e.1)) opens

abbrev pub with_tree : Tree → List Path → Machine → Machine
with_tree tree written m = record { tree = tree; gens = stamped m.gens m.tree written tree; conns = m.conns }

abbrev pub changed_store : Tree → List Path → KeptStore → KeptStore
changed_store tree written k = record {
  machine = with_tree tree written k.machine;
  opens = noted_all k.machine.tree (changed_paths k.machine.tree written tree) k.opens;
}

-- the change, answered so, with the events that it owes
abbrev pub kept_change : Result (List ℕ) WireErr → Tree → List Path → KeptStore → KeptDone
kept_change reply tree written k = record {
  reply = reply;
  store = changed_store tree written k;
  sends = change_sends k.machine.tree written tree k.machine.conns;
}

-- TREE COMMANDS. Outside of transactions they change the tree at once
abbrev pub kept_outside : KeptStore → Outcome → KeptDone
kept_outside k outcome = kept_change outcome.reply outcome.tree outcome.written k

-- inside one they change its marks
abbrev pub edits_of : Tree → Ran → List Edit
edits_of tree ran = command_edits ran.operation ran.path ran.caller ran.number tree

abbrev pub ran_over : Tree → Ran → KeptTransaction → KeptTransaction
ran_over tree ran t =
    let seen = overlay tree t.marks in
    let outcome : Outcome = outcome_on seen ran in
    record {
      marks = access_all outcome.touched (write_all (edits_of seen ran) t.marks);
      count = within_count (if_any outcome.written t.count);
    }

abbrev pub kept_inside : KeptStore → ℕ → Connection → ℕ → Operation → Path → Option KeptTransaction → KeptDone
kept_inside k c conn id operation path None = kept_refused Enoent k
kept_inside k c conn id operation path (Some t) =
    let ran : Ran = ran_by conn operation path t.count in
    record {
      reply = (outcome_on (overlay k.machine.tree t.marks) ran).reply;
      store = with_opens c (put nat_cmp id (ran_over k.machine.tree ran t) (opens_of c k.opens)) k;
      sends = [];
    }

abbrev pub kept_command : KeptStore → ℕ → Connection → ℕ → Operation → Path → KeptDone
kept_command k c conn tx operation path =
    if tx == 0
    then kept_outside k (outcome_on k.machine.tree (ran_by conn operation path (generation_of k.machine.gens path)))
    else kept_inside k c conn tx operation path (find nat_cmp tx (opens_of c k.opens))

-- TRANSACTIONS. A new one has no marks
abbrev pub no_marks : KeptTransaction
no_marks = record { marks = []; count = 0 }

abbrev pub kept_start : KeptStore → ℕ → Connection → ℕ → Opens → KeptDone
kept_start k c conn tx transactions =
    if not (tx == 0) then kept_refused Ebusy k
    else (if nat_le (transaction_limit conn.spec) (length transactions) then kept_refused Enospc k
    else kept_replied (string (decimal (least_free transactions))) (with_opens c (put nat_cmp (least_free transactions) no_marks transactions) k))

-- Its end. `k` is without it.
abbrev pub kept_finish : Bool → KeptStore → KeptTransaction → KeptDone
kept_finish false k t = kept_replied ok_payload k
kept_finish true k t =
    if has_conflict t.marks then kept_refused Eagain k
    else kept_change (Ok ok_payload) (committed k.machine.tree t.marks) (written_paths t.marks) k

abbrev pub kept_close : Bool → KeptStore → ℕ → ℕ → Opens → Option KeptTransaction → KeptDone
kept_close commit k c id transactions None = kept_refused Enoent k
kept_close commit k c id transactions (Some t) = kept_finish commit (with_opens c (without_open id transactions) k) t

-- ALL OTHER REQUESTS do what they do in the sequential store; a connection that goes takes its transactions along, and
-- a new one has none
abbrev pub opens_by : Connections → List (ℕ × Opens) → List (ℕ × Opens)
opens_by conns opens = map (λ e. (e.0, opens_of e.0 opens)) conns

abbrev pub beside : KeptStore → Done → KeptDone
beside k done = record {
  reply = done.reply;
  store = record { machine = done.machine; opens = opens_by done.machine.conns k.opens };
  sends = done.sends;
}

-- ONE REQUEST of the connection `conn`, whose id is c, under the transaction number tx
abbrev pub kept_act : KeptStore → ℕ → Connection → ℕ → Request → KeptDone
kept_act k c conn tx (Command operation path) = kept_command k c conn tx operation path
kept_act k c conn tx (WatchRequest wpath token) = beside k (act k.machine c conn tx (WatchRequest wpath token))
kept_act k c conn tx (Unwatch wpath token) = beside k (act k.machine c conn tx (Unwatch wpath token))
kept_act k c conn tx Start = kept_start k c conn tx (opens_of c k.opens)
kept_act k c conn tx (End commit) = kept_close commit k c tx (opens_of c k.opens) (find nat_cmp tx (opens_of c k.opens))
kept_act k c conn tx (Introduce domid evtchn) = beside k (act k.machine c conn tx (Introduce domid evtchn))
kept_act k c conn tx (Release domid) = beside k (act k.machine c conn tx (Release domid))
kept_act k c conn tx (DomainPath domid) = beside k (act k.machine c conn tx (DomainPath domid))
kept_act k c conn tx (IsIntroduced domid) = beside k (act k.machine c conn tx (IsIntroduced domid))
kept_act k c conn tx (SetTarget domid target) = beside k (act k.machine c conn tx (SetTarget domid target))
kept_act k c conn tx ResetWatches = beside (with_opens c [] k) (act k.machine c conn tx ResetWatches)

abbrev pub kept_act_or_refuse : KeptStore → ℕ → Connection → ℕ → Result Request WireErr → KeptDone
kept_act_or_refuse k c conn tx (Err error) = kept_refused error k
kept_act_or_refuse k c conn tx (Ok request) = kept_act k c conn tx request

-- THE STEP
abbrev pub kept_answered : ℕ → Header → KeptDone → KeptStore × List Send
kept_answered c head done = (done.store, (c, reply_message head done.reply) ∷ done.sends)

abbrev pub kept_step_of : List ℕ → KeptStore → ℕ → List ℕ → Option Connection → KeptStore × List Send
kept_step_of served k c bytes None = (k, [])
kept_step_of served k c bytes (Some conn) =
    let head = header_of bytes in
    kept_answered c head
    (kept_act_or_refuse k c conn head.tx_id (request_of served head.kind (payload_of bytes) (caller_of conn.spec).domid))

abbrev pub kept_step : List ℕ → KeptStore → Item → KeptStore × List Send
kept_step served k (Asked c bytes) = kept_step_of served k c bytes (find nat_cmp c k.machine.conns)
kept_step served k (Lost c) =
    (record { machine = without_conn c k.machine; opens = where_key nat_cmp (λ d. not (c == d)) k.opens }, [])
