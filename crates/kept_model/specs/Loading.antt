-- The state that records tell, or the first fault of the first record at fault. Each record is read in turn, by the tests
-- of its kind in their order (this project's own), over what the records before it told.
use Rattle.std.specs.Prelude.{ℕ, ◌+◌, ◌==◌, negsuc, Bool, true, false, not, ◌&&◌, ◌||◌, List, [], ◌∷◌, ◌++◌, length, nat_lt, nat_le, if◌then◌else◌, Option, Some, None, is_some, Result, Ok, Err}
use Rattle.std.specs.List.{list_any, list_all}
use Rattle.std.specs.Ordering.{nat_cmp}
use Rattle.std.specs.FinMap.{find, put}
use Rattle.xs_model.specs.Paths.{Path, path_cmp, is_absolute, parents, path_of}
use Rattle.xs_model.specs.Trees.{Node, new_tree, is_present}
use Rattle.xs_model.specs.Generations.{new_generations}
use Rattle.xs_model.specs.Requests.{ok_value, when, is_root, is_special, is_watch_path, is_token, one_string}
use Rattle.xs_model.specs.Watches.{Watch, same_watch}
use Rattle.xs_model.specs.Wholes.{whole_behind}
use Rattle.machine_model.specs.declared.ConnSpec.{ConnSpec}
use Rattle.machine_model.specs.declared.ConnSpec.TheVariants.{Ring, Socket}
use Rattle.machine_model.specs.declared.bounds.TheConstants.{CROWD_LIMIT}
use Rattle.machine_model.specs.Connections.{caller_of, is_ring_of}
use Rattle.stream_model.specs.Fields.{u16_at, u32_at}
use Rattle.stream_model.specs.Record.{StreamRecord, GlobalData, ConnectionData, WatchData, TransactionData, NodeData, global_data, connection_data, watch_data, transaction_data, node_data, end_record, generation_in}
use Rattle.kept_model.specs.declared.fault.LoadFault.{LoadFault}
use Rattle.kept_model.specs.declared.fault.LoadFault.TheVariants.{BadSpec, BadOut, BadText, BadPath, BadAccess, BadPerm, Repeated, UnknownConn, UnknownTxn, Orphan}
use Rattle.machine_model.specs.declared.Globals.{Globals}
use Rattle.kept_model.specs.States.{TransactionOf, ConnectionOf, StateOf}
use Rattle.kept_model.specs.Sound.{is_socket}
use Rattle.kept_model.specs.Said.{Said, is_empty, access_of, found_by, lacks_entries, said_by, perms_of}

-- TESTS, one in front of the other. The fault, if the test holds; else what follows
unfoldable pub unless : {A : Type 0} → Bool → LoadFault → Result A LoadFault → Result A LoadFault
unless bad fault next = if bad then Err fault else next

-- what follows, of a value that is there; else the fault
unfoldable pub given : {A B : Type 0} → Option A → LoadFault → (A → Result B LoadFault) → Result B LoadFault
given None fault next = Err fault
given (Some x) fault next = next x

-- WHAT CAME SO FAR. A path of a transaction, with the number of its record
pub record Pending : Type 0 where
  pub rec : ℕ
  pub conn : ℕ
  pub tx : ℕ
  pub path : Path

pub record Loading : Type 0 where
  pub state : StateOf Said
  -- whether the record of the whole store came, and one of the node `/`
  pub has_globals : Bool
  pub has_root : Bool
  -- in the order of their records
  pub pending : List Pending

abbrev pub no_globals : Globals
no_globals = record { rw_socket_fd = negsuc 0; evtchn_fd = negsuc 0 }

-- a new store without connections, where the first record of `/` counts
abbrev pub none_came : Loading
none_came = record {
  state = record { tree = new_tree; gens = new_generations; globals = no_globals; conns = [] };
  has_globals = false;
  has_root = false;
  pending = [];
}

abbrev pub conns_in : Loading → List (ℕ × ConnectionOf Said)
conns_in l = l.state.conns

abbrev pub with_state : StateOf Said → Loading → Loading
with_state state l = record { state = state; has_globals = l.has_globals; has_root = l.has_root; pending = l.pending }

abbrev pub with_connection : ℕ → ConnectionOf Said → Loading → Loading
with_connection c conn l = with_state
    (record { tree = l.state.tree; gens = l.state.gens; globals = l.state.globals; conns = put nat_cmp c conn l.state.conns }) l

abbrev pub with_opens : List (ℕ × TransactionOf Said) → ConnectionOf Said → ConnectionOf Said
with_opens opens conn = record {
  spec = conn.spec;
  watches = conn.watches;
  inbox = conn.inbox;
  rest = conn.rest;
  unsent = conn.unsent;
  opens = opens;
}

-- GLOBAL_DATA
abbrev pub load_globals : ℕ → Loading → GlobalData → Result Loading LoadFault
load_globals n l d =
    unless l.has_globals (Repeated n)
    (Ok (record {
      state = record {
        tree = l.state.tree;
        gens = l.state.gens;
        globals = record { rw_socket_fd = d.rw_socket_fd; evtchn_fd = d.evtchn_fd };
        conns = l.state.conns;
      };
      has_globals = true;
      has_root = l.has_root;
      pending = l.pending;
    }))

-- CONNECTION_DATA. A target is a domain, or the number that stands for none
abbrev pub target_of : ℕ → Option (Option ℕ)
target_of number = if nat_le number 32751 then Some (Some number) else (if number == 32756 then Some None else None)

abbrev pub ring_spec : ℕ → ℕ → Option (Option ℕ) → Option ConnSpec
ring_spec domid evtchn None = None
ring_spec domid evtchn (Some target) = when (nat_le domid 32751) (Ring domid target evtchn)

-- what stands at the other end, by the kind and its eight bytes
abbrev pub spec_of : ℕ → List ℕ → Option ConnSpec
spec_of kind bytes =
    if kind == 0 then ring_spec (u16_at 0 bytes) (u32_at 4 bytes) (target_of (u16_at 2 bytes))
    else (if kind == 1 then Some (Socket (u32_at 0 bytes)) else None)

abbrev pub is_end_of : ConnSpec → ConnSpec → Bool
is_end_of (Ring domid target evtchn) other = is_ring_of domid other
is_end_of (Socket fd) other = false

abbrev pub count_sockets : List (ℕ × ConnectionOf Said) → ℕ
count_sockets [] = 0
count_sockets (e ∷ es) = if is_socket e.1.spec then 1 + count_sockets es else count_sockets es

abbrev pub is_one_too_many : ConnSpec → List (ℕ × ConnectionOf Said) → Bool
is_one_too_many spec conns = is_socket spec && nat_le 65536 (count_sockets conns)

abbrev pub connection_by : ConnSpec → ConnectionData → ConnectionOf Said
connection_by spec d =
    record { spec = spec; watches = []; inbox = d.inbox; rest = d.rest; unsent = d.unsent; opens = [] }

abbrev pub load_connection : ℕ → Loading → ConnectionData → Result Loading LoadFault
load_connection n l d =
    unless (d.conn == 0) (BadSpec n)
    (given (spec_of d.kind d.spec) (BadSpec n) (λ spec.
    unless (is_one_too_many spec (conns_in l)) (BadSpec n)
    (unless (nat_lt 16777216 (length d.inbox)) (BadSpec n)
    (unless (nat_lt CROWD_LIMIT (length d.unsent) || not (whole_behind d.rest d.unsent)) (BadOut n)
    (unless (is_some (find nat_cmp d.conn (conns_in l)) || list_any (λ e. is_end_of spec e.1.spec) (conns_in l)) (Repeated n)
    (Ok (with_connection d.conn (connection_by spec d) l)))))))

-- WATCH_DATA
abbrev pub with_watch : Watch → ConnectionOf Said → ConnectionOf Said
with_watch w conn = record {
  spec = conn.spec;
  watches = conn.watches ++ w ∷ [];
  inbox = conn.inbox;
  rest = conn.rest;
  unsent = conn.unsent;
  opens = conn.opens;
}

abbrev pub load_watch : ℕ → Loading → WatchData → Result Loading LoadFault
load_watch n l d =
    given (find nat_cmp d.conn (conns_in l)) (UnknownConn n) (λ conn.
    given (one_string d.wpath) (BadText n) (λ wpath.
    given (one_string d.token) (BadText n) (λ token.
    unless (not (is_token token)) (BadText n)
    (unless (not (is_watch_path wpath (caller_of conn.spec).domid)) (BadPath n)
    (unless (list_any (same_watch (record { wpath = wpath; token = token })) conn.watches) (Repeated n)
    (Ok (with_connection d.conn (with_watch (record { wpath = wpath; token = token }) conn) l)))))))

-- TRANSACTION_DATA
abbrev pub transaction_by : TransactionData → TransactionOf Said
transaction_by d = record { count = d.count; marks = [] }

abbrev pub load_transaction : ℕ → Loading → TransactionData → Result Loading LoadFault
load_transaction n l d =
    given (find nat_cmp d.conn (conns_in l)) (UnknownConn n) (λ conn.
    unless (d.tx == 0) (BadSpec n)
    (unless (is_some (find nat_cmp d.tx conn.opens)) (Repeated n)
    (Ok (with_connection d.conn (with_opens (put nat_cmp d.tx (transaction_by d) conn.opens) conn) l))))

-- NODE_DATA of the store. The record of a special path is read past, and the first one of `/` takes the place of the node
-- that a new store has
abbrev pub has_come : Loading → Path → Bool
has_come l p = if is_root p then l.has_root else is_present l.state.tree p

abbrev pub with_node : Path → Node → ℕ → Loading → Loading
with_node p node number l = record {
  state = record {
    tree = put path_cmp p node l.state.tree;
    gens = put path_cmp p number l.state.gens;
    globals = l.state.globals;
    conns = l.state.conns;
  };
  has_globals = l.has_globals;
  has_root = l.has_root || is_root p;
  pending = l.pending;
}

abbrev pub load_node : ℕ → Loading → NodeData → Path → Result Loading LoadFault
load_node n l d p =
    unless (is_empty d.perms) (BadAccess n)
    (given (perms_of d.perms) (BadPerm n) (λ perms.
    unless (has_come l p) (Repeated n)
    (unless (not (list_all (is_present l.state.tree) (parents p))) (Orphan n)
    (Ok (with_node p (record { value = d.value; perms = perms }) (generation_in d) l)))))

-- and of a transaction
abbrev pub with_said : Path → Said → TransactionOf Said → TransactionOf Said
with_said p said t = record { count = t.count; marks = put path_cmp p said t.marks }

abbrev pub with_pending : Pending → Loading → Loading
with_pending pending l = record { state = l.state; has_globals = l.has_globals; has_root = l.has_root; pending = l.pending ++ pending ∷ [] }

abbrev pub load_mark : ℕ → Loading → NodeData → Path → Result Loading LoadFault
load_mark n l d p =
    given (access_of d.access) (BadAccess n) (λ access.
    unless (lacks_entries access d) (BadAccess n)
    (given (found_by access d) (BadPerm n) (λ found.
    given (find nat_cmp d.conn (conns_in l)) (UnknownConn n) (λ conn.
    given (find nat_cmp d.tx conn.opens) (UnknownTxn n) (λ t.
    unless (is_some (find path_cmp p t.marks)) (Repeated n)
    (Ok (with_pending (record { rec = n; conn = d.conn; tx = d.tx; path = p })
    (with_connection d.conn (with_opens (put nat_cmp d.tx (with_said p (said_by access found) t) conn.opens) conn) l))))))))

-- an absolute path
abbrev pub absolute_of : List ℕ → Option Path
absolute_of bytes = if is_absolute bytes then ok_value (path_of bytes 0) else None

abbrev pub load_at : ℕ → Loading → NodeData → List ℕ → Result Loading LoadFault
load_at n l d bytes =
    given (absolute_of bytes) (BadPath n) (λ p. if d.conn == 0 then load_node n l d p else load_mark n l d p)

abbrev pub load_node_data : ℕ → Loading → NodeData → Result Loading LoadFault
load_node_data n l d =
    given (one_string d.path) (BadText n) (λ bytes. if d.conn == 0 && is_special bytes then Ok l else load_at n l d bytes)

-- EVERY RECORD
abbrev pub load_record : ℕ → Loading → StreamRecord → Result Loading LoadFault
load_record n l (global_data d) = load_globals n l d
load_record n l (connection_data d) = load_connection n l d
load_record n l (watch_data d) = load_watch n l d
load_record n l (transaction_data d) = load_transaction n l d
load_record n l (node_data d) = load_node_data n l d
load_record n l end_record = Ok l

infixl 10 ◌>>=◌
abbrev pub ◌>>=◌ : {A B : Type 0} → Result A LoadFault → (A → Result B LoadFault) → Result B LoadFault
(Ok x) >>= f = f x
(Err fault) >>= f = Err fault

-- these records, the first of which has the number n
abbrev pub load_from : ℕ → Loading → List StreamRecord → Result Loading LoadFault
load_from n l [] = Ok l
load_from n l (r ∷ rs) = load_record n l r >>= (λ next. load_from (n + 1) next rs)
