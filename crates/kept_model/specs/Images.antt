-- The image of a state: the one stream that is written for it (xenstore-migration.md). The order of its records is this
-- project's own.
use Rattle.std.specs.Prelude.{ℕ, ◌+◌, ◌/◌, ◌%◌, ◌^◌, Bool, true, false, List, [], ◌∷◌, ◌++◌, map, flat_map, Option, Some, None}
use Rattle.xs_model.specs.declared.perm.Perm.{Perm}
use Rattle.xs_model.specs.Paths.{Path, text}
use Rattle.xs_model.specs.Trees.{Node, Tree, node_at}
use Rattle.xs_model.specs.Generations.{Generations, generation_of}
use Rattle.xs_model.specs.Messages.{string}
use Rattle.xs_model.specs.Watches.{Watch}
use Rattle.machine_model.specs.declared.ConnSpec.{ConnSpec}
use Rattle.machine_model.specs.declared.ConnSpec.TheVariants.{Ring, Socket}
use Rattle.mark_model.specs.Marks.{Mark, Seen, Changed, Wrote, Gone, Kept}
use Rattle.stream_model.specs.Fields.{u16_bytes, u32_bytes}
use Rattle.stream_model.specs.Record.{StreamRecord, global_data, connection_data, watch_data, transaction_data, node_data, end_record}
use Rattle.stream_model.specs.Spelling.{canonical}
use Rattle.machine_model.specs.declared.Globals.{Globals}
use Rattle.kept_model.specs.States.{TransactionOf, ConnectionOf, State}
use Rattle.kept_model.specs.Said.{raw_of}

-- CONNECTIONS. A ring that has no target has the number 32756 in its place
abbrev pub target_number : Option ℕ → ℕ
target_number None = 32756
target_number (Some domid) = domid

abbrev pub kind_number : ConnSpec → ℕ
kind_number (Ring domid target evtchn) = 0
kind_number (Socket fd) = 1

abbrev pub spec_bytes : ConnSpec → List ℕ
spec_bytes (Ring domid target evtchn) = u16_bytes domid ++ (u16_bytes (target_number target) ++ u32_bytes evtchn)
spec_bytes (Socket fd) = u32_bytes fd ++ u32_bytes 0

abbrev pub connection_record : ℕ → ConnectionOf Mark → StreamRecord
connection_record c conn = connection_data (record {
  conn = c;
  kind = kind_number conn.spec;
  spec = spec_bytes conn.spec;
  rest = conn.rest;
  inbox = conn.inbox;
  unsent = conn.unsent;
})

abbrev pub watch_record : ℕ → Watch → StreamRecord
watch_record c w = watch_data (record { conn = c; wpath = string w.wpath; token = string w.token })

abbrev pub transaction_record : ℕ → ℕ → TransactionOf Mark → StreamRecord
transaction_record c tx t = transaction_data (record { conn = c; tx = tx; count = t.count })

-- NODES, and none, which has neither entries nor a value
abbrev pub value_in : Option Node → List ℕ
value_in None = []
value_in (Some node) = node.value

abbrev pub perms_in : Option Node → List Perm
perms_in None = []
perms_in (Some node) = node.perms

abbrev pub found_record : ℕ → ℕ → ℕ → Path → Option Node → StreamRecord
found_record c tx access p found = node_data (record {
  conn = c;
  tx = tx;
  access = access;
  perms = map raw_of (perms_in found);
  path = string (text p);
  value = value_in found;
})

-- a node of the store has its number in the place of a transaction and an access
abbrev pub node_record : Generations → Path → Node → StreamRecord
node_record gens p node =
    found_record 0 (generation_of gens p % 2 ^ 32) (generation_of gens p / 2 ^ 32) p (Some node)

-- the highest bit of an access says that others changed the path
abbrev pub access_number : Bool → ℕ → ℕ
access_number false low = low
access_number true low = low + 32768

-- a path that was looked at and that nobody changed has the node that stands there
abbrev pub mark_record : Tree → ℕ → ℕ → Path → Mark → StreamRecord
mark_record tree c tx p Seen = found_record c tx 1 p (node_at tree p)
mark_record tree c tx p (Changed old) = found_record c tx 32769 p old
mark_record tree c tx p (Wrote others node) = found_record c tx (access_number others 2) p (Some node)
mark_record tree c tx p (Gone others) = found_record c tx (access_number others 0) p None
mark_record tree c tx p (Kept old) = found_record c tx 49152 p old

-- THE RECORDS of a state, in their order: connections by id, watches in the order made, transactions by connection and
-- number, nodes by path, and what the transactions keep by connection, number and path
abbrev pub globals_record : Globals → StreamRecord
globals_record globals = global_data (record { rw_socket_fd = globals.rw_socket_fd; evtchn_fd = globals.evtchn_fd })

abbrev pub watch_records : ℕ → ConnectionOf Mark → List StreamRecord
watch_records c conn = map (watch_record c) conn.watches

abbrev pub transaction_records : ℕ → ConnectionOf Mark → List StreamRecord
transaction_records c conn = map (λ e. transaction_record c e.0 e.1) conn.opens

abbrev pub mark_records : Tree → ℕ → ConnectionOf Mark → List StreamRecord
mark_records tree c conn = flat_map (λ e. map (λ f. mark_record tree c e.0 f.0 f.1) e.1.marks) conn.opens

abbrev pub records_of : State → List StreamRecord
records_of s =
    globals_record s.globals
    ∷ (map (λ e. connection_record e.0 e.1) s.conns
    ++ (flat_map (λ e. watch_records e.0 e.1) s.conns
    ++ (flat_map (λ e. transaction_records e.0 e.1) s.conns
    ++ (map (λ e. node_record s.gens e.0 e.1) s.tree
    ++ (flat_map (λ e. mark_records s.tree e.0 e.1) s.conns ++ end_record ∷ [])))))

abbrev pub image : State → List ℕ
image s = canonical (records_of s)
