-- How a record of the program is seen: as one of the grammar.
use Rattle.std.specs.Prelude.{◌≡◌, ◌⊎◌, List, map, Result, Ok, Err, IsOk}
use Rattle.stream_model.specs.declared.fault.StreamFault.{StreamFault}
use Rattle.stream_model.specs.declared.fault.StreamFault.TheVariants.{NoMemory}
use Rattle.stream_model.specs.Record.{StreamRecord, global_data, connection_data, watch_data, transaction_data, node_data, end_record}
use Rattle.mig_records.specs.declared.record.Record.{Record}
use Rattle.mig_records.specs.declared.record.Record.TheVariants.{Global, Connection, Watch, Transaction, Node, End}

abbrev pub record_of : Record → StreamRecord
record_of (Global rw_socket_fd evtchn_fd) = global_data (record { rw_socket_fd = rw_socket_fd; evtchn_fd = evtchn_fd })
record_of (Connection conn kind spec rest inbox unsent) =
    connection_data (record { conn = conn; kind = kind; spec = spec; rest = rest; inbox = inbox; unsent = unsent })
record_of (Watch conn wpath token) = watch_data (record { conn = conn; wpath = wpath; token = token })
record_of (Transaction conn tx count) = transaction_data (record { conn = conn; tx = tx; count = count })
record_of (Node conn tx access perms path value) =
    node_data (record { conn = conn; tx = tx; access = access; perms = perms; path = path; value = value })
record_of End = end_record

abbrev pub records_of : List Record → List StreamRecord
records_of records = map record_of records

-- the answer of a call, seen through `view`, is what the bytes read as; want of memory is told of what can be read alone
abbrev pub Reads : {X Y : Type 0} → (X → Y) → Result X StreamFault → Result Y StreamFault → Type 0
Reads view (Ok x) read = read ≡ Ok (view x)
Reads view (Err fault) read = (read ≡ Err fault) ⊎ ((fault ≡ NoMemory) × IsOk read)
