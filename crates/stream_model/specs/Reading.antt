-- What bytes read as: the records of a stream, or its first fault. The order of the faults is this project's own.
use Rattle.std.specs.Prelude.{ℕ, zero, suc, ◌+◌, ◌-◌, ◌*◌, ◌==◌, ◌||◌, not, if◌then◌else◌, nat_eq, nat_lt, List, [], ◌∷◌, length, drop, codes, Option, Some, None, Result, Ok, Err}
use Rattle.std.specs.List.{list_all, starts_with}
use Rattle.byteorder.specs.Endian.{big_number}
use Rattle.stream_model.specs.declared.fault.StreamFault.{StreamFault}
use Rattle.stream_model.specs.declared.fault.StreamFault.TheVariants.{BadIdent, Cut, BadVersion, BadFlags, UnknownType, BadLength, AfterEnd}
use Rattle.stream_model.specs.declared.record.RawPerm.{RawPerm}
use Rattle.stream_model.specs.declared.record.RecordType.{RecordType}
use Rattle.stream_model.specs.declared.record.RecordType.TheVariants.{End, Global, Connection, Watch, Transaction, Node}
use Rattle.stream_model.specs.Fields.{u8_at, u16_at, u32_at, i32_at, part}
use Rattle.stream_model.specs.Record.{GlobalData, ConnectionData, WatchData, TransactionData, NodeData, StreamRecord, global_data, connection_data, watch_data, transaction_data, node_data, end_record, is_end}
use Rattle.stream_model.specs.Spelling.{whole_size, count_in}

-- the first fault of the sixteen bytes of header, if one is there
abbrev pub header_fault : List ℕ → Option StreamFault
header_fault bytes =
    if not (starts_with nat_eq bytes (codes "xenstore")) then Some BadIdent
    else (if nat_lt (length bytes) 16 then Some (Cut 0)
    else (if not (big_number 4 (drop 8 bytes) == 1) then Some (BadVersion (big_number 4 (drop 8 bytes)))
    else (if not (list_all (λ b. b == 0) (part 12 4 bytes)) then Some BadFlags else None)))

-- the type of that number, if it is one
abbrev pub type_with : ℕ → Option RecordType
type_with n =
    if n == 0 then Some End
    else (if n == 1 then Some Global
    else (if n == 2 then Some Connection
    else (if n == 3 then Some Watch
    else (if n == 4 then Some Transaction
    else (if n == 5 then Some Node else None)))))

-- the part of a body that is there whatever its fields say
abbrev pub fixed_part : RecordType → ℕ
fixed_part End = 0
fixed_part Global = 8
fixed_part Connection = 28
fixed_part Watch = 8
fixed_part Transaction = 8
fixed_part Node = 16

-- how many bytes the fields of a body ask for, by the lengths in its fixed part
abbrev pub whole_need : RecordType → List ℕ → ℕ
whole_need End body = 0
whole_need Global body = 8
whole_need Connection body = 28 + u32_at 16 body + u32_at 24 body
whole_need Watch body = 8 + u16_at 4 body + u16_at 6 body
whole_need Transaction body = 8
whole_need Node body = 16 + 4 * u16_at 14 body + u16_at 8 body + u16_at 10 body

-- the same, and the fixed part alone where that is not there
abbrev pub need_in : RecordType → List ℕ → ℕ
need_in kind body = if nat_lt (length body) (fixed_part kind) then fixed_part kind else whole_need kind body

-- a permission entry, and so many of them
abbrev pub entry_in : List ℕ → RawPerm
entry_in bytes = record { letter = u8_at 0 bytes; flags = u8_at 1 bytes; domid = u16_at 2 bytes }

abbrev pub entries_in : ℕ → List ℕ → List RawPerm
entries_in zero bytes = []
entries_in (suc count) bytes = entry_in bytes ∷ entries_in count (drop 4 bytes)

abbrev pub global_in : List ℕ → GlobalData
global_in body = record { rw_socket_fd = i32_at 0 body; evtchn_fd = i32_at 4 body }

abbrev pub connection_in : List ℕ → ConnectionData
connection_in body = record {
  conn = u32_at 0 body;
  kind = u16_at 4 body;
  spec = part 8 8 body;
  rest = u32_at 20 body;
  inbox = part 28 (u32_at 16 body) body;
  unsent = part (28 + u32_at 16 body) (u32_at 24 body) body;
}

abbrev pub watch_in : List ℕ → WatchData
watch_in body = record {
  conn = u32_at 0 body;
  wpath = part 8 (u16_at 4 body) body;
  token = part (8 + u16_at 4 body) (u16_at 6 body) body;
}

abbrev pub transaction_in : List ℕ → TransactionData
transaction_in body = record { conn = u32_at 0 body; tx = u32_at 4 body; count = count_in (drop 8 body) }

abbrev pub node_in : List ℕ → NodeData
node_in body = record {
  conn = u32_at 0 body;
  tx = u32_at 4 body;
  access = u16_at 12 body;
  perms = entries_in (u16_at 14 body) (drop 16 body);
  path = part (16 + 4 * u16_at 14 body) (u16_at 8 body) body;
  value = part (16 + 4 * u16_at 14 body + u16_at 8 body) (u16_at 10 body) body;
}

-- the record of a body that has all that its fields ask for
abbrev pub record_in : RecordType → List ℕ → StreamRecord
record_in End body = end_record
record_in Global body = global_data (global_in body)
record_in Connection body = connection_data (connection_in body)
record_in Watch body = watch_data (watch_in body)
record_in Transaction body = transaction_data (transaction_in body)
record_in Node body = node_data (node_in body)

-- a body with what its fields need, and up to seven bytes more
abbrev pub body_record : ℕ → RecordType → ℕ → List ℕ → Result StreamRecord StreamFault
body_record at kind need body =
    if nat_lt (length body) need || nat_lt (need + 7) (length body) then Err (BadLength at need (length body)) else Ok (record_in kind body)

-- behind the eight bytes of type and length: the type is tested before the body is there
abbrev pub typed_record : ℕ → Option RecordType → List ℕ → Result StreamRecord StreamFault
typed_record at None bytes = Err (UnknownType at (u32_at 0 bytes))
typed_record at (Some kind) bytes =
    if nat_lt (length bytes) (whole_size (u32_at 4 bytes)) then Err (Cut at)
    else body_record at kind (need_in kind (part 8 (u32_at 4 bytes) bytes)) (part 8 (u32_at 4 bytes) bytes)

-- the record that begins the bytes, which stand from the place `at` on, or its first fault
abbrev pub record_at : ℕ → List ℕ → Result StreamRecord StreamFault
record_at at bytes = if nat_lt (length bytes) 8 then Err (Cut at) else typed_record at (type_with (u32_at 0 bytes)) bytes

-- a record before others
abbrev pub onto : StreamRecord → Result (List StreamRecord) StreamFault → Result (List StreamRecord) StreamFault
onto r (Ok rs) = Ok (r ∷ rs)
onto r (Err fault) = Err fault

-- END, behind which nothing may follow
abbrev pub ended : ℕ → List ℕ → Result (List StreamRecord) StreamFault
ended at [] = Ok (end_record ∷ [])
ended at (b ∷ bytes) = Err (AfterEnd at)

-- a record of `size` bytes or its fault, and what the bytes behind it read as
abbrev pub joined : ℕ → ℕ → List ℕ → Result StreamRecord StreamFault → Result (List StreamRecord) StreamFault → Result (List StreamRecord) StreamFault
joined at size bytes (Err fault) more = Err fault
joined at size bytes (Ok r) more = if is_end r then ended (at + size) (drop size bytes) else onto r more

-- what the bytes from the place `at` on read as, the first `skip` of which belong to a record that was read
abbrev pub records_from : ℕ → ℕ → List ℕ → Result (List StreamRecord) StreamFault
records_from at skip [] = Err (Cut at)
records_from at zero (b ∷ bytes) =
    joined at (whole_size (u32_at 4 (b ∷ bytes))) (b ∷ bytes) (record_at at (b ∷ bytes)) (records_from (at + 1) (whole_size (u32_at 4 (b ∷ bytes)) - 1) bytes)
records_from at (suc skip) (b ∷ bytes) = records_from (at + 1) skip bytes

abbrev pub unless : Option StreamFault → Result (List StreamRecord) StreamFault → Result (List StreamRecord) StreamFault
unless (Some fault) records = Err fault
unless None records = records

-- the records that the bytes are a stream of, or the first fault
abbrev pub stream_of : List ℕ → Result (List StreamRecord) StreamFault
stream_of bytes = unless (header_fault bytes) (records_from 16 0 (drop 16 bytes))
