-- A worked example: the stream of a store that has the node `/` alone, with the entry `n0` and an empty value.
use Rattle.std.specs.Prelude.{ℕ, negsuc, List, [], ◌∷◌, codes}
use Rattle.std.specs.List.{concat}
use Rattle.stream_model.specs.Record.{StreamRecord, global_data, node_data, end_record}

abbrev pub empty_store : List StreamRecord
empty_store =
    global_data (record { rw_socket_fd = negsuc 0; evtchn_fd = negsuc 0 })
    ∷ node_data (record {
      conn = 0;
      tx = 0;
      access = 0;
      perms = record { letter = 110; flags = 0; domid = 0 } ∷ [];
      path = 47 ∷ 0 ∷ [];
      value = [];
    })
    ∷ end_record
    ∷ []

-- its bytes, in hexadecimal
abbrev pub empty_store_hex : List ℕ
empty_store_hex = concat (
    codes "78656e73746f72650000000100000000" ∷ codes "0100000008000000ffffffffffffffff" ∷ codes "05000000160000000000000000000000"
    ∷ codes "02000000000001006e0000002f000000" ∷ codes "0000000000000000" ∷ [])

-- its lines in the viewer
abbrev pub empty_store_text : List ℕ
empty_store_text = concat (
    codes "0 header version 1" ∷ (10 ∷ []) ∷ codes "16 global rw-socket-fd -1 evtchn-fd -1" ∷ (10 ∷ [])
    ∷ codes "32 node conn 0 tx 0 access 0 perms 6e.00.0 path 2f00 value -" ∷ (10 ∷ []) ∷ codes "64 end" ∷ (10 ∷ []) ∷ [])
