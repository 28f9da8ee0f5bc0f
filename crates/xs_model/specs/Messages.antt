-- Messages on the wire (xs_wire.h): a header of four numbers of 32 bits, and the payload. Little-endian on every
-- machine, which is this project's own.
use Rattle.std.specs.Prelude.{ℕ, List, [], ◌∷◌, ◌++◌, length, drop, codes}
use Rattle.byteorder.specs.Endian.{little_bytes, little_number}
use Rattle.xs_model.specs.declared.message.Header.{Header}
use Rattle.xs_model.specs.declared.message.WireErr.{WireErr}
use Rattle.xs_model.specs.declared.message.WireErr.TheVariants.{Einval, Eacces, Eexist, Enoent, Enospc, Ebusy, Eagain, E2big, Enosys}

-- the number in the 32 bits from a place on
abbrev pub word_at : ℕ → List ℕ → ℕ
word_at at bytes = little_number 4 (drop at bytes)

-- the header in the first 16 bytes
abbrev pub header_of : List ℕ → Header
header_of bytes = record { kind = word_at 0 bytes; req_id = word_at 4 bytes; tx_id = word_at 8 bytes; len = word_at 12 bytes }

-- what follows the header
abbrev pub payload_of : List ℕ → List ℕ
payload_of bytes = drop 16 bytes

abbrev pub header_bytes : Header → List ℕ
header_bytes head = little_bytes 4 head.kind ++ (little_bytes 4 head.req_id ++ (little_bytes 4 head.tx_id ++ little_bytes 4 head.len))

-- a message of a type, with the request and transaction numbers that it carries
pub record Message : Type 0 where
  pub kind : ℕ
  pub req_id : ℕ
  pub tx_id : ℕ
  pub payload : List ℕ

abbrev pub header_for : Message → Header
header_for m = record { kind = m.kind; req_id = m.req_id; tx_id = m.tx_id; len = length m.payload }

abbrev pub message_bytes : Message → List ℕ
message_bytes m = header_bytes (header_for m) ++ m.payload

-- the name of an error on the wire, without the NUL that ends it there
abbrev pub error_name : WireErr → List ℕ
error_name Einval = codes "EINVAL"
error_name Eacces = codes "EACCES"
error_name Eexist = codes "EEXIST"
error_name Enoent = codes "ENOENT"
error_name Enospc = codes "ENOSPC"
error_name Ebusy = codes "EBUSY"
error_name Eagain = codes "EAGAIN"
error_name E2big = codes "E2BIG"
error_name Enosys = codes "ENOSYS"

-- a string on the wire: its bytes and a NUL
abbrev pub string : List ℕ → List ℕ
string bytes = bytes ++ 0 ∷ []

-- strings, one after the other
abbrev pub strings : List (List ℕ) → List ℕ
strings [] = []
strings (s ∷ ss) = string s ++ strings ss

-- the payload of a success without data
abbrev pub ok_payload : List ℕ
ok_payload = string (codes "OK")
