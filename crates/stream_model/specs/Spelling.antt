-- How a stream is spelled: which bytes are a stream of which records (xenstore-migration.md; the layouts and the
-- bytes that are let pass are this project's own).
use Rattle.std.specs.Prelude.{ℕ, ◌+◌, ◌-◌, ◌*◌, ◌/◌, ◌^◌, ◌<◌, ◌≤◌, ◌≡◌, if◌then◌else◌, nat_lt, List, [], ◌∷◌, ◌++◌, length, codes, replicate, MatchBool, FitsSigned}
use Rattle.std.specs.Int.{w32}
use Rattle.std.specs.List.{AllByRecursion, concat, flat_map}
use Rattle.byteorder.specs.Endian.{big_bytes}
use Rattle.stream_model.specs.declared.record.RawPerm.{RawPerm}
use Rattle.stream_model.specs.declared.record.RecordType.{RecordType}
use Rattle.stream_model.specs.declared.record.RecordType.TheVariants.{End, Global, Connection, Watch, Transaction, Node}
use Rattle.stream_model.specs.Fields.{u16_bytes, u32_bytes, i32_bytes, u32_at}
use Rattle.stream_model.specs.Record.{StreamRecord, global_data, connection_data, watch_data, transaction_data, node_data, end_record, type_of, is_end}

-- the eight bytes that name the format, the version with its highest byte first, four flags bytes
unfoldable pub header : List ℕ
header = codes "xenstore" ++ big_bytes 4 1 ++ replicate 4 0

abbrev pub type_number : RecordType → ℕ
type_number End = 0
type_number Global = 1
type_number Connection = 2
type_number Watch = 3
type_number Transaction = 4
type_number Node = 5

abbrev pub entry_bytes : RawPerm → List ℕ
entry_bytes p = p.letter ∷ p.flags ∷ u16_bytes p.domid

-- the fields of a body, in order. The two bytes `pad` stand behind a connection's kind and mean nothing.
abbrev pub fields : List ℕ → StreamRecord → List (List ℕ)
fields pad (global_data g) = i32_bytes g.rw_socket_fd ∷ i32_bytes g.evtchn_fd ∷ []
fields pad (connection_data c) =
    u32_bytes c.conn ∷ u16_bytes c.kind ∷ pad ∷ c.spec ∷ u32_bytes (length c.inbox) ∷ u32_bytes c.rest ∷ u32_bytes (length c.unsent)
    ∷ c.inbox ∷ c.unsent ∷ []
fields pad (watch_data w) =
    u32_bytes w.conn ∷ u16_bytes (length w.wpath) ∷ u16_bytes (length w.token) ∷ w.wpath ∷ w.token ∷ []
fields pad (transaction_data t) = u32_bytes t.conn ∷ u32_bytes t.tx ∷ []
fields pad (node_data n) =
    u32_bytes n.conn ∷ u32_bytes n.tx ∷ u16_bytes (length n.path) ∷ u16_bytes (length n.value) ∷ u16_bytes n.access
    ∷ u16_bytes (length n.perms) ∷ flat_map entry_bytes n.perms ∷ n.path ∷ n.value ∷ []
fields pad end_record = []

-- how many bytes the fields ask for
abbrev pub need : StreamRecord → ℕ
need (global_data g) = 8
need (connection_data c) = 28 + length c.inbox + length c.unsent
need (watch_data w) = 8 + length w.wpath + length w.token
need (transaction_data t) = 8
need (node_data n) = 16 + 4 * length n.perms + length n.path + length n.value
need end_record = 0

-- the size of a whole record with a body of `len` bytes: eight bytes of type and length, the body, and padding up
-- to a multiple of 8
abbrev pub whole_size : ℕ → ℕ
whole_size len = (8 + len + 7) / 8 * 8

-- the bytes of a record that its fields do not ask for: the pad of a connection, up to seven bytes more in a body,
-- and the padding. They mean nothing, but for the count of a transaction.
pub record Slack : Type 0 where
  pub pad : List ℕ
  pub more : List ℕ
  pub padding : List ℕ

-- the count of a transaction, by the bytes behind its two ids: it is in the first four of them, and 0 where not so many
-- stand there
abbrev pub count_in : List ℕ → ℕ
count_in more = if nat_lt (length more) 4 then 0 else u32_at 0 more

-- what the bytes behind the fields say of a record: of a transaction its count, of no other record anything
abbrev pub Says : List ℕ → StreamRecord → Type 0
Says more (global_data g) = Unit {0}
Says more (connection_data c) = Unit {0}
Says more (watch_data w) = Unit {0}
Says more (transaction_data t) = t.count ≡ count_in more
Says more (node_data n) = Unit {0}
Says more end_record = Unit {0}

abbrev pub spelling : Slack → StreamRecord → List ℕ
spelling s r =
    concat (u32_bytes (type_number (type_of r)) ∷ u32_bytes (need r + length s.more) ∷ concat (fields s.pad r) ∷ s.more ∷ s.padding ∷ [])

-- numbers fit their fields
abbrev pub NumbersFit : StreamRecord → Type 0
NumbersFit (global_data g) = FitsSigned w32 g.rw_socket_fd × FitsSigned w32 g.evtchn_fd
NumbersFit (connection_data c) = (c.conn < 2 ^ 32) × (c.kind < 2 ^ 16) × (length c.spec ≡ 8) × (c.rest < 2 ^ 32)
NumbersFit (watch_data w) = w.conn < 2 ^ 32
NumbersFit (transaction_data t) = (t.conn < 2 ^ 32) × (t.tx < 2 ^ 32) × (t.count < 2 ^ 32)
NumbersFit (node_data n) = (n.conn < 2 ^ 32) × (n.tx < 2 ^ 32) × (n.access < 2 ^ 16) × AllByRecursion (λ p. p.domid < 2 ^ 16) n.perms
NumbersFit end_record = Unit {0}

-- lengths fit their fields
abbrev pub LengthsFit : StreamRecord → Type 0
LengthsFit (global_data g) = Unit {0}
LengthsFit (connection_data c) = need (connection_data c) < 2 ^ 32
LengthsFit (watch_data w) = (length w.wpath < 2 ^ 16) × (length w.token < 2 ^ 16)
LengthsFit (transaction_data t) = Unit {0}
LengthsFit (node_data n) = (length n.perms < 2 ^ 16) × (length n.path < 2 ^ 16) × (length n.value < 2 ^ 16)
LengthsFit end_record = Unit {0}

-- the record has a spelling with this slack
pub record Fits (s : Slack) (r : StreamRecord) : Type 0 where
  pub numbers : NumbersFit r
  pub lengths : LengthsFit r
  pub pad : length s.pad ≡ 2
  pub more : length s.more ≤ 7
  pub says : Says s.more r
  pub body : need r + length s.more < 2 ^ 32
  pub padding : 8 + need r + length s.more + length s.padding ≡ whole_size (need r + length s.more)

-- the bytes begin with a record, spelled with some slack, and `rest` follows it
pub record BeginsWith (bytes : List ℕ) (r : StreamRecord) (rest : List ℕ) : Type 0 where
  pub slack : Slack
  pub fits : Fits slack r
  pub parts : bytes ≡ spelling slack r ++ rest

-- the bytes are these records, one behind the other: END comes last and alone, and nothing follows it
abbrev pub AreRecords : List ℕ → List StreamRecord → Type 0
AreRecords bytes [] = ⊥
AreRecords bytes (r ∷ rs) =
    (rest : List ℕ) × BeginsWith bytes r rest × MatchBool (is_end r) ((rest ≡ []) × (rs ≡ [])) (AreRecords rest rs)

-- the bytes are a stream of these records
pub record IsStream (bytes : List ℕ) (records : List StreamRecord) : Type 0 where
  pub body : List ℕ
  pub headed : bytes ≡ header ++ body
  pub spelled : AreRecords body records

-- what is written behind the fields: the count of a transaction, and else nothing
abbrev pub written_behind : StreamRecord → List ℕ
written_behind (global_data g) = []
written_behind (connection_data c) = []
written_behind (watch_data w) = []
written_behind (transaction_data t) = u32_bytes t.count
written_behind (node_data n) = []
written_behind end_record = []

-- how many bytes a body has that is written
abbrev pub written_len : StreamRecord → ℕ
written_len r = need r + length (written_behind r)

-- the slack that is written: pad and padding are zero, and a body has no byte that means nothing
abbrev pub written_slack : StreamRecord → Slack
written_slack r =
    record { pad = u16_bytes 0; more = written_behind r; padding = replicate (whole_size (written_len r) - (8 + written_len r)) 0 }

-- the one text that is written for a record, and for a stream of records
abbrev pub canonical_record : StreamRecord → List ℕ
canonical_record r = spelling (written_slack r) r

abbrev pub canonical : List StreamRecord → List ℕ
canonical records = header ++ flat_map canonical_record records

-- END is there once, as the last
abbrev pub EndsOnce : List StreamRecord → Type 0
EndsOnce [] = ⊥
EndsOnce (r ∷ rs) = MatchBool (is_end r) (rs ≡ []) (EndsOnce rs)

-- what has a canonical text: END is last and alone, and each number and each length fits its field
pub record AreWritable (records : List StreamRecord) : Type 0 where
  pub ends : EndsOnce records
  pub numbers : AllByRecursion NumbersFit records
  pub lengths : AllByRecursion LengthsFit records
