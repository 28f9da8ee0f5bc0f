-- What is spelled as a stream of records is read as these.
use Rattle.std.proofs.Common.{◌≡◌, ℕ, ◌+◌, ◌*◌, ◌^◌, ◌<◌, ◌≤◌, Bool, true, false, cond, ltb, List, [], ◌∷◌, ◌++◌, length, take, drop, Some, None, Result, Ok, refl, sym, ap, ◌∙◌, append_assoc, arith}
use Rattle.std.specs.Int.{w32, cast_signed, cast_unsigned}
use Rattle.std.specs.Prelude.{FitsSigned, MatchBool}
use Rattle.std.specs.List.{concat, flat_map}
use Rattle.std.proofs.Math.Facts.{Fits-of_z, to_z-of_z}
use Rattle.std.proofs.lemmas.Bool.{le-ltb}
use Rattle.std.proofs.lemmas.List.{append-nil, length-append, drop_at, take_at}
use Rattle.stream_model.specs.declared.fault.StreamFault.{StreamFault}
use Rattle.stream_model.specs.declared.record.RecordType.{RecordType}
use Rattle.stream_model.specs.declared.record.RecordType.TheVariants.{End, Global, Connection, Watch, Transaction, Node}
use Rattle.stream_model.specs.Fields.{u16_bytes, u32_bytes, i32_bytes, u16_at, u32_at, i32_at, part}
use Rattle.stream_model.specs.Record.{GlobalData, ConnectionData, WatchData, TransactionData, NodeData, StreamRecord, global_data, connection_data, watch_data, transaction_data, node_data, end_record, type_of, is_end}
use Rattle.stream_model.specs.Spelling.{type_number, entry_bytes, fields, need, whole_size, Slack, Says, spelling, NumbersFit, LengthsFit, Fits, AreRecords, IsStream, header}
use Rattle.stream_model.specs.Reading.{header_fault, type_with, fixed_part, whole_need, need_in, entries_in, record_in, record_at, onto, ended, records_from, stream_of}
use Rattle.stream_model.proofs.ReadingSteps.{records_from-here}
use Rattle.stream_model.proofs.FieldLemmas.{length-u16_bytes, length-u32_bytes, u16_field, u32_field, part_field, drop-fields, entries_in-spelled, length-entries}

i32_field : (before after : List (List ℕ)) (z : _) (rest : List ℕ) (place : ℕ) → length (concat before) ≡ place → FitsSigned w32 z → i32_at place (concat (before ++ (i32_bytes z ∷ after)) ++ rest) ≡ z
i32_field before after z rest place len fits =
    ap (cast_signed w32) (u32_field before after (cast_unsigned w32 z) rest place len (Fits-of_z fits).fits) ∙ to_z-of_z fits

global_again : (pad : List ℕ) (g : GlobalData) (rest : List ℕ) → NumbersFit (global_data g) → record_in Global (concat (fields pad (global_data g)) ++ rest) ≡ global_data g
global_again pad g rest fits =
    let a = i32_field [] (i32_bytes g.evtchn_fd ∷ []) g.rw_socket_fd rest 0 refl fits.0 in
    let b = i32_field (i32_bytes g.rw_socket_fd ∷ []) [] g.evtchn_fd rest 4 (simp (length-append, length-u32_bytes) (omega arith)) fits.1 in
    rw (a, b) refl

transaction_again : (pad : List ℕ) (t : TransactionData) (rest : List ℕ) → NumbersFit (transaction_data t) → Says rest (transaction_data t) → record_in Transaction (concat (fields pad (transaction_data t)) ++ rest) ≡ transaction_data t
transaction_again pad t rest fits says =
    let a = u32_field [] (u32_bytes t.tx ∷ []) t.conn rest 0 refl fits.0 in
    let b = u32_field (u32_bytes t.conn ∷ []) [] t.tx rest 4 (simp (length-append, length-u32_bytes) (omega arith)) fits.1 in
    let behind : drop 8 (concat (fields pad (transaction_data t)) ++ rest) ≡ rest = drop-fields (u32_bytes t.conn ∷ u32_bytes t.tx ∷ []) [] rest 8 (simp (length-append, length-u32_bytes) refl) in
    rw (a, b, behind, ← says) refl

watch_lengths : (pad : List ℕ) (w : WatchData) (rest : List ℕ) → LengthsFit (watch_data w)
    → (u16_at 4 (concat (fields pad (watch_data w)) ++ rest) ≡ length w.wpath) × (u16_at 6 (concat (fields pad (watch_data w)) ++ rest) ≡ length w.token)
watch_lengths pad w rest fits = (
  u16_field (u32_bytes w.conn ∷ []) (u16_bytes (length w.token) ∷ w.wpath ∷ w.token ∷ []) (length w.wpath) rest 4 (simp (length-append, length-u32_bytes) (omega arith)) fits.0,
  u16_field (u32_bytes w.conn ∷ u16_bytes (length w.wpath) ∷ []) (w.wpath ∷ w.token ∷ []) (length w.token) rest 6 (simp (length-append, length-u32_bytes, length-u16_bytes) (omega arith)) fits.1,
)

watch_again : (pad : List ℕ) (w : WatchData) (rest : List ℕ) → NumbersFit (watch_data w) → LengthsFit (watch_data w)
    → record_in Watch (concat (fields pad (watch_data w)) ++ rest) ≡ watch_data w
watch_again pad w rest numbers lengths =
    let len = watch_lengths pad w rest lengths in
    let conn = u32_field [] (u16_bytes (length w.wpath) ∷ u16_bytes (length w.token) ∷ w.wpath ∷ w.token ∷ []) w.conn rest 0 refl numbers in
    let wpath = part_field (u32_bytes w.conn ∷ u16_bytes (length w.wpath) ∷ u16_bytes (length w.token) ∷ []) (w.token ∷ []) w.wpath rest 8 (length w.wpath) (simp (length-append, length-u32_bytes, length-u16_bytes) (omega arith)) refl in
    let token = part_field (u32_bytes w.conn ∷ u16_bytes (length w.wpath) ∷ u16_bytes (length w.token) ∷ w.wpath ∷ []) [] w.token rest (8 + length w.wpath) (length w.token) (simp (length-append, length-u32_bytes, length-u16_bytes) (omega arith)) refl in
    rw (len.0, len.1, conn, wpath, token) refl

connection_lengths : (pad : List ℕ) (c : ConnectionData) (rest : List ℕ) → length pad ≡ 2 → NumbersFit (connection_data c) → LengthsFit (connection_data c)
    → (u32_at 16 (concat (fields pad (connection_data c)) ++ rest) ≡ length c.inbox) × (u32_at 24 (concat (fields pad (connection_data c)) ++ rest) ≡ length c.unsent)
connection_lengths pad c rest two numbers lengths =
    let eight = numbers.2 in (
      u32_field (u32_bytes c.conn ∷ u16_bytes c.kind ∷ pad ∷ c.spec ∷ []) (u32_bytes c.rest ∷ u32_bytes (length c.unsent) ∷ c.inbox ∷ c.unsent ∷ []) (length c.inbox) rest 16 (simp (length-append, length-u32_bytes, length-u16_bytes) (omega arith)) (omega arith),
      u32_field (u32_bytes c.conn ∷ u16_bytes c.kind ∷ pad ∷ c.spec ∷ u32_bytes (length c.inbox) ∷ u32_bytes c.rest ∷ []) (c.inbox ∷ c.unsent ∷ []) (length c.unsent) rest 24 (simp (length-append, length-u32_bytes, length-u16_bytes) (omega arith)) (omega arith),
    )

connection_again : (pad : List ℕ) (c : ConnectionData) (rest : List ℕ) → length pad ≡ 2 → NumbersFit (connection_data c) → LengthsFit (connection_data c)
    → record_in Connection (concat (fields pad (connection_data c)) ++ rest) ≡ connection_data c
connection_again pad c rest two numbers lengths =
    let eight = numbers.2 in
    let len = connection_lengths pad c rest two numbers lengths in
    let behind = u32_bytes (length c.inbox) ∷ u32_bytes c.rest ∷ u32_bytes (length c.unsent) ∷ c.inbox ∷ c.unsent ∷ [] in
    let conn = u32_field [] (u16_bytes c.kind ∷ pad ∷ c.spec ∷ behind) c.conn rest 0 refl numbers.0 in
    let kind = u16_field (u32_bytes c.conn ∷ []) (pad ∷ c.spec ∷ behind) c.kind rest 4 (simp (length-append, length-u32_bytes) (omega arith)) numbers.1 in
    let spec = part_field (u32_bytes c.conn ∷ u16_bytes c.kind ∷ pad ∷ []) behind c.spec rest 8 8 (simp (length-append, length-u32_bytes, length-u16_bytes) (omega arith)) eight in
    let partly = u32_field (u32_bytes c.conn ∷ u16_bytes c.kind ∷ pad ∷ c.spec ∷ u32_bytes (length c.inbox) ∷ []) (u32_bytes (length c.unsent) ∷ c.inbox ∷ c.unsent ∷ []) c.rest rest 20 (simp (length-append, length-u32_bytes, length-u16_bytes) (omega arith)) numbers.3 in
    let head = u32_bytes c.conn ∷ u16_bytes c.kind ∷ pad ∷ c.spec ∷ u32_bytes (length c.inbox) ∷ u32_bytes c.rest ∷ u32_bytes (length c.unsent) ∷ [] in
    let inbox = part_field head (c.unsent ∷ []) c.inbox rest 28 (length c.inbox) (simp (length-append, length-u32_bytes, length-u16_bytes) (omega arith)) refl in
    let unsent = part_field (head ++ c.inbox ∷ []) [] c.unsent rest (28 + length c.inbox) (length c.unsent) (simp (length-append, length-u32_bytes, length-u16_bytes) (omega arith)) refl in
    rw (len.0, len.1, conn, kind, spec, partly, inbox, unsent) refl

-- the three lengths in a node's body
record NodeLengths (n : NodeData) (body : List ℕ) : Type 0 where
  pub path : u16_at 8 body ≡ length n.path
  pub value : u16_at 10 body ≡ length n.value
  pub perms : u16_at 14 body ≡ length n.perms

node_lengths : (pad : List ℕ) (n : NodeData) (rest : List ℕ) → LengthsFit (node_data n) → NodeLengths n (concat (fields pad (node_data n)) ++ rest)
node_lengths pad n rest fits =
    let texts = flat_map entry_bytes n.perms ∷ n.path ∷ n.value ∷ [] in
    record {
      path = u16_field (u32_bytes n.conn ∷ u32_bytes n.tx ∷ []) (u16_bytes (length n.value) ∷ u16_bytes n.access ∷ u16_bytes (length n.perms) ∷ texts) (length n.path) rest 8 (simp (length-append, length-u32_bytes) (omega arith)) fits.1;
      value = u16_field (u32_bytes n.conn ∷ u32_bytes n.tx ∷ u16_bytes (length n.path) ∷ []) (u16_bytes n.access ∷ u16_bytes (length n.perms) ∷ texts) (length n.value) rest 10 (simp (length-append, length-u32_bytes, length-u16_bytes) (omega arith)) fits.2;
      perms = u16_field (u32_bytes n.conn ∷ u32_bytes n.tx ∷ u16_bytes (length n.path) ∷ u16_bytes (length n.value) ∷ u16_bytes n.access ∷ []) texts (length n.perms) rest 14 (simp (length-append, length-u32_bytes, length-u16_bytes) (omega arith)) fits.0;
    }

node_again : (pad : List ℕ) (n : NodeData) (rest : List ℕ) → NumbersFit (node_data n) → LengthsFit (node_data n)
    → record_in Node (concat (fields pad (node_data n)) ++ rest) ≡ node_data n
node_again pad n rest numbers lengths =
    let len = node_lengths pad n rest lengths in
    let entries = flat_map entry_bytes n.perms in
    let texts = entries ∷ n.path ∷ n.value ∷ [] in
    let counts = u16_bytes (length n.path) ∷ u16_bytes (length n.value) ∷ u16_bytes n.access ∷ u16_bytes (length n.perms) ∷ texts in
    let head = u32_bytes n.conn ∷ u32_bytes n.tx ∷ u16_bytes (length n.path) ∷ u16_bytes (length n.value) ∷ u16_bytes n.access ∷ u16_bytes (length n.perms) ∷ [] in
    let size = length-entries n.perms in
    let conn = u32_field [] (u32_bytes n.tx ∷ counts) n.conn rest 0 refl numbers.0 in
    let tx = u32_field (u32_bytes n.conn ∷ []) counts n.tx rest 4 (simp (length-append, length-u32_bytes) (omega arith)) numbers.1 in
    let access = u16_field (u32_bytes n.conn ∷ u32_bytes n.tx ∷ u16_bytes (length n.path) ∷ u16_bytes (length n.value) ∷ []) (u16_bytes (length n.perms) ∷ texts) n.access rest 12 (simp (length-append, length-u32_bytes, length-u16_bytes) (omega arith)) numbers.2 in
    let place = drop-fields head texts rest 16 (simp (length-append, length-u32_bytes, length-u16_bytes) (omega arith)) ∙ append_assoc entries (n.path ++ (n.value ++ [])) rest in
    let perms = ap (entries_in (length n.perms)) place ∙ entries_in-spelled n.perms ((n.path ++ (n.value ++ [])) ++ rest) numbers.3 in
    let path = part_field (head ++ entries ∷ []) (n.value ∷ []) n.path rest (16 + 4 * length n.perms) (length n.path) (simp (length-append, length-u32_bytes, length-u16_bytes) (omega arith)) refl in
    let value = part_field (head ++ entries ∷ n.path ∷ []) [] n.value rest (16 + 4 * length n.perms + length n.path) (length n.value) (simp (length-append, length-u32_bytes, length-u16_bytes) (omega arith)) refl in
    rw (len.path, len.value, len.perms, conn, tx, access, perms, path, value) refl

-- ---- a body

fields_length : (pad : List ℕ) (r : StreamRecord) → length pad ≡ 2 → NumbersFit r → length (concat (fields pad r)) ≡ need r
fields_length pad (global_data g) two fits = simp (length-append, length-u32_bytes) refl
fields_length pad (connection_data c) two fits = let eight = fits.2 in simp (length-append, length-u32_bytes, length-u16_bytes) (omega arith)
fields_length pad (watch_data w) two fits = simp (length-append, length-u32_bytes, length-u16_bytes) (omega arith)
fields_length pad (transaction_data t) two fits = simp (length-append, length-u32_bytes) refl
fields_length pad (node_data n) two fits = simp (length-append, length-u32_bytes, length-u16_bytes, length-entries) (omega arith)
fields_length pad end_record two fits = refl

pub record_again : (pad : List ℕ) (r : StreamRecord) (rest : List ℕ) → length pad ≡ 2 → NumbersFit r → LengthsFit r → Says rest r → record_in (type_of r) (concat (fields pad r) ++ rest) ≡ r
record_again pad (global_data g) rest two numbers lengths says = global_again pad g rest numbers
record_again pad (connection_data c) rest two numbers lengths says = connection_again pad c rest two numbers lengths
record_again pad (watch_data w) rest two numbers lengths says = watch_again pad w rest numbers lengths
record_again pad (transaction_data t) rest two numbers lengths says = transaction_again pad t rest numbers says
record_again pad (node_data n) rest two numbers lengths says = node_again pad n rest numbers lengths
record_again pad end_record rest two numbers lengths says = refl

-- the fixed part is a part of what the fields ask for
fixed-le-need : (r : StreamRecord) → fixed_part (type_of r) ≤ need r
fixed-le-need (global_data g) = omega arith
fixed-le-need (connection_data c) = omega arith
fixed-le-need (watch_data w) = omega arith
fixed-le-need (transaction_data t) = omega arith
fixed-le-need (node_data n) = omega arith
fixed-le-need end_record = omega arith

whole_need_again : (pad : List ℕ) (r : StreamRecord) (rest : List ℕ) → length pad ≡ 2 → NumbersFit r → LengthsFit r → whole_need (type_of r) (concat (fields pad r) ++ rest) ≡ need r
whole_need_again pad (global_data g) rest two numbers lengths = refl
whole_need_again pad (connection_data c) rest two numbers lengths = let len = connection_lengths pad c rest two numbers lengths in omega (arith, len.0, len.1)
whole_need_again pad (watch_data w) rest two numbers lengths = let len = watch_lengths pad w rest lengths in omega (arith, len.0, len.1)
whole_need_again pad (transaction_data t) rest two numbers lengths = refl
whole_need_again pad (node_data n) rest two numbers lengths = let len = node_lengths pad n rest lengths in omega (arith, len.path, len.value, len.perms)
whole_need_again pad end_record rest two numbers lengths = refl

need_again : (pad : List ℕ) (r : StreamRecord) (rest : List ℕ) → length pad ≡ 2 → NumbersFit r → LengthsFit r → need_in (type_of r) (concat (fields pad r) ++ rest) ≡ need r
need_again pad r rest two numbers lengths =
    let size = fields_length pad r two numbers in
    let fixed = fixed-le-need r in
    let there : ltb (length (concat (fields pad r) ++ rest)) (fixed_part (type_of r)) ≡ false = le-ltb _ _ (omega (arith, length-append (concat (fields pad r)) rest)) in
    rw there (whole_need_again pad r rest two numbers lengths)

type_again : (kind : RecordType) → type_with (type_number kind) ≡ Some kind
type_again End = refl
type_again Global = refl
type_again Connection = refl
type_again Watch = refl
type_again Transaction = refl
type_again Node = refl

type_number-lt : (kind : RecordType) → type_number kind < 2 ^ 32
type_number-lt End = omega arith
type_number-lt Global = omega arith
type_number-lt Connection = omega arith
type_number-lt Watch = omega arith
type_number-lt Transaction = omega arith
type_number-lt Node = omega arith

-- ---- a record and what follows it

-- how a spelling lies at the front of bytes
pub record Laid (s : Slack) (r : StreamRecord) (rest : List ℕ) : Type 0 where
  pub kind : u32_at 0 (spelling s r ++ rest) ≡ type_number (type_of r)
  pub len : u32_at 4 (spelling s r ++ rest) ≡ need r + length s.more
  pub body : part 8 (need r + length s.more) (spelling s r ++ rest) ≡ concat (fields s.pad r) ++ s.more
  pub size : length (spelling s r) ≡ whole_size (need r + length s.more)
  pub behind : drop (whole_size (need r + length s.more)) (spelling s r ++ rest) ≡ rest

pub is_laid : (s : Slack) (r : StreamRecord) (rest : List ℕ) → Fits s r → Laid s r rest
is_laid s r rest fits =
    let body = concat (fields s.pad r) in
    let len = need r + length s.more in
    let type_bytes = u32_bytes (type_number (type_of r)) in
    let long = fields_length s.pad r fits.pad fits.numbers in
    let padded = fits.padding in
    let size : length (spelling s r) ≡ whole_size len = simp (length-append, length-u32_bytes) (omega arith) in
    let place = drop-fields (type_bytes ∷ u32_bytes len ∷ []) (body ∷ s.more ∷ s.padding ∷ []) rest 8 (simp (length-append, length-u32_bytes) refl) in
    let grouped : concat (body ∷ s.more ∷ s.padding ∷ []) ++ rest ≡ (body ++ s.more) ++ (s.padding ++ rest) = simp (append_assoc, append-nil) in
    record {
      kind = u32_field [] (u32_bytes len ∷ body ∷ s.more ∷ s.padding ∷ []) (type_number (type_of r)) rest 0 refl (type_number-lt (type_of r));
      len = u32_field (type_bytes ∷ []) (body ∷ s.more ∷ s.padding ∷ []) len rest 4 (simp (length-append, length-u32_bytes) refl) fits.body;
      body = ap (take len) (place ∙ grouped) ∙ take_at (body ++ s.more) (s.padding ++ rest) len (omega (arith, length-append body s.more));
      size = size;
      behind = drop_at (spelling s r) rest (whole_size len) size;
    }

pub record_at-spelled : (at : ℕ) (s : Slack) (r : StreamRecord) (rest : List ℕ) → Fits s r → record_at at (spelling s r ++ rest) ≡ Ok r
record_at-spelled at s r rest fits =
    let bytes = spelling s r ++ rest in
    let len = need r + length s.more in
    let body = concat (fields s.pad r) ++ s.more in
    let laid = is_laid s r rest fits in
    let long : length bytes ≡ whole_size len + length rest = omega (arith, length-append (spelling s r) rest, laid.size) in
    let body_long : length body ≡ len = omega (arith, length-append (concat (fields s.pad r)) s.more, fields_length s.pad r fits.pad fits.numbers) in
    let few = fits.more in
    let head_there : ltb (length bytes) 8 ≡ false = le-ltb _ _ (omega arith) in
    let whole_there : ltb (length bytes) (whole_size len) ≡ false = le-ltb _ _ (omega arith) in
    let enough : ltb (length body) (need r) ≡ false = le-ltb _ _ (omega arith) in
    let no_more : ltb (need r + 7) (length body) ≡ false = le-ltb _ _ (omega arith) in
    rw (head_there, laid.kind, type_again (type_of r), laid.len, whole_there, laid.body, need_again s.pad r s.more fits.pad fits.numbers fits.lengths, enough, no_more, record_again s.pad r s.more fits.pad fits.numbers fits.lengths fits.says) refl

-- ---- all records

pub only_end : (r : StreamRecord) → is_end r ≡ true → r ≡ end_record
only_end (global_data g) e = absurd cc
only_end (connection_data c) e = absurd cc
only_end (watch_data w) e = absurd cc
only_end (transaction_data t) e = absurd cc
only_end (node_data n) e = absurd cc
only_end end_record e = refl

-- behind a record that was read
joined_again : (at size : ℕ) (rest : List ℕ) (r : StreamRecord) (rs : List StreamRecord) (b : Bool) → is_end r ≡ b
    → MatchBool b ((rest ≡ []) × (rs ≡ [])) (records_from (at + size) 0 rest ≡ Ok rs)
    → cond (is_end r) (ended (at + size) rest) (onto r (records_from (at + size) 0 rest)) ≡ Ok (r ∷ rs)
joined_again at size rest r rs true end h = rw (end, h.0, h.1, only_end r end) refl
joined_again at size rest r rs false end h = rw (end, h) refl

pub goes_on : (b : Bool) (P Q R : Type 0) → (Q → R) → MatchBool b P Q → MatchBool b P R
goes_on true P Q R f h = h
goes_on false P Q R f h = f h

pub records_from-spelled : (rs : List StreamRecord) (at : ℕ) (bytes : List ℕ) → AreRecords bytes rs → records_from at 0 bytes ≡ Ok rs
records_from-spelled [] at bytes h = absurd h
records_from-spelled (r ∷ rs) at bytes h =
    let s = h.1.slack in
    let rest = h.0 in
    let laid = is_laid s r rest h.1.fits in
    let size = whole_size (need r + length s.more) in
    let more = goes_on (is_end r) _ _ _ (records_from-spelled rs (at + size) rest) h.2 in
    let same : whole_size (u32_at 4 (spelling s r ++ rest)) ≡ size = ap whole_size laid.len in
    let le : whole_size (u32_at 4 (spelling s r ++ rest)) ≤ length (spelling s r ++ rest) = omega (arith, same, length-append (spelling s r) rest, laid.size) in
    let step = records_from-here at (spelling s r ++ rest) le in
    ap (records_from at 0) h.1.parts ∙ step
    ∙ rw (same, record_at-spelled at s r rest h.1.fits, laid.behind) (joined_again at size rest r rs (is_end r) refl more)

-- ---- the header

pub length-header : length header ≡ 16
unfolding header
length-header = refl

pub drop-header : (body : List ℕ) → drop 16 (header ++ body) ≡ body
unfolding header
drop-header body = refl

header_is_good : (body : List ℕ) → header_fault (header ++ body) ≡ None
unfolding header
header_is_good body = let long : ltb (length (header ++ body)) 16 ≡ false = le-ltb _ _ (omega arith) in rw long refl

pub stream_of-spelled : (bytes : List ℕ) (records : List StreamRecord) → IsStream bytes records → stream_of bytes ≡ Ok records
stream_of-spelled bytes records h =
    ap stream_of h.headed ∙ rw (header_is_good h.body, drop-header h.body) (records_from-spelled records 16 h.body h.spelled)

oks : (xs ys : List StreamRecord) → ◌≡◌ {A = Result (List StreamRecord) StreamFault} (Ok xs) (Ok ys) → xs ≡ ys
oks xs ys e = cc

-- two lists with one text are one
pub same_records : (bytes : List ℕ) (records others : List StreamRecord) → IsStream bytes records → IsStream bytes others → records ≡ others
same_records bytes records others h g = oks records others (sym (stream_of-spelled bytes records h) ∙ stream_of-spelled bytes others g)
