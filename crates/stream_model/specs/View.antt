-- The viewer's text: a line for the header and one for each record (this project's own).
use Rattle.std.specs.Prelude.{ℕ, ◌==◌, if◌then◌else◌, List, [], ◌∷◌, ◌++◌, codes}
use Rattle.std.specs.Fmt.{decimal, signed_decimal}
use Rattle.std.specs.List.{concat, flat_map}
use Rattle.text_model.specs.Hex.{hex}
use Rattle.stream_model.specs.declared.record.RawPerm.{RawPerm}
use Rattle.stream_model.specs.Fields.{u16_at, u32_at}
use Rattle.stream_model.specs.Record.{StreamRecord, global_data, connection_data, watch_data, transaction_data, node_data, end_record}
use Rattle.stream_model.specs.Places.{next_place}

-- words, and what they say of a record
abbrev pub field : List ℕ → List ℕ → List ℕ
field words value = words ++ value

-- bytes in hexadecimal, a dash for none
abbrev pub hex_or_dash : List ℕ → List ℕ
hex_or_dash [] = codes "-"
hex_or_dash (b ∷ bytes) = hex (b ∷ bytes)

-- letter, flags and domain of a permission entry
abbrev pub entry_text : RawPerm → List ℕ
entry_text p = concat (hex (p.letter ∷ []) ∷ field (codes ".") (hex (p.flags ∷ [])) ∷ field (codes ".") (decimal p.domid) ∷ [])

-- entries with commas between them, a dash for none
abbrev pub entries_text : List RawPerm → List ℕ
entries_text [] = codes "-"
entries_text (p ∷ perms) = entry_text p ++ flat_map (λ q. field (codes ",") (entry_text q)) perms

-- a ring by domain, target and event channel, a socket by its descriptor, and any other kind by its number
abbrev pub kind_text : ℕ → List ℕ → List ℕ
kind_text kind spec =
    if kind == 0 then concat (field (codes " ring ") (decimal (u16_at 0 spec)) ∷ field (codes " target ") (decimal (u16_at 2 spec)) ∷ field (codes " evtchn ") (decimal (u32_at 4 spec)) ∷ [])
    else (if kind == 1 then field (codes " socket ") (decimal (u32_at 0 spec)) else field (codes " type ") (decimal kind))

-- the words that a record's line has behind its place
abbrev pub kind_words : StreamRecord → List ℕ
kind_words (global_data g) = codes " global rw-socket-fd "
kind_words (connection_data c) = codes " connection "
kind_words (watch_data w) = codes " watch "
kind_words (transaction_data t) = codes " transaction "
kind_words (node_data n) = codes " node conn "
kind_words end_record = codes " end"

-- what it says of its fields behind these words
abbrev pub fields_text : StreamRecord → List ℕ
fields_text (global_data g) = signed_decimal g.rw_socket_fd ++ field (codes " evtchn-fd ") (signed_decimal g.evtchn_fd)
fields_text (connection_data c) =
    concat (decimal c.conn ∷ kind_text c.kind c.spec ∷ field (codes " in ") (hex_or_dash c.inbox) ∷ field (codes " resp ") (decimal c.rest)
    ∷ field (codes " out ") (hex_or_dash c.unsent) ∷ [])
fields_text (watch_data w) =
    concat (decimal w.conn ∷ field (codes " wpath ") (hex_or_dash w.wpath) ∷ field (codes " token ") (hex_or_dash w.token) ∷ [])
fields_text (transaction_data t) = decimal t.conn ++ field (codes " ") (decimal t.tx)
fields_text (node_data n) =
    concat (decimal n.conn ∷ field (codes " tx ") (decimal n.tx) ∷ field (codes " access ") (decimal n.access) ∷ field (codes " perms ") (entries_text n.perms)
    ∷ field (codes " path ") (hex_or_dash n.path) ∷ field (codes " value ") (hex_or_dash n.value) ∷ [])
fields_text end_record = []

-- the line of a record that begins at a place
abbrev pub record_line : ℕ → StreamRecord → List ℕ
record_line at r = concat (decimal at ∷ kind_words r ∷ fields_text r ∷ (10 ∷ []) ∷ [])

-- the lines of records, the first of which begins at a place
abbrev pub lines_from : ℕ → List ℕ → List StreamRecord → List ℕ
lines_from at bytes [] = []
lines_from at bytes (r ∷ records) = record_line at r ++ lines_from (next_place bytes at) bytes records

-- the line of the header, and the whole text of a stream of these records
abbrev pub header_line : List ℕ
header_line = codes "0 header version 1" ++ 10 ∷ []

abbrev pub view_text : List ℕ → List StreamRecord → List ℕ
view_text bytes records = header_line ++ lines_from 16 bytes records
