-- A worked example: the record of a transaction that has run a command, and bodies that are too short or longer.
use Rattle.std.specs.Prelude.{ℕ, List, [], ◌∷◌, codes}
use Rattle.std.specs.List.{concat}
use Rattle.stream_model.specs.Record.{StreamRecord, transaction_data}

-- transaction 1 of connection 1, which has run so many commands
abbrev pub commands_run : ℕ → StreamRecord
commands_run count = transaction_data (record { conn = 1; tx = 1; count = count })

-- its record after one command, in hexadecimal
abbrev pub one_command_hex : List ℕ
one_command_hex = concat (codes "040000000c000000" ∷ codes "0100000001000000" ∷ codes "0100000000000000" ∷ [])

-- the same bytes as bodies of 8, 11 and 15 bytes
abbrev pub eight_bytes_hex : List ℕ
eight_bytes_hex = concat (codes "0400000008000000" ∷ codes "0100000001000000" ∷ [])

abbrev pub eleven_bytes_hex : List ℕ
eleven_bytes_hex = concat (codes "040000000b000000" ∷ codes "0100000001000000" ∷ codes "0100000000000000" ∷ [])

abbrev pub fifteen_bytes_hex : List ℕ
fifteen_bytes_hex = concat (codes "040000000f000000" ∷ codes "0100000001000000" ∷ codes "0100000000000000" ∷ [])
