-- Bytes in hexadecimal: two digits each, the high one first. Both cases are read, lower case is written. This
-- project's own.
use Rattle.std.specs.Prelude.{ℕ, ◌+◌, ◌-◌, ◌*◌, ◌/◌, ◌%◌, ◌==◌, ◌&&◌, List, [], ◌∷◌, length, nat_le, nat_lt, if◌then◌else◌, Option, Some, None, Result, Ok, Err, is_some}
use Rattle.text_model.specs.declared.HexFault.{HexFault}
use Rattle.text_model.specs.declared.HexFault.TheVariants.{BadDigit, Odd}

-- what a digit of either case stands for, if it is one
abbrev pub hex_value : ℕ → Option ℕ
hex_value b =
    if nat_le 48 b && nat_le b 57 then Some (b - 48)
    else (if nat_le 97 b && nat_le b 102 then Some (b - 87) else (if nat_le 65 b && nat_le b 70 then Some (b - 55) else None))

-- the lower case digit of a number below 16
abbrev pub hex_digit : ℕ → ℕ
hex_digit n = if nat_lt n 10 then 48 + n else 87 + n

-- the digits of bytes
abbrev pub hex : List ℕ → List ℕ
hex [] = []
hex (b ∷ bs) = hex_digit (b / 16) ∷ hex_digit (b % 16) ∷ hex bs

-- the place of the first byte that is no digit, the text beginning at `at`
abbrev pub bad_hex_from : ℕ → List ℕ → Option ℕ
bad_hex_from at [] = None
bad_hex_from at (b ∷ bs) = if is_some (hex_value b) then bad_hex_from (at + 1) bs else Some at

-- the value of a digit, and 0 of another byte
abbrev pub digit_value : Option ℕ → ℕ
digit_value (Some n) = n
digit_value None = 0

-- the bytes of an even number of digits
abbrev pub paired : List ℕ → List ℕ
paired [] = []
paired (a ∷ []) = []
paired (a ∷ b ∷ bs) = (16 * digit_value (hex_value a) + digit_value (hex_value b)) ∷ paired bs

abbrev pub bytes_unless : Option ℕ → List ℕ → Result (List ℕ) HexFault
bytes_unless (Some at) text = Err (BadDigit at)
bytes_unless None text = if length text % 2 == 0 then Ok (paired text) else Err Odd

-- the bytes that a text spells, or its first fault: a byte that is no digit comes before an odd number of digits
abbrev pub bytes_of_hex : List ℕ → Result (List ℕ) HexFault
bytes_of_hex text = bytes_unless (bad_hex_from 0 text) text
