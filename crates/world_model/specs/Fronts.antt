-- The front of an inbox: what a server may do with the bytes that it has taken from a guest (xs_wire.h).
use Rattle.std.specs.Prelude.{ℕ, ◌+◌, Bool, true, false, List, [], ◌∷◌, ◌++◌, length, nat_lt, if◌then◌else◌}
use Rattle.xs_model.specs.declared.message.TheConstants.{PAYLOAD_MAX}
use Rattle.xs_model.specs.Messages.{word_at}

-- a whole message of so many bytes, a header with a length above the limit, or less than either
pub data Front : Type 0 where
  Whole : ℕ → Front
  TooLong : ℕ → Front
  Part : Front

abbrev pub front_with : ℕ → List ℕ → Front
front_with len bytes =
    if nat_lt PAYLOAD_MAX len then TooLong len else (if nat_lt (length bytes) (16 + len) then Part else Whole (16 + len))

abbrev pub front : List ℕ → Front
front bytes = if nat_lt (length bytes) 16 then Part else front_with (word_at 12 bytes) bytes

abbrev pub is_part : Front → Bool
is_part (Whole n) = false
is_part (TooLong len) = false
is_part Part = true

-- How many of these bytes an inbox may take: as long as it holds less than a message
abbrev pub intake : List ℕ → List ℕ → ℕ
intake inbox [] = 0
intake inbox (b ∷ bs) = if is_part (front inbox) then 1 + intake (inbox ++ b ∷ []) bs else 0
