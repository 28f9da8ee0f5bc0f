-- The bytes that the store took from a connection and has not answered: less than a message, or a message in front and
-- what a stream brought behind it (xs_wire.h).
use Rattle.std.specs.Prelude.{ℕ, zero, suc, ◌+◌, ◌-◌, List, [], ◌∷◌, length, take, nat_lt, if◌then◌else◌}
use Rattle.msg_reassembly.specs.declared.front.Front.{Front as CodeFront}
use Rattle.msg_reassembly.specs.declared.front.Front.TheVariants as code
use Rattle.xs_model.specs.Messages.{word_at}
use Rattle.world_model.specs.Fronts.{Front, Whole, TooLong, Part, front, is_part}

-- the code's front is this one
abbrev pub front_view : CodeFront → Front
front_view (code.Whole n) = Whole n
front_view code.Part = Part
front_view (code.TooLong len) = TooLong len

-- the bytes that are missing to the end of the header, or of the message
abbrev pub missing : List ℕ → ℕ
missing bytes = if nat_lt (length bytes) 16 then 16 - length bytes else 16 + word_at 12 bytes - length bytes

-- so many bytes an inbox may take at once: none where the message in front is whole, or will never be taken
abbrev pub room : List ℕ → ℕ
room bytes = if is_part (front bytes) then missing bytes else 0

-- THE WHOLE MESSAGES of bytes, up to the first front that is not whole
abbrev pub first_and : Front → List ℕ → List (List ℕ) → List (List ℕ)
first_and (Whole n) bytes more = take n bytes ∷ more
first_and (TooLong len) bytes more = []
first_and Part bytes more = []

-- behind the first byte of a front, so many bytes belong to it; a front that is not whole has all of them
abbrev pub more_in_front : Front → List ℕ → ℕ
more_in_front (Whole n) bytes = n - 1
more_in_front (TooLong len) bytes = length bytes
more_in_front Part bytes = length bytes

-- those behind the first n bytes
abbrev pub messages_behind : ℕ → List ℕ → List (List ℕ)
messages_behind n [] = []
messages_behind zero (b ∷ bs) =
    first_and (front (b ∷ bs)) (b ∷ bs) (messages_behind (more_in_front (front (b ∷ bs)) bs) bs)
messages_behind (suc n) (b ∷ bs) = messages_behind n bs

abbrev pub messages_of : List ℕ → List (List ℕ)
messages_of bytes = messages_behind 0 bytes
