-- Decimal numbers in a text: 1 to 20 ASCII digits, leading zeros accepted. This project's own. A number is
-- written by std's `decimal`, without leading zeros.
use Rattle.std.specs.Prelude.{ℕ, ◌+◌, ◌-◌, ◌*◌, Bool, ◌&&◌, ◌||◌, List, [], ◌∷◌, length, nat_le, nat_lt, if◌then◌else◌, Option, Some, None, Result, Ok, Err}
use Rattle.text_model.specs.declared.NumFault.{NumFault}
use Rattle.text_model.specs.declared.NumFault.TheVariants.{Empty, BadDigit, TooLarge}

-- `0` to `9`
abbrev pub is_digit : ℕ → Bool
is_digit b = nat_le 48 b && nat_le b 57

-- the number that digits spell, read behind those of `before`
abbrev pub digits_number : ℕ → List ℕ → ℕ
digits_number before [] = before
digits_number before (b ∷ bs) = digits_number (10 * before + (b - 48)) bs

-- the place of the first byte that is no digit, the text beginning at `at`
abbrev pub bad_digit_from : ℕ → List ℕ → Option ℕ
bad_digit_from at [] = None
bad_digit_from at (b ∷ bs) = if is_digit b then bad_digit_from (at + 1) bs else Some at

-- the number of digits alone, within the bound
abbrev pub bounded_number : ℕ → List ℕ → Result ℕ NumFault
bounded_number max text =
    if nat_lt 20 (length text) || nat_lt max (digits_number 0 text) then Err TooLarge else Ok (digits_number 0 text)

abbrev pub number_unless : Option ℕ → ℕ → List ℕ → Result ℕ NumFault
number_unless (Some at) max text = Err (BadDigit at)
number_unless None max text = bounded_number max text

-- the number of at most `max` that a text is, or its first fault
abbrev pub number_of : ℕ → List ℕ → Result ℕ NumFault
number_of max [] = Err Empty
number_of max (b ∷ bs) = number_unless (bad_digit_from 0 (b ∷ bs)) max (b ∷ bs)
