-- Digits as they are read. This project's own.
use Rattle.std.specs.Prelude.{ℕ, Option, Some, None}

-- what a digit stands for, and 16 for another byte
abbrev pub digit_or_16 : Option ℕ → ℕ
digit_or_16 (Some n) = n
digit_or_16 None = 16
