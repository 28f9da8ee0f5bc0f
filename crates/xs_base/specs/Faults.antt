-- The count of faults that a source, a sink or a vault keeps. This project's own. It is a number of 64 bits, and
-- at the greatest such number it stands still.
use Rattle.std.specs.Prelude.{ℕ, ◌+◌, ◌-◌, ◌^◌, ◌≤◌, min}

-- the count is no less than before
abbrev pub NeverFalls : ℕ → ℕ → Type 0
NeverFalls before now = before ≤ now

-- the count is higher than before, or at its end
abbrev pub Rose : ℕ → ℕ → Type 0
Rose before now = min (before + 1) (2 ^ 64 - 1) ≤ now
