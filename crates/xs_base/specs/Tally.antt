-- Calls on an end that fail by their number. This project's own, for tests: calls are numbered from 0, failed ones
-- included.
use Rattle.std.specs.Prelude.{ℕ, ◌+◌, ◌-◌, ◌^◌, ◌==◌, Bool, List, min, if◌then◌else◌}
use Rattle.std.specs.List.{list_any}

-- the numbers of the calls that are to fail, how many calls came, and how many of them failed
pub record Tally : Type 0 where
  pub fails : List ℕ
  pub calls : ℕ
  pub faults : ℕ

-- the next call is to fail
abbrev pub is_due : Tally → Bool
is_due tally = list_any (λ number. number == tally.calls) tally.fails

-- one more, as far as 64 bits go
abbrev pub one_more : ℕ → ℕ
one_more n = min (n + 1) (2 ^ 64 - 1)

-- the tally after one more call, which failed or not
abbrev pub after_call : Tally → Bool → Tally
after_call tally failed = record { fails = tally.fails; calls = one_more tally.calls; faults = if failed then one_more tally.faults else tally.faults }
