-- Places in a list of entries by ids. This project's own.
use Rattle.std.specs.Prelude.{◌≡◌, ℕ, ◌+◌, ◌-◌, ◌<◌, ◌≤◌, true, List, length, take, drop, nat_lt}
use Rattle.std.specs.List.{list_all, HoldsAt}

-- the entry at place i has the id; those before it have lower ids, and those behind it higher ones
pub record IsAt {T : Type 0} (entries : List (ℕ × T)) (id : ℕ) (i : ℕ) : Type 0 where
  pub within : i < length entries
  pub key : HoldsAt (λ e. e.0 ≡ id) entries i
  pub before : list_all (λ e. nat_lt e.0 id) (take i entries) ≡ true
  pub behind : list_all (λ e. nat_lt id e.0) (drop (i + 1) entries) ≡ true

-- the entries before place i have lower ids, and those from i on higher ones
pub record IsGapFor {T : Type 0} (entries : List (ℕ × T)) (id : ℕ) (i : ℕ) : Type 0 where
  pub within : i ≤ length entries
  pub before : list_all (λ e. nat_lt e.0 id) (take i entries) ≡ true
  pub behind : list_all (λ e. nat_lt id e.0) (drop i entries) ≡ true

-- of entries in rising order from 1 on, the first n have the ids from 1 to n, and the next one, if there is one, has a
-- higher id than n + 1
pub record IsRow {T : Type 0} (entries : List (ℕ × T)) (n : ℕ) : Type 0 where
  pub within : n ≤ length entries
  pub ends : 0 < n → HoldsAt (λ e. e.0 ≡ n) entries (n - 1)
  pub stops : n < length entries → HoldsAt (λ e. n + 1 < e.0) entries n
