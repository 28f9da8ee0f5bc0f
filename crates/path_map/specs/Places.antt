-- Places in a list of entries whose keys rise. This project's own.
use Rattle.std.specs.Prelude.{◌≡◌, ℕ, ◌<◌, ◌≤◌, true, List, length, take, drop}
use Rattle.std.specs.Ordering.{is_lt, is_gt}
use Rattle.std.specs.List.{list_all, HoldsAt}
use Rattle.std.specs.declared.cmp.Ordering.{Ordering}

module _ {K X : Type 0} (R : K → K → Ordering) where
  -- the entry at place i has the key
  pub record IsAt (entries : List (K × X)) (k : K) (i : ℕ) : Type 0 where
    pub within : i < length entries
    pub key : HoldsAt (λ e. e.0 ≡ k) entries i

  -- the entries before place i stand before the key, and those from i on behind it
  pub record IsGapFor (entries : List (K × X)) (k : K) (i : ℕ) : Type 0 where
    pub within : i ≤ length entries
    pub before : list_all (λ e. is_gt (R k e.0)) (take i entries) ≡ true
    pub behind : list_all (λ e. is_lt (R k e.0)) (drop i entries) ≡ true
