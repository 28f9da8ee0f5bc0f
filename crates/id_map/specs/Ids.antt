-- Which id comes next in a list of entries in rising order of their ids, and which is free. This project's own.
use Rattle.std.specs.Prelude.{◌≡◌, ℕ, ◌<◌, ◌≤◌, true, List, [], ◌∷◌, Option, Some, None, is_some, nat_lt}
use Rattle.std.specs.FinMap.{find}
use Rattle.std.specs.FinMap.Entries.{where_key}
use Rattle.std.specs.Ordering.{nat_cmp}

-- the entries of ids above this one
abbrev pub above : {T : Type 0} → ℕ → List (ℕ × T) → List (ℕ × T)
above id entries = where_key nat_cmp (λ key. nat_lt id key) entries

-- the id of the first entry
abbrev pub first_id : {T : Type 0} → List (ℕ × T) → Option ℕ
first_id [] = None
first_id (e ∷ es) = Some e.0

-- the least id above this one that has an item
pub record IsNext {T : Type 0} (entries : List (ℕ × T)) (id next : ℕ) : Type 0 where
  pub above : id < next
  pub there : is_some (find nat_cmp next entries) ≡ true
  pub least : (k : ℕ) → id < k → is_some (find nat_cmp k entries) ≡ true → next ≤ k

-- the least id from 1 on that has no item
pub record IsLeastFree {T : Type 0} (entries : List (ℕ × T)) (id : ℕ) : Type 0 where
  pub positive : 1 ≤ id
  pub free : find nat_cmp id entries ≡ None
  pub least : (k : ℕ) → 1 ≤ k → k < id → is_some (find nat_cmp k entries) ≡ true
