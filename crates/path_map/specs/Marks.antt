-- What stands behind a path, and behind all that is at and below one of its children. This project's own.
use Rattle.std.specs.Prelude.{◌≡◌, ◌<◌, ◌≤◌, ℕ, Bool, true, false, not, List, [], ◌∷◌, Option, Some, None, length, take, drop, map}
use Rattle.std.specs.Ordering.{is_lt}
use Rattle.std.specs.List.{find, list_all}
use Rattle.xs_model.specs.Paths.{Path, Name, name_cmp, path_cmp, names_below}
use Rattle.path_map.specs.Map.{Entries}
use Rattle.path_map.specs.Chunks.{joined}

-- the paths of a map, rising
abbrev pub paths : {T : Type 0} → Entries T → List Path
paths entries = map (λ e. e.0) entries

-- whether a name stands above the leaf; each stands above an empty one
abbrev pub is_above : Name → Name → Bool
is_above [] n = true
is_above (b ∷ bs) n = is_lt (name_cmp (b ∷ bs) n)

-- the first path that stands behind p
abbrev pub path_behind : {T : Type 0} → Entries T → Path → Option Path
path_behind entries p = find (λ q. is_lt (path_cmp p q)) (paths entries)

-- MARKS. The first of the names that lead from p down to q, if q is below p
abbrev pub first_below : Option (List Name) → Option Name
first_below None = None
first_below (Some []) = None
first_below (Some (n ∷ ns)) = Some n

abbrev pub is_past_by : Name → Bool → Option Name → Bool
is_past_by leaf behind None = behind
is_past_by leaf behind (Some n) = is_above leaf n

-- whether q stands behind p, and behind all that is at and below its child of this name, if that is not empty
abbrev pub is_past : Path → Name → Path → Bool
is_past p leaf q = is_past_by leaf (is_lt (path_cmp p q)) (first_below (names_below p q))

-- the first path of a map that does
abbrev pub first_past : {T : Type 0} → Path → Name → Entries T → Option Path
first_past p leaf entries = find (is_past p leaf) (paths entries)

-- whether the first entry does
abbrev pub begins_past : {T : Type 0} → Path → Name → Entries T → Bool
begins_past p leaf [] = false
begins_past p leaf (e ∷ es) = is_past p leaf e.0

-- no entry before place i is past the mark, and each from i on is
pub record IsPastFrom {T : Type 0} (p : Path) (leaf : Name) (entries : Entries T) (i : ℕ) : Type 0 where
  pub within : i ≤ length entries
  pub before : list_all (λ e. not (is_past p leaf e.0)) (take i entries) ≡ true
  pub behind : list_all (λ e. is_past p leaf e.0) (drop i entries) ≡ true

-- no entry of the chunks before place `low` is past the mark, and each of those from `high` on is
pub record IsRangePast {T : Type 0} (p : Path) (leaf : Name) (chunks : List (Entries T)) (low high : ℕ) : Type 0 where
  pub some : low < high
  pub within : high ≤ length chunks
  pub before : list_all (λ e. not (is_past p leaf e.0)) (joined (take low chunks)) ≡ true
  pub behind : list_all (λ e. is_past p leaf e.0) (joined (drop high chunks)) ≡ true
