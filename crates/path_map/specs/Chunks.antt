-- Entries in chunks: a list of lists, each of which has entries, joined in order. This project's own.
use Rattle.std.specs.Prelude.{◌≡◌, ℕ, ◌+◌, ◌-◌, ◌*◌, ◌<◌, ◌≤◌, min, max, Bool, true, false, List, [], ◌∷◌, ◌++◌, length, take, drop, slice_index_or}
use Rattle.std.specs.Ordering.{is_lt, is_gt}
use Rattle.std.specs.List.{All, list_all, flat_map, sum_by}
use Rattle.xs_model.specs.Paths.{Path, path_cmp}
use Rattle.path_map.specs.Map.{Entries}

-- so many entries fill a chunk
abbrev pub full : ℕ
full = 64

abbrev pub half : ℕ
half = 32

-- the entries of all chunks
abbrev pub joined : {T : Type 0} → List (Entries T) → Entries T
joined chunks = flat_map (λ c. c) chunks

-- whether the first entry stands behind the path
abbrev pub begins_behind : {T : Type 0} → Path → Entries T → Bool
begins_behind p [] = false
begins_behind p (e ∷ es) = is_lt (path_cmp p e.0)

-- the chunks before place `low` stand before the path, and those from `high` on behind it
pub record IsRangeFor {T : Type 0} (p : Path) (chunks : List (Entries T)) (low high : ℕ) : Type 0 where
  pub some : low < high
  pub within : high ≤ length chunks
  pub before : list_all (λ e. is_gt (path_cmp p e.0)) (joined (take low chunks)) ≡ true
  pub behind : list_all (λ e. is_lt (path_cmp p e.0)) (joined (drop high chunks)) ≡ true

-- chunks of which each has entries, chunks to spare that have none, and memory for all of them in one list
pub record IsLaidOut {T : Type 0} (chunks spare : List (Entries T)) (capacity : ℕ) : Type 0 where
  pub filled : All (λ c. 0 < length c) chunks
  pub unused : All (λ c. length c ≡ 0) spare
  pub space : length chunks + length spare ≤ capacity

-- the chunks, that at place i in two
abbrev pub halved : {T : Type 0} → List (Entries T) → ℕ → List (Entries T)
halved chunks i = let c = slice_index_or chunks i [] in
    take i chunks ++ take half c ∷ drop half c ∷ drop (i + 1) chunks

-- how many entries chunks have beyond their first halves. A chunk that is full has half of one, and none after it
-- was split; an entry more adds at most one.
abbrev pub debt : {T : Type 0} → List (Entries T) → ℕ
debt chunks = sum_by (λ c. min half (length c - half)) chunks

-- what a map owes of the room that its chunks to spare have: where there is no chunk, the first of them is one
abbrev pub owed : {T : Type 0} → List (Entries T) → ℕ
owed [] = half
owed (c ∷ cs) = debt (c ∷ cs)

-- for how many further entries so many chunks to spare are enough: one each, or half a chunk of entries
abbrev pub room : {T : Type 0} → ℕ → List (Entries T) → ℕ
room spare chunks = max spare (half * spare - owed chunks)
