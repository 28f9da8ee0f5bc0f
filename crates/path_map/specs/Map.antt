-- What contracts see of a map from paths to items. This project's own.
use Rattle.std.specs.Prelude.{ℕ, ◌+◌, ◌/◌, max, min, not, List, [], ◌∷◌, length, Option, Some, None}
use Rattle.std.specs.FinMap.Entries.{where_key}
use Rattle.xs_model.specs.Paths.{Path, path_cmp, same_path}

-- the items by path, in the order of the paths
abbrev pub Entries : Type 0 → Type 0
Entries T = List (Path × T)

-- its entries, for how many further ones it has memory, and how many chunks without entries it keeps for them
pub record Map (T : Type 0) : Type 0 where
  pub entries : Entries T
  pub spare : ℕ
  pub kept : ℕ

-- the entries but for that of a path
abbrev pub without : {T : Type 0} → Path → Entries T → Entries T
without p es = where_key path_cmp (λ q. not (same_path p q)) es

-- The most chunks that are kept once room for so many further items was asked for. A chunk to spare serves one item at
-- least, and half a chunk of them once each full chunk has one.
abbrev pub most_kept : {T : Type 0} → Entries T → ℕ → ℕ
most_kept es items = min items (max 1 (length es) + items / 32 + 1)

-- the first entry, and what stands behind it
abbrev pub first_entry : {T : Type 0} → Entries T → Option (Path × T)
first_entry [] = None
first_entry (e ∷ es) = Some e

abbrev pub behind_first : {T : Type 0} → Entries T → Entries T
behind_first [] = []
behind_first (e ∷ es) = es
