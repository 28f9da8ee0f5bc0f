-- The numbers of a tree's paths through edits and a stamp. This project's own.
use Rattle.std.specs.Prelude.{◌≡◌, ℕ, ◌≤◌, Bool, not, List, [], ◌∷◌, map, if◌then◌else◌, Option, Some, None, is_some}
use Rattle.std.specs.FinMap.{find, put}
use Rattle.std.specs.FinMap.Entries.{where_key}
use Rattle.std.specs.List.{list_any}
use Rattle.path_map.specs.Map.{Entries}
use Rattle.xs_model.specs.Paths.{Path, path_cmp, same_path, has_path}
use Rattle.xs_model.specs.Trees.{Node, Edit}
use Rattle.xs_model.specs.Generations.{Generations, generation_of, next_generation}
use Rattle.node_tree.specs.declared.entry.Entry.{Entry}

-- after an edit: a path that is there keeps its number, a new one has 0, and that of a removed one goes
abbrev pub renumbered_at : Generations → Path → Option Node → Generations
renumbered_at gens p (Some node) = put path_cmp p (generation_of gens p) gens
renumbered_at gens p None = where_key path_cmp (λ q. not (same_path p q)) gens

-- after edits, the first one first
abbrev pub renumbered : Generations → List Edit → Generations
renumbered gens [] = gens
renumbered gens (e ∷ es) = renumbered (renumbered_at gens e.0 e.1) es

-- once each of these paths got this number
abbrev pub restamped : List Path → ℕ → Generations → Generations
restamped changed n gens = map (λ e. (e.0, if has_path e.0 changed then n else e.1)) gens

-- whether one of these paths has a number
abbrev pub one_has : List Path → Generations → Bool
one_has changed gens = list_any (λ p. is_some (find path_cmp p gens)) changed

-- the counter after a stamp of these paths
abbrev pub counted : List Path → ℕ → Generations → ℕ
counted changed counter gens = if one_has changed gens then next_generation counter else counter

-- ENTRIES. One of a path with this number, if the path is there
abbrev pub with_number : Path → ℕ → Entries Entry → Option Entry → Entries Entry
with_number p n entries None = entries
with_number p n entries (Some entry) = put path_cmp p (record entry { generation = n }) entries

-- each of these paths, one after the other
abbrev pub with_numbers : List Path → ℕ → Entries Entry → Entries Entry
with_numbers [] n entries = entries
with_numbers (p ∷ ps) n entries = with_numbers ps n (with_number p n entries (find path_cmp p entries))

-- whether two lists have the same paths
abbrev pub HaveSame : List Path → List Path → Type 0
HaveSame ps qs = (q : Path) → has_path q ps ≡ has_path q qs
