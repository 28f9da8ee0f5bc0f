-- What contracts see of a tree in memory. This project's own.
use Rattle.std.specs.Prelude.{◌≡◌, ℕ, ◌≤◌, Bool, map}
use Rattle.std.specs.List.{list_all, AllByRecursion}
use Rattle.path_map.specs.Map.{Entries}
use Rattle.path_map.specs.Marks.{paths}
use Rattle.xs_model.specs.Paths.{Path, parents}
use Rattle.xs_model.specs.Trees.{Tree, IsTree, is_present}
use Rattle.xs_model.specs.Generations.{Generations, generation_max}
use Rattle.node_tree.specs.declared.entry.Entry.{Entry}

-- The nodes by path, and the number of each path; the number from which the next one is counted; for how many further
-- nodes it has memory, and how many chunks without entries it keeps for them
pub record KeptTree : Type 0 where
  pub nodes : Tree
  pub gens : Generations
  pub counter : ℕ
  pub spare : ℕ
  pub kept : ℕ

-- The nodes are a tree and each of its paths has a number; numbers have 48 bits.
pub record IsKept (kept : KeptTree) : Type 0 where
  pub tree : IsTree kept.nodes
  pub keys : paths kept.gens ≡ paths kept.nodes
  pub numbers : AllByRecursion (λ e. e.1 ≤ generation_max) kept.gens
  pub counter : kept.counter ≤ generation_max

-- the nodes of entries, and their numbers
abbrev pub nodes_of : Entries Entry → Tree
nodes_of entries = map (λ e. (e.0, e.1.node)) entries

abbrev pub gens_of : Entries Entry → Generations
gens_of entries = map (λ e. (e.0, e.1.generation)) entries

-- whether the path's parent is there; `/` wants none
abbrev pub has_parent : Tree → Path → Bool
has_parent tree p = list_all (is_present tree) (parents p)
