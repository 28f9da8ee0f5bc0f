-- Generations: a number for each path of the tree, which grows with each change of the path. DIRECTORY_PART shows it, so
-- that a reader of several parts knows whether they are parts of one list (xenstore.txt, DIRECTORY_PART). How the numbers
-- are given is this project's own: each change takes one more than the greatest that stands.
use Rattle.std.specs.Prelude.{ℕ, ◌+◌, List, [], ◌∷◌, map, nat_lt, if◌then◌else◌, Option, Some, None}
use Rattle.std.specs.FinMap.{find}
use Rattle.xs_model.specs.Paths.{Path, path_cmp, has_path}
use Rattle.xs_model.specs.Trees.{Tree}
use Rattle.xs_model.specs.Changes.{changed_paths}

-- with the paths of the tree, in their order
abbrev pub Generations : Type 0
Generations = List (Path × ℕ)

-- a new store: `/` alone
abbrev pub new_generations : Generations
new_generations = ([], 0) ∷ []

abbrev pub or_zero : Option ℕ → ℕ
or_zero None = 0
or_zero (Some n) = n

-- the number of a path, 0 where it has none
abbrev pub generation_of : Generations → Path → ℕ
generation_of gens p = or_zero (find path_cmp p gens)

abbrev pub greater : ℕ → ℕ → ℕ
greater m n = if nat_lt m n then n else m

-- the greatest number, 0 where there is none
abbrev pub greatest : Generations → ℕ
greatest [] = 0
greatest (e ∷ es) = greater e.1 (greatest es)

-- a number has 48 bits, and stands still at the last of them
abbrev pub generation_max : ℕ
generation_max = 281474976710655

abbrev pub next_generation : ℕ → ℕ
next_generation n = if nat_lt n generation_max then n + 1 else generation_max

-- the number that the next change gives
abbrev pub stamp : Generations → ℕ
stamp gens = next_generation (greatest gens)

abbrev pub number_after : List Path → Generations → Path → ℕ
number_after changed gens p = if has_path p changed then stamp gens else generation_of gens p

-- the numbers of a tree's paths once these paths changed
abbrev pub numbered : List Path → Generations → Tree → Generations
numbered changed gens tree = map (λ e. (e.0, number_after changed gens e.0)) tree

-- The numbers after a change from one tree to another that wrote these paths. A change that wrote nothing leaves them.
abbrev pub stamped : Generations → Tree → List Path → Tree → Generations
stamped gens before [] after = gens
stamped gens before (p ∷ ps) after = numbered (changed_paths before (p ∷ ps) after) gens after
