-- The nodes of the store that came, and their numbers. This project's own.
use Rattle.std.specs.Prelude.{◌≡◌, ℕ, Bool, false, []}
use Rattle.xs_model.specs.Trees.{Tree}
use Rattle.xs_model.specs.Generations.{Generations, greatest, generation_of}

-- the tree of a new store with them, and whether `/` is one of them
pub record Nodes : Type 0 where
  pub tree : Tree
  pub gens : Generations
  pub has_root : Bool

-- the counter is the greatest number, and before `/` comes it has the number of a new store
pub record IsNodes (gens : Generations) (counter : ℕ) (has_root : Bool) : Type 0 where
  pub highest : counter ≡ greatest gens
  pub free_root : has_root ≡ false → generation_of gens [] ≡ 0
