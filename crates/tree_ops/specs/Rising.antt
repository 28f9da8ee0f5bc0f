-- Lists in strictly rising order. This project's own.
use Rattle.std.specs.Prelude.{◌≡◌, true, List, [], ◌∷◌, filter}
use Rattle.std.specs.List.{AllByRecursion}
use Rattle.std.specs.Ordering.{is_lt}
use Rattle.std.specs.declared.cmp.Ordering.{Ordering}

module _ {K : Type 0} (R : K → K → Ordering) where
  -- each item stands before all later ones
  abbrev pub Rises : List K → Type 0
  Rises [] = Unit {0}
  Rises (x ∷ xs) = AllByRecursion (λ y. is_lt (R x y) ≡ true) xs × Rises xs

  -- the items behind x
  abbrev pub behind : K → List K → List K
  behind x xs = filter (λ y. is_lt (R x y)) xs
