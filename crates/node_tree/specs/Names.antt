-- Names of children in their order.
use Rattle.std.specs.Prelude.{List, [], ◌∷◌, filter, Option, Some, None}
use Rattle.std.specs.Ordering.{is_lt}
use Rattle.xs_model.specs.Paths.{Name, name_cmp}

-- those that stand above a name; an empty one stands below all
abbrev pub names_above : Name → List Name → List Name
names_above [] names = names
names_above (b ∷ bs) names = filter (λ name. is_lt (name_cmp (b ∷ bs) name)) names

-- the first one, if there is one
abbrev pub first_name : List Name → Option Name
first_name [] = None
first_name (name ∷ names) = Some name
