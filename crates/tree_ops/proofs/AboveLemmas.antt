-- Whether a name stands above the last one of a walk; each stands above an empty one.
use Rattle.std.specs.Prelude.{Bool, true, [], ◌∷◌}
use Rattle.std.specs.Ordering.{is_lt}
use Rattle.xs_model.specs.Paths.{Name, name_cmp}

abbrev pub is_above : Name → Name → Bool
is_above [] name = true
is_above (b ∷ bs) name = is_lt (name_cmp (b ∷ bs) name)
