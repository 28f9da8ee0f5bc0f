-- Which paths a change of the tree counts as changed: the written paths that are there before or after it, and the
-- parent of each that came or went, since its list of children changed (xenstore.txt, "Transactions"). The rule is
-- this project's own.
use Rattle.std.specs.Prelude.{Bool, true, false, List, [], ◌∷◌, ◌++◌}
use Rattle.xs_model.specs.Paths.{Path, parents}
use Rattle.xs_model.specs.Trees.{Tree, is_present}

-- by whether the path was there before, and whether it is after
abbrev pub change_at : Bool → Bool → Path → List Path
change_at false false p = []
change_at false true p = p ∷ parents p
change_at true false p = p ∷ parents p
change_at true true p = p ∷ []

-- of a change from one tree to another that wrote these paths
abbrev pub changed_paths : Tree → List Path → Tree → List Path
changed_paths before [] after = []
changed_paths before (p ∷ ps) after =
    change_at (is_present before p) (is_present after p) p ++ changed_paths before ps after
