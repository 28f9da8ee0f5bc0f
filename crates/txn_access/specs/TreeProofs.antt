-- That a tree is one in one way alone. A proof, which stands here since the overlay names it.
use Rattle.std.specs.Prelude.{◌≡◌, Bool, true}
use Rattle.std.specs.Coded.{Coded-set, coded_bool}
use Rattle.std.specs.List.{AllByRecursion-prop}
use Rattle.xs_model.specs.Paths.{Path}
use Rattle.xs_model.specs.Trees.{Tree, Node, IsTree, has_entry}

is_true_prop : (b : Bool) → IsProp (b ≡ true)
is_true_prop b = Coded-set coded_bool b true

pub IsTree-prop : (tree : Tree) → IsProp (IsTree tree)
IsTree-prop tree = λ x y i. record {
  rising = Coded-set coded_bool _ _ x.rising y.rising i;
  root = Coded-set coded_bool _ _ x.root y.root i;
  parents = λ p n h. Coded-set coded_bool _ _ (x.parents p n h) (y.parents p n h) i;
  perms = AllByRecursion-prop (λ (e : Path × Node). has_entry e.1.perms ≡ true) (λ e. is_true_prop (has_entry e.1.perms)) tree x.perms y.perms i;
}
