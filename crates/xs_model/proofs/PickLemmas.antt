-- What is picked from a tree by a test of paths depends on which of those paths are present, and on nothing else.
use Rattle.std.specs.Prelude.{◌≡◌, Bool, true, false, cond, List, [], ◌∷◌, map, Option, Some, None, is_some}
use Rattle.std.specs.Option.{option_map}
use Rattle.std.specs.List.{filter_map, cons_option}
use Rattle.std.specs.FinMap.{find, is_sorted}
use Rattle.std.specs.FinMap.Entries.{where_key, find-where_key}
use Rattle.std.proofs.Common.{sym, refl, ap, ◌∙◌}
use Rattle.xs_model.specs.Paths.{Path, path_cmp}
use Rattle.xs_model.specs.Trees.{Node, Tree, node_at, is_present}
use Rattle.xs_model.proofs.Maps.{not_both, found_map, sorted_map, sorted_where, same_maps}
use Rattle.xs_model.proofs.PathLemmas.{path_total, path_exact}

abbrev unit_of : Node → Unit {0}
unit_of node = tt

same_units : (o u : Option Node) → is_some o ≡ is_some u → option_map unit_of o ≡ option_map unit_of u
same_units None None h = refl
same_units None (Some node) h = not_both h refl
same_units (Some node) None h = not_both refl h
same_units (Some node) (Some other) h = refl

module _ {Y : Type 0} (h : Path → Option Y) where
  -- the paths that are picked
  abbrev bare : Tree → List (Path × Unit {0})
  bare tree = map (λ e. (e.0, unit_of e.1)) (where_key path_cmp (λ q. is_some (h q)) tree)

  picked_head : (e : Path × Node) (tree : Tree) (o : Option Y) → h e.0 ≡ o → filter_map (λ e. h e.0) tree ≡ filter_map (λ e. h e.0) (bare tree)
      → cons_option o (filter_map (λ (e : Path × Node). h e.0) tree) ≡ filter_map (λ (e : Path × Unit {0}). h e.0) (map (λ (e : Path × Node). (e.0, unit_of e.1)) (cond (is_some o) (e ∷ where_key path_cmp (λ q. is_some (h q)) tree) (where_key path_cmp (λ q. is_some (h q)) tree)))
  picked_head e tree None t ih = ih
  picked_head e tree (Some y) t ih = ap (λ ys. y ∷ ys) ih ∙ ap (λ o. cons_option o (filter_map (λ (e : Path × Unit {0}). h e.0) (bare tree))) (sym t)

  picked_bare : (tree : Tree) → filter_map (λ (e : Path × Node). h e.0) tree ≡ filter_map (λ (e : Path × Unit {0}). h e.0) (bare tree)
  picked_bare [] = refl
  picked_bare (e ∷ tree) = picked_head e tree (h e.0) refl (picked_bare tree)

  found_bare : (q : Path) (tree : Tree) → find path_cmp q (bare tree) ≡ option_map unit_of (cond (is_some (h q)) (node_at tree q) None)
  found_bare q tree =
      found_map path_cmp unit_of q (where_key path_cmp (λ q. is_some (h q)) tree)
      ∙ ap (option_map unit_of) (find-where_key path_cmp (λ q. is_some (h q)) q (λ x t. ap (λ r. is_some (h r)) (sym (path_exact q x t))) tree)

  sorted_bare : (tree : Tree) → is_sorted path_cmp tree ≡ true → is_sorted path_cmp (bare tree) ≡ true
  sorted_bare tree s = sorted_map path_cmp unit_of (where_key path_cmp (λ q. is_some (h q)) tree) ∙ sorted_where path_cmp (λ q. is_some (h q)) tree s

  found_alike : (q : Path) (copy tree : Tree) (b : Bool) → is_some (h q) ≡ b → (is_some (h q) ≡ true → is_present copy q ≡ is_present tree q) → option_map unit_of (cond b (node_at copy q) None) ≡ option_map unit_of (cond b (node_at tree q) None)
  found_alike q copy tree true e same = same_units (node_at copy q) (node_at tree q) (same e)
  found_alike q copy tree false e same = refl

  pub same_picks : (copy tree : Tree) → is_sorted path_cmp copy ≡ true → is_sorted path_cmp tree ≡ true → ((q : Path) → is_some (h q) ≡ true → is_present copy q ≡ is_present tree q)
      → filter_map (λ (e : Path × Node). h e.0) copy ≡ filter_map (λ (e : Path × Node). h e.0) tree
  same_picks copy tree s t same =
      picked_bare copy
      ∙ ap (filter_map (λ e. h e.0)) (same_maps path_cmp path_total path_exact (bare copy) (bare tree) (sorted_bare copy s) (sorted_bare tree t) (λ q. found_bare q copy ∙ found_alike q copy tree (is_some (h q)) refl (same q) ∙ sym (found_bare q tree)))
      ∙ sym (picked_bare tree)
