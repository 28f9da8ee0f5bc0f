-- That what edits make of a tree is made of it: nothing, edits after edits, and removals from the last to the first.
-- Proofs alone, which stand here since the tree names them.
use Rattle.std.specs.Prelude.{◌≡◌, Bool, true, false, cond, not, List, [], ◌∷◌, ◌++◌, Some, None}
use Rattle.std.specs.FinMap.Entries.{where_key}
use Rattle.std.specs.declared.cmp.Ordering.{Ordering}
use Rattle.std.proofs.Common.{sym, refl, ap, ◌∙◌}
use Rattle.xs_model.specs.Paths.{Path, path_cmp, same_path}
use Rattle.xs_model.specs.Trees.{Tree, Edit, edited, edited_at}
use Rattle.xs_model.specs.Commands.{removals}
use Rattle.xs_model.specs.Generations.{Generations}
use Rattle.node_tree.specs.KeptTree.{KeptTree}
use Rattle.node_tree.specs.Made.{IsMade}
use Rattle.node_tree.specs.Numbers.{renumbered, renumbered_at}

-- two choices of entries, in either order
module _ {K X : Type 0} (R : K → K → Ordering) where
  chosen : (t : K → Bool) (e : K × X) (es : List (K × X)) (b : Bool) → t e.0 ≡ b → where_key R t (e ∷ es) ≡ cond b (e ∷ where_key R t es) (where_key R t es)
  chosen t e es b h = ap (λ b. cond b (e ∷ where_key R t es) (where_key R t es)) h

  pub where_twice : (s t : K → Bool) (es : List (K × X)) → where_key R s (where_key R t es) ≡ where_key R t (where_key R s es)
  where_twice s t [] = refl
  where_twice s t (e ∷ es) = by (s e.0) (t e.0) refl refl (where_twice s t es)
    where
      by : (a b : Bool) → s e.0 ≡ a → t e.0 ≡ b → where_key R s (where_key R t es) ≡ where_key R t (where_key R s es) → where_key R s (where_key R t (e ∷ es)) ≡ where_key R t (where_key R s (e ∷ es))
      by true true h k more =
          ap (where_key R s) (chosen t e es true k) ∙ chosen s e (where_key R t es) true h ∙ ap (λ l. e ∷ l) more
          ∙ sym (ap (where_key R t) (chosen s e es true h) ∙ chosen t e (where_key R s es) true k)
      by true false h k more =
          ap (where_key R s) (chosen t e es false k) ∙ more
          ∙ sym (ap (where_key R t) (chosen s e es true h) ∙ chosen t e (where_key R s es) false k)
      by false true h k more =
          ap (where_key R s) (chosen t e es true k) ∙ chosen s e (where_key R t es) false h ∙ more
          ∙ sym (ap (where_key R t) (chosen s e es false h))
      by false false h k more =
          ap (where_key R s) (chosen t e es false k) ∙ more ∙ sym (ap (where_key R t) (chosen s e es false h))

edited-append : (tree : Tree) (es fs : List Edit) → edited tree (es ++ fs) ≡ edited (edited tree es) fs
edited-append tree [] fs = refl
edited-append tree (e ∷ es) fs = edited-append (edited_at tree e.0 e.1) es fs

renumbered-append : (gens : Generations) (es fs : List Edit) → renumbered gens (es ++ fs) ≡ renumbered (renumbered gens es) fs
renumbered-append gens [] fs = refl
renumbered-append gens (e ∷ es) fs = renumbered-append (renumbered_at gens e.0 e.1) es fs

pub made_nothing : (v : KeptTree) → IsMade v [] v
made_nothing v = record { nodes = refl; gens = refl; counter = refl }

pub made_more : (u v w : KeptTree) (es fs : List Edit) → IsMade u es v → IsMade v fs w → IsMade u (es ++ fs) w
made_more u v w es fs g h = record {
  nodes = h.nodes ∙ ap (λ t. edited t fs) g.nodes ∙ sym (edited-append u.nodes es fs);
  gens = h.gens ∙ ap (λ t. renumbered t fs) g.gens ∙ sym (renumbered-append u.gens es fs);
  counter = h.counter ∙ g.counter;
}

without_first : (p : Path) (ps : List Path) (tree : Tree) → edited_at (edited tree (removals ps)) p None ≡ edited (edited_at tree p None) (removals ps)
without_first p [] tree = refl
without_first p (q ∷ ps) tree =
    without_first p ps (edited_at tree q None)
    ∙ ap (λ (t : Tree). edited t (removals ps)) (where_twice path_cmp (λ r. not (same_path p r)) (λ r. not (same_path q r)) tree)

number_first : (p : Path) (ps : List Path) (gens : Generations) → renumbered_at (renumbered gens (removals ps)) p None ≡ renumbered (renumbered_at gens p None) (removals ps)
number_first p [] gens = refl
number_first p (q ∷ ps) gens =
    number_first p ps (renumbered_at gens q None)
    ∙ ap (λ (t : Generations). renumbered t (removals ps)) (where_twice path_cmp (λ r. not (same_path p r)) (λ r. not (same_path q r)) gens)

pub made_backwards : (u v w : KeptTree) (p : Path) (ps : List Path) → IsMade u (removals ps) v → IsMade v ((p, None) ∷ []) w → IsMade u (removals (p ∷ ps)) w
made_backwards u v w p ps g h = record {
  nodes = h.nodes ∙ ap (λ (t : Tree). edited_at t p None) g.nodes ∙ without_first p ps u.nodes;
  gens = h.gens ∙ ap (λ (t : Generations). renumbered_at t p None) g.gens ∙ number_first p ps u.gens;
  counter = h.counter ∙ g.counter;
}
