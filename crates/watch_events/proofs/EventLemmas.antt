-- Paths in order, and the entries of a tree's node.
use Rattle.std.specs.Prelude.{◌≡◌, ◌≤◌, true, List, [], ◌∷◌, map, length, Some}
use Rattle.std.specs.Ordering.{is_lt}
use Rattle.std.specs.declared.cmp.Ordering.{Ordering}
use Rattle.std.specs.declared.cmp.Ordering.TheVariants.{Less, Equal, Greater}
use Rattle.std.specs.FinMap.{put}
use Rattle.std.specs.FinMap.Entries.{by_order}
use Rattle.std.proofs.Common.{refl, ap, ◌∙◌, arith}
use Rattle.std.proofs.lemmas.Bool.{and_parts}
use Rattle.xs_model.specs.Paths.{Path, path_cmp}
use Rattle.xs_model.specs.Trees.{Tree, Node, node_at, has_entry, IsTree}
use Rattle.xs_model.specs.Watches.{as_set, in_order}
use Rattle.xs_model.proofs.Maps.{all_found, not_both}
use Rattle.watch_events.specs.Rising.{is_rising}

pub rising_alone : (ps : List Path) → length ps ≤ 1 → is_rising ps ≡ true
rising_alone [] h = refl
rising_alone (p ∷ []) h = refl
rising_alone (p ∷ q ∷ ps) h = absurd (omega arith)

-- a path below the first of a map stands in front
by_less : {A : Type 0} (o : Ordering) (a b c : A) → is_lt o ≡ true → by_order o a b c ≡ a
by_less Less a b c h = refl
by_less Equal a b c h = not_both h refl
by_less Greater a b c h = not_both h refl

rising_set : (ps : List Path) → is_rising ps ≡ true → as_set ps ≡ map (λ p. (p, tt)) ps
rising_set [] h = refl
rising_set (p ∷ []) h = refl
rising_set (p ∷ q ∷ ps) h =
    let parts = and_parts (is_lt (path_cmp p q)) (is_rising (q ∷ ps)) h in
    ap (put path_cmp p tt) (rising_set (q ∷ ps) parts.1)
    ∙ by_less (path_cmp p q) _ _ _ parts.0

keys_back : (ps : List Path) → map (λ (e : Path × Unit {0}). e.0) (map (λ p. (p, tt)) ps) ≡ ps
keys_back [] = refl
keys_back (p ∷ ps) = ap (λ qs. p ∷ qs) (keys_back ps)

-- paths that rise are in order as they stand
pub in_order-rising : (ps : List Path) → is_rising ps ≡ true → in_order ps ≡ ps
in_order-rising ps h = ap (map (λ (e : Path × Unit {0}). e.0)) (rising_set ps h) ∙ keys_back ps

pub node_has_entry : (tree : Tree) (p : Path) (node : Node) → IsTree tree → node_at tree p ≡ Some node → has_entry node.perms ≡ true
node_has_entry tree p node is h = all_found path_cmp (λ (n : Node). has_entry n.perms ≡ true) p tree node is.perms h
