-- The names of children, one after the other.
use Rattle.std.specs.Prelude.{◌≡◌, ◌<◌, Bool, true, false, List, [], ◌∷◌, length, filter, Option, Some, None}
use Rattle.std.specs.List.{AllByRecursion, cons_option}
use Rattle.std.specs.Ordering.{is_lt, ordering_then}
use Rattle.std.specs.Cmp.{tied_itself}
use Rattle.std.specs.FinMap.{is_sorted}
use Rattle.std.specs.FinMap.Entries.{below_all}
use Rattle.std.specs.declared.cmp.Ordering.{Ordering}
use Rattle.std.specs.declared.cmp.Ordering.TheVariants.{Less, Equal, Greater}
use Rattle.std.proofs.Common.{sym, refl, ap, subst, ◌∙◌, arith}
use Rattle.std.proofs.lemmas.Bool.{and_parts}
use Rattle.xs_model.specs.Paths.{Name, Path, name_cmp, path_cmp, child}
use Rattle.xs_model.specs.Trees.{Tree, child_name, children}
use Rattle.xs_model.proofs.Maps.{not_both}
use Rattle.xs_model.proofs.PathLemmas.{name_total, child_name-is}
use Rattle.node_tree.specs.Names.{names_above, first_name}
use Rattle.tree_ops.proofs.AboveLemmas.{is_above}
use Rattle.tree_ops.specs.Rising.{Rises}
use Rattle.tree_ops.proofs.RisingLemmas.{behind_kept, further, filter_all}

then_equal : (o : Ordering) → ordering_then o Equal ≡ o
then_equal Less = refl
then_equal Equal = refl
then_equal Greater = refl

-- children stand in the order of their names
pub child_order : (p : Path) (m n : Name) → path_cmp (child p m) (child p n) ≡ name_cmp m n
child_order [] m n = then_equal (name_cmp m n)
child_order (k ∷ p) m n = ap (λ o. ordering_then o (path_cmp (child p m) (child p n))) (tied_itself name_total k) ∙ child_order p m n

-- names that an option may give, before names that do
onto : (P : Name → Type 0) (o : Option Name) (ns : List Name) → ((n : Name) → o ≡ Some n → P n) → AllByRecursion P ns → AllByRecursion P (cons_option o ns)
onto P None ns here later = later
onto P (Some n) ns here later = (here n refl, later)

later_names : (p : Path) (n : Name) (tree : Tree) → below_all path_cmp (child p n) tree ≡ true → AllByRecursion (λ m. is_lt (name_cmp n m) ≡ true) (children tree p)
later_names p n [] h = tt
later_names p n (e ∷ tree) h =
    let parts = and_parts (is_lt (path_cmp (child p n) e.0)) (below_all path_cmp (child p n) tree) h in
    onto (λ m. is_lt (name_cmp n m) ≡ true) (child_name p e.0) (children tree p)
    (λ m is. ap is_lt (sym (child_order p n m)) ∙ ap (λ q. is_lt (path_cmp (child p n) q)) (sym (child_name-is p e.0 m is)) ∙ parts.0)
    (later_names p n tree parts.1)

rise_onto : (o : Option Name) (ns : List Name) → ((n : Name) → o ≡ Some n → AllByRecursion (λ m. is_lt (name_cmp n m) ≡ true) ns) → Rises name_cmp ns → Rises name_cmp (cons_option o ns)
rise_onto None ns here later = later
rise_onto (Some n) ns here later = (here n refl, later)

pub children_rise : (tree : Tree) (p : Path) → is_sorted path_cmp tree ≡ true → Rises name_cmp (children tree p)
children_rise [] p h = tt
children_rise (e ∷ tree) p h =
    let parts = and_parts (below_all path_cmp e.0 tree) (is_sorted path_cmp tree) h in
    rise_onto (child_name p e.0) (children tree p)
    (λ n is. later_names p n tree (subst (λ q. below_all path_cmp q tree ≡ true) (child_name-is p e.0 n is) parts.0))
    (children_rise tree p parts.1)

-- the first name, and those above it
pub split_first : (names : List Name) (n : Name) → first_name names ≡ Some n → (rest : List Name) × (names ≡ n ∷ rest)
split_first [] n e = not_both refl (ap found e)
  where
    found : Option Name → Bool
    found None = true
    found (Some n) = false
split_first (m ∷ names) n e = (names, ap (λ k. k ∷ names) (same e))
  where
    got : Option Name → Name
    got None = m
    got (Some k) = k

    same : Some m ≡ Some n → m ≡ n
    same e = ap got e

pub above_upward : (leaf x y : Name) → is_above leaf x ≡ true → is_lt (name_cmp x y) ≡ true → is_above leaf y ≡ true
above_upward [] x y h k = refl
above_upward (b ∷ bs) x y h k = further name_cmp name_total (b ∷ bs) x y h k

all_above : (names : List Name) → AllByRecursion (λ n. is_above [] n ≡ true) names
all_above [] = tt
all_above (n ∷ names) = (refl, all_above names)

pub above_is : (leaf : Name) (names : List Name) → names_above leaf names ≡ filter (is_above leaf) names
above_is [] names = sym (filter_all (is_above []) names (all_above names))
above_is (b ∷ bs) names = refl

pub names_next : (names : List Name) → Rises name_cmp names → (leaf n : Name) (rest : List Name) → 0 < length n → names_above leaf names ≡ n ∷ rest → names_above n names ≡ rest
names_next names h leaf [] rest filled e = absurd (omega arith)
names_next names h leaf (c ∷ cs) rest filled e =
    behind_kept name_cmp name_total (is_above leaf) (above_upward leaf) names h (c ∷ cs) rest (sym (above_is leaf names) ∙ e)
