-- The numbers of paths, where one that had none gets its own.
use Rattle.std.proofs.Common.{◌≡◌, ℕ, Bool, true, false, cond, ◌||◌, List, [], ◌∷◌, map, Some, is_some, refl, sym, ap, ◌∙◌, arith}
use Rattle.std.specs.Ordering.{eq_by_cmp, is_eq}
use Rattle.std.specs.List.{list_any}
use Rattle.std.specs.Cmp.{IsTotalOrder, tied_itself}
use Rattle.std.specs.declared.cmp.Ordering.{Ordering}
use Rattle.std.specs.declared.cmp.Ordering.TheVariants.{Less, Equal, Greater}
use Rattle.std.specs.FinMap.{find, put}
use Rattle.std.specs.FinMap.Entries.{by_order}
use Rattle.std.proofs.lemmas.Bool.{or_parts}
use Rattle.xs_model.specs.Paths.{Path, path_cmp}
use Rattle.xs_model.specs.Trees.{Node, Tree, is_present}
use Rattle.xs_model.specs.Requests.{is_root}
use Rattle.xs_model.specs.Generations.{Generations, greater, greatest, generation_of, or_zero}
use Rattle.xs_model.proofs.PathLemmas.{path_total}
use Rattle.xs_model.proofs.Maps.{not_both, found_put}
use Rattle.kept_model.proofs.LoadEnds.{none_found}
use Rattle.node_tree.specs.KeptTree.{KeptTree}

swapped : (m n : ℕ) → greater m n ≡ greater n m
swapped m n = grind arith

joined : (k m n : ℕ) → greater k (greater m n) ≡ greater (greater k m) n
joined k m n = grind arith

under_all : (m n : ℕ) → m ≡ 0 → (g : ℕ) → greater n g ≡ greater (greater m g) n
under_all m n e g = grind (arith, e)

-- THE GREATEST NUMBER, where a path had none, or 0
pub greatest_put : (p : Path) (n : ℕ) (gens : Generations) → generation_of gens p ≡ 0 → greatest (put path_cmp p n gens) ≡ greater (greatest gens) n
greatest_put p n [] h = swapped n 0
greatest_put p n (e ∷ es) h =
    (elim (path_cmp p e.0) as (λ o. or_zero (cond (is_eq o) (Some e.1) (find path_cmp p es)) ≡ 0
    → greatest (by_order o ((p, n) ∷ e ∷ es) ((e.0, n) ∷ es) (e ∷ put path_cmp p n es)) ≡ greater (greater e.1 (greatest es)) n) [
      | Less ↦ λ g. swapped n (greater e.1 (greatest es))
      | Equal ↦ λ g. under_all e.1 n g (greatest es)
      | Greater ↦ λ g. ap (greater e.1) (greatest_put p n es g) ∙ joined e.1 (greatest es) n
    ]) h

-- what is put twice
module _ {K X : Type 0} (R : K → K → Ordering) (o : IsTotalOrder R) where
  pub put_twice : (p : K) (x y : X) (es : List (K × X)) → put R p y (put R p x es) ≡ put R p y es
  put_twice p x y [] = ap (λ o. by_order o ((p, y) ∷ (p, x) ∷ []) ((p, y) ∷ []) ((p, x) ∷ (p, y) ∷ [])) (tied_itself o p)
  put_twice p x y (e ∷ es) =
      elim (R p e.0) as (λ o. R p e.0 ≡ o → put R p y (by_order o ((p, x) ∷ e ∷ es) ((e.0, x) ∷ es) (e ∷ put R p x es)) ≡ by_order o ((p, y) ∷ e ∷ es) ((e.0, y) ∷ es) (e ∷ put R p y es)) [
        | Less ↦ λ t. ap (λ o. by_order o ((p, y) ∷ (p, x) ∷ e ∷ es) ((p, y) ∷ e ∷ es) ((p, x) ∷ put R p y (e ∷ es))) (tied_itself o p)
        | Equal ↦ λ t. ap (λ o. by_order o ((p, y) ∷ (e.0, x) ∷ es) ((e.0, y) ∷ es) ((e.0, x) ∷ put R p y es)) t
        | Greater ↦ λ t. ap (λ o. by_order o ((p, y) ∷ e ∷ put R p x es) ((e.0, y) ∷ put R p x es) (e ∷ put R p y (put R p x es))) t ∙ ap (λ fs. e ∷ fs) (put_twice p x y es)
      ] refl

-- PATHS THAT CAME
there_by_keys : {X : Type 0} (p : Path) (es : List (Path × X)) → is_some (find path_cmp p es) ≡ list_any (λ q. eq_by_cmp path_cmp p q) (map (λ e. e.0) es)
there_by_keys p [] = refl
there_by_keys p (e ∷ es) =
    elim (eq_by_cmp path_cmp p e.0) as (λ b. is_some (cond b (Some e.1) (find path_cmp p es)) ≡ (b || list_any (λ q. eq_by_cmp path_cmp p q) (map (λ e. e.0) es))) [
      | true ↦ refl
      | false ↦ there_by_keys p es
    ]

no_number : (gens : Generations) (tree : Tree) (p : Path) → map (λ (e : Path × ℕ). e.0) gens ≡ map (λ (e : Path × Node). e.0) tree → is_present tree p ≡ false → generation_of gens p ≡ 0
no_number gens tree p keys h =
    ap or_zero (none_found (find path_cmp p gens) (there_by_keys p gens ∙ ap (list_any (λ q. eq_by_cmp path_cmp p q)) keys ∙ sym (there_by_keys p tree) ∙ h))

-- a path that did not come has the number 0, or none
pub new_number : (gens : Generations) (tree : Tree) (has_root : Bool) (p : Path) → map (λ (e : Path × ℕ). e.0) gens ≡ map (λ (e : Path × Node). e.0) tree → (has_root ≡ false → generation_of gens [] ≡ 0)
    → cond (is_root p) has_root (is_present tree p) ≡ false → generation_of gens p ≡ 0
new_number gens tree has_root [] keys free h = free h
new_number gens tree has_root (n ∷ ns) keys free h = no_number gens tree (n ∷ ns) keys h

-- that of `/` is as before, unless it came
pub root_number : (gens : Generations) (has_root : Bool) (p : Path) (n : ℕ) → (has_root ≡ false → generation_of gens [] ≡ 0) → (has_root || is_root p) ≡ false → generation_of (put path_cmp p n gens) [] ≡ 0
root_number gens has_root [] n free h = not_both refl (or_parts has_root true h).1
root_number gens has_root (name ∷ names) n free h =
    ap or_zero (found_put path_cmp path_total [] (name ∷ names) n gens) ∙ free (or_parts has_root false h).0

-- A TREE once a path got its node and its number
pub there_now : (p : Path) (node : Node) (tree : Tree) → is_present (put path_cmp p node tree) p ≡ true
there_now p node tree = ap is_some (found_put path_cmp path_total p p node tree) ∙ ap (λ o. is_some (cond (is_eq o) (Some node) (find path_cmp p tree))) (tied_itself path_total p)

pub numbered_now : (found : Bool) (new set : KeptTree) (p : Path) (n : ℕ) → found ≡ true → new ≡ cond found (record set { gens = put path_cmp p n set.gens; counter = greater set.counter n }) set
    → (new.gens ≡ put path_cmp p n set.gens) × (new.counter ≡ greater set.counter n)
numbered_now found new set p n t e =
    let is : new ≡ record set { gens = put path_cmp p n set.gens; counter = greater set.counter n } =
    e ∙ ap (λ b. cond b (record set { gens = put path_cmp p n set.gens; counter = greater set.counter n }) set) t in
    (ap (λ (k : KeptTree). k.gens) is, ap (λ (k : KeptTree). k.counter) is)
