-- Numbers of paths: they stand with the tree, the greatest never falls, and a path that changed has a new one.
use Rattle.std.specs.Prelude.{◌≡◌, ℕ, ◌+◌, ◌≤◌, ◌<◌, Bool, true, false, cond, ◌||◌, List, [], ◌∷◌, ◌++◌, map, nat_lt, Option, Some, None, is_some, option_map}
use Rattle.std.specs.List.{AllByRecursion, list_any}
use Rattle.std.specs.Ordering.{eq_by_cmp}
use Rattle.std.specs.FinMap.{find, is_sorted}
use Rattle.std.proofs.Common.{sym, refl, ap, subst, ◌∙◌, inl, inr, arith, append-nil, le_refl, le_trans, ltb-false}
use Rattle.std.proofs.lemmas.Bool.{cases_Bool, ltb-true}
use Rattle.xs_model.specs.Paths.{Name, Path, path_cmp, same_path, has_path, child}
use Rattle.xs_model.specs.Trees.{Node, Tree, node_at, is_present, IsTree}
use Rattle.xs_model.specs.Changes.{changed_paths}
use Rattle.xs_model.specs.Generations.{Generations, or_zero, generation_of, greater, greatest, generation_max, next_generation, stamp, number_after, numbered, stamped}
use Rattle.xs_model.proofs.Maps.{not_both, from_Some, not_Some, all_of, same_maps, sorted_map}
use Rattle.xs_model.proofs.PathLemmas.{path_total, path_exact, same_path-is, child-way}
use Rattle.xs_model.proofs.WayLemmas.{present_above}
use Rattle.xs_model.proofs.ChangeLemmas.{changed_alike}
use Rattle.machine_model.specs.Machine.{Machine}
use Rattle.store_laws.specs.Lawful.{HasNumbers}
use Rattle.store_laws.proofs.ChangeLemmas.{IsChange}

-- THE KEYS of two lists with the same paths
abbrev keys : {X : Type 0} → List (Path × X) → List Path
keys es = map (λ e. e.0) es

abbrev find_key : Path → List Path → Bool
find_key p ps = list_any (same_path p) ps

found_key : {X : Type 0} (p : Path) (es : List (Path × X)) → is_some (find path_cmp p es) ≡ find_key p (keys es)
found_key p [] = refl
found_key p (e ∷ es) = elim (eq_by_cmp path_cmp p e.0) as (λ b. is_some (cond b (Some e.1) (find path_cmp p es)) ≡ (b || find_key p (keys es))) [
  | true ↦ refl
  | false ↦ found_key p es
]

pub same_presence : {X Y : Type 0} (p : Path) (es : List (Path × X)) (fs : List (Path × Y)) → keys es ≡ keys fs → is_some (find path_cmp p es) ≡ is_some (find path_cmp p fs)
same_presence p es fs e = found_key p es ∙ ap (find_key p) e ∙ sym (found_key p fs)

-- the numbers of a tree's paths
pub found_numbered : {X : Type 0} (f : Path → ℕ) (p : Path) (es : List (Path × X)) → find path_cmp p (map (λ e. (e.0, f e.0)) es) ≡ option_map (λ x. f p) (find path_cmp p es)
found_numbered f p [] = refl
found_numbered f p (e ∷ es) = elim (same_path p e.0) as (λ b. same_path p e.0 ≡ b → cond b (Some (f e.0)) (find path_cmp p (map (λ e. (e.0, f e.0)) es)) ≡ option_map (λ x. f p) (cond b (Some e.1) (find path_cmp p es))) [
  | true ↦ λ t. ap (λ q. Some (f q)) (sym (same_path-is p e.0 t))
  | false ↦ λ t. found_numbered f p es
] refl

pub keys_numbered : {X : Type 0} (f : Path → ℕ) (es : List (Path × X)) → keys (map (λ e. (e.0, f e.0)) es) ≡ keys es
keys_numbered f [] = refl
keys_numbered f (e ∷ es) = ap (λ ps. e.0 ∷ ps) (keys_numbered f es)

-- THE GREATEST
left_greater : (a b : ℕ) → a ≤ greater a b
left_greater a b = elim (nat_lt a b) as (λ c. nat_lt a b ≡ c → a ≤ cond c b a) [ true ↦ λ t. omega (arith, ltb-true a b t) | false ↦ λ t. le_refl a ] refl

right_greater : (a b : ℕ) → b ≤ greater a b
right_greater a b = elim (nat_lt a b) as (λ c. nat_lt a b ≡ c → b ≤ cond c b a) [ true ↦ λ t. le_refl b | false ↦ λ t. ltb-false a b t ] refl

both_greater : (a b n : ℕ) → a ≤ n → b ≤ n → greater a b ≤ n
both_greater a b n h k = elim (nat_lt a b) as (λ c. cond c b a ≤ n) [ true ↦ k | false ↦ h ]

pub found_below : (p : Path) (gens : Generations) (n : ℕ) → find path_cmp p gens ≡ Some n → n ≤ greatest gens
found_below p [] n e = not_Some e
found_below p (g ∷ gens) n e = elim (same_path p g.0) as (λ b. cond b (Some g.1) (find path_cmp p gens) ≡ Some n → n ≤ greater g.1 (greatest gens)) [
  | true ↦ λ f. le_trans (subst (λ k. n ≤ k) (sym (from_Some f)) (le_refl n)) (left_greater g.1 (greatest gens))
  | false ↦ λ f. le_trans (found_below p gens n f) (right_greater g.1 (greatest gens))
] e

pub greatest_at_most : (gens : Generations) (n : ℕ) → AllByRecursion (λ (e : Path × ℕ). e.1 ≤ n) gens → greatest gens ≤ n
greatest_at_most [] n h = omega arith
greatest_at_most (g ∷ gens) n h = both_greater g.1 (greatest gens) n h.0 (greatest_at_most gens n h.1)

pub next_above : (n : ℕ) → n ≤ generation_max → n ≤ next_generation n
next_above n h = elim (nat_lt n generation_max) as (λ b. n ≤ cond b (n + 1) generation_max) [ true ↦ omega arith | false ↦ h ]

pub next_bounded : (n : ℕ) → next_generation n ≤ generation_max
next_bounded n = elim (nat_lt n generation_max) as (λ b. nat_lt n generation_max ≡ b → cond b (n + 1) generation_max ≤ generation_max) [ true ↦ λ t. omega (arith, ltb-true n generation_max t) | false ↦ λ t. le_refl generation_max ] refl

-- a number below the last is below the next one of any that is not less
pub next_beyond : (n k : ℕ) → n < generation_max → n ≤ k → n < next_generation k
next_beyond n k h l = elim (nat_lt k generation_max) as (λ b. n < cond b (k + 1) generation_max) [ true ↦ omega arith | false ↦ h ]

-- ORDER by keys
abbrev with_nothing : List Path → List (Path × Unit {0})
with_nothing ps = map (λ p. (p, tt)) ps

nothing_of : {X : Type 0} (es : List (Path × X)) → map (λ (e : Path × X). (e.0, tt)) es ≡ with_nothing (keys es)
nothing_of [] = refl
nothing_of (e ∷ es) = ap (λ ps. (e.0, tt) ∷ ps) (nothing_of es)

sorted_keys : {X : Type 0} (es : List (Path × X)) → is_sorted path_cmp es ≡ is_sorted path_cmp (with_nothing (keys es))
sorted_keys {X = X} es = sym (sorted_map path_cmp (λ (x : X). tt) es) ∙ ap (is_sorted path_cmp) (nothing_of es)

pub same_order : {X Y : Type 0} (es : List (Path × X)) (fs : List (Path × Y)) → keys es ≡ keys fs → is_sorted path_cmp es ≡ is_sorted path_cmp fs
same_order es fs e = sorted_keys es ∙ ap (λ ps. is_sorted path_cmp (with_nothing ps)) e ∙ sym (sorted_keys fs)

-- A PATH THAT IS GONE has one above it that is there and changed
module _ (before after : Tree) (was : IsTree before) (is : IsTree after) (written : List Path) (frame : (q : Path) → has_path q written ≡ false → node_at after q ≡ node_at before q) where
  abbrev changed : List Path
  changed = changed_paths before written after

  parent_changed : (p : Path) (n : Name) → is_present before (child p n) ≡ true → is_present after (child p n) ≡ false → has_path p changed ≡ true
  parent_changed p n there gone =
      elim (cases_Bool (has_path p changed)) [
        | inl t ↦ t
        | inr f ↦ not_both there ((changed_alike before after written frame).children p n f ∙ gone)
      ]

  changed_above : (p : Path) (ns : List Name) → is_present after p ≡ true → is_present before (p ++ ns) ≡ true → is_present after (p ++ ns) ≡ false → (q : Path) × ((is_present after q ≡ true) × (has_path q changed ≡ true))
  changed_above p [] there old gone = not_both (ap (is_present after) (append-nil p) ∙ there) gone
  changed_above p (n ∷ ns) there old gone =
      elim (cases_Bool (is_present after (child p n))) [
        | inl t ↦ changed_above (child p n) ns t (ap (is_present before) (child-way p n ns) ∙ old) (ap (is_present after) (child-way p n ns) ∙ gone)
        | inr f ↦ (p, (there, parent_changed p n (present_above before was (child p n) ns (ap (is_present before) (child-way p n ns) ∙ old)) f))
      ]

  pub changed_for : (q : Path) → is_present before q ≡ true → is_present after q ≡ false → (r : Path) × ((is_present after r ≡ true) × (has_path r changed ≡ true))
  changed_for q old gone = changed_above [] q is.root old gone

-- WHAT A CHANGE DOES TO NUMBERS
number_by : (o : Option ℕ) → is_some o ≡ true → o ≡ Some (or_zero o)
number_by None h = not_both h refl
number_by (Some n) h = refl

pub number_found : (gens : Generations) (p : Path) → is_some (find path_cmp p gens) ≡ true → find path_cmp p gens ≡ Some (generation_of gens p)
number_found gens p h = number_by (find path_cmp p gens) h

or_zero_bounded : (o : Option ℕ) (n : ℕ) → ((k : ℕ) → o ≡ Some k → k ≤ n) → or_zero o ≤ n
or_zero_bounded None n h = omega arith
or_zero_bounded (Some k) n h = h k refl

-- a tree of which nothing was written is the tree before
same_tree : (m n : Machine) → IsTree m.tree → IsTree n.tree → ((q : Path) → node_at n.tree q ≡ node_at m.tree q) → n.tree ≡ m.tree
same_tree m n was is same = same_maps path_cmp path_total path_exact n.tree m.tree is.rising was.rising same

module _ (m n : Machine) (was : IsTree m.tree) (is : IsTree n.tree) (numbers : HasNumbers m) (c : IsChange m n) where
  abbrev changes : List Path
  changes = changed_paths m.tree c.written n.tree

  number_at_by : (written : List Path) → n.gens ≡ stamped m.gens m.tree written n.tree → (q : Path) → is_present n.tree q ≡ true → generation_of n.gens q ≡ number_after (changed_paths m.tree written n.tree) m.gens q
  number_at_by [] e q there = ap (λ gens. generation_of gens q) e
  number_at_by (p ∷ ps) e q there =
      let all = changed_paths m.tree (p ∷ ps) n.tree in
      ap (λ gens. generation_of gens q) e ∙ ap or_zero (found_numbered (number_after all m.gens) q n.tree)
      ∙ present_number (node_at n.tree q) there (number_after all m.gens q)
    where
      present_number : (o : Option Node) → is_some o ≡ true → (k : ℕ) → or_zero (option_map (λ x. k) o) ≡ k
      present_number None h k = not_both h refl
      present_number (Some node) h k = refl

  number_at : (q : Path) → is_present n.tree q ≡ true → generation_of n.gens q ≡ number_after changes m.gens q
  number_at q there = number_at_by c.written c.gens q there

  keys_by : (written : List Path) → n.gens ≡ stamped m.gens m.tree written n.tree → ((q : Path) → has_path q written ≡ false → node_at n.tree q ≡ node_at m.tree q) → keys n.gens ≡ keys n.tree
  keys_by [] e frame = ap keys e ∙ numbers.keys ∙ ap keys (sym (same_tree m n was is (λ q. frame q refl)))
  keys_by (p ∷ ps) e frame = ap keys e ∙ keys_numbered (number_after (changed_paths m.tree (p ∷ ps) n.tree) m.gens) n.tree

  keys_after : keys n.gens ≡ keys n.tree
  keys_after = keys_by c.written c.gens c.frame

  number_there : (q : Path) → is_present n.tree q ≡ true → find path_cmp q n.gens ≡ Some (number_after changes m.gens q)
  number_there q there = number_found n.gens q (same_presence q n.gens n.tree keys_after ∙ there) ∙ ap Some (number_at q there)

  greatest_bounded : greatest m.gens ≤ generation_max
  greatest_bounded = greatest_at_most m.gens generation_max numbers.bounded

  stamp_above : greatest m.gens ≤ stamp m.gens
  stamp_above = next_above (greatest m.gens) greatest_bounded

  old_bounded : (q : Path) → generation_of m.gens q ≤ generation_max
  old_bounded q = or_zero_bounded (find path_cmp q m.gens) generation_max (λ k e. le_trans (found_below q m.gens k e) greatest_bounded)

  bounded_after : AllByRecursion (λ (e : Path × ℕ). e.1 ≤ generation_max) n.gens
  bounded_after = all_of path_cmp path_total (λ k. k ≤ generation_max) n.gens (same_order n.gens n.tree keys_after ∙ is.rising) (λ q k e.
      let there : is_present n.tree q ≡ true = sym (same_presence q n.gens n.tree keys_after) ∙ ap is_some e in
      subst (λ j. j ≤ generation_max) (from_Some (sym (number_there q there) ∙ e))
      (elim (has_path q changes) as (λ b. cond b (stamp m.gens) (generation_of m.gens q) ≤ generation_max) [ true ↦ next_bounded (greatest m.gens) | false ↦ old_bounded q ]))

  pub numbers_after : HasNumbers n
  numbers_after = record { keys = keys_after; bounded = bounded_after }

  -- no number that stood is above the greatest one after the change
  not_above : (q : Path) (k : ℕ) → find path_cmp q m.gens ≡ Some k → k ≤ greatest n.gens
  not_above q k e =
      let low : k ≤ stamp m.gens = le_trans (found_below q m.gens k e) stamp_above in
      let old : is_present m.tree q ≡ true = sym (same_presence q m.gens m.tree numbers.keys) ∙ ap is_some e in
      elim (cases_Bool (is_present n.tree q)) [
        | inl t ↦ le_trans
            (elim (has_path q changes) as (λ b. k ≤ cond b (stamp m.gens) (generation_of m.gens q)) [ true ↦ low | false ↦ subst (λ j. k ≤ j) (sym (ap or_zero e)) (le_refl k) ])
            (found_below q n.gens (number_after changes m.gens q) (number_there q t))
        | inr f ↦
            let r = changed_for m.tree n.tree was is c.written c.frame q old f in
            le_trans low
            (found_below r.0 n.gens (stamp m.gens) (number_there r.0 r.1.0 ∙ ap (λ b. Some (cond b (stamp m.gens) (generation_of m.gens r.0))) r.1.1))
      ]

  pub greatest_grows : greatest m.gens ≤ greatest n.gens
  greatest_grows = greatest_at_most m.gens (greatest n.gens) (all_of path_cmp path_total (λ k. k ≤ greatest n.gens) m.gens (same_order m.gens m.tree numbers.keys ∙ was.rising) (λ q k e. not_above q k e))

  -- A PATH p whose number is n or less, which is below the last
  module _ (p : Path) (number : ℕ) (low : number < generation_max) (known : number ≤ greatest m.gens) where
    pub changed_number : has_path p changes ≡ true → is_present n.tree p ≡ true → number < generation_of n.gens p
    changed_number h there =
        subst (λ k. number < k) (sym (number_at p there ∙ ap (λ b. cond b (stamp m.gens) (generation_of m.gens p)) h)) (next_beyond number (greatest m.gens) low known)

    pub same_number : has_path p changes ≡ false → is_present n.tree p ≡ true → generation_of n.gens p ≡ generation_of m.gens p
    same_number h there = number_at p there ∙ ap (λ b. cond b (stamp m.gens) (generation_of m.gens p)) h
