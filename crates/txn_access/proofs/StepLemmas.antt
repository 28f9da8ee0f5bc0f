-- One step among the names of the children that a transaction sees.
use Rattle.std.proofs.Common.{◌≡◌, ℕ, suc, ◌+◌, ◌-◌, ◌<◌, ◌==◌, Bool, true, false, cond, List, [], ◌∷◌, ◌++◌, length, Option, Some, None, Ok, is_some, refl, sym, ap, subst, ◌∙◌, arith}
use Rattle.std.specs.declared.cmp.Ordering.TheVariants.{Less, Equal, Greater}
use Rattle.std.specs.Borrow.{Bor}
use Rattle.std.specs.Ordering.{is_lt, ordering_reverse}
use Rattle.std.specs.FinMap.{is_sorted}
use Rattle.std.proofs.lemmas.Bool.Decides.{nat_tests}
use Rattle.std.proofs.lemmas.List.{length-append}
use Rattle.path_map.specs.Marks.{first_below, is_above, first_past}
use Rattle.xs_model.specs.Laws.{HasNames}
use Rattle.xs_model.specs.Paths.{Path, Name, path_cmp, child, names_below, text, path_of}
use Rattle.xs_model.specs.Trees.{Tree, Node, IsTree, node_at, is_present}
use Rattle.xs_model.proofs.Maps.{not_both, not_Some, from_Some}
use Rattle.xs_model.proofs.NameLemmas.{spelled-names}
use Rattle.xs_model.proofs.PathLemmas.{name_total, name_exact, below_is}
use Rattle.mark_model.specs.Marks.{Mark, Marks, Seen, Changed, Wrote, Gone, Kept, mark_at, overlay}
use Rattle.node_tree.proofs.ChildAbove.{name_to}
use Rattle.txn_access.specs.Sights.{seen_by}
use Rattle.txn_access.specs.Steps.{next_name, is_seen, own_order, mark_on, IsFound, IsPassed, IsStepTo, IsStep}
use Rattle.txn_access.specs.declared.names.Step.{Step}
use Rattle.txn_access.proofs.Nearest.{name_above, name_bare}
use Rattle.txn_access.proofs.NextSeen.{is_next, none_next, next_own, next_before, next_marked, next_hidden, NotBefore, count_less}

pub step_more : (tree : Tree) (ms : Marks) (p : Path) (leaf : Name) (name : Bor Name) (passed found : Option (Bor Name)) → IsPassed tree ms p leaf name.now → IsStepTo tree ms p name.now passed found → IsStepTo tree ms p leaf passed found
step_more tree ms p leaf name None found g h = record { name = h.name ∙ sym g.next; spelled = h.spelled }
step_more tree ms p leaf name (Some next) found g h = record { next = g.next ∙ h.next; fewer = omega (arith, g.fewer, h.fewer) }

shown_is : (m : Option Mark) (under : Option Node) → is_some (seen_by m under) ≡ is_seen m (is_some under)
shown_is None under = refl
shown_is (Some Seen) under = refl
shown_is (Some (Changed old)) under = refl
shown_is (Some (Wrote others node)) under = refl
shown_is (Some (Gone others)) under = refl
shown_is (Some (Kept old)) under = refl

abbrev rest_of : (o : Option (List Name)) (m : Name) → first_below o ≡ Some m → (rest : List Name) × (o ≡ Some (m ∷ rest))
rest_of None m h = not_Some h
rest_of (Some []) m h = not_Some h
rest_of (Some (k ∷ rest)) m h = (rest, ap (λ n. Some (n ∷ rest)) (from_Some h))

last_filled : (p : Path) (m : Name) (rest : List Name) → HasNames (p ++ (m ∷ rest)) → 0 < length m
last_filled [] m rest h = h.0.filled
last_filled (n ∷ p) m rest h = last_filled p m rest h.1

one_more : (n k : ℕ) → k ≡ n + 1 → (n == k - 1) ≡ true
one_more n k e = grind (arith, nat_tests, e)

two_more : (n k r : ℕ) → k ≡ n + suc (suc r) → (n == k - 1) ≡ false
two_more n k r e = grind (arith, nat_tests, e)

module _ (tree : Tree) (ms : Marks) (p : Path) (leaf : Name) where
  pub found_step : (step : Step) (found : Option (Bor Name)) → step.passed ≡ None → step.found ≡ found → IsFound tree ms p leaf found → IsStep tree ms p leaf step
  found_step step found h k is = subst (λ o. IsStepTo tree ms p leaf o step.found) (sym h) (subst (IsFound tree ms p leaf) (sym k) is)

  pub passed_step : (step : Step) (name : Bor Name) → step.passed ≡ Some name → IsPassed tree ms p leaf name.now → IsStep tree ms p leaf step
  passed_step step name h is = subst (λ o. IsStepTo tree ms p leaf o step.found) (sym h) is

  module _ (is : IsTree tree) (seen : IsTree (overlay tree ms)) (s : is_sorted path_cmp ms ≡ true) (own : Option Name) (e : own ≡ next_name tree p leaf) where
    pub own_found : name_to p (first_past p leaf ms) ≡ None → own ≡ next_name (overlay tree ms) p leaf
    own_found none = e ∙ sym (next_own tree ms p leaf is seen s none)

    module _ (q : Path) (m : Name) (f : Some q ≡ first_past p leaf ms) (to : Some m ≡ first_below (names_below p q)) where
      abbrev rest : List Name
      rest = (rest_of (names_below p q) m (sym to)).0

      way : names_below p q ≡ Some (m ∷ rest)
      way = (rest_of (names_below p q) m (sym to)).1

      above : is_above leaf m ≡ true
      above = name_above p leaf ms s q m rest (sym f) way

      -- the mark of the child
      mark_by : (ns : List Name) → names_below p q ≡ Some (m ∷ ns) → mark_on ms p q ≡ mark_at ms (child p m)
      mark_by [] w =
          let at : q ≡ child p m = below_is p q (m ∷ []) w in
          ap (λ b. cond b (mark_at ms q) None) (one_more (length p) (length q) (ap length at ∙ length-append p (m ∷ []))) ∙ ap (mark_at ms) at
      mark_by (k ∷ ns) w =
          let at : q ≡ p ++ (m ∷ k ∷ ns) = below_is p q (m ∷ k ∷ ns) w in
          ap (λ b. cond b (mark_at ms q) None) (two_more (length p) (length q) (length ns) (ap length at ∙ length-append p (m ∷ k ∷ ns)))
          ∙ sym (none (mark_at ms (child p m)) (name_bare p leaf ms s q m k ns (sym f) w))
        where
          none : (o : Option Mark) → is_some o ≡ false → o ≡ None
          none None h = refl
          none (Some x) h = not_both refl h

      mark_is : mark_on ms p q ≡ mark_at ms (child p m)
      mark_is = mark_by rest way

      shown : (b : Bool) → is_present tree (child p m) ≡ b → is_some (seen_by (mark_at ms (child p m)) (node_at tree (child p m))) ≡ is_seen (mark_on ms p q) b
      shown b h = shown_is (mark_at ms (child p m)) (node_at tree (child p m)) ∙ (λ i. is_seen (sym mark_is i) (h i))

      -- what is found is spelled
      pub marked_spelled : is_seen (mark_on ms p q) false ≡ true → path_of (text q) 0 ≡ Ok q → path_of (text (child p m)) 0 ≡ Ok (child p m)
      marked_spelled h sp = by rest way h
        where
          by : (ns : List Name) → names_below p q ≡ Some (m ∷ ns) → is_seen (mark_on ms p q) false ≡ true → path_of (text (child p m)) 0 ≡ Ok (child p m)
          by [] w h = subst (λ r. path_of (text r) 0 ≡ Ok r) (below_is p q (m ∷ []) w) sp
          by (k ∷ ns) w h =
              let at : q ≡ p ++ (m ∷ k ∷ ns) = below_is p q (m ∷ k ∷ ns) w in
              not_both h (ap (λ b. is_seen (cond b (mark_at ms q) None) false) (two_more (length p) (length q) (length ns) (ap length at ∙ length-append p (m ∷ k ∷ ns))))

      filled : path_of (text q) 0 ≡ Ok q → 0 < length m
      filled sp = last_filled p m rest (subst HasNames (below_is p q (m ∷ rest) way) (spelled-names (text q) 0 q sp))

      -- the tree's own next name comes first
      pub less_found : Less ≡ own_order own m → own ≡ next_name (overlay tree ms) p leaf
      less_found h = by own e h
        where
          by : (o : Option Name) → o ≡ next_name tree p leaf → Less ≡ own_order o m → o ≡ next_name (overlay tree ms) p leaf
          by None k l = cc
          by (Some t) k l = sym (next_before tree ms p leaf is seen s q m rest (sym f) way t (sym k) (sym l))

      -- or stands at the same place
      equal_at : (o : Option Name) → o ≡ next_name tree p leaf → Equal ≡ own_order o m → (o ≡ Some m) × NotBefore tree ms p leaf is seen s q m rest (sym f) way o × (is_present tree (child p m) ≡ true)
      equal_at None k l = cc
      equal_at (Some t) k l =
          let same : t ≡ m = name_exact t m (sym l) in
          (ap Some same, (sym k, ap is_lt (sym l)), subst (λ n. is_present tree (child p n) ≡ true) same (is_next tree p is leaf t (sym k)).present)

      -- or behind it
      greater_at : (o : Option Name) → o ≡ next_name tree p leaf → Greater ≡ own_order o m → NotBefore tree ms p leaf is seen s q m rest (sym f) way o × (is_present tree (child p m) ≡ false)
      greater_at None k l = (sym k, by (is_present tree (child p m)) refl)
        where
          by : (b : Bool) → is_present tree (child p m) ≡ b → b ≡ false
          by true h = none_next tree p is leaf (sym k) m h above
          by false h = refl
      greater_at (Some t) k l = ((sym k, ap is_lt (sym l)), by (is_present tree (child p m)) refl)
        where
          by : (b : Bool) → is_present tree (child p m) ≡ b → b ≡ false
          by true h = not_both (ap is_lt (name_total.antisymm m t ∙ ap ordering_reverse (sym l))) ((is_next tree p is leaf t (sym k)).least m h above)
          by false h = refl

      passed_by : path_of (text q) 0 ≡ Ok q → (o : Option Name) → NotBefore tree ms p leaf is seen s q m rest (sym f) way o → (b : Bool) → is_present tree (child p m) ≡ b → is_seen (mark_on ms p q) b ≡ false → IsPassed tree ms p leaf m
      passed_by sp o n b there h = record {
        next = next_hidden tree ms p leaf is seen s q m rest (sym f) way o n (filled sp) (shown b there ∙ h);
        fewer = count_less p leaf m (filled sp) above ms q (sym f) (sym to);
      }

      pub equal_found : Equal ≡ own_order own m → is_seen (mark_on ms p q) true ≡ true → own ≡ next_name (overlay tree ms) p leaf
      equal_found h k =
          let at = equal_at own e h in
          at.0 ∙ sym (next_marked tree ms p leaf is seen s q m rest (sym f) way own at.1 (shown true at.2 ∙ k))

      pub equal_passed : path_of (text q) 0 ≡ Ok q → Equal ≡ own_order own m → is_seen (mark_on ms p q) true ≡ false → IsPassed tree ms p leaf m
      equal_passed sp h k = let at = equal_at own e h in passed_by sp own at.1 true at.2 k

      pub greater_found : Greater ≡ own_order own m → is_seen (mark_on ms p q) false ≡ true → next_name (overlay tree ms) p leaf ≡ Some m
      greater_found h k = let at = greater_at own e h in next_marked tree ms p leaf is seen s q m rest (sym f) way own at.0 (shown false at.1 ∙ k)

      pub greater_passed : path_of (text q) 0 ≡ Ok q → Greater ≡ own_order own m → is_seen (mark_on ms p q) false ≡ false → IsPassed tree ms p leaf m
      greater_passed sp h k = let at = greater_at own e h in passed_by sp own at.0 false at.1 k
