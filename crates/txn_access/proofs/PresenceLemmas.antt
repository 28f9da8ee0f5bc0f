-- Whether a child is seen, where what is seen need not be a tree.
use Rattle.std.proofs.Common.{◌≡◌, ◌<◌, ◌+◌, ◌-◌, ◌==◌, ℕ, suc, Bool, true, false, cond, ◌||◌, List, [], ◌∷◌, ◌++◌, length, Option, Some, None, Ok, is_some, Ordering, refl, sym, ap, subst, ◌∙◌, arith}
use Rattle.std.specs.declared.cmp.Ordering.TheVariants.{Less, Equal, Greater}
use Rattle.std.specs.Borrow.{Bor}
use Rattle.std.specs.Option.{option_copied, option_map}
use Rattle.std.specs.Ordering.{is_lt, ordering_reverse}
use Rattle.std.specs.FinMap.{is_sorted}
use Rattle.std.specs.List.{list_any, cons_option}
use Rattle.std.proofs.lemmas.Bool.Decides.{nat_tests}
use Rattle.std.proofs.lemmas.List.{length-append}
use Rattle.path_map.specs.Marks.{first_below, is_above, first_past}
use Rattle.xs_model.specs.Laws.{HasNames}
use Rattle.xs_model.specs.Paths.{Path, Name, name_cmp, path_cmp, same_path, child, names_below, text, path_of}
use Rattle.xs_model.specs.Trees.{Tree, Node, IsTree, node_at, is_present, children, child_name}
use Rattle.xs_model.proofs.Maps.{not_both, not_Some, from_Some}
use Rattle.xs_model.proofs.NameLemmas.{spelled-names}
use Rattle.xs_model.proofs.PathLemmas.{name_total, name_exact, below_is, same_path-is, same_path-itself, child_name-is, child_name-child}
use Rattle.mark_model.specs.Marks.{Mark, Marks, Seen, Changed, Wrote, Gone, Kept, mark_at, overlay}
use Rattle.node_tree.proofs.ChildAbove.{name_to}
use Rattle.txn_access.specs.Presence.{any_above, IsPast, IsSearchTo, IsSearch}
use Rattle.txn_access.specs.Sights.{seen_by}
use Rattle.txn_access.specs.Steps.{next_name, is_seen, mark_on}
use Rattle.txn_access.specs.declared.presence.Search.{Search}
use Rattle.txn_access.proofs.Nearest.{has, name_above, name_least, name_none, name_bare}
use Rattle.txn_access.proofs.NextSeen.{is_next, none_next, count_less}
use Rattle.txn_access.proofs.Seen.{seen_at}

-- NAMES
less : (o : Ordering) → is_lt o ≡ true → o ≡ Less
less Less h = refl
less Equal h = cc
less Greater h = cc

above_next : (leaf n m : Name) → is_above leaf n ≡ true → name_cmp n m ≡ Less → is_above leaf m ≡ true
above_next [] n m h k = refl
above_next (b ∷ bs) n m h k = ap is_lt (name_total.trans (b ∷ bs) n m (less (name_cmp (b ∷ bs) n) h) k)

above_is : (n m : Name) → 0 < length n → is_lt (name_cmp n m) ≡ is_above n m
above_is [] m h = absurd (omega arith)
above_is (b ∷ bs) m h = refl

-- CHILDREN of any list of entries: one whose name stands above a leaf is there, or there is none
module _ (p : Path) (leaf : Name) where
  any_kept : (o : Option Name) (ns : List Name) → list_any (is_above leaf) ns ≡ true → list_any (is_above leaf) (cons_option o ns) ≡ true
  any_kept None ns h = h
  any_kept (Some n) ns h = elim (is_above leaf n) as (λ b. (b || list_any (is_above leaf) ns) ≡ true) [ true ↦ refl | false ↦ h ]

  pub any_there : (t : Tree) (j : Name) → is_present t (child p j) ≡ true → is_above leaf j ≡ true → any_above leaf t p ≡ true
  any_there [] j h a = not_both h refl
  any_there (e ∷ t) j h a =
      (elim (same_path (child p j) e.0) as (λ b. same_path (child p j) e.0 ≡ b → is_some (cond b (Some e.1) (node_at t (child p j))) ≡ true → list_any (is_above leaf) (cons_option (child_name p e.0) (children t p)) ≡ true) [
        | true ↦ λ s g.
            ap (λ o. list_any (is_above leaf) (cons_option o (children t p))) (ap (child_name p) (sym (same_path-is (child p j) e.0 s)) ∙ child_name-child p j)
            ∙ ap (λ b. b || list_any (is_above leaf) (children t p)) a
        | false ↦ λ s g. any_kept (child_name p e.0) (children t p) (any_there t j g a)
      ]) refl h

  abbrev pub There : Tree → Type 0
  There t = (j : Name) × (is_present t (child p j) ≡ true) × (is_above leaf j ≡ true)

  or_here : (b : Bool) (node : Node) (o : Option Node) → is_some o ≡ true → is_some (cond b (Some node) o) ≡ true
  or_here true node o h = refl
  or_here false node o h = h

  there_later : (e : Path × Node) (t : Tree) → There t → There (e ∷ t)
  there_later e t h = (h.0, or_here (same_path (child p h.0) e.0) e.1 (node_at t (child p h.0)) h.1, h.2)

  there_here : (e : Path × Node) (t : Tree) (n : Name) → child_name p e.0 ≡ Some n → is_above leaf n ≡ true → There (e ∷ t)
  there_here e t n c a =
      (n, ap (λ b. is_some (cond b (Some e.1) (node_at t (child p n)))) (ap (same_path (child p n)) (child_name-is p e.0 n c) ∙ same_path-itself (child p n)), a)

  pub there_of : (t : Tree) → any_above leaf t p ≡ true → There t
  there_of [] h = not_both h refl
  there_of (e ∷ t) h = by (λ g. there_of t g) (child_name p e.0) refl h
    where
      named : (any_above leaf t p ≡ true → There t) → (n : Name) → child_name p e.0 ≡ Some n → (b : Bool) → is_above leaf n ≡ b → (b || any_above leaf t p) ≡ true → There (e ∷ t)
      named more n c true a g = there_here e t n c a
      named more n c false a g = there_later e t (more g)

      by : (any_above leaf t p ≡ true → There t) → (o : Option Name) → child_name p e.0 ≡ o → list_any (is_above leaf) (cons_option o (children t p)) ≡ true → There (e ∷ t)
      by more None c g = there_later e t (more g)
      by more (Some n) c g = named more n c (is_above leaf n) refl g

same_if : (a b : Bool) → (a ≡ true → b ≡ true) → (b ≡ true → a ≡ true) → a ≡ b
same_if true b to from = sym (to refl)
same_if false true to from = from refl
same_if false false to from = refl

pub some_mapped : (own : Option (Bor Name)) → is_some own ≡ is_some (option_map (λ (n : Bor Name). n.now) own)
some_mapped None = refl
some_mapped (Some n) = refl

pub some_copied : (node : Option (Bor Node)) → is_some node ≡ is_some (option_copied node)
some_copied None = refl
some_copied (Some n) = refl

-- MARKS
shown_is : (m : Option Mark) (under : Option Node) → is_some (seen_by m under) ≡ is_seen m (is_some under)
shown_is None under = refl
shown_is (Some Seen) under = refl
shown_is (Some (Changed old)) under = refl
shown_is (Some (Wrote others node)) under = refl
shown_is (Some (Gone others)) under = refl
shown_is (Some (Kept old)) under = refl

abbrev rest_of : (o : Option (List Name)) (m : Name) → first_below o ≡ Some m → (rest : List Name) × (o ≡ Some (m ∷ rest))
rest_of None m h = not_Some h
rest_of (Some []) m h = not_Some h
rest_of (Some (k ∷ rest)) m h = (rest, ap (λ n. Some (n ∷ rest)) (from_Some h))

last_filled : (p : Path) (m : Name) (rest : List Name) → HasNames (p ++ (m ∷ rest)) → 0 < length m
last_filled [] m rest h = h.0.filled
last_filled (n ∷ p) m rest h = last_filled p m rest h.1

one_name : (n k : ℕ) → k ≡ n + 1 → (n == k - 1) ≡ true
one_name n k e = grind (arith, nat_tests, e)

more_names : (n k r : ℕ) → k ≡ n + suc (suc r) → (n == k - 1) ≡ false
more_names n k r e = grind (arith, nat_tests, e)

module _ (tree : Tree) (ms : Marks) (p : Path) (leaf : Name) where
  pub is_step : (step : Search) (found : Bool) → step.passed ≡ None → step.found ≡ found → found ≡ any_above leaf (overlay tree ms) p → IsSearch tree ms p leaf step
  is_step step found h k is = subst (λ o. IsSearchTo tree ms p leaf o step.found) (sym h) (k ∙ is)

  module _ (is : IsTree tree) (s : is_sorted path_cmp ms ≡ true) where
    abbrev seen_there : Name → Bool
    seen_there j = is_present (overlay tree ms) (child p j)

    there_by : (j : Name) → seen_there j ≡ is_some (seen_by (mark_at ms (child p j)) (node_at tree (child p j)))
    there_by j = ap is_some (seen_at tree ms (child p j) s)

    unmarked : (j : Name) → has ms (child p j) ≡ false → seen_there j ≡ is_present tree (child p j)
    unmarked j h = there_by j ∙ by (mark_at ms (child p j)) h
      where
        by : (m : Option Mark) → is_some m ≡ false → is_some (seen_by m (node_at tree (child p j))) ≡ is_present tree (child p j)
        by None k = refl
        by (Some m) k = not_both refl k

    -- NO MARK leads to a child
    module _ (none : name_to p (first_past p leaf ms) ≡ None) where
      bare : (j : Name) → is_above leaf j ≡ true → seen_there j ≡ is_present tree (child p j)
      bare j a = unmarked j (by (has ms (child p j)) refl)
        where
          by : (b : Bool) → has ms (child p j) ≡ b → b ≡ false
          by true h = name_none p leaf ms s j none h a
          by false h = refl

      pub own_alone : (own : Option Name) → own ≡ next_name tree p leaf → is_some own ≡ any_above leaf (overlay tree ms) p
      own_alone None e = by (any_above leaf (overlay tree ms) p) refl
        where
          by : (b : Bool) → any_above leaf (overlay tree ms) p ≡ b → false ≡ b
          by true h = let t = there_of p leaf (overlay tree ms) h in none_next tree p is leaf (sym e) t.0 (sym (bare t.0 t.2) ∙ t.1) t.2
          by false h = refl
      own_alone (Some n) e =
          let g = is_next tree p is leaf n (sym e) in
          sym (any_there p leaf (overlay tree ms) n (bare n g.above ∙ g.present) g.above)

    -- ONE leads to the child m
    module _ (q : Path) (m : Name) (f : Some q ≡ first_past p leaf ms) (to : Some m ≡ first_below (names_below p q)) where
      abbrev rest : List Name
      rest = (rest_of (names_below p q) m (sym to)).0

      way : names_below p q ≡ Some (m ∷ rest)
      way = (rest_of (names_below p q) m (sym to)).1

      above : is_above leaf m ≡ true
      above = name_above p leaf ms s q m rest (sym f) way

      mark_by : (ns : List Name) → names_below p q ≡ Some (m ∷ ns) → mark_on ms p q ≡ mark_at ms (child p m)
      mark_by [] w =
          let at : q ≡ child p m = below_is p q (m ∷ []) w in
          ap (λ b. cond b (mark_at ms q) None) (one_name (length p) (length q) (ap length at ∙ length-append p (m ∷ []))) ∙ ap (mark_at ms) at
      mark_by (k ∷ ns) w =
          let at : q ≡ p ++ (m ∷ k ∷ ns) = below_is p q (m ∷ k ∷ ns) w in
          ap (λ b. cond b (mark_at ms q) None) (more_names (length p) (length q) (length ns) (ap length at ∙ length-append p (m ∷ k ∷ ns)))
          ∙ sym (none (mark_at ms (child p m)) (name_bare p leaf ms s q m k ns (sym f) w))
        where
          none : (o : Option Mark) → is_some o ≡ false → o ≡ None
          none None h = refl
          none (Some x) h = not_both refl h

      -- what is seen there, by whether a node stands in the tree
      seen_m : (b : Bool) → is_present tree (child p m) ≡ b → seen_there m ≡ is_seen (mark_on ms p q) b
      seen_m b h = there_by m ∙ shown_is (mark_at ms (child p m)) (node_at tree (child p m)) ∙ (λ i. is_seen (sym (mark_by rest way) i) (h i))

      filled : path_of (text q) 0 ≡ Ok q → 0 < length m
      filled sp = last_filled p m rest (subst HasNames (below_is p q (m ∷ rest) way) (spelled-names (text q) 0 q sp))

      bare_before : (j : Name) → is_above leaf j ≡ true → name_cmp j m ≡ Less → seen_there j ≡ is_present tree (child p j)
      bare_before j a l = unmarked j (by (has ms (child p j)) refl)
        where
          by : (b : Bool) → has ms (child p j) ≡ b → b ≡ false
          by true h = not_both (ap is_lt l) (name_least p leaf ms s q m rest (sym f) way j h a)
          by false h = refl

      -- the tree's own next child comes first
      pub own_before : (t : Name) → Some t ≡ next_name tree p leaf → Less ≡ name_cmp t m → true ≡ any_above leaf (overlay tree ms) p
      own_before t e l =
          let g = is_next tree p is leaf t (sym e) in
          sym (any_there p leaf (overlay tree ms) t (bare_before t g.above (sym l) ∙ g.present) g.above)

      -- or there is none in the tree before m
      abbrev NoneBefore : Type 0
      NoneBefore = (j : Name) → is_present tree (child p j) ≡ true → is_above leaf j ≡ true → is_lt (name_cmp j m) ≡ false

      none_before : None ≡ next_name tree p leaf → NoneBefore
      none_before e j h a = none_next tree p is leaf (sym e) j h a

      not_before : (t : Name) → Some t ≡ next_name tree p leaf → is_lt (name_cmp t m) ≡ false → NoneBefore
      not_before t e l j h a = by (name_cmp j m) refl
        where
          late : (o : Ordering) → name_cmp t j ≡ o → name_cmp j m ≡ Less → false ≡ true
          late Less k b = sym l ∙ ap is_lt (name_total.trans t j m k b)
          late Equal k b = sym l ∙ ap is_lt (name_total.congr t j m k ∙ b)
          late Greater k b = not_both (ap is_lt (name_total.antisymm j t ∙ ap ordering_reverse k)) ((is_next tree p is leaf t (sym e)).least j h a)

          by : (o : Ordering) → name_cmp j m ≡ o → is_lt o ≡ false
          by Less k = not_both (late (name_cmp t j) refl k) refl
          by Equal k = refl
          by Greater k = refl

      least_seen : NoneBefore → (j : Name) → seen_there j ≡ true → is_above leaf j ≡ true → is_lt (name_cmp j m) ≡ false
      least_seen none j h a = by (name_cmp j m) refl
        where
          by : (o : Ordering) → name_cmp j m ≡ o → is_lt o ≡ false
          by Less k = not_both (ap is_lt k) (none j (sym (bare_before j a k) ∙ h) a)
          by Equal k = refl
          by Greater k = refl

      same_past : 0 < length m → NoneBefore → seen_there m ≡ false → any_above leaf (overlay tree ms) p ≡ any_above m (overlay tree ms) p
      same_past some none gone = same_if (any_above leaf (overlay tree ms) p) (any_above m (overlay tree ms) p) on back
        where
          behind : (j : Name) → seen_there j ≡ true → is_above leaf j ≡ true → (o : Ordering) → name_cmp m j ≡ o → is_above m j ≡ true
          behind j h a Less e = sym (above_is m j some) ∙ ap is_lt e
          behind j h a Equal e = not_both (subst (λ k. seen_there k ≡ true) (sym (name_exact m j e)) h) gone
          behind j h a Greater e = not_both (ap is_lt (name_total.antisymm j m ∙ ap ordering_reverse e)) (least_seen none j h a)

          on : any_above leaf (overlay tree ms) p ≡ true → any_above m (overlay tree ms) p ≡ true
          on h = let t = there_of p leaf (overlay tree ms) h in any_there p m (overlay tree ms) t.0 t.1 (behind t.0 t.1 t.2 (name_cmp m t.0) refl)

          back : any_above m (overlay tree ms) p ≡ true → any_above leaf (overlay tree ms) p ≡ true
          back h =
              let t = there_of p m (overlay tree ms) h in
              any_there p leaf (overlay tree ms) t.0 t.1 (above_next leaf m t.0 above (less (name_cmp m t.0) (above_is m t.0 some ∙ t.2)))

      -- the step at m, by whether a node is seen there
      at_step : NoneBefore → path_of (text q) 0 ≡ Ok q → (name : Bor Name) → m ≡ name.now → (b : Bool) → seen_there m ≡ b → (step : Search) → step.passed ≡ cond b None (Some name) → step.found ≡ b → IsSearch tree ms p leaf step
      at_step none sp name is_m true h step k l = is_step step true k l (sym (any_there p leaf (overlay tree ms) m h above))
      at_step none sp name is_m false h step k l =
          subst (λ o. IsSearchTo tree ms p leaf o step.found) (sym k)
          (subst (IsPast tree ms p leaf) is_m record { same = same_past (filled sp) none h; fewer = count_less p leaf m (filled sp) above ms q (sym f) (sym to) })

      -- of no child in the tree, of one at the same place, and of one behind it
      pub none_step : None ≡ next_name tree p leaf → path_of (text q) 0 ≡ Ok q → (name : Bor Name) → m ≡ name.now → (b : Bool) → b ≡ is_seen (mark_on ms p q) false → (step : Search) → step.passed ≡ cond b None (Some name) → step.found ≡ b → IsSearch tree ms p leaf step
      none_step e sp name is_m b h = at_step (none_before e) sp name is_m b (seen_m false (gone (is_present tree (child p m)) refl) ∙ sym h)
        where
          gone : (b : Bool) → is_present tree (child p m) ≡ b → b ≡ false
          gone true h = none_next tree p is leaf (sym e) m h above
          gone false h = refl

      pub equal_step : (t : Name) → Some t ≡ next_name tree p leaf → Equal ≡ name_cmp t m → path_of (text q) 0 ≡ Ok q → (name : Bor Name) → m ≡ name.now → (b : Bool) → b ≡ is_seen (mark_on ms p q) true → (step : Search) → step.passed ≡ cond b None (Some name) → step.found ≡ b → IsSearch tree ms p leaf step
      equal_step t e l sp name is_m b h =
          at_step (not_before t e (ap is_lt (sym l))) sp name is_m b
          (seen_m true (subst (λ n. is_present tree (child p n) ≡ true) (name_exact t m (sym l)) (is_next tree p is leaf t (sym e)).present) ∙ sym h)

      pub greater_step : (t : Name) → Some t ≡ next_name tree p leaf → Greater ≡ name_cmp t m → path_of (text q) 0 ≡ Ok q → (name : Bor Name) → m ≡ name.now → (b : Bool) → b ≡ is_seen (mark_on ms p q) false → (step : Search) → step.passed ≡ cond b None (Some name) → step.found ≡ b → IsSearch tree ms p leaf step
      greater_step t e l sp name is_m b h =
          at_step (not_before t e (ap is_lt (sym l))) sp name is_m b (seen_m false (gone (is_present tree (child p m)) refl) ∙ sym h)
        where
          gone : (b : Bool) → is_present tree (child p m) ≡ b → b ≡ false
          gone true k = not_both (ap is_lt (name_total.antisymm m t ∙ ap ordering_reverse (sym l))) ((is_next tree p is leaf t (sym e)).least m k above)
          gone false k = refl
