-- The next child that is seen: of the tree's next child and the marks' next one the first that is there.
use Rattle.std.proofs.Common.{◌≡◌, ◌<◌, ◌≤◌, Bool, true, false, cond, List, [], ◌∷◌, length, Option, Some, None, is_some, Ordering, refl, sym, ap, subst, ◌∙◌, arith}
use Rattle.std.specs.declared.cmp.Ordering.TheVariants.{Less, Equal, Greater}
use Rattle.std.specs.Ordering.{is_lt, ordering_reverse}
use Rattle.std.specs.Cmp.{tied_itself}
use Rattle.std.specs.FinMap.{is_sorted}
use Rattle.std.specs.List.{filter}
use Rattle.path_map.specs.Marks.{paths, first_below, is_above, is_past, is_past_by, first_past}
use Rattle.xs_model.specs.Paths.{Path, Name, name_cmp, path_cmp, child, names_below}
use Rattle.xs_model.specs.Trees.{Tree, IsTree, node_at, is_present}
use Rattle.xs_model.proofs.Maps.{not_both, not_Some, from_Some}
use Rattle.xs_model.proofs.PathLemmas.{name_total, name_exact, below_is, child-way}
use Rattle.xs_model.proofs.WayLemmas.{present_above}
use Rattle.mark_model.specs.Marks.{Mark, Marks, mark_at, overlay}
use Rattle.txn_access.specs.Sights.{seen_by}
use Rattle.txn_access.specs.Steps.{next_name, past_count}
use Rattle.node_tree.proofs.ChildAbove.{name_to, next_child}
use Rattle.txn_access.proofs.Nearest.{has, found, name_above, name_least, name_none}
use Rattle.txn_access.proofs.Seen.{seen_at}

-- NAMES
above_next : (leaf n m : Name) → is_above leaf n ≡ true → name_cmp n m ≡ Less → is_above leaf m ≡ true
above_next [] n m h k = refl
above_next (b ∷ bs) n m h k = ap is_lt (name_total.trans (b ∷ bs) n m (less (name_cmp (b ∷ bs) n) h) k)
  where
    less : (o : Ordering) → is_lt o ≡ true → o ≡ Less
    less Less g = refl
    less Equal g = cc
    less Greater g = cc

-- what stands above a name that is not empty stands behind it
above_is : (n m : Name) → 0 < length n → is_lt (name_cmp n m) ≡ is_above n m
above_is [] m h = absurd (omega arith)
above_is (b ∷ bs) m h = refl

-- A TREE: what its next child is
module _ (tree : Tree) (p : Path) (is : IsTree tree) where
  abbrev there : Name → Bool
  there j = is_present tree (child p j)

  to_child : (q : Path) (k : Name) (rest : List Name) → is_present tree q ≡ true → names_below p q ≡ Some (k ∷ rest) → there k ≡ true
  to_child q k rest h to =
      present_above tree is (child p k) rest (subst (λ r. is_present tree r ≡ true) (below_is p q (k ∷ rest) to ∙ sym (child-way p k rest)) h)

  pub record IsNext (leaf n : Name) : Type 0 where
    pub above : is_above leaf n ≡ true
    pub present : there n ≡ true
    pub least : (j : Name) → there j ≡ true → is_above leaf j ≡ true → is_lt (name_cmp j n) ≡ false

  module _ (leaf : Name) where
    pub none_next : {A : Type 0} → next_name tree p leaf ≡ None → (j : Name) → there j ≡ true → is_above leaf j ≡ true → A
    none_next none j h above = name_none p leaf tree is.rising j (sym (next_child tree p leaf is) ∙ none) h above

    pub is_next : (n : Name) → next_name tree p leaf ≡ Some n → IsNext leaf n
    is_next n h = by (first_past p leaf tree) refl (sym (next_child tree p leaf is) ∙ h)
      where
        to : (q : Path) (o : Option (List Name)) → first_past p leaf tree ≡ Some q → names_below p q ≡ o → first_below o ≡ Some n → IsNext leaf n
        to q None f b e = not_Some e
        to q (Some []) f b e = not_Some e
        to q (Some (k ∷ rest)) f b e = subst (IsNext leaf) (from_Some e) record {
          above = name_above p leaf tree is.rising q k rest f b;
          present = to_child q k rest (found p leaf tree q f).1 b;
          least = λ j t a. name_least p leaf tree is.rising q k rest f b j t a;
        }

        by : (o : Option Path) → first_past p leaf tree ≡ o → name_to p o ≡ Some n → IsNext leaf n
        by None f e = not_Some e
        by (Some q) f e = to q (names_below p q) f refl e

    same_name : (n k : Name) → IsNext leaf n → IsNext leaf k → (o : Ordering) → name_cmp n k ≡ o → n ≡ k
    same_name n k g h Less e = not_both (ap is_lt e) (h.least n g.present g.above)
    same_name n k g h Equal e = name_exact n k e
    same_name n k g h Greater e = not_both (ap is_lt (name_total.antisymm k n ∙ ap ordering_reverse e)) (g.least k h.present h.above)

    pub next_is : (n : Name) → IsNext leaf n → next_name tree p leaf ≡ Some n
    next_is n g = by (next_name tree p leaf) refl
      where
        by : (o : Option Name) → next_name tree p leaf ≡ o → o ≡ Some n
        by None e = none_next e n g.present g.above
        by (Some k) e = ap Some (sym (same_name n k g (is_next k e) (name_cmp n k) refl))

    pub no_next : ((A : Type 0) → (j : Name) → there j ≡ true → is_above leaf j ≡ true → A) → next_name tree p leaf ≡ None
    no_next none = by (next_name tree p leaf) refl
      where
        by : (o : Option Name) → next_name tree p leaf ≡ o → o ≡ None
        by None e = refl
        by (Some k) e = let h = is_next k e in none (◌≡◌ {A = Option Name} (Some k) None) k h.present h.above

  -- a name that is not there is passed
  pub next_passed : (leaf n : Name) → 0 < length n → is_above leaf n ≡ true → there n ≡ false
      → ((j : Name) → there j ≡ true → is_above leaf j ≡ true → is_lt (name_cmp j n) ≡ false)
      → next_name tree p leaf ≡ next_name tree p n
  next_passed leaf n some above gone least = by (next_name tree p n) refl
    where
      behind : (j : Name) → there j ≡ true → is_above leaf j ≡ true → (o : Ordering) → name_cmp n j ≡ o → is_above n j ≡ true
      behind j h a Less e = sym (above_is n j some) ∙ ap is_lt e
      behind j h a Equal e = not_both (subst (λ k. there k ≡ true) (sym (name_exact n j e)) h) gone
      behind j h a Greater e = not_both (ap is_lt (name_total.antisymm j n ∙ ap ordering_reverse e)) (least j h a)

      from : (k : Name) → IsNext n k → IsNext leaf k
      from k g = record {
        above = above_next leaf n k above (less (name_cmp n k) (above_is n k some ∙ g.above));
        present = g.present;
        least = λ j h a. g.least j h (behind j h a (name_cmp n j) refl);
      }
        where
          less : (o : Ordering) → is_lt o ≡ true → o ≡ Less
          less Less h = refl
          less Equal h = cc
          less Greater h = cc

      by : (o : Option Name) → next_name tree p n ≡ o → next_name tree p leaf ≡ o
      by None e = no_next leaf (λ A j h a. none_next n e j h (behind j h a (name_cmp n j) refl))
      by (Some k) e = next_is leaf k (from k (is_next n k e))

-- THE TREE WITH MARKS
module _ (tree : Tree) (ms : Marks) (p : Path) (leaf : Name) (is : IsTree tree) (seen : IsTree (overlay tree ms)) (s : is_sorted path_cmp ms ≡ true) where
  abbrev seen_there : Name → Bool
  seen_there j = is_present (overlay tree ms) (child p j)

  there_by : (j : Name) → seen_there j ≡ is_some (seen_by (mark_at ms (child p j)) (node_at tree (child p j)))
  there_by j = ap is_some (seen_at tree ms (child p j) s)

  unmarked_by : (j : Name) (b : Bool) → has ms (child p j) ≡ b → b ≡ false → seen_there j ≡ is_present tree (child p j)
  unmarked_by j b h e = there_by j ∙ by (mark_at ms (child p j)) (h ∙ e)
    where
      by : (m : Option Mark) → is_some m ≡ false → is_some (seen_by m (node_at tree (child p j))) ≡ is_present tree (child p j)
      by None k = refl
      by (Some m) k = not_both refl k

  -- no mark leads below the path
  module _ (none : name_to p (first_past p leaf ms) ≡ None) where
    bare : (j : Name) → is_above leaf j ≡ true → seen_there j ≡ is_present tree (child p j)
    bare j a = unmarked_by j (has ms (child p j)) refl (by (has ms (child p j)) refl)
      where
        by : (b : Bool) → has ms (child p j) ≡ b → b ≡ false
        by true h = name_none p leaf ms s j none h a
        by false h = refl

    pub next_own : next_name (overlay tree ms) p leaf ≡ next_name tree p leaf
    next_own = by (next_name tree p leaf) refl
      where
        by : (o : Option Name) → next_name tree p leaf ≡ o → next_name (overlay tree ms) p leaf ≡ o
        by None e = no_next (overlay tree ms) p seen leaf (λ A j h a. none_next tree p is leaf e j (sym (bare j a) ∙ h) a)
        by (Some n) e =
            let g = is_next tree p is leaf n e in
            next_is (overlay tree ms) p seen leaf n record {
              above = g.above;
              present = bare n g.above ∙ g.present;
              least = λ j h a. g.least j (sym (bare j a) ∙ h) a;
            }

  -- one leads to the child m
  module _ (q : Path) (m : Name) (rest : List Name) (f : first_past p leaf ms ≡ Some q) (to : names_below p q ≡ Some (m ∷ rest)) where
    bare_before : (j : Name) → is_above leaf j ≡ true → name_cmp j m ≡ Less → seen_there j ≡ is_present tree (child p j)
    bare_before j a l = unmarked_by j (has ms (child p j)) refl (by (has ms (child p j)) refl)
      where
        by : (b : Bool) → has ms (child p j) ≡ b → b ≡ false
        by true h = not_both (ap is_lt l) (name_least p leaf ms s q m rest f to j h a)
        by false h = refl

    -- the tree's own next child comes first
    pub next_before : (t : Name) → next_name tree p leaf ≡ Some t → name_cmp t m ≡ Less → next_name (overlay tree ms) p leaf ≡ Some t
    next_before t e l =
        let g = is_next tree p is leaf t e in
        next_is (overlay tree ms) p seen leaf t record {
          above = g.above;
          present = bare_before t g.above l ∙ g.present;
          least = λ j h a. by j h a (name_cmp j t) refl;
        }
      where
        by : (j : Name) → seen_there j ≡ true → is_above leaf j ≡ true → (o : Ordering) → name_cmp j t ≡ o → is_lt o ≡ false
        by j h a Less k =
            let g = is_next tree p is leaf t e in
            not_both (ap is_lt k) (g.least j (sym (bare_before j a (name_total.trans j t m k l)) ∙ h) a)
        by j h a Equal k = refl
        by j h a Greater k = refl

    -- the tree's own next child does not come before it
    abbrev pub NotBefore : Option Name → Type 0
    NotBefore None = ◌≡◌ {A = Option Name} (next_name tree p leaf) None
    NotBefore (Some t) = (next_name tree p leaf ≡ Some t) × (is_lt (name_cmp t m) ≡ false)

    not_before : (own : Option Name) → NotBefore own → (j : Name) → is_present tree (child p j) ≡ true → is_above leaf j ≡ true → is_lt (name_cmp j m) ≡ false
    not_before None e j h a = none_next tree p is leaf e j h a
    not_before (Some t) e j h a = by (name_cmp j m) refl
      where
        g : IsNext tree p is leaf t
        g = is_next tree p is leaf t e.0

        late : (o : Ordering) → name_cmp t j ≡ o → name_cmp j m ≡ Less → false ≡ true
        late Less k l = sym e.1 ∙ ap is_lt (name_total.trans t j m k l)
        late Equal k l = sym e.1 ∙ ap is_lt (name_total.congr t j m k ∙ l)
        late Greater k l = not_both (ap is_lt (name_total.antisymm j t ∙ ap ordering_reverse k)) (g.least j h a)

        by : (o : Ordering) → name_cmp j m ≡ o → is_lt o ≡ false
        by Less k = not_both (late (name_cmp t j) refl k) refl
        by Equal k = refl
        by Greater k = refl

    least_seen : (own : Option Name) → NotBefore own → (j : Name) → seen_there j ≡ true → is_above leaf j ≡ true → is_lt (name_cmp j m) ≡ false
    least_seen own e j h a = by (name_cmp j m) refl
      where
        by : (o : Ordering) → name_cmp j m ≡ o → is_lt o ≡ false
        by Less k = not_both (ap is_lt k) (not_before own e j (sym (bare_before j a k) ∙ h) a)
        by Equal k = refl
        by Greater k = refl

    -- where it is seen it is the next one, and else it is passed
    pub next_marked : (own : Option Name) → NotBefore own → is_some (seen_by (mark_at ms (child p m)) (node_at tree (child p m))) ≡ true → next_name (overlay tree ms) p leaf ≡ Some m
    next_marked own e h = next_is (overlay tree ms) p seen leaf m record {
      above = name_above p leaf ms s q m rest f to;
      present = there_by m ∙ h;
      least = least_seen own e;
    }

    pub next_hidden : (own : Option Name) → NotBefore own → 0 < length m → is_some (seen_by (mark_at ms (child p m)) (node_at tree (child p m))) ≡ false → next_name (overlay tree ms) p leaf ≡ next_name (overlay tree ms) p m
    next_hidden own e some h =
        next_passed (overlay tree ms) p seen leaf m some (name_above p leaf ms s q m rest f to) (there_by m ∙ h) (least_seen own e)

-- COUNTS. Fewer marks are past a name that is passed
past_more : (p : Path) (leaf m : Name) (r : Path) → 0 < length m → is_above leaf m ≡ true → is_past p m r ≡ true → is_past p leaf r ≡ true
past_more p leaf m r some above h = by (first_below (names_below p r)) h
  where
    less : (o : Ordering) → is_lt o ≡ true → o ≡ Less
    less Less h = refl
    less Equal h = cc
    less Greater h = cc

    by : (o : Option Name) → is_past_by m (is_lt (path_cmp p r)) o ≡ true → is_past_by leaf (is_lt (path_cmp p r)) o ≡ true
    by None k = k
    by (Some n) k = above_next leaf m n above (less (name_cmp m n) (above_is m n some ∙ k))

module _ (p : Path) (leaf m : Name) (some : 0 < length m) (above : is_above leaf m ≡ true) where
  -- whether one more is past each of the two
  counted : (s t : Bool) (r : Path) (qs rs : List Path) → (s ≡ true → t ≡ true) → length qs ≤ length rs → length (cond s (r ∷ qs) qs) ≤ length (cond t (r ∷ rs) rs)
  counted true true r qs rs to h = omega arith
  counted true false r qs rs to h = not_both (to refl) refl
  counted false true r qs rs to h = omega arith
  counted false false r qs rs to h = h

  count_le : (ms : Marks) → past_count p m ms ≤ past_count p leaf ms
  count_le [] = omega arith
  count_le (e ∷ ms) = counted (is_past p m e.0) (is_past p leaf e.0) e.0 (filter (is_past p m) (paths ms)) (filter (is_past p leaf) (paths ms)) (past_more p leaf m e.0 some above) (count_le ms)

  pub count_less : (ms : Marks) (q : Path) → first_past p leaf ms ≡ Some q → first_below (names_below p q) ≡ Some m → past_count p m ms < past_count p leaf ms
  count_less [] q f to = not_Some f
  count_less (e ∷ ms) q f to = by (is_past p m e.0) (is_past p leaf e.0) refl refl f (λ k. count_less ms q k to)
    where
      itself : is_past p m q ≡ false
      itself = ap (is_past_by m (is_lt (path_cmp p q))) to ∙ sym (above_is m m some) ∙ ap is_lt (tied_itself name_total m)

      by : (s t : Bool) → is_past p m e.0 ≡ s → is_past p leaf e.0 ≡ t → cond t (Some e.0) (first_past p leaf ms) ≡ Some q
          → (first_past p leaf ms ≡ Some q → past_count p m ms < past_count p leaf ms)
          → length (cond s (e.0 ∷ filter (is_past p m) (paths ms)) (filter (is_past p m) (paths ms))) < length (cond t (e.0 ∷ filter (is_past p leaf) (paths ms)) (filter (is_past p leaf) (paths ms)))
      by true true a b k more = not_both a (ap (is_past p m) (from_Some k) ∙ itself)
      by true false a b k more = not_both (past_more p leaf m e.0 some above a) b
      by false true a b k more = let le = count_le ms in omega (arith, le)
      by false false a b k more = more k
