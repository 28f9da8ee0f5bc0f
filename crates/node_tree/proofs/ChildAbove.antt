-- The first path past a mark, if it is below the path, is that of the next child.
use Rattle.std.proofs.Common.{◌≡◌, Bool, true, false, cond, List, [], ◌∷◌, ◌++◌, Option, Some, None, is_some, Ordering, refl, sym, ap, subst, ◌∙◌, append-nil}
use Rattle.std.specs.declared.cmp.Ordering.TheVariants.{Less, Equal, Greater}
use Rattle.std.specs.Ordering.{is_lt, is_eq, is_le}
use Rattle.std.specs.Cmp.{tied_itself}
use Rattle.std.specs.FinMap as map
use Rattle.std.specs.FinMap.{is_sorted}
use Rattle.std.specs.FinMap.Entries.{below_all}
use Rattle.std.specs.List.{find, filter, cons_option}
use Rattle.xs_model.specs.Paths.{Path, Name, path_cmp, same_path, child, names_below, is_below}
use Rattle.xs_model.specs.Trees.{Tree, Node, IsTree, is_present, children, child_name, only_name}
use Rattle.xs_model.proofs.PathLemmas.{path_total, below_is, child-way, child_name-is, same_path-is, same_path-itself, is_below-itself, is_below-way}
use Rattle.xs_model.proofs.Maps.{not_both, from_Some}
use Rattle.xs_model.proofs.OrderLemmas.{stand_together}
use Rattle.xs_model.proofs.WayLemmas.{present_above}
use Rattle.path_map.specs.Marks.{first_below, is_above, is_past, is_past_by, first_past}
use Rattle.node_tree.specs.Names.{first_name, names_above}
use Rattle.path_map.proofs.Rising.{both, behind-sooner, find-behind}
use Rattle.path_map.proofs.Marked.{past, past_below, less_below}

-- the name of p's child on the way to a path
abbrev pub name_to : Path → Option Path → Option Name
name_to p None = None
name_to p (Some q) = first_below (names_below p q)

at_most : (o : Ordering) → is_lt o ≡ true → is_le o ≡ true
at_most Less h = refl
at_most Equal h = cc
at_most Greater h = cc

module _ (p : Path) (leaf : Name) where
  -- of each entry past the mark that is below a child of p, the child is there
  abbrev Closed : Tree → Type 0
  Closed es = (n m : Name) (rest : List Name) → is_present es (p ++ (n ∷ m ∷ rest)) ≡ true → is_above leaf n ≡ true → is_present es (child p n) ≡ true

  child_past : (n : Name) → is_past p leaf (child p n) ≡ is_above leaf n
  child_past n = past_below p leaf n []

  or_later : (b : Bool) (node : Node) (o : Option Node) → is_some o ≡ true → is_some (cond b (Some node) o) ≡ true
  or_later true node o h = refl
  or_later false node o h = h

  -- behind an entry that is not past the mark
  closed_later : (e : Path × Node) (es : Tree) → past p leaf e ≡ false → Closed (e ∷ es) → Closed es
  closed_later e es t closed n m rest h above =
      by (same_path (child p n) e.0) refl (closed n m rest (or_later (same_path (p ++ (n ∷ m ∷ rest)) e.0) e.1 (map.find path_cmp (p ++ (n ∷ m ∷ rest)) es) h) above)
    where
      by : (b : Bool) → same_path (child p n) e.0 ≡ b → is_some (cond b (Some e.1) (map.find path_cmp (child p n) es)) ≡ true → is_present es (child p n) ≡ true
      by true same k = not_both (ap (is_past p leaf) (sym (same_path-is (child p n) e.0 same)) ∙ child_past n ∙ above) t
      by false same k = k

  -- no child of p is behind a path that is behind p and not below it
  none_below : (q : Path) (es : Tree) → is_below p q ≡ false → is_lt (path_cmp p q) ≡ true → below_all path_cmp q es ≡ true → children es p ≡ []
  none_below q [] out behind h = refl
  none_below q (f ∷ es) out behind h =
      let parts = both (is_lt (path_cmp q f.0)) (below_all path_cmp q es) h in
      ap (λ o. cons_option o (children es p)) (by (child_name p f.0) refl parts.0) ∙ none_below q es out behind parts.1
    where
      by : (o : Option Name) → child_name p f.0 ≡ o → is_lt (path_cmp q f.0) ≡ true → child_name p f.0 ≡ None
      by None e lt = e
      by (Some n) e lt =
          let below : is_below p f.0 ≡ true = ap (is_below p) (child_name-is p f.0 n e) ∙ is_below-way p (n ∷ []) in
          not_both (stand_together p p q f.0 (is_below-itself p) below (at_most (path_cmp p q) behind) (at_most (path_cmp q f.0) lt)) out

  -- the entry at hand, if it is past the mark
  module _ (e : Path × Node) (es : Tree) (t : past p leaf e ≡ true) (s : below_all path_cmp e.0 es ≡ true) (closed : Closed (e ∷ es)) where
    past_is : (o : Option (List Name)) → names_below p e.0 ≡ o → is_past_by leaf (is_lt (path_cmp p e.0)) (first_below o) ≡ true
    past_is o f = ap (λ o. is_past_by leaf (is_lt (path_cmp p e.0)) (first_below o)) (sym f) ∙ t

    absent : (n : Name) → path_cmp (child p n) e.0 ≡ Less → is_present (e ∷ es) (child p n) ≡ false
    absent n l =
        ap (λ o. is_some (cond (is_eq o) (Some e.1) (map.find path_cmp (child p n) es))) l
        ∙ ap is_some (find-behind path_cmp (child p n) es (behind-sooner path_cmp path_total (child p n) e.0 es (ap is_lt l) s))

    -- it is no deeper than a child, since that child would stand before it
    deeper : {A : Type 0} → (n m : Name) (rest : List Name) → names_below p e.0 ≡ Some (n ∷ m ∷ rest) → A
    deeper n m rest f =
        let is : e.0 ≡ p ++ (n ∷ m ∷ rest) = below_is p e.0 (n ∷ m ∷ rest) f in
        let here : is_present (e ∷ es) (p ++ (n ∷ m ∷ rest)) ≡ true =
        ap (λ b. is_some (cond b (Some e.1) (map.find path_cmp (p ++ (n ∷ m ∷ rest)) es))) (ap (λ q. same_path q e.0) (sym is) ∙ same_path-itself e.0) in
        let before : path_cmp (child p n) e.0 ≡ Less = ap (path_cmp (child p n)) (is ∙ sym (child-way p n (m ∷ rest))) ∙ less_below (child p n) m rest in
        not_both (closed n m rest here (past_is (Some (n ∷ m ∷ rest)) f)) (absent n before)

    found : (o : Option (List Name)) → names_below p e.0 ≡ o → find (is_above leaf) (children (e ∷ es) p) ≡ first_below o
    found None f =
        ap (λ o. find (is_above leaf) (cons_option o (children es p))) (ap only_name f)
        ∙ ap (find (is_above leaf)) (none_below e.0 es (ap is_some f) (past_is None f) s)
    found (Some []) f =
        let self : path_cmp p e.0 ≡ Equal = ap (path_cmp p) (below_is p e.0 [] f ∙ append-nil p) ∙ tied_itself path_total p in
        not_both (past_is (Some []) f) (ap is_lt self)
    found (Some (n ∷ [])) f =
        ap (λ o. find (is_above leaf) (cons_option o (children es p))) (ap only_name f)
        ∙ ap (λ b. cond b (Some n) (find (is_above leaf) (children es p))) (past_is (Some (n ∷ [])) f)
    found (Some (n ∷ m ∷ rest)) f = deeper n m rest f

    found_child : (o : Option (List Name)) (n : Name) → names_below p e.0 ≡ o → first_below o ≡ Some n → e.0 ≡ child p n
    found_child None n f h = cc
    found_child (Some []) n f h = cc
    found_child (Some (m ∷ [])) n f h = below_is p e.0 (m ∷ []) f ∙ ap (child p) (from_Some h)
    found_child (Some (m ∷ k ∷ rest)) n f h = deeper m k rest f

  -- the entry at hand, if it is not
  skipped : (e : Path × Node) (es : Tree) (o : Option Name) → past p leaf e ≡ false → child_name p e.0 ≡ o → find (is_above leaf) (cons_option o (children es p)) ≡ find (is_above leaf) (children es p)
  skipped e es None t f = refl
  skipped e es (Some n) t f =
      ap (λ b. cond b (Some n) (find (is_above leaf) (children es p))) (sym (child_past n) ∙ ap (is_past p leaf) (sym (child_name-is p e.0 n f)) ∙ t)

  pub child_found : (es : Tree) → is_sorted path_cmp es ≡ true → Closed es → find (is_above leaf) (children es p) ≡ name_to p (first_past p leaf es)
  child_found [] s closed = refl
  child_found (e ∷ es) s closed = by (λ c. child_found es (both (below_all path_cmp e.0 es) (is_sorted path_cmp es) s).1 c) (past p leaf e) refl
    where
      by : (Closed es → find (is_above leaf) (children es p) ≡ name_to p (first_past p leaf es)) → (b : Bool) → past p leaf e ≡ b → find (is_above leaf) (children (e ∷ es) p) ≡ name_to p (first_past p leaf (e ∷ es))
      by more true t =
          found e es t (both (below_all path_cmp e.0 es) (is_sorted path_cmp es) s).0 closed (names_below p e.0) refl
          ∙ sym (ap (λ b. name_to p (cond b (Some e.0) (first_past p leaf es))) t)
      by more false t =
          skipped e es (child_name p e.0) t refl ∙ more (closed_later e es t closed) ∙ sym (ap (λ b. name_to p (cond b (Some e.0) (first_past p leaf es))) t)

  -- where it is below p, it is the child
  pub found_is : (es : Tree) → is_sorted path_cmp es ≡ true → Closed es → (q : Path) (n : Name) → first_past p leaf es ≡ Some q → first_below (names_below p q) ≡ Some n → q ≡ child p n
  found_is [] s closed q n f h = cc
  found_is (e ∷ es) s closed q n f h = by (λ c g. found_is es (both (below_all path_cmp e.0 es) (is_sorted path_cmp es) s).1 c q n g h) (past p leaf e) refl
    where
      by : (Closed es → first_past p leaf es ≡ Some q → q ≡ child p n) → (b : Bool) → past p leaf e ≡ b → q ≡ child p n
      by more true t =
          let here : e.0 ≡ q = from_Some (sym (ap (λ b. cond b (Some e.0) (first_past p leaf es)) t) ∙ f) in
          sym here ∙ found_child e es t (both (below_all path_cmp e.0 es) (is_sorted path_cmp es) s).0 closed (names_below p e.0) n refl (ap (λ r. first_below (names_below p r)) here ∙ h)
      by more false t = more (closed_later e es t closed) (sym (ap (λ b. cond b (Some e.0) (first_past p leaf es)) t) ∙ f)

-- in a tree
first_of_filter : (test : Name → Bool) (names : List Name) → find test names ≡ first_name (filter test names)
first_of_filter test [] = refl
first_of_filter test (n ∷ names) =
    elim (test n) as (λ b. cond b (Some n) (find test names) ≡ first_name (cond b (n ∷ filter test names) (filter test names))) [ true ↦ refl | false ↦ first_of_filter test names ]

first_above : (leaf : Name) (names : List Name) → first_name (names_above leaf names) ≡ find (is_above leaf) names
first_above [] [] = refl
first_above [] (n ∷ names) = refl
first_above (b ∷ bs) names = sym (first_of_filter (is_above (b ∷ bs)) names)

module _ (tree : Tree) (p : Path) (leaf : Name) (is : IsTree tree) where
  closed_tree : Closed p leaf tree
  closed_tree n m rest h above = present_above tree is (child p n) (m ∷ rest) (subst (λ q. is_present tree q ≡ true) (sym (child-way p n (m ∷ rest))) h)

  pub next_child : first_name (names_above leaf (children tree p)) ≡ name_to p (first_past p leaf tree)
  next_child = first_above leaf (children tree p) ∙ child_found p leaf tree is.rising closed_tree

  pub next_is : (q : Path) (n : Name) → first_past p leaf tree ≡ Some q → first_below (names_below p q) ≡ Some n → q ≡ child p n
  next_is = found_is p leaf tree is.rising closed_tree
