-- The first path past a mark, and the child to which it leads.
use Rattle.std.proofs.Common.{◌≡◌, Bool, true, false, cond, not, List, [], ◌∷◌, ◌++◌, Option, Some, None, is_some, Ordering, refl, sym, ap, subst, ◌∙◌, append-nil}
use Rattle.std.specs.declared.cmp.Ordering.TheVariants.{Less, Equal, Greater}
use Rattle.std.specs.Ordering.{is_lt, is_eq, is_le, ordering_then, ordering_reverse}
use Rattle.std.specs.Cmp.{tied_itself}
use Rattle.std.specs.FinMap.{find, is_sorted}
use Rattle.std.specs.FinMap.Entries.{below_all}
use Rattle.std.proofs.lemmas.Bool.{and_parts}
use Rattle.path_map.specs.Map.{Entries}
use Rattle.path_map.specs.Marks.{first_below, is_above, is_past, is_past_by, first_past}
use Rattle.path_map.proofs.Marked.{past_below, less_below}
use Rattle.xs_model.specs.Paths.{Path, Name, name_cmp, path_cmp, same_path, child, names_below}
use Rattle.xs_model.proofs.Maps.{not_both, not_Some, from_Some}
use Rattle.xs_model.proofs.PathLemmas.{name_total, path_total, same_path-is, below_is, child-way, is_below-itself, is_below-way}
use Rattle.xs_model.proofs.OrderLemmas.{stand_together}
use Rattle.node_tree.proofs.ChildAbove.{name_to}

-- ORDER of paths below one
pub less_child : (p : Path) (j m : Name) (rest : List Name) → name_cmp j m ≡ Less → path_cmp (child p j) (p ++ (m ∷ rest)) ≡ Less
less_child [] j m rest h = ap (λ o. ordering_then o (path_cmp [] rest)) h
less_child (x ∷ p) j m rest h = ap (λ o. ordering_then o (path_cmp (child p j) (p ++ (m ∷ rest)))) (tied_itself name_total x) ∙ less_child p j m rest h

not_less_after : (a b : Path) (o : Ordering) → path_cmp a b ≡ o → is_lt o ≡ false → is_le (path_cmp b a) ≡ true
not_less_after a b Less h k = cc
not_less_after a b Equal h k = ap is_le (path_total.antisymm b a ∙ ap ordering_reverse h)
not_less_after a b Greater h k = ap is_le (path_total.antisymm b a ∙ ap ordering_reverse h)

at_most : (o : Ordering) → is_lt o ≡ true → is_le o ≡ true
at_most Less h = refl
at_most Equal h = cc
at_most Greater h = cc

after : (a b : Path) (o : Ordering) → path_cmp a b ≡ o → is_lt o ≡ true → is_lt (path_cmp b a) ≡ false
after a b Less h k = ap is_lt (path_total.antisymm b a ∙ ap ordering_reverse h)
after a b Equal h k = cc
after a b Greater h k = cc

child_past : (p : Path) (leaf j : Name) → is_past p leaf (child p j) ≡ is_above leaf j
child_past p leaf j = past_below p leaf j []

module _ {X : Type 0} where
  abbrev pub has : Entries X → Path → Bool
  has es r = is_some (find path_cmp r es)

  -- what is found among entries behind k is behind k
  pub found_behind : (k : Path) (es : Entries X) (r : Path) → below_all path_cmp k es ≡ true → has es r ≡ true → is_lt (path_cmp k r) ≡ true
  found_behind k [] r h f = not_both f refl
  found_behind k (e ∷ es) r h f =
      let parts = and_parts (is_lt (path_cmp k e.0)) (below_all path_cmp k es) h in
      by (same_path r e.0) refl f parts.0 (λ g. found_behind k es r parts.1 g)
    where
      by : (b : Bool) → same_path r e.0 ≡ b → is_some (cond b (Some e.1) (find path_cmp r es)) ≡ true → is_lt (path_cmp k e.0) ≡ true → (has es r ≡ true → is_lt (path_cmp k r) ≡ true) → is_lt (path_cmp k r) ≡ true
      by true t f here more = subst (λ q. is_lt (path_cmp k q) ≡ true) (sym (same_path-is r e.0 t)) here
      by false t f here more = more f

  module _ (p : Path) (leaf : Name) where
    -- behind an entry that is not past the mark
    later : (e : Path × X) (es : Entries X) (r : Path) → is_past p leaf e.0 ≡ false → is_past p leaf r ≡ true → has (e ∷ es) r ≡ true → has es r ≡ true
    later e es r t h f = by (same_path r e.0) refl f
      where
        by : (b : Bool) → same_path r e.0 ≡ b → is_some (cond b (Some e.1) (find path_cmp r es)) ≡ true → has es r ≡ true
        by true s g = not_both (subst (λ q. is_past p leaf q ≡ true) (same_path-is r e.0 s) h) t
        by false s g = g

    none_there : {A : Type 0} → (es : Entries X) (r : Path) → first_past p leaf es ≡ None → has es r ≡ true → is_past p leaf r ≡ true → A
    none_there [] r f g h = not_both g refl
    none_there {A = A} (e ∷ es) r f g h = by (is_past p leaf e.0) refl f (λ k. none_there es r k)
      where
        by : (b : Bool) → is_past p leaf e.0 ≡ b → cond b (Some e.0) (first_past p leaf es) ≡ None → (first_past p leaf es ≡ None → has es r ≡ true → is_past p leaf r ≡ true → A) → A
        by true t k more = not_Some (sym k)
        by false t k more = more k (later e es r t h g) h

    least : (es : Entries X) (q r : Path) → is_sorted path_cmp es ≡ true → first_past p leaf es ≡ Some q → has es r ≡ true → is_past p leaf r ≡ true → is_lt (path_cmp r q) ≡ false
    least [] q r s f g h = not_both g refl
    least (e ∷ es) q r s f g h =
        let parts = and_parts (below_all path_cmp e.0 es) (is_sorted path_cmp es) s in
        by (is_past p leaf e.0) refl f parts.0 (λ k x. least es q r parts.1 k x h)
      where
        here : (b : Bool) → same_path r e.0 ≡ b → is_some (cond b (Some e.1) (find path_cmp r es)) ≡ true → below_all path_cmp e.0 es ≡ true → is_lt (path_cmp r e.0) ≡ false
        here true t k below = ap (λ x. is_lt (path_cmp x e.0)) (same_path-is r e.0 t) ∙ ap is_lt (tied_itself path_total e.0)
        here false t k below = after e.0 r (path_cmp e.0 r) refl (found_behind e.0 es r below k)

        by : (b : Bool) → is_past p leaf e.0 ≡ b → cond b (Some e.0) (first_past p leaf es) ≡ Some q → below_all path_cmp e.0 es ≡ true → (first_past p leaf es ≡ Some q → has es r ≡ true → is_lt (path_cmp r q) ≡ false) → is_lt (path_cmp r q) ≡ false
        by true t k below more = subst (λ x. is_lt (path_cmp r x) ≡ false) (from_Some k) (here (same_path r e.0) refl g below)
        by false t k below more = more k (later e es r t h g)

    or_here : (b : Bool) (x : X) (o : Option X) → is_some o ≡ true → is_some (cond b (Some x) o) ≡ true
    or_here true x o h = refl
    or_here false x o h = h

    pub found : (es : Entries X) (q : Path) → first_past p leaf es ≡ Some q → (is_past p leaf q ≡ true) × (has es q ≡ true)
    found [] q f = not_Some f
    found (e ∷ es) q f = by (is_past p leaf e.0) refl f (λ k. found es q k)
      where
        by : (b : Bool) → is_past p leaf e.0 ≡ b → cond b (Some e.0) (first_past p leaf es) ≡ Some q → (first_past p leaf es ≡ Some q → (is_past p leaf q ≡ true) × (has es q ≡ true)) → (is_past p leaf q ≡ true) × (has (e ∷ es) q ≡ true)
        by true t k more =
            let same : e.0 ≡ q = from_Some k in
            (subst (λ x. is_past p leaf x ≡ true) same t, subst (λ x. has (e ∷ es) x ≡ true) same (ap (λ o. is_some (cond (is_eq o) (Some e.1) (find path_cmp e.0 es))) (tied_itself path_total e.0)))
        by false t k more = let rest = more k in (rest.0, or_here (same_path q e.0) e.1 (find path_cmp q es) rest.1)

    -- THE CHILD to which the first one leads
    module _ (es : Entries X) (s : is_sorted path_cmp es ≡ true) where
      module _ (q : Path) (m : Name) (rest : List Name) (f : first_past p leaf es ≡ Some q) (to : names_below p q ≡ Some (m ∷ rest)) where
        pub name_above : is_above leaf m ≡ true
        name_above = sym (ap (λ o. is_past_by leaf (is_lt (path_cmp p q)) (first_below o)) to) ∙ (found es q f).0

        -- no child with an entry stands before it
        pub name_least : (j : Name) → has es (child p j) ≡ true → is_above leaf j ≡ true → is_lt (name_cmp j m) ≡ false
        name_least j there above = by (name_cmp j m) refl
          where
            by : (o : Ordering) → name_cmp j m ≡ o → is_lt o ≡ false
            by Less h =
                not_both (ap is_lt (ap (path_cmp (child p j)) (below_is p q (m ∷ rest) to) ∙ less_child p j m rest h))
                (least es q (child p j) s f there (child_past p leaf j ∙ above))
            by Equal h = refl
            by Greater h = refl

      -- where it is deeper, the child has none
      pub name_bare : (q : Path) (m k : Name) (rest : List Name) → first_past p leaf es ≡ Some q → names_below p q ≡ Some (m ∷ k ∷ rest) → has es (child p m) ≡ false
      name_bare q m k rest f to = by (has es (child p m)) refl
        where
          by : (b : Bool) → has es (child p m) ≡ b → b ≡ false
          by true h =
              let before : path_cmp (child p m) q ≡ Less = ap (path_cmp (child p m)) (below_is p q (m ∷ k ∷ rest) to ∙ sym (child-way p m (k ∷ rest))) ∙ less_below (child p m) k rest in
              not_both (ap is_lt before) (least es q (child p m) s f h (child_past p leaf m ∙ name_above q m (k ∷ rest) f to))
          by false h = refl

      -- where it leads to none, no child above the leaf has an entry
      pub name_none : {A : Type 0} → (j : Name) → name_to p (first_past p leaf es) ≡ None → has es (child p j) ≡ true → is_above leaf j ≡ true → A
      name_none {A = A} j none there above = by (first_past p leaf es) refl none
        where
          past : (q : Path) (o : Option (List Name)) → first_past p leaf es ≡ Some q → names_below p q ≡ o → is_past_by leaf (is_lt (path_cmp p q)) (first_below o) ≡ true
          past q o f h = ap (λ o. is_past_by leaf (is_lt (path_cmp p q)) (first_below o)) (sym h) ∙ (found es q f).0

          below : (q : Path) (o : Option (List Name)) → first_past p leaf es ≡ Some q → names_below p q ≡ o → first_below o ≡ None → A
          below q None f h n =
              let behind = not_less_after (child p j) q (path_cmp (child p j) q) refl (least es q (child p j) s f there (child_past p leaf j ∙ above)) in
              not_both (stand_together p p q (child p j) (is_below-itself p) (is_below-way p (j ∷ [])) (at_most (path_cmp p q) (past q None f h)) behind) (ap is_some h)
          below q (Some []) f h n =
              let self : path_cmp p q ≡ Equal = ap (path_cmp p) (below_is p q [] h ∙ append-nil p) ∙ tied_itself path_total p in
              not_both (past q (Some []) f h) (ap is_lt self)
          below q (Some (m ∷ rest)) f h n = not_Some (sym n)

          by : (o : Option Path) → first_past p leaf es ≡ o → name_to p o ≡ None → A
          by None f n = none_there es (child p j) f there (child_past p leaf j ∙ above)
          by (Some q) f n = below q (names_below p q) f refl n
