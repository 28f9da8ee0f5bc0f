-- The walk over the paths at and below a path.
use Rattle.std.specs.Prelude.{◌≡◌, ◌<◌, Bool, true, false, cond, List, [], ◌∷◌, ◌++◌, length, Some, None}
use Rattle.std.specs.Cmp.{tied_itself}
use Rattle.std.specs.Ordering.{is_lt, is_le, ordering_then, ordering_reverse}
use Rattle.std.specs.declared.cmp.Ordering.{Ordering}
use Rattle.std.specs.declared.cmp.Ordering.TheVariants.{Less, Equal, Greater}
use Rattle.std.proofs.Common.{sym, refl, ap, subst, ◌∙◌, arith, append_assoc, append-nil}
use Rattle.xs_model.specs.Paths.{Path, Name, name_cmp, path_cmp, same_path, child, is_below, parents}
use Rattle.xs_model.specs.Trees.{Tree, IsTree, is_present, all_below}
use Rattle.xs_model.proofs.Maps.{not_both}
use Rattle.xs_model.proofs.PathLemmas.{name_total, name_exact, path_total, same_path-itself, way_to, is_below-way, is_below-child, is_below-itself, child-way}
use Rattle.xs_model.proofs.OrderLemmas.{stand_together, stand_before}
use Rattle.xs_model.proofs.WayLemmas.{present_above, parents-child}
use Rattle.xs_path.specs.Texts.{leaf_of}
use Rattle.tree_ops.proofs.AboveLemmas.{is_above}
use Rattle.tree_ops.specs.Rising.{behind}
use Rattle.tree_ops.specs.Walks.{IsNext}
use Rattle.tree_ops.proofs.RisingLemmas.{less_of, no_item, same_head, not_itself, further}
use Rattle.tree_ops.proofs.MemberLemmas.{first_is, next_is, none_kept}
use Rattle.tree_ops.proofs.BelowLemmas.{IsChild, has_below, below_has, below_rise}

-- ORDER below a path
pub below_cmp : (p xs ys : Path) → path_cmp (p ++ xs) (p ++ ys) ≡ path_cmp xs ys
below_cmp [] xs ys = refl
below_cmp (m ∷ p) xs ys = ap (λ o. ordering_then o (path_cmp (p ++ xs) (p ++ ys))) (tied_itself name_total m) ∙ below_cmp p xs ys

le_of : (o : Ordering) → is_lt o ≡ true → is_le o ≡ true
le_of Less h = refl
le_of Equal h = not_both h refl
le_of Greater h = not_both h refl

-- the first of the names below begins with the leaf, if there is one
abbrev pub Begins : Name → List Name → Type 0
Begins leaf [] = Unit {0}
Begins leaf (k ∷ ks) = k ≡ leaf

-- `up` lies at or between `top` and `at`, and a present path behind `at` at or below `up` is below a child whose name
-- stands above the leaf
pub record IsPassed (tree : Tree) (top at up : Path) (leaf : Name) : Type 0 where
  pub down : List Name
  pub low : at ≡ up ++ down
  pub leads : Begins leaf down
  pub high : is_below top up ≡ true
  pub later : (r : Path) → is_present tree r ≡ true → is_below up r ≡ true → is_lt (path_cmp at r) ≡ true → (m : Name) × (ns : List Name) × (r ≡ up ++ m ∷ ns) × (is_above leaf m ≡ true)

-- WHERE THE WALK UP BEGINS
start_later : (at r : Path) (ns : List Name) → r ≡ at ++ ns → is_lt (path_cmp at r) ≡ true → (m : Name) × (ms : List Name) × (r ≡ at ++ m ∷ ms) × (is_above [] m ≡ true)
start_later at r [] e h = not_both h (ap (λ q. is_lt (path_cmp at q)) (e ∙ append-nil at) ∙ not_itself path_cmp path_total at)
start_later at r (m ∷ ms) e h = (m, ms, e, refl)

pub passed_start : (tree : Tree) (top at : Path) → is_below top at ≡ true → IsPassed tree top at at []
passed_start tree top at high = record {
  down = [];
  low = sym (append-nil at);
  leads = tt;
  high = high;
  later = λ r there below after. let way = way_to at r below in start_later at r way.0 way.1 after;
}

-- a child that was found is behind `at`
above_lt : (leaf n : Name) → 0 < length n → is_above leaf n ≡ true → is_lt (name_cmp leaf n) ≡ true
above_lt [] [] filled h = absurd (omega arith)
above_lt [] (c ∷ cs) filled h = refl
above_lt (b ∷ bs) n filled h = h

lt_above : (leaf n : Name) → is_lt (name_cmp leaf n) ≡ true → is_above leaf n ≡ true
lt_above [] n h = refl
lt_above (b ∷ bs) n h = h

found_later : (up : Path) (leaf n : Name) (down : List Name) → Begins leaf down → 0 < length n → is_above leaf n ≡ true → is_lt (path_cmp (up ++ down) (child up n)) ≡ true
found_later up leaf n [] leads filled above = ap is_lt (below_cmp up [] (n ∷ []))
found_later up leaf n (k ∷ ks) leads filled above =
    ap is_lt (below_cmp up (k ∷ ks) (n ∷ []) ∙ ap (λ o. ordering_then o (path_cmp ks [])) (ap (λ l. name_cmp l n) leads ∙ less_of (name_cmp leaf n) (above_lt leaf n filled above)))

not_then : (o : Ordering) (ns : List Name) → is_lt o ≡ false → is_lt (ordering_then o (path_cmp ns [])) ≡ false
not_then Less ns h = not_both refl h
not_then Equal [] h = refl
not_then Equal (n ∷ ns) h = refl
not_then Greater ns h = refl

-- the child of a present path's row
child_there : (tree : Tree) → IsTree tree → (up : Path) (m : Name) (ns : List Name) (r : Path) → r ≡ up ++ m ∷ ns → is_present tree r ≡ true → is_present tree (child up m) ≡ true
child_there tree is up m ns r e there =
    present_above tree is (child up m) ns (subst (λ q. is_present tree q ≡ true) (e ∙ sym (child-way up m ns)) there)

is_false : (b : Bool) → (b ≡ true → b ≡ false) → b ≡ false
is_false true h = h refl
is_false false h = refl

pub next_found : (tree : Tree) → IsTree tree → (top at up : Path) (leaf n : Name) → IsPassed tree top at up leaf → IsChild tree up leaf n → 0 < length n → IsNext tree top at (Some (child up n))
next_found tree is top at up leaf n passed found filled =
    let later = subst (λ a. is_lt (path_cmp a (child up n)) ≡ true) (sym passed.low) (found_later up leaf n passed.down passed.leads filled found.above) in (
      record { present = found.present; below = is_below-child top up n passed.high; later = later },
      λ r is_later. is_false (is_lt (path_cmp r (child up n))) (λ before.
          let below_at : is_below up at ≡ true = subst (λ a. is_below up a ≡ true) (sym passed.low) (is_below-way up passed.down) in
          let below = stand_together up at r (child up n) below_at (is_below-way up (n ∷ [])) (le_of (path_cmp at r) is_later.later) (le_of (path_cmp r (child up n)) before) in
          let row = passed.later r is_later.present below is_later.later in
          let least = found.least row.0 (child_there tree is up row.0 row.1 r row.2 is_later.present) row.3 in
          ap (λ q. is_lt (path_cmp q (child up n))) row.2 ∙ ap is_lt (below_cmp up (row.0 ∷ row.1) (n ∷ [])) ∙ not_then (name_cmp row.0 n) row.1 least),
    )

-- WHERE IT ENDS
pub next_none : (tree : Tree) → IsTree tree → (top at up : Path) (leaf : Name) → IsPassed tree top at up leaf → ((m : Name) → is_present tree (child up m) ≡ true → is_above leaf m ≡ true → ⊥) → up ≡ top → IsNext tree top at None
next_none tree is top at up leaf passed none same = λ r is_later.
    let row = passed.later r is_later.present (subst (λ q. is_below q r ≡ true) (sym same) is_later.below) is_later.later in
    none row.0 (child_there tree is up row.0 row.1 r row.2 is_later.present) row.3

-- ONE STEP UP
last_of : (n : Name) (ns : List Name) → (q : Path) × (k : Name) × (n ∷ ns ≡ child q k)
last_of n [] = ([], n, refl)
last_of n (m ∷ ns) = let on = last_of m ns in (n ∷ on.0, on.1, ap (λ ms. n ∷ ms) on.2)

leaf_of-child : (p : Path) (n : Name) → leaf_of (child p n) ≡ n
leaf_of-child [] n = refl
leaf_of-child (m ∷ []) n = refl
leaf_of-child (m ∷ k ∷ p) n = leaf_of-child (k ∷ p) n

-- the parent of a path that is below another
pub record IsRow (top up q : Path) (k : Name) : Type 0 where
  pub up_is : up ≡ child q k
  pub high : is_below top q ≡ true

row_by : (top up : Path) (ns : List Name) → up ≡ top ++ ns → same_path up top ≡ false → (q : Path) × (k : Name) × IsRow top up q k
row_by top up [] e other = not_both (ap (λ p. same_path p top) (e ∙ append-nil top) ∙ same_path-itself top) other
row_by top up (n ∷ ns) e other =
    let last = last_of n ns in
    (top ++ last.0, last.1, record { up_is = e ∙ ap (λ ms. top ++ ms) last.2 ∙ sym (append_assoc top last.0 (last.1 ∷ [])); high = is_below-way top last.0 })

popped : (up above q : Path) (k : Name) (b : Bool) → up ≡ child q k → parents up ≡ cond b (above ∷ []) [] → above ≡ q
popped up above q k true e p = same_head (sym p ∙ ap parents e ∙ parents-child q k)
popped up above q k false e p = no_item (sym p ∙ ap parents e ∙ parents-child q k)

step_later : (tree : Tree) → IsTree tree → (top at up q : Path) (leaf k : Name) → (passed : IsPassed tree top at up leaf) → ((m : Name) → is_present tree (child up m) ≡ true → is_above leaf m ≡ true → ⊥) → up ≡ child q k
    → (r : Path) (ws : List Name) → r ≡ q ++ ws → is_present tree r ≡ true → is_lt (path_cmp at r) ≡ true → (m : Name) × (ns : List Name) × (r ≡ q ++ m ∷ ns) × (is_above k m ≡ true)
step_later tree is top at up q leaf k passed none e r ws way there after =
    by ws way (sym (below_cmp q (k ∷ passed.down) ws) ∙ ap (λ a. path_cmp a (q ++ ws)) (sym at_is) ∙ ap (path_cmp at) (sym way))
  where
    at_is : at ≡ q ++ (k ∷ passed.down)
    at_is = passed.low ∙ ap (λ u. u ++ passed.down) e ∙ child-way q k passed.down

    same : (m : Name) (ns : List Name) → r ≡ q ++ m ∷ ns → name_cmp k m ≡ Equal → (a : Name) × (ns : List Name) × (r ≡ q ++ a ∷ ns) × (is_above k a ≡ true)
    same m ns way tie =
        let r_is : r ≡ up ++ ns = way ∙ ap (λ x. q ++ x ∷ ns) (sym (name_exact k m tie)) ∙ sym (child-way q k ns) ∙ ap (λ u. u ++ ns) (sym e) in
        let row = passed.later r there (subst (λ p. is_below up p ≡ true) (sym r_is) (is_below-way up ns)) after in
        absurd (none row.0 (child_there tree is up row.0 row.1 r row.2 there) row.3)

    by : (ws : List Name) → r ≡ q ++ ws → path_cmp (k ∷ passed.down) ws ≡ path_cmp at r → (m : Name) × (ns : List Name) × (r ≡ q ++ m ∷ ns) × (is_above k m ≡ true)
    by [] way cmp = not_both (ap is_lt cmp ∙ after) refl
    by (m ∷ ns) way cmp =
        elim (name_cmp k m) as (λ o. name_cmp k m ≡ o → is_lt (ordering_then o (path_cmp passed.down ns)) ≡ true → (m : Name) × (ns : List Name) × (r ≡ q ++ m ∷ ns) × (is_above k m ≡ true)) [
          | Less ↦ λ o h. (m, ns, way, lt_above k m (ap is_lt o))
          | Equal ↦ λ o h. same m ns way o
          | Greater ↦ λ o h. not_both h refl
        ] refl (ap is_lt cmp ∙ after)

pub step_up : (tree : Tree) → IsTree tree → (top at up above : Path) (leaf next : Name) (b : Bool) → IsPassed tree top at up leaf → ((m : Name) → is_present tree (child up m) ≡ true → is_above leaf m ≡ true → ⊥) → same_path up top ≡ false → next ≡ leaf_of up → parents up ≡ cond b (above ∷ []) [] → IsPassed tree top at above next
step_up tree is top at up above leaf next b passed none other leaf_is pop =
    let way = way_to top up passed.high in
    let found = row_by top up way.0 way.1 other in
    let q = found.0 in
    let k = found.1 in
    let row = found.2 in
    let next_is : next ≡ k = leaf_is ∙ ap leaf_of row.up_is ∙ leaf_of-child q k in
    let passed_row : IsPassed tree top at q k = record {
      down = k ∷ passed.down;
      low = passed.low ∙ ap (λ u. u ++ passed.down) row.up_is ∙ child-way q k passed.down;
      leads = refl;
      high = row.high;
      later = λ r there below after. let on = way_to q r below in step_later tree is top at up q leaf k passed none row.up_is r on.0 on.1 there after;
    } in
    subst (λ p. IsPassed tree top at p next) (sym (popped up above q k b row.up_is pop)) (subst (λ n. IsPassed tree top at q n) (sym next_is) passed_row)

-- ALL OF THE PATHS
not_before : (top r : Path) → is_below top r ≡ true → is_lt (path_cmp r top) ≡ false
not_before top r below = by (path_cmp top r) (path_cmp r top) (path_total.antisymm r top) (stand_before top r below)
  where
    by : (o u : Ordering) → u ≡ ordering_reverse o → is_le o ≡ true → is_lt u ≡ false
    by Less u e h = ap is_lt e
    by Equal u e h = ap is_lt e
    by Greater u e h = not_both h refl

pub walk_start : (tree : Tree) → IsTree tree → (top : Path) → is_present tree top ≡ true → top ∷ behind path_cmp top (all_below tree top) ≡ all_below tree top
walk_start tree is top there =
    sym (first_is path_cmp path_total (all_below tree top) (below_rise tree top is.rising) top (has_below tree top top (is_below-itself top) there)
    (λ r h. not_before top r (below_has tree top r h).0))

pub walk_on : (tree : Tree) → IsTree tree → (top at q : Path) → IsNext tree top at (Some q) → behind path_cmp at (all_below tree top) ≡ q ∷ behind path_cmp q (all_below tree top)
walk_on tree is top at q next =
    next_is path_cmp path_total (λ r. is_lt (path_cmp at r)) (λ x y h k. further path_cmp path_total at x y h k) (all_below tree top) (below_rise tree top is.rising) q
    (has_below tree top q next.0.below next.0.present) next.0.later
    (λ r h after. let on = below_has tree top r h in next.1 r (record { present = on.1; below = on.0; later = after }))

pub walk_end : (tree : Tree) (top at : Path) → IsNext tree top at None → behind path_cmp at (all_below tree top) ≡ []
walk_end tree top at none =
    none_kept (λ r. is_lt (path_cmp at r)) (all_below tree top) (λ r h after. let on = below_has tree top r h in none r (record { present = on.1; below = on.0; later = after }))
