-- A commit goes: sets from the first path to the last each find a parent, and removals from the last to the first no child.
use Rattle.std.proofs.Common.{◌≡◌, Bool, true, false, cond, ◌&&◌, List, [], ◌∷◌, ◌++◌, length, take, Option, Some, None, is_some, inl, inr, ◌⊎◌, refl, sym, ap, subst, ◌∙◌, append_assoc}
use Rattle.std.specs.Ordering.{is_lt, is_eq, ordering_reverse}
use Rattle.std.specs.FinMap.{find, is_sorted}
use Rattle.std.specs.FinMap.Entries.{below_all}
use Rattle.std.specs.List.{cons_option}
use Rattle.std.proofs.lemmas.Bool.{and_parts}
use Rattle.path_map.proofs.Marked.{less_below}
use Rattle.xs_model.specs.Commands.{removals}
use Rattle.xs_model.specs.Paths.{Path, Name, path_cmp, same_path, child, parents}
use Rattle.xs_model.specs.Requests.{is_root}
use Rattle.xs_model.specs.Trees.{Tree, Node, Edit, IsTree, node_at, is_present, children, child_name, edited_at, edited, edit_paths}
use Rattle.xs_model.proofs.Maps.{not_both, not_Some, from_Some, same_maps}
use Rattle.xs_model.proofs.PathLemmas.{path_total, path_exact, same_path-is, same_path-itself, child_name-is}
use Rattle.xs_model.proofs.EditLemmas.{node_at-edited_at, sorted_edits}
use Rattle.xs_model.proofs.TreeLemmas.{has_entries}
use Rattle.mark_model.specs.Marks.{Mark, Marks, Seen, Changed, Wrote, Gone, Kept, mark_at, edit_of, edits_by, written, committed}
use Rattle.node_tree.specs.KeptTree.{has_parent}
use Rattle.txn_access.specs.Plans.{wrote, gone, gone_paths, FitsSets, FitsGoneAt, FitsGone}
use Rattle.txn_access.specs.Sights.{shown_over}
use Rattle.txn_access.proofs.Nearest.{found_behind}
use Rattle.txn_access.proofs.PlanLemmas.{Within, first_within, later_within}
use Rattle.txn_access.proofs.Seen.{read_at, read_by}

-- REMOVALS
fits_back : (tree : Tree) (ps qs : List Path) → FitsGone tree (ps ++ qs) → FitsGone tree qs
fits_back tree [] qs h = h
fits_back tree (p ∷ ps) qs h = fits_back tree ps qs h.1

-- the last one of those that are left
pub fits_last : (tree : Tree) (all left rest : List Path) (p : Path) (done : List Path) → FitsGone tree all → all ≡ left ++ done → left ≡ rest ++ p ∷ [] → FitsGoneAt tree p done
fits_last tree all left rest p done h parts last =
    (fits_back tree rest (p ∷ done) (subst (FitsGone tree) (parts ∙ ap (λ l. l ++ done) last ∙ append_assoc rest (p ∷ []) done) h)).0

-- a path none of whose children is there
or_present : (b : Bool) (node : Node) (o : Option Node) → is_some o ≡ true → is_some (cond b (Some node) o) ≡ true
or_present true node o h = refl
or_present false node o h = h

none_there : (es : Tree) (p : Path) → ((n : Name) → is_present es (child p n) ≡ true → false ≡ true) → children es p ≡ []
none_there [] p none = refl
none_there (e ∷ es) p none =
    ap (λ o. cons_option o (children es p)) (by (child_name p e.0) refl)
    ∙ none_there es p (λ n h. none n (or_present (same_path (child p n) e.0) e.1 (node_at es (child p n)) h))
  where
    by : (o : Option Name) → child_name p e.0 ≡ o → o ≡ None
    by None h = refl
    by (Some n) h =
        let here : is_present (e ∷ es) (child p n) ≡ true = ap (λ b. is_some (cond b (Some e.1) (node_at es (child p n)))) (ap (λ q. same_path (child p n) q) (child_name-is p e.0 n h) ∙ same_path-itself (child p n)) in
        not_both (none n here) refl

-- WHAT STANDS AT A PATH after the sets, after the removals too, and after the commit
abbrev pub is_wrote : Option Mark → Bool
is_wrote None = false
is_wrote (Some mark) = is_some (wrote mark)

abbrev pub is_gone : Option Mark → Bool
is_gone None = false
is_gone (Some mark) = is_some (gone mark)

pub removals_are : (ms : Marks) → removals (gone_paths ms) ≡ edits_by gone ms
removals_are [] = refl
removals_are (e ∷ ms) = by e.1 (removals_are ms)
  where
    by : (m : Mark) → removals (gone_paths ms) ≡ edits_by gone ms → removals (edit_paths (cons_option (edit_of e.0 (gone m)) (edits_by gone ms))) ≡ cons_option (edit_of e.0 (gone m)) (edits_by gone ms)
    by Seen more = more
    by (Changed old) more = more
    by (Wrote others node) more = more
    by (Gone others) more = ap (λ (l : List Edit). (e.0, None) ∷ l) more
    by (Kept old) more = more

pub at_gone : (tree : Tree) (ms : Marks) (q : Path) → is_sorted path_cmp ms ≡ true → node_at (edited tree (removals (gone_paths ms))) q ≡ read_by gone (mark_at ms q) (node_at tree q)
at_gone tree ms q s = ap (λ es. node_at (edited tree es) q) (removals_are ms) ∙ read_at gone tree ms q s

in_turn : (m : Option Mark) (under : Option Node) → read_by gone m (read_by wrote m under) ≡ read_by written m under
in_turn None under = refl
in_turn (Some Seen) under = refl
in_turn (Some (Changed old)) under = refl
in_turn (Some (Wrote others node)) under = refl
in_turn (Some (Gone others)) under = refl
in_turn (Some (Kept old)) under = refl

abbrev pub with_sets : Tree → Marks → Tree
with_sets tree ms = edited tree (edits_by wrote ms)

pub parted : (tree : Tree) (ms : Marks) → is_sorted path_cmp tree ≡ true → is_sorted path_cmp ms ≡ true → edited (with_sets tree ms) (removals (gone_paths ms)) ≡ committed tree ms
parted tree ms t s =
    same_maps path_cmp path_total path_exact (edited (with_sets tree ms) (removals (gone_paths ms))) (committed tree ms)
    (sorted_edits (with_sets tree ms) (removals (gone_paths ms)) (sorted_edits tree (edits_by wrote ms) t))
    (sorted_edits tree (edits_by written ms) t)
    (λ q. at_gone (with_sets tree ms) ms q s ∙ ap (read_by gone (mark_at ms q)) (read_at wrote tree ms q s)
    ∙ in_turn (mark_at ms q) (node_at tree q) ∙ sym (read_at written tree ms q s))

-- ORDER of a path and its children
itself_not : {A : Type 0} → (q : Path) (n : Name) → same_path (child q n) q ≡ true → A
itself_not q n h = not_both h (ap is_eq (path_total.antisymm (child q n) q ∙ ap ordering_reverse (less_below q n [])))

not_behind : {A : Type 0} → (q : Path) (n : Name) → is_lt (path_cmp (child q n) q) ≡ true → A
not_behind q n h = not_both h (ap is_lt (path_total.antisymm (child q n) q ∙ ap ordering_reverse (less_below q n [])))

split_last : (n : Name) (ns : List Name) → (l : Name) × (n ∷ ns ≡ child (take (length ns) (n ∷ ns)) l)
split_last n [] = (n, refl)
split_last n (m ∷ ns) = let rest = split_last m ns in (rest.0, ap (λ (p : Path). n ∷ p) rest.1)

parent_there : (tree : Tree) (p : Path) → ((q : Path) (n : Name) → p ≡ child q n → is_present tree q ≡ true) → has_parent tree p ≡ true
parent_there tree [] up = refl
parent_there tree (n ∷ ns) up =
    let last = split_last n ns in
    ap (λ b. b && true) (up (take (length ns) (n ∷ ns)) last.0 last.1)

module _ (tree : Tree) (ms : Marks) (s : is_sorted path_cmp ms ≡ true) (is : IsTree (committed tree ms)) where
  after_mark : (q : Path) (m : Mark) (new : Option Node) → mark_at ms q ≡ Some m → written m ≡ Some new → node_at (committed tree ms) q ≡ new
  after_mark q m new h w = read_at written tree ms q s ∙ ap (λ o. read_by written o (node_at tree q)) h ∙ ap (λ n. shown_over n (node_at tree q)) w

  -- SETS
  written_as : (m : Mark) (node : Node) → wrote m ≡ Some (Some node) → written m ≡ Some (Some node)
  written_as Seen node h = not_Some h
  written_as (Changed old) node h = not_Some h
  written_as (Wrote others new) node h = h
  written_as (Gone others) node h = not_Some h
  written_as (Kept old) node h = not_Some h

  no_removal : {A : Type 0} → (m : Mark) → wrote m ≡ Some None → A
  no_removal Seen h = not_Some h
  no_removal (Changed old) h = not_Some h
  no_removal (Wrote others new) h = not_Some (sym (from_Some h))
  no_removal (Gone others) h = not_Some h
  no_removal (Kept old) h = not_Some h

  -- each path of the tree after the commit is there, or is still to be set
  abbrev Grows : Tree → Marks → Type 0
  Grows now part = (q : Path) → is_present (committed tree ms) q ≡ true → is_present now q ≡ false → is_wrote (mark_at part q) ≡ true

  module _ (e : Path × Mark) (part : Marks) (now : Tree) (below : below_all path_cmp e.0 part ≡ true) (grows : Grows now (e ∷ part)) where
    passed : wrote e.1 ≡ None → Grows now part
    passed h q there absent = by (same_path q e.0) (grows q there absent)
      where
        by : (b : Bool) → is_wrote (cond b (Some e.1) (mark_at part q)) ≡ true → is_wrote (mark_at part q) ≡ true
        by true k = not_both k (ap is_some h)
        by false k = k

    was_set : (node : Node) → Grows (edited_at now e.0 (Some node)) part
    was_set node q there absent = by (same_path q e.0) refl (sym (ap is_some (node_at-edited_at now e.0 (Some node) q)) ∙ absent)
      where
        by : (b : Bool) → same_path q e.0 ≡ b → is_some (cond b (Some node) (node_at now q)) ≡ false → is_wrote (mark_at part q) ≡ true
        by true t k = not_both refl k
        by false t k = sym (ap (λ b. is_wrote (cond b (Some e.1) (mark_at part q))) t) ∙ grows q there k

    -- its parent is there
    up : is_present (committed tree ms) e.0 ≡ true → (q : Path) (n : Name) → e.0 ≡ child q n → is_present now q ≡ true
    up there q n at = by (is_present now q) refl
      where
        parent : is_present (committed tree ms) q ≡ true
        parent = is.parents q n (subst (λ r. is_present (committed tree ms) r ≡ true) at there)

        some_mark : (o : Option Mark) → is_wrote o ≡ true → is_some o ≡ true
        some_mark None h = h
        some_mark (Some m) h = refl

        later : (b : Bool) → same_path q e.0 ≡ b → is_wrote (cond b (Some e.1) (mark_at part q)) ≡ true → ◌≡◌ {A = Bool} false true
        later true t h = itself_not q n (ap (λ r. same_path r q) (sym (same_path-is q e.0 t ∙ at)) ∙ same_path-itself q)
        later false t h = not_behind q n (subst (λ r. is_lt (path_cmp r q) ≡ true) at (found_behind e.0 part q below (some_mark (mark_at part q) h)))

        by : (b : Bool) → is_present now q ≡ b → b ≡ true
        by true h = refl
        by false h = later (same_path q e.0) refl (grows q parent h)

  sets_from : (part : Marks) (now : Tree) → is_sorted path_cmp part ≡ true → Within part ms → Grows now part → FitsSets now (edits_by wrote part)
  sets_from [] now t within grows = tt
  sets_from (e ∷ part) now t within grows =
      let parts = and_parts (below_all path_cmp e.0 part) (is_sorted path_cmp part) t in
      by (wrote e.1) refl parts.0 (λ next g. sets_from part next parts.1 (later_within e part ms parts.0 within) g)
    where
      by : (new : Option (Option Node)) → wrote e.1 ≡ new → below_all path_cmp e.0 part ≡ true → ((next : Tree) → Grows next part → FitsSets next (edits_by wrote part)) → FitsSets now (cons_option (edit_of e.0 new) (edits_by wrote part))
      by None h below more = more now (passed e part now below grows h)
      by (Some None) h below more = no_removal e.1 h
      by (Some (Some node)) h below more =
          let node_is = after_mark e.0 e.1 (Some node) (first_within e part ms within) (written_as e.1 node h) in
          ((parent_there now e.0 (up e part now below grows (ap is_some node_is)), has_entries (committed tree ms) is e.0 node node_is), more (edited_at now e.0 (Some node)) (was_set e part now below grows node))

  grows_first : Grows tree ms
  grows_first q there absent = by (mark_at ms q) (sym (ap is_some (read_at written tree ms q s)) ∙ there)
    where
      by : (m : Option Mark) → is_some (read_by written m (node_at tree q)) ≡ true → is_wrote m ≡ true
      by None h = not_both h absent
      by (Some Seen) h = not_both h absent
      by (Some (Changed old)) h = not_both h absent
      by (Some (Wrote others node)) h = refl
      by (Some (Gone others)) h = not_both h refl
      by (Some (Kept old)) h = not_both h absent

  pub sets_fit : FitsSets tree (edits_by wrote ms)
  sets_fit = sets_from ms tree s (λ q m h. h) grows_first

  -- REMOVALS
  no_set : {A : Type 0} → (m : Mark) (node : Node) → gone m ≡ Some (Some node) → A
  no_set Seen node h = not_Some h
  no_set (Changed old) node h = not_Some h
  no_set (Wrote others new) node h = not_Some h
  no_set (Gone others) node h = not_Some (from_Some h)
  no_set (Kept old) node h = not_Some h

  removed_as : (m : Mark) → gone m ≡ Some None → written m ≡ Some None
  removed_as Seen h = not_Some h
  removed_as (Changed old) h = not_Some h
  removed_as (Wrote others new) h = not_Some h
  removed_as (Gone others) h = h
  removed_as (Kept old) h = not_Some h

  -- each path that is set and not there after the commit is among those to be removed, or before them
  abbrev Shrinks : Marks → Type 0
  Shrinks part = (q : Path) → is_present (with_sets tree ms) q ≡ true → is_present (committed tree ms) q ≡ false → (is_gone (mark_at part q) ≡ true) ⊎ (below_all path_cmp q part ≡ true)

  module _ (e : Path × Mark) (part : Marks) (t : is_sorted path_cmp part ≡ true) (below : below_all path_cmp e.0 part ≡ true) (shrinks : Shrinks (e ∷ part)) where
    next_shrinks : Shrinks part
    next_shrinks q there absent = by (same_path q e.0) refl (shrinks q there absent)
      where
        by : (b : Bool) → same_path q e.0 ≡ b → (is_gone (cond b (Some e.1) (mark_at part q)) ≡ true) ⊎ (below_all path_cmp q (e ∷ part) ≡ true) → (is_gone (mark_at part q) ≡ true) ⊎ (below_all path_cmp q part ≡ true)
        by true k (inl g) = inr (subst (λ r. below_all path_cmp r part ≡ true) (sym (same_path-is q e.0 k)) below)
        by false k (inl g) = inl g
        by true k (inr g) = inr (and_parts (is_lt (path_cmp q e.0)) (below_all path_cmp q part) g).1
        by false k (inr g) = inr (and_parts (is_lt (path_cmp q e.0)) (below_all path_cmp q part) g).1

    childless_at : node_at (committed tree ms) e.0 ≡ None → children (edited (with_sets tree ms) (removals (gone_paths part))) e.0 ≡ []
    childless_at none = none_there (edited (with_sets tree ms) (removals (gone_paths part))) e.0 (λ n h. at n (mark_at part (child e.0 n)) refl (sym (ap is_some (at_gone (with_sets tree ms) part (child e.0 n) t)) ∙ h))
      where
        among : (n : Name) → is_gone (mark_at part (child e.0 n)) ≡ false → (b : Bool) → same_path (child e.0 n) e.0 ≡ b → (is_gone (cond b (Some e.1) (mark_at part (child e.0 n))) ≡ true) ⊎ (below_all path_cmp (child e.0 n) (e ∷ part) ≡ true) → ◌≡◌ {A = Bool} false true
        among n stay true k x = itself_not e.0 n k
        among n stay false k (inl g) = not_both g stay
        among n stay false k (inr g) = not_behind e.0 n (and_parts (is_lt (path_cmp (child e.0 n) e.0)) (below_all path_cmp (child e.0 n) part) g).0

        stays : (n : Name) → is_gone (mark_at part (child e.0 n)) ≡ false → is_present (with_sets tree ms) (child e.0 n) ≡ true → (b : Bool) → is_present (committed tree ms) (child e.0 n) ≡ b → ◌≡◌ {A = Bool} false true
        stays n stay there true k = not_both (is.parents e.0 n k) (ap is_some none)
        stays n stay there false k = among n stay (same_path (child e.0 n) e.0) refl (shrinks (child e.0 n) there k)

        kept : (n : Name) → mark_at part (child e.0 n) ≡ mark_at part (child e.0 n) → is_gone (mark_at part (child e.0 n)) ≡ false → is_present (with_sets tree ms) (child e.0 n) ≡ true → ◌≡◌ {A = Bool} false true
        kept n same stay there = stays n stay there (is_present (committed tree ms) (child e.0 n)) refl

        at : (n : Name) (m : Option Mark) → mark_at part (child e.0 n) ≡ m → is_some (read_by gone m (node_at (with_sets tree ms) (child e.0 n))) ≡ true → ◌≡◌ {A = Bool} false true
        at n None k h = kept n refl (ap is_gone k) h
        at n (Some Seen) k h = kept n refl (ap is_gone k) h
        at n (Some (Changed old)) k h = kept n refl (ap is_gone k) h
        at n (Some (Wrote others node)) k h = kept n refl (ap is_gone k) h
        at n (Some (Gone others)) k h = h
        at n (Some (Kept old)) k h = kept n refl (ap is_gone k) h

  not_root : (p : Path) → node_at (committed tree ms) p ≡ None → is_root p ≡ false
  not_root [] none = not_both is.root (ap is_some none)
  not_root (n ∷ p) none = refl

  gone_from : (part : Marks) → is_sorted path_cmp part ≡ true → Within part ms → Shrinks part → FitsGone (with_sets tree ms) (gone_paths part)
  gone_from [] t within shrinks = tt
  gone_from (e ∷ part) t within shrinks =
      let parts = and_parts (below_all path_cmp e.0 part) (is_sorted path_cmp part) t in
      by (gone e.1) refl parts.0 parts.1 (gone_from part parts.1 (later_within e part ms parts.0 within) (next_shrinks e part parts.1 parts.0 shrinks))
    where
      by : (new : Option (Option Node)) → gone e.1 ≡ new → below_all path_cmp e.0 part ≡ true → is_sorted path_cmp part ≡ true → FitsGone (with_sets tree ms) (gone_paths part) → FitsGone (with_sets tree ms) (edit_paths (cons_option (edit_of e.0 new) (edits_by gone part)))
      by None h below later more = more
      by (Some (Some node)) h below later more = no_set e.1 node h
      by (Some None) h below later more =
          let none = after_mark e.0 e.1 None (first_within e part ms within) (removed_as e.1 h) in
          (record { below = not_root e.0 none; childless = childless_at e part later below shrinks none }, more)

  shrinks_first : Shrinks ms
  shrinks_first q there absent = by (mark_at ms q) (sym (ap is_some (read_at wrote tree ms q s)) ∙ there) (sym (ap is_some (read_at written tree ms q s)) ∙ absent)
    where
      by : (m : Option Mark) → is_some (read_by wrote m (node_at tree q)) ≡ true → is_some (read_by written m (node_at tree q)) ≡ false → (is_gone m ≡ true) ⊎ (below_all path_cmp q ms ≡ true)
      by None h k = not_both h k
      by (Some Seen) h k = not_both h k
      by (Some (Changed old)) h k = not_both h k
      by (Some (Wrote others node)) h k = not_both h k
      by (Some (Gone others)) h k = inl refl
      by (Some (Kept old)) h k = not_both h k

  pub gone_fit : FitsGone (with_sets tree ms) (gone_paths ms)
  gone_fit = gone_from ms s (λ q m h. h) shrinks_first
