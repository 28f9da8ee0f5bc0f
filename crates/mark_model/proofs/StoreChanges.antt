-- A change of the tree depends on the set of its written paths alone.
use Rattle.std.specs.Prelude.{◌≡◌, ℕ, Bool, true, false, cond, ◌||◌, List, [], ◌∷◌, ◌++◌, map, Option, Some, None, filter_map, flat_map}
use Rattle.std.specs.List.{AllByRecursion}
use Rattle.std.specs.FinMap.{find, is_sorted}
use Rattle.std.proofs.Common.{sym, refl, ap, subst, ◌∙◌, ⊎_elim}
use Rattle.xs_model.specs.Paths.{Path, path_cmp, same_path, has_path}
use Rattle.xs_model.specs.Trees.{Node, Tree, node_at, is_present}
use Rattle.xs_model.specs.Changes.{change_at, changed_paths}
use Rattle.xs_model.specs.Generations.{Generations, stamp, generation_of, numbered, stamped}
use Rattle.xs_model.specs.Watches.{as_set, event_at, events}
use Rattle.xs_model.proofs.Maps.{not_both, found_put, sorted_put, same_maps}
use Rattle.xs_model.proofs.PathLemmas.{path_total, path_exact, same_path-is, has_path-left, has_path-right, has_path-cases, has_path-here}
use Rattle.machine_model.specs.Connections.{Connections, caller_of}
use Rattle.machine_model.specs.Machine.{sends_to, owed_events, change_sends}
use Rattle.mark_model.specs.Marks.{Mark, Seen, Changed, Wrote, Gone, Kept, Marks, mark_at, noted_mark, note, note_all}
use Rattle.mark_model.specs.Stores.{KeptStore, Opens, IsKeptTransaction, IsKeptStore, noted, noted_all}
use Rattle.mark_model.proofs.StoreMaps.{with_values}
use Rattle.mark_model.specs.Laws.{HaveSame, IsSameChange}

same_bools : (a b : Bool) → (a ≡ true → b ≡ true) → (b ≡ true → a ≡ true) → a ≡ b
same_bools true b to from = sym (to refl)
same_bools false true to from = from refl
same_bools false false to from = refl

-- THE CHANGED PATHS
module _ (before after : Tree) where
  abbrev changed_at : Path → List Path
  changed_at p = change_at (is_present before p) (is_present after p) p

  in_changed : (p r : Path) (qs : List Path) → has_path p qs ≡ true → has_path r (changed_at p) ≡ true → has_path r (changed_paths before qs after) ≡ true
  in_changed p r [] h g = not_both h refl
  in_changed p r (q ∷ qs) h g =
      elim (same_path p q) as (λ b. same_path p q ≡ b → (b || has_path p qs) ≡ true → has_path r (changed_at q ++ changed_paths before qs after) ≡ true) [
        | true ↦ λ e _. has_path-left r (changed_at q) (changed_paths before qs after) (subst (λ s. has_path r (changed_at s) ≡ true) (same_path-is p q e) g)
        | false ↦ λ e k. has_path-right r (changed_at q) (changed_paths before qs after) (in_changed p r qs k g)
      ] refl h

  more_changed : (r : Path) (ps qs : List Path) → ((p : Path) → has_path p ps ≡ true → has_path p qs ≡ true) → has_path r (changed_paths before ps after) ≡ true → has_path r (changed_paths before qs after) ≡ true
  more_changed r [] qs to h = not_both h refl
  more_changed r (p ∷ ps) qs to h =
      ⊎_elim (λ g. in_changed p r qs (to p (has_path-here p ps)) g) (λ g. more_changed r ps qs (λ q k. to q (has_path-right q (p ∷ []) ps k)) g)
      (has_path-cases r (changed_at p) (changed_paths before ps after) h)

  pub same_changed : (ps qs : List Path) → HaveSame ps qs → HaveSame (changed_paths before ps after) (changed_paths before qs after)
  same_changed ps qs same r =
      same_bools (has_path r (changed_paths before ps after)) (has_path r (changed_paths before qs after))
      (more_changed r ps qs (λ p h. sym (same p) ∙ h)) (more_changed r qs ps (λ p h. same p ∙ h))

-- MARKS
noted_twice : (old : Option Node) (mark : Option Mark) → noted_mark old (Some (noted_mark old mark)) ≡ noted_mark old mark
noted_twice old None = refl
noted_twice old (Some Seen) = refl
noted_twice old (Some (Changed first)) = refl
noted_twice old (Some (Wrote others node)) = refl
noted_twice old (Some (Gone others)) = refl
noted_twice old (Some (Kept first)) = refl

module _ (tree : Tree) where
  found_note : (p q : Path) (marks : Marks) → mark_at (note p (node_at tree p) marks) q ≡ cond (same_path q p) (Some (noted_mark (node_at tree q) (mark_at marks q))) (mark_at marks q)
  found_note p q marks =
      found_put path_cmp path_total q p (noted_mark (node_at tree p) (mark_at marks p)) marks
      ∙ elim (same_path q p) as (λ b. same_path q p ≡ b → cond b (Some (noted_mark (node_at tree p) (mark_at marks p))) (mark_at marks q) ≡ cond b (Some (noted_mark (node_at tree q) (mark_at marks q))) (mark_at marks q)) [
        | true ↦ λ e. ap (λ r. Some (noted_mark (node_at tree r) (mark_at marks r))) (sym (same_path-is q p e))
        | false ↦ λ e. refl
      ] refl

  found_all : (ps : List Path) (q : Path) (marks : Marks) → mark_at (note_all tree ps marks) q ≡ cond (has_path q ps) (Some (noted_mark (node_at tree q) (mark_at marks q))) (mark_at marks q)
  found_all [] q marks = refl
  found_all (p ∷ ps) q marks =
      let old : Option Node = node_at tree q in
      let mark : Option Mark = mark_at marks q in
      found_all ps q (note p (node_at tree p) marks)
      ∙ ap (λ m. cond (has_path q ps) (Some (noted_mark old m)) m) (found_note p q marks)
      ∙ by (same_path q p) (has_path q ps) old mark
    where
      by : (a b : Bool) (old : Option Node) (mark : Option Mark)
          → cond b (Some (noted_mark old (cond a (Some (noted_mark old mark)) mark))) (cond a (Some (noted_mark old mark)) mark) ≡ cond (a || b) (Some (noted_mark old mark)) mark
      by true true old mark = ap Some (noted_twice old mark)
      by true false old mark = refl
      by false true old mark = refl
      by false false old mark = refl

  sorted_all : (ps : List Path) (marks : Marks) → is_sorted path_cmp marks ≡ true → is_sorted path_cmp (note_all tree ps marks) ≡ true
  sorted_all [] marks h = h
  sorted_all (p ∷ ps) marks h = sorted_all ps (note p (node_at tree p) marks) (sorted_put path_cmp path_total p (noted_mark (node_at tree p) (mark_at marks p)) marks h)

  same_notes : (ps qs : List Path) (marks : Marks) → HaveSame ps qs → is_sorted path_cmp marks ≡ true → note_all tree ps marks ≡ note_all tree qs marks
  same_notes ps qs marks same h =
      same_maps path_cmp path_total path_exact (note_all tree ps marks) (note_all tree qs marks) (sorted_all ps marks h) (sorted_all qs marks h)
      (λ q. found_all ps q marks ∙ ap (λ b. cond b (Some (noted_mark (node_at tree q) (mark_at marks q))) (mark_at marks q)) (same q) ∙ sym (found_all qs q marks))

  same_noted : (ps qs : List Path) (ts : Opens) → HaveSame ps qs → AllByRecursion (λ f. IsKeptTransaction tree f.1) ts → noted tree ps ts ≡ noted tree qs ts
  same_noted ps qs [] same h = refl
  same_noted ps qs (t ∷ ts) same h = λ i. (t.0, record { marks = same_notes ps qs t.1.marks same h.0.marks.rising i; count = t.1.count }) ∷ same_noted ps qs ts same h.1 i

  same_each : (ps qs : List Path) (opens : List (ℕ × Opens)) → HaveSame ps qs → AllByRecursion (λ e. AllByRecursion (λ f. IsKeptTransaction tree f.1) e.1) opens
      → with_values (noted tree ps) opens ≡ with_values (noted tree qs) opens
  same_each ps qs [] same h = refl
  same_each ps qs (e ∷ opens) same h = λ i. (e.0, same_noted ps qs e.1 same h.0 i) ∷ same_each ps qs opens same h.1 i

  same_noted_all : (ps qs : List Path) (opens : List (ℕ × Opens)) → HaveSame ps qs → AllByRecursion (λ e. AllByRecursion (λ f. IsKeptTransaction tree f.1) e.1) opens
      → noted_all tree ps opens ≡ noted_all tree qs opens
  same_noted_all [] [] opens same h = refl
  same_noted_all [] (q ∷ qs) opens same h = not_both (has_path-here q qs) (sym (same q))
  same_noted_all (p ∷ ps) [] opens same h = not_both (has_path-here p ps) (same p)
  same_noted_all (p ∷ ps) (q ∷ qs) opens same h = same_each (p ∷ ps) (q ∷ qs) opens same h

-- GENERATIONS
same_numbers : (gens : Generations) (tree : Tree) (ps qs : List Path) → HaveSame ps qs → numbered ps gens tree ≡ numbered qs gens tree
same_numbers gens tree ps qs same = λ i. map (λ e. (e.0, cond (same e.0 i) (stamp gens) (generation_of gens e.0))) tree

same_stamps : (gens : Generations) (before after : Tree) (ps qs : List Path) → HaveSame ps qs → stamped gens before ps after ≡ stamped gens before qs after
same_stamps gens before after [] [] same = refl
same_stamps gens before after [] (q ∷ qs) same = not_both (has_path-here q qs) (sym (same q))
same_stamps gens before after (p ∷ ps) [] same = not_both (has_path-here p ps) (same p)
same_stamps gens before after (p ∷ ps) (q ∷ qs) same =
    same_numbers gens after (changed_paths before (p ∷ ps) after) (changed_paths before (q ∷ qs) after) (same_changed before after (p ∷ ps) (q ∷ qs) same)

-- EVENTS
found_set : (q : Path) (ps : List Path) → find path_cmp q (as_set ps) ≡ cond (has_path q ps) (Some tt) None
found_set q [] = refl
found_set q (p ∷ ps) = found_put path_cmp path_total q p tt (as_set ps) ∙ ap (cond (same_path q p) (Some tt)) (found_set q ps) ∙ by (same_path q p) (has_path q ps)
  where
    by : (a b : Bool) → ◌≡◌ {A = Option (Unit {0})} (cond a (Some tt) (cond b (Some tt) None)) (cond (a || b) (Some tt) None)
    by true b = refl
    by false b = refl

sorted_set : (ps : List Path) → is_sorted path_cmp (as_set ps) ≡ true
sorted_set [] = refl
sorted_set (p ∷ ps) = sorted_put path_cmp path_total p tt (as_set ps) (sorted_set ps)

same_set : (ps qs : List Path) → HaveSame ps qs → as_set ps ≡ as_set qs
same_set ps qs same =
    same_maps path_cmp path_total path_exact (as_set ps) (as_set qs) (sorted_set ps) (sorted_set qs)
    (λ q. found_set q ps ∙ ap (λ b. cond b (Some tt) None) (same q) ∙ sym (found_set q qs))

same_events : (before after : Tree) (ps qs : List Path) → HaveSame ps qs → events before ps after ≡ events before qs after
same_events before after ps qs same = ap (λ (set : List (Path × Unit {0})). filter_map (event_at before after) (map (λ e. e.0) set)) (same_set ps qs same)

pub same_sends : (before after : Tree) (ps qs : List Path) (conns : Connections) → HaveSame ps qs → change_sends before ps after conns ≡ change_sends before qs after conns
same_sends before after ps qs conns same =
    ap (λ es. flat_map (λ e. sends_to e.0 (owed_events before after (caller_of e.1.spec) e.1.watches es)) conns) (same_events before after ps qs same)

-- THE WHOLE CHANGE
pub same_change : (tree : Tree) (ps qs : List Path) (k : KeptStore) (conns : Connections) → IsKeptStore k → HaveSame ps qs → IsSameChange tree ps qs k conns
same_change tree ps qs k conns is same =
    let before : Tree = k.machine.tree in
    record {
      store = λ i. record {
        machine = record { tree = tree; gens = same_stamps k.machine.gens before tree ps qs same i; conns = k.machine.conns };
        opens = same_noted_all before (changed_paths before ps tree) (changed_paths before qs tree) k.opens (same_changed before tree ps qs same) is.each i;
      };
      sends = same_sends before tree ps qs conns same;
    }
