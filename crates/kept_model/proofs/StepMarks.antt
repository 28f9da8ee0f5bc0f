-- Marks within their bounds, at spelled paths, and the numbers of paths.
use Rattle.std.specs.Prelude.{◌≡◌, ℕ, ◌+◌, ◌≤◌, Bool, true, false, cond, nat_lt, List, [], ◌∷◌, Option, Some, None, IfSome}
use Rattle.std.specs.List.{AllByRecursion, cons_option}
use Rattle.std.specs.FinMap.{find}
use Rattle.std.proofs.Common.{refl, arith, ltb-true, le_refl}
use Rattle.xs_model.specs.Paths.{Path, path_cmp, has_path}
use Rattle.xs_model.specs.Trees.{Node, Tree, node_at, Edit, edited, edit_paths}
use Rattle.xs_model.specs.Changes.{changed_paths}
use Rattle.xs_model.specs.Generations.{Generations, or_zero, generation_of, greatest, generation_max, next_generation, stamp, number_after, stamped}
use Rattle.xs_model.proofs.Maps.{all_found}
use Rattle.machine_model.proofs.Lists.{all_map_of}
use Rattle.mark_model.specs.Marks.{Mark, Seen, Changed, Wrote, Gone, Kept, Marks, mark_at, is_changed, shown, written, edit_of, edits_by, overlay, remarked, accessed_mark, written_mark, noted_mark, access, write, note, access_all, write_all, note_all}
use Rattle.mark_model.proofs.StoreMaps.{map_map, all_of_any}
use Rattle.kept_model.specs.Sound.{IsSpelled, FoundFits, MarkFits, NodesFit, MarksFit, AreNumbers}
use Rattle.kept_model.proofs.StepNodes.{entries_put, entries_found, EditsFit, edits_fit, node_fits}

-- WHAT MARKS SHOW, AND WHAT THEY WRITE
shown_fits : (mark : Mark) → MarkFits mark → IfSome (shown mark) FoundFits
shown_fits Seen h = tt
shown_fits (Changed old) h = h
shown_fits (Wrote others node) h = h
shown_fits (Gone others) h = tt
shown_fits (Kept old) h = h

written_fits : (mark : Mark) → MarkFits mark → IfSome (written mark) FoundFits
written_fits Seen h = tt
written_fits (Changed old) h = tt
written_fits (Wrote others node) h = h
written_fits (Gone others) h = tt
written_fits (Kept old) h = tt

edits_by_fit : (read : Mark → Option (Option Node)) → ((mark : Mark) → MarkFits mark → IfSome (read mark) FoundFits) → (marks : Marks) → MarksFit marks → EditsFit (edits_by read marks)
edits_by_fit read to [] h = tt
edits_by_fit read to (e ∷ marks) h = by (read e.1) (to e.1 h.0.1) (edits_by_fit read to marks h.1)
  where
    by : (o : Option (Option Node)) → IfSome o FoundFits → EditsFit (edits_by read marks) → EditsFit (cons_option (edit_of e.0 o) (edits_by read marks))
    by None f rest = rest
    by (Some new) f rest = ((h.0.0, f), rest)

pub overlay_fits : (tree : Tree) (marks : Marks) → NodesFit tree → MarksFit marks → NodesFit (overlay tree marks)
overlay_fits tree marks h m = edits_fit tree (edits_by shown marks) h (edits_by_fit shown shown_fits marks m)

pub written_edits_fit : (marks : Marks) → MarksFit marks → EditsFit (edits_by written marks)
written_edits_fit marks m = edits_by_fit written written_fits marks m

-- WHAT MARKS BECOME
accessed_fits : (mark : Option Mark) → IfSome mark MarkFits → MarkFits (accessed_mark mark)
accessed_fits None h = tt
accessed_fits (Some Seen) h = tt
accessed_fits (Some (Changed old)) h = h
accessed_fits (Some (Wrote others node)) h = h
accessed_fits (Some (Gone others)) h = tt
accessed_fits (Some (Kept old)) h = h

written_mark_fits : (new : Option Node) (others : Bool) → FoundFits new → MarkFits (written_mark new others)
written_mark_fits (Some node) others h = h
written_mark_fits None others h = tt

noted_fits : (old : Option Node) → FoundFits old → (mark : Option Mark) → IfSome mark MarkFits → MarkFits (noted_mark old mark)
noted_fits old f None h = f
noted_fits old f (Some Seen) h = f
noted_fits old f (Some (Changed first)) h = h
noted_fits old f (Some (Wrote others node)) h = h
noted_fits old f (Some (Gone others)) h = tt
noted_fits old f (Some (Kept first)) h = h

remarked_fits : (become : Option Mark → Mark) → ((mark : Option Mark) → IfSome mark MarkFits → MarkFits (become mark)) → (p : Path) (marks : Marks) → IsSpelled p → MarksFit marks → MarksFit (remarked become p marks)
remarked_fits become to p marks s h =
    entries_put path_cmp IsSpelled MarkFits p (become (mark_at marks p)) marks s (to (mark_at marks p) (entries_found path_cmp IsSpelled MarkFits p marks h)) h

pub access_all_fits : (ps : List Path) (marks : Marks) → AllByRecursion IsSpelled ps → MarksFit marks → MarksFit (access_all ps marks)
access_all_fits [] marks s h = h
access_all_fits (p ∷ ps) marks s h = access_all_fits ps (access p marks) s.1 (remarked_fits accessed_mark accessed_fits p marks s.0 h)

pub write_all_fits : (es : List Edit) (marks : Marks) → EditsFit es → MarksFit marks → MarksFit (write_all es marks)
write_all_fits [] marks f h = h
write_all_fits (e ∷ es) marks f h =
    write_all_fits es (write e.0 e.1 marks) f.1
    (remarked_fits (λ mark. written_mark e.1 (is_changed mark)) (λ mark m. written_mark_fits e.1 (is_changed mark) f.0.1) e.0 marks f.0.0 h)

pub note_all_fits : (tree : Tree) (ps : List Path) (marks : Marks) → NodesFit tree → AllByRecursion IsSpelled ps → MarksFit marks → MarksFit (note_all tree ps marks)
note_all_fits tree [] marks n s h = h
note_all_fits tree (p ∷ ps) marks n s h =
    note_all_fits tree ps (note p (node_at tree p) marks) n s.1 (remarked_fits (noted_mark (node_at tree p)) (noted_fits (node_at tree p) (node_fits tree p n)) p marks s.0 h)

-- NUMBERS after a change by these edits
module _ (gens : Generations) (small : AllByRecursion (λ (e : Path × ℕ). e.1 ≤ generation_max) gens) where
  next_small : (n : ℕ) → next_generation n ≤ generation_max
  next_small n = by (nat_lt n generation_max) refl
    where
      by : (b : Bool) → nat_lt n generation_max ≡ b → cond b (n + 1) generation_max ≤ generation_max
      by true t = let l = ltb-true n generation_max t in omega arith
      by false t = le_refl generation_max

  generation_small : (p : Path) → generation_of gens p ≤ generation_max
  generation_small p = by (find path_cmp p gens) refl
    where
      by : (o : Option ℕ) → find path_cmp p gens ≡ o → or_zero o ≤ generation_max
      by None e = omega arith
      by (Some n) e = all_found path_cmp (λ n. n ≤ generation_max) p gens n small e

  number_small : (changed : List Path) (p : Path) → number_after changed gens p ≤ generation_max
  number_small changed p = by (has_path p changed)
    where
      by : (b : Bool) → cond b (stamp gens) (generation_of gens p) ≤ generation_max
      by true = next_small (greatest gens)
      by false = generation_small p

pub stamped_fits : (gens : Generations) (tree : Tree) (es : List Edit) → AreNumbers tree gens → AreNumbers (edited tree es) (stamped gens tree (edit_paths es) (edited tree es))
stamped_fits gens tree [] h = h
stamped_fits gens tree (e ∷ es) h =
    let after : Tree = edited tree (e ∷ es) in
    let changed : List Path = changed_paths tree (edit_paths (e ∷ es)) after in
    let numbered_at : Path × Node → Path × ℕ = λ f. (f.0, number_after changed gens f.0) in
    record {
      paths = map_map numbered_at (λ (f : Path × ℕ). f.0) after;
      small = all_map_of (λ (f : Path × ℕ). f.1 ≤ generation_max) numbered_at after (all_of_any (λ (f : Path × Node). number_after changed gens f.0 ≤ generation_max) (λ f. number_small gens h.small changed f.0) after);
    }
