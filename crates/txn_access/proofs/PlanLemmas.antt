-- Lists of paths that are made mark by mark, and part by part.
use Rattle.std.proofs.Common.{◌≡◌, ℕ, ◌+◌, ◌<◌, Bool, true, false, cond, List, [], ◌∷◌, ◌++◌, length, drop, get_or, Option, Some, None, is_some, refl, sym, ap, ◌∙◌, append_assoc}
use Rattle.std.specs.FinMap.{is_sorted}
use Rattle.std.specs.FinMap.Entries.{below_all}
use Rattle.std.specs.List.{cons_option}
use Rattle.std.specs.Ordering.{is_eq}
use Rattle.std.specs.Cmp.{tied_itself}
use Rattle.std.proofs.lemmas.Bool.{and_parts}
use Rattle.std.proofs.lemmas.List.{drop_more}
use Rattle.path_map.specs.Chunks.{joined}
use Rattle.xs_model.specs.Changes.{change_at, changed_paths}
use Rattle.xs_model.specs.Paths.{Path, path_cmp, same_path}
use Rattle.xs_model.specs.Trees.{Tree, Node, Edit, is_present, edit_paths, node_at}
use Rattle.xs_model.proofs.Maps.{not_Some}
use Rattle.xs_model.proofs.PathLemmas.{path_total, same_path-is}
use Rattle.mark_model.specs.Marks.{Mark, Marks, mark_at, edit_of, edits_by, written, written_paths, committed}
use Rattle.txn_access.specs.Plans.{change_by, changes}
use Rattle.txn_access.specs.Sights.{shown_over}
use Rattle.txn_access.proofs.Seen.{unmarked, read_at, read_by}

-- a list that is made of marks, one after the other
module _ (f : Marks → List Path) (append : (ms ns : Marks) → f (ms ++ ns) ≡ f ms ++ f ns) where
  pub from_part : (parts : List Marks) (i : ℕ) (part : Marks) → i < length parts → part ≡ get_or parts i part → f (joined (drop i parts)) ≡ f part ++ f (joined (drop (i + 1) parts))
  from_part parts i part within is =
      ap (λ (l : List Marks). f (joined l)) (drop_more parts i part within ∙ ap (λ (m : Marks). m ∷ drop (i + 1) parts) (sym is)) ∙ append part (joined (drop (i + 1) parts))

-- so far and this one, and what is left
pub more_done : (now before here rest all : List Path) → now ≡ before ++ here → before ++ (here ++ rest) ≡ all → now ++ rest ≡ all
more_done now before here rest all made h = ap (λ l. l ++ rest) made ∙ append_assoc before here rest ∙ h

-- WRITTEN PATHS
edits_append : (read : Mark → Option (Option Node)) (ms ns : Marks) → edits_by read (ms ++ ns) ≡ edits_by read ms ++ edits_by read ns
edits_append read [] ns = refl
edits_append read (e ∷ ms) ns = by (edit_of e.0 (read e.1)) (edits_append read ms ns)
  where
    by : (o : Option Edit) → edits_by read (ms ++ ns) ≡ edits_by read ms ++ edits_by read ns → cons_option o (edits_by read (ms ++ ns)) ≡ cons_option o (edits_by read ms) ++ edits_by read ns
    by None more = more
    by (Some x) more = ap (λ l. x ∷ l) more

paths_append : (es fs : List Edit) → edit_paths (es ++ fs) ≡ edit_paths es ++ edit_paths fs
paths_append [] fs = refl
paths_append (e ∷ es) fs = ap (λ l. e.0 ∷ l) (paths_append es fs)

pub written_append : (ms ns : Marks) → written_paths (ms ++ ns) ≡ written_paths ms ++ written_paths ns
written_append ms ns = ap edit_paths (edits_append written ms ns) ∙ paths_append (edits_by written ms) (edits_by written ns)

-- CHANGED PATHS
pub changes_append : (tree : Tree) (ms ns : Marks) → changes tree (ms ++ ns) ≡ changes tree ms ++ changes tree ns
changes_append tree [] ns = refl
changes_append tree (e ∷ ms) ns = ap (λ l. change_by tree e.0 (written e.1) ++ l) (changes_append tree ms ns) ∙ sym (append_assoc (change_by tree e.0 (written e.1)) (changes tree ms) (changes tree ns))

-- the marks of a list are those of the whole
abbrev pub Within : Marks → Marks → Type 0
Within part ms = (q : Path) (m : Mark) → mark_at part q ≡ Some m → mark_at ms q ≡ Some m

pub first_within : (e : Path × Mark) (part ms : Marks) → Within (e ∷ part) ms → mark_at ms e.0 ≡ Some e.1
first_within e part ms within = within e.0 e.1 (ap (λ o. cond (is_eq o) (Some e.1) (mark_at part e.0)) (tied_itself path_total e.0))

pub later_within : (e : Path × Mark) (part ms : Marks) → below_all path_cmp e.0 part ≡ true → Within (e ∷ part) ms → Within part ms
later_within e part ms below within q m h = within q m (by (same_path q e.0) refl)
  where
    by : (b : Bool) → same_path q e.0 ≡ b → mark_at (e ∷ part) q ≡ Some m
    by true t = not_Some (sym (ap (mark_at part) (same_path-is q e.0 t) ∙ unmarked e.0 part below) ∙ h)
    by false t = ap (λ b. cond b (Some e.1) (mark_at part q)) t ∙ h

module _ (tree after : Tree) (ms : Marks) (leaves : (q : Path) (m : Mark) (new : Option Node) → mark_at ms q ≡ Some m → written m ≡ Some new → is_present after q ≡ is_some new) where
  same : (part : Marks) → is_sorted path_cmp part ≡ true → Within part ms → changes tree part ≡ changed_paths tree (written_paths part) after
  same [] s within = refl
  same (e ∷ part) s within =
      let parts = and_parts (below_all path_cmp e.0 part) (is_sorted path_cmp part) s in
      by (written e.1) refl (same part parts.1 (later_within e part ms parts.0 within))
    where
      by : (new : Option (Option Node)) → written e.1 ≡ new → changes tree part ≡ changed_paths tree (written_paths part) after → change_by tree e.0 new ++ changes tree part ≡ changed_paths tree (edit_paths (cons_option (edit_of e.0 new) (edits_by written part))) after
      by None h more = more
      by (Some new) h more =
          ap (λ b. change_at (is_present tree e.0) b e.0 ++ changes tree part) (sym (leaves e.0 e.1 new (first_within e part ms within) h))
          ∙ ap (λ l. change_at (is_present tree e.0) (is_present after e.0) e.0 ++ l) more

pub changes_are : (tree : Tree) (ms : Marks) → is_sorted path_cmp ms ≡ true → changes tree ms ≡ changed_paths tree (written_paths ms) (committed tree ms)
changes_are tree ms s = same tree (committed tree ms) ms leaves ms s (λ q m h. h)
  where
    leaves : (q : Path) (m : Mark) (new : Option Node) → mark_at ms q ≡ Some m → written m ≡ Some new → is_present (committed tree ms) q ≡ is_some new
    leaves q m new h w = ap is_some (read_at written tree ms q s ∙ ap (λ o. read_by written o (node_at tree q)) h ∙ ap (λ n. shown_over n (node_at tree q)) w)
