-- Notes of paths that change: a node is kept only where that is wanted.
use Rattle.std.specs.Prelude.{◌≡◌, ◌⊎◌, true, false, cond, List, [], ◌∷◌, ◌++◌, Option, Some, None}
use Rattle.std.specs.FinMap.{put}
use Rattle.std.proofs.Common.{inl, inr, refl, sym, ap, subst, ◌∙◌}
use Rattle.xs_model.specs.Paths.{Path, path_cmp, same_path}
use Rattle.xs_model.specs.Trees.{Node, Tree, node_at}
use Rattle.xs_model.proofs.Maps.{not_both, found_put}
use Rattle.xs_model.proofs.PathLemmas.{path_total}
use Rattle.mark_model.specs.Marks.{Mark, Seen, Changed, Wrote, Gone, Kept, Marks, mark_at, noted_mark, note, note_all}
use Rattle.txn_access.specs.Txns.{note_each, wants_old}

append-one : (es : List (Path × Option Node)) (p : Path) (old : Option Node) (marks : Marks) → note_each (es ++ (p, old) ∷ []) marks ≡ note p old (note_each es marks)
append-one [] p old marks = refl
append-one (e ∷ es) p old marks = append-one es p old (note e.0 e.1 marks)

-- a path that was noted wants no node
wants_noted : (old : Option Node) (mark : Option Mark) → wants_old (Some (noted_mark old mark)) ≡ false
wants_noted old None = refl
wants_noted old (Some Seen) = refl
wants_noted old (Some (Changed first)) = refl
wants_noted old (Some (Wrote others node)) = refl
wants_noted old (Some (Gone others)) = refl
wants_noted old (Some (Kept first)) = refl

wants_after : (p q : Path) (old : Option Node) (marks : Marks) → wants_old (mark_at marks q) ≡ false → wants_old (mark_at (note p old marks) q) ≡ false
wants_after p q old marks h =
    ap wants_old (found_put path_cmp path_total q p (noted_mark old (mark_at marks p)) marks)
    ∙ elim (same_path q p) as (λ b. wants_old (cond b (Some (noted_mark old (mark_at marks p))) (mark_at marks q)) ≡ false) [
      | true ↦ wants_noted old (mark_at marks p)
      | false ↦ h
    ]

-- where it wants none, any does
same_note : (one other : Option Node) (mark : Option Mark) → wants_old mark ≡ false → noted_mark one mark ≡ noted_mark other mark
same_note one other None h = not_both refl h
same_note one other (Some Seen) h = not_both refl h
same_note one other (Some (Changed first)) h = refl
same_note one other (Some (Wrote others node)) h = refl
same_note one other (Some (Gone others)) h = refl
same_note one other (Some (Kept first)) h = refl

-- what stood there, or none where that is not wanted
abbrev pub IsOld : Tree → Marks → Path → Option Node → Type 0
IsOld tree marks p old = (old ≡ node_at tree p) ⊎ ((old ≡ None) × (wants_old (mark_at marks p) ≡ false))

-- what is not wanted at first is not wanted later
abbrev pub StaysUnwanted : Marks → List (Path × Option Node) → Type 0
StaysUnwanted marks notes = (q : Path) → wants_old (mark_at marks q) ≡ false → wants_old (mark_at (note_each notes marks) q) ≡ false

noted_so : (tree : Tree) (p : Path) (old : Option Node) (marks now : Marks) → IsOld tree marks p old → (wants_old (mark_at marks p) ≡ false → wants_old (mark_at now p) ≡ false) → note p old now ≡ note p (node_at tree p) now
noted_so tree p old marks now (inl is) still = ap (λ o. note p o now) is
noted_so tree p old marks now (inr none) still =
    ap (λ o. note p o now) none.0 ∙ ap (λ m. put path_cmp p m now) (same_note None (node_at tree p) (mark_at now p) (still none.1))

module _ (tree : Tree) (marks : Marks) (notes : List (Path × Option Node)) (stays : StaysUnwanted marks notes) (p : Path) (old : Option Node) where
  pub one_more : (rest : List Path) → IsOld tree marks p old → note_all tree rest (note_each (notes ++ (p, old) ∷ []) marks) ≡ note_all tree (p ∷ rest) (note_each notes marks)
  one_more rest is =
      ap (note_all tree rest) (append-one notes p old marks ∙ noted_so tree p old marks (note_each notes marks) is (stays p))

  pub stays_more : StaysUnwanted marks (notes ++ (p, old) ∷ [])
  stays_more q h = subst (λ now. wants_old (mark_at now q) ≡ false) (sym (append-one notes p old marks)) (wants_after p q old (note_each notes marks) (stays q h))
