-- Marks told one by one and made again, and marks that stand in chunks.
use Rattle.std.proofs.Common.{◌≡◌, ℕ, zero, suc, ◌+◌, ◌-◌, ◌<◌, ◌≤◌, arith, true, List, [], ◌∷◌, ◌++◌, length, drop, get_or, Some, refl, sym, ap, subst, ◌∙◌, append_assoc, zero-add}
use Rattle.std.specs.Prelude.{slice_get}
use Rattle.std.specs.FinMap.{put, is_sorted}
use Rattle.std.proofs.lemmas.List.{append-nil, drop_more}
use Rattle.std.proofs.lemmas.Option.{slice_get-get_or}
use Rattle.path_map.specs.Chunks.{joined}
use Rattle.path_map.proofs.Rising.{put-append, sorted-front, before_entry}
use Rattle.xs_model.specs.Paths.{Path, path_cmp}
use Rattle.xs_model.proofs.PathLemmas.{path_total}
use Rattle.mark_model.specs.Marks.{Mark, Seen, Changed, Wrote, Gone, Kept, Marks, is_changed}
use Rattle.txn_access.specs.Entries.{kind_of, node_of, mark_by, FitsKind}

-- what is told of a mark makes it again
pub told_whole : (m : Mark) → mark_by (kind_of m) (is_changed (Some m)) (node_of m) ≡ m
told_whole Seen = refl
told_whole (Changed old) = refl
told_whole (Wrote others node) = refl
told_whole (Gone others) = refl
told_whole (Kept old) = refl

pub told_fits : (m : Mark) → FitsKind (kind_of m) (is_changed (Some m)) (node_of m)
told_fits Seen = tt
told_fits (Changed old) = tt
told_fits (Wrote others node) = refl
told_fits (Gone others) = tt
told_fits (Kept old) = refl

-- A PLACE in two lists
get_before : (xs ys : Marks) (n : ℕ) → n < length xs → slice_get (xs ++ ys) n ≡ slice_get xs n
get_before [] ys n h = absurd (omega arith)
get_before (x ∷ xs) ys zero h = refl
get_before (x ∷ xs) ys (suc n) h = get_before xs ys n (omega arith)

get_behind : (xs ys : Marks) (n k : ℕ) → n ≡ length xs + k → slice_get (xs ++ ys) n ≡ slice_get ys k
get_behind [] ys n k h = ap (slice_get ys) (h ∙ zero-add k)
get_behind (x ∷ xs) ys zero k h = absurd (omega arith)
get_behind (x ∷ xs) ys (suc n) k h = get_behind xs ys n k (omega arith)

-- A CHUNK and those behind it
module _ (chunks : List Marks) (i : ℕ) (chunk : Marks) (within : i < length chunks) (is : chunk ≡ get_or chunks i chunk) where
  pub joined_chunk : joined (drop i chunks) ≡ chunk ++ joined (drop (i + 1) chunks)
  joined_chunk = ap joined (drop_more chunks i chunk within ∙ ap (λ (m : Marks). m ∷ drop (i + 1) chunks) (sym is))

  -- a place in it, and one behind it
  pub get_in : (n : ℕ) (e : Path × Mark) → n < length chunk → e ≡ get_or chunk n e → Some e ≡ slice_get (joined (drop i chunks)) n
  get_in n e h at =
      sym (ap (λ (l : Marks). slice_get l n) joined_chunk ∙ get_before chunk (joined (drop (i + 1) chunks)) n h ∙ slice_get-get_or chunk n e h ∙ ap (λ x. Some x) (sym at))

  pub get_past : (n : ℕ) → length chunk ≤ n → slice_get (joined (drop (i + 1) chunks)) (n - length chunk) ≡ slice_get (joined (drop i chunks)) n
  get_past n h =
      sym (ap (λ (l : Marks). slice_get l n) joined_chunk ∙ get_behind chunk (joined (drop (i + 1) chunks)) n (n - length chunk) (omega arith))

  -- where all so far and those from it on rise, those so far and its own do
  pub rises : (done all : Marks) → done ++ joined (drop i chunks) ≡ all → is_sorted path_cmp all ≡ true → is_sorted path_cmp (done ++ chunk) ≡ true
  rises done all h s =
      sorted-front path_cmp (done ++ chunk) (joined (drop (i + 1) chunks))
      (subst (λ (l : Marks). is_sorted path_cmp l ≡ true) (sym h ∙ ap (λ (l : Marks). done ++ l) joined_chunk ∙ sym (append_assoc done chunk (joined (drop (i + 1) chunks)))) s)

  pub done_more : (now done all : Marks) → now ≡ done ++ chunk → done ++ joined (drop i chunks) ≡ all → now ++ joined (drop (i + 1) chunks) ≡ all
  done_more now done all made h =
      ap (λ (l : Marks). l ++ joined (drop (i + 1) chunks)) made ∙ append_assoc done chunk (joined (drop (i + 1) chunks)) ∙ ap (λ (l : Marks). done ++ l) (sym joined_chunk) ∙ h

-- AN ENTRY that is put behind all others stands at the end
pub put_last : (done : Marks) (e : Path × Mark) (rest : Marks) → is_sorted path_cmp (done ++ e ∷ rest) ≡ true → put path_cmp e.0 e.1 done ≡ done ++ e ∷ []
put_last done e rest s =
    ap (put path_cmp e.0 e.1) (sym (append-nil done)) ∙ put-append path_cmp e.0 e.1 done [] (before_entry path_cmp path_total done e rest s)

-- and one more of a list is done
pub one_more : (now done entries : Marks) (i : ℕ) (e : Path × Mark) (all : Marks) → i < length entries → e ≡ get_or entries i e → now ≡ put path_cmp e.0 e.1 done
    → done ++ drop i entries ≡ all → is_sorted path_cmp all ≡ true → now ++ drop (i + 1) entries ≡ all
one_more now done entries i e all within is made h s =
    let more : drop i entries ≡ e ∷ drop (i + 1) entries = drop_more entries i e within ∙ ap (λ (x : Path × Mark). x ∷ drop (i + 1) entries) (sym is) in
    let whole : done ++ e ∷ drop (i + 1) entries ≡ all = ap (λ (l : Marks). done ++ l) (sym more) ∙ h in
    ap (λ (l : Marks). l ++ drop (i + 1) entries) (made ∙ put_last done e (drop (i + 1) entries) (subst (λ (l : Marks). is_sorted path_cmp l ≡ true) (sym whole) s))
    ∙ append_assoc done (e ∷ []) (drop (i + 1) entries) ∙ whole
