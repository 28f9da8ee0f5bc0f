-- Marks that are set one after the other, and the parents that they ask for.
use Rattle.std.proofs.Common.{◌≡◌, true, List, [], ◌∷◌, ◌++◌, Some, sym, ap, subst, ◌∙◌, append_assoc}
use Rattle.std.specs.FinMap.{put, is_sorted}
use Rattle.path_map.specs.Map.{first_entry, behind_first}
use Rattle.xs_model.specs.Paths.{Path, path_cmp}
use Rattle.xs_model.specs.Trees.{Tree}
use Rattle.xs_model.proofs.Maps.{not_Some, from_Some}
use Rattle.mark_model.specs.Marks.{Marks}
use Rattle.mark_model.proofs.StoreMaps.{sorted_entries}
use Rattle.kept_model.specs.Said.{Said}
use Rattle.kept_model.specs.Normal.{mark_by, marks_by}
use Rattle.txn_access.proofs.EntryLemmas.{put_last}

abbrev pub Facts : Type 0
Facts = List (Path × Said)

-- what is taken from the front of a list that is not empty
pub taken : {X : Type 0} (es rest : List (Path × X)) (e : Path × X) → Some e ≡ first_entry es → rest ≡ behind_first es → es ≡ e ∷ rest
taken [] rest e h k = not_Some (sym h)
taken (f ∷ es) rest e h k = λ i. from_Some (sym h) i ∷ sym k i

module _ (tree : Tree) (all : Facts) (s : is_sorted path_cmp all ≡ true) where
  rises : is_sorted path_cmp (marks_by tree all) ≡ true
  rises = sorted_entries path_cmp (λ e. mark_by tree e.0 e.1) all ∙ s

  pub one_marked : (done now : Marks) (left rest : Facts) (e : Path × Said) → Some e ≡ first_entry left → rest ≡ behind_first left → now ≡ put path_cmp e.0 (mark_by tree e.0 e.1) done
      → done ++ marks_by tree left ≡ marks_by tree all → now ++ marks_by tree rest ≡ marks_by tree all
  one_marked done now left rest e first behind made h =
      let whole : done ++ (e.0, mark_by tree e.0 e.1) ∷ marks_by tree rest ≡ marks_by tree all =
      ap (λ (l : Facts). done ++ marks_by tree l) (sym (taken left rest e first behind)) ∙ h in
      ap (λ (l : Marks). l ++ marks_by tree rest)
      (made ∙ put_last done (e.0, mark_by tree e.0 e.1) (marks_by tree rest) (subst (λ (l : Marks). is_sorted path_cmp l ≡ true) (sym whole) rises))
      ∙ append_assoc done ((e.0, mark_by tree e.0 e.1) ∷ []) (marks_by tree rest) ∙ whole
