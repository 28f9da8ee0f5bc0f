-- The nodes of entries with the numbers of their paths.
use Rattle.std.proofs.Common.{◌≡◌, ◌≤◌, ◌/◌, ◌%◌, ◌^◌, true, [], ◌∷◌, ◌++◌, Some, sym, refl, ap, subst, ◌∙◌, append_assoc}
use Rattle.std.specs.List.{AllByRecursion}
use Rattle.std.specs.FinMap.{is_sorted}
use Rattle.xs_model.specs.Paths.{path_cmp}
use Rattle.xs_model.specs.Generations.{Generations, generation_of, generation_max, or_zero}
use Rattle.xs_model.proofs.Maps.{sorted_map}
use Rattle.xs_model.proofs.PathLemmas.{path_total}
use Rattle.stream_model.specs.Spelling.{canonical_record}
use Rattle.kept_model.specs.Sound.{NodesFit}
use Rattle.kept_model.specs.Images.{found_record}
use Rattle.kept_model.proofs.SaveLists.{before, find_here}
use Rattle.node_tree.specs.declared.entry.Entry.{Entry}
use Rattle.node_tree.specs.KeptTree.{nodes_of, gens_of}
use Rattle.path_map.specs.Map.{Entries}
use Rattle.mig_save.specs.Texts.{nodes_text, tree_text, EntriesFit}

pub entries_fit : (es : Entries Entry) → NodesFit (nodes_of es) → AllByRecursion (λ e. e.1 ≤ generation_max) (gens_of es) → EntriesFit es
entries_fit [] nodes numbers = tt
entries_fit (e ∷ es) nodes numbers = (record { node = nodes.0.1; number = numbers.0 }, entries_fit es nodes.1 numbers.1)

-- in order, each path is found with its own number
found_from : (done todo : Generations) → is_sorted path_cmp (done ++ todo) ≡ true → AllByRecursion (λ e. generation_of (done ++ todo) e.0 ≡ e.1) todo
found_from done [] rising = tt
found_from done (e ∷ todo) rising = (
  ap or_zero (find_here path_cmp path_total e.0 e.1 done todo (before path_cmp path_total done e todo rising)),
  subst (λ (gens : Generations). AllByRecursion (λ f. generation_of gens f.0 ≡ f.1) todo) (append_assoc done (e ∷ []) todo)
      (found_from (done ++ e ∷ []) todo (ap (is_sorted path_cmp) (append_assoc done (e ∷ []) todo) ∙ rising)),
)

text_by : (gens : Generations) (es : Entries Entry) → AllByRecursion (λ e. generation_of gens e.0 ≡ e.1) (gens_of es) → nodes_text es ≡ tree_text gens (nodes_of es)
text_by gens [] h = refl
text_by gens (e ∷ es) h =
    λ i. canonical_record (found_record 0 (sym h.0 i % 2 ^ 32) (sym h.0 i / 2 ^ 32) e.0 (Some e.1.node)) ++ text_by gens es h.1 i

pub text_numbered : (es : Entries Entry) → is_sorted path_cmp (nodes_of es) ≡ true → nodes_text es ≡ tree_text (gens_of es) (nodes_of es)
text_numbered es rising =
    text_by (gens_of es) es (found_from [] (gens_of es) (sorted_map path_cmp (λ (e : Entry). e.generation) es ∙ sym (sorted_map path_cmp (λ (e : Entry). e.node) es) ∙ rising))
