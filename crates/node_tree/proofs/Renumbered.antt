-- Numbers after edits and a stamp are those of the definitions.
use Rattle.std.specs.Prelude.{◌≡◌, ℕ, Bool, true, false, cond, not, ◌||◌, List, [], ◌∷◌, ◌++◌, map, Option, Some, None, is_some}
use Rattle.std.specs.Option.{option_map}
use Rattle.std.specs.FinMap.{find, put, is_sorted}
use Rattle.std.proofs.Common.{sym, refl, ap, subst, ◌∙◌}
use Rattle.std.proofs.lemmas.Bool.{or_parts}
use Rattle.path_map.specs.Map.{Entries}
use Rattle.path_map.specs.Marks.{paths}
use Rattle.xs_model.specs.Paths.{Path, path_cmp, same_path, has_path, parents}
use Rattle.xs_model.specs.Trees.{Tree, Node, Edit, node_at, is_present, edited_at, edited, edit_paths}
use Rattle.xs_model.specs.Changes.{change_at, changed_paths}
use Rattle.xs_model.specs.Generations.{Generations, generation_of, next_generation, number_after, numbered, stamped, greatest, or_zero}
use Rattle.xs_model.proofs.Maps.{not_both, found_put, found_without, sorted_put, sorted_where, sorted_map, same_maps}
use Rattle.xs_model.proofs.PathLemmas.{path_total, path_exact, same_path-is, has_path-here}
use Rattle.xs_model.proofs.ChangeLemmas.{outside-both}
use Rattle.xs_model.proofs.EditLemmas.{sorted_edits, node_at-edited_at}
use Rattle.node_tree.specs.Numbers.{renumbered_at, renumbered, restamped, HaveSame}
use Rattle.node_tree.proofs.Mapped.{found_keyed, sorted_keyed}
use Rattle.node_tree.proofs.Stamped.{number, found_restamped, sorted_restamped}

-- BY THE KEYS ALONE
there_by_keys : {X : Type 0} (q : Path) (es : Entries X) → is_some (find path_cmp q es) ≡ has_path q (paths es)
there_by_keys q [] = refl
there_by_keys q (e ∷ es) =
    elim (same_path q e.0) as (λ b. is_some (cond b (Some e.1) (find path_cmp q es)) ≡ (b || has_path q (paths es))) [ true ↦ refl | false ↦ there_by_keys q es ]

abbrev alone : List Path → Entries ℕ
alone [] = []
alone (p ∷ ps) = (p, 0) ∷ alone ps

keys_alone : {X : Type 0} (es : Entries X) → map {B = Path × ℕ} (λ e. (e.0, 0)) es ≡ alone (paths es)
keys_alone [] = refl
keys_alone (e ∷ es) = ap (λ (l : Entries ℕ). (e.0, 0) ∷ l) (keys_alone es)

sorted_by_keys : {X Y : Type 0} (es : Entries X) (fs : Entries Y) → paths es ≡ paths fs → is_sorted path_cmp es ≡ is_sorted path_cmp fs
sorted_by_keys es fs same =
    sym (sorted_map path_cmp (λ _. 0) es) ∙ ap (is_sorted path_cmp) (keys_alone es ∙ ap alone same ∙ sym (keys_alone fs)) ∙ sorted_map path_cmp (λ _. 0) fs

-- EDITS
found_at : (gens : Generations) (p : Path) (new : Option Node) (q : Path) → find path_cmp q (renumbered_at gens p new) ≡ cond (same_path q p) (option_map (λ _. generation_of gens p) new) (find path_cmp q gens)
found_at gens p None q = found_without path_cmp path_total q p gens
found_at gens p (Some node) q = found_put path_cmp path_total q p (generation_of gens p) gens

pub sorted_renumbered : (gens : Generations) (es : List Edit) → is_sorted path_cmp gens ≡ true → is_sorted path_cmp (renumbered gens es) ≡ true
sorted_renumbered gens [] s = s
sorted_renumbered gens (e ∷ es) s = sorted_renumbered (renumbered_at gens e.0 e.1) es (at e.1)
  where
    at : (new : Option Node) → is_sorted path_cmp (renumbered_at gens e.0 new) ≡ true
    at None = sorted_where path_cmp (λ q. not (same_path e.0 q)) gens s
    at (Some node) = sorted_put path_cmp path_total e.0 (generation_of gens e.0) gens s

-- the same paths are there
pub there_after : (es : List Edit) (gens : Generations) (tree : Tree) → ((q : Path) → is_some (find path_cmp q gens) ≡ is_present tree q) → (q : Path) → is_some (find path_cmp q (renumbered gens es)) ≡ is_present (edited tree es) q
there_after [] gens tree same q = same q
there_after (e ∷ es) gens tree same q = there_after es (renumbered_at gens e.0 e.1) (edited_at tree e.0 e.1) at q
  where
    by : (r : Path) (b : Bool) (new : Option Node) → is_some (cond b (option_map (λ _. generation_of gens e.0) new) (find path_cmp r gens)) ≡ is_some (cond b new (node_at tree r))
    by r true None = refl
    by r true (Some node) = refl
    by r false new = same r

    at : (r : Path) → is_some (find path_cmp r (renumbered_at gens e.0 e.1)) ≡ is_present (edited_at tree e.0 e.1) r
    at r = ap is_some (found_at gens e.0 e.1 r) ∙ by r (same_path r e.0) e.1 ∙ sym (ap is_some (node_at-edited_at tree e.0 e.1 r))

-- a path that no edit wrote keeps its number
pub number_elsewhere : (es : List Edit) (gens : Generations) (q : Path) → has_path q (edit_paths es) ≡ false → find path_cmp q (renumbered gens es) ≡ find path_cmp q gens
number_elsewhere [] gens q h = refl
number_elsewhere (e ∷ es) gens q h =
    let parts = or_parts (same_path q e.0) (has_path q (edit_paths es)) h in
    number_elsewhere es (renumbered_at gens e.0 e.1) q parts.1
    ∙ found_at gens e.0 e.1 q ∙ ap (λ b. cond b (option_map (λ _. generation_of gens e.0) e.1) (find path_cmp q gens)) parts.0

-- A CHANGE. A written path that is not among the changed ones is absent afterwards
absent_after : (p : Path) (a b : Bool) → has_path p (change_at a b p) ≡ false → b ≡ false
absent_after p false false h = refl
absent_after p false true h = not_both (has_path-here p (parents p)) h
absent_after p true false h = refl
absent_after p true true h = not_both (has_path-here p []) h

unwritten : (before after : Tree) (q : Path) (ps : List Path) → has_path q ps ≡ true → has_path q (changed_paths before ps after) ≡ false → is_present after q ≡ false
unwritten before after q [] w h = not_both w refl
unwritten before after q (p ∷ ps) w h =
    let parts = outside-both q (change_at (is_present before p) (is_present after p) p) (changed_paths before ps after) h in
    by parts.0 (λ v. unwritten before after q ps v parts.1) (same_path q p) refl w
  where
    by : has_path q (change_at (is_present before p) (is_present after p) p) ≡ false → (has_path q ps ≡ true → is_present after q ≡ false) → (b : Bool) → same_path q p ≡ b → (b || has_path q ps) ≡ true → is_present after q ≡ false
    by here more true e v =
        let is = same_path-is q p e in
        absent_after q (is_present before q) (is_present after q) (subst (λ r. has_path q (change_at (is_present before r) (is_present after r) r) ≡ false) (sym is) here)
    by here more false e v = more v

-- options that are there together, and what is made of them
both_maps : (f : ℕ → ℕ) (y : ℕ) (o : Option ℕ) (r : Option Node) → is_some o ≡ is_some r → ((x : ℕ) → o ≡ Some x → f x ≡ y) → option_map f o ≡ option_map (λ _. y) r
both_maps f y None None same is = refl
both_maps f y None (Some node) same is = not_both refl (sym same)
both_maps f y (Some x) None same is = not_both refl same
both_maps f y (Some x) (Some node) same is = ap Some (is x refl)

module _ (before : Tree) (gens : Generations) (edits : List Edit) (written changed : List Path) (s : is_sorted path_cmp before ≡ true) (keys : paths gens ≡ paths before) (wrote : HaveSame written (edit_paths edits)) (all : HaveSame changed (changed_paths before written (edited before edits))) where
  abbrev after : Tree
  after = edited before edits

  abbrev counted : List Path
  counted = changed_paths before written (edited before edits)

  abbrev n : ℕ
  n = next_generation (greatest gens)

  same_there : (q : Path) → is_some (find path_cmp q (renumbered gens edits)) ≡ is_present after q
  same_there q = there_after edits gens before (λ r. there_by_keys r gens ∙ ap (has_path r) keys ∙ sym (there_by_keys r before)) q

  same_number : (q : Path) (x : ℕ) → find path_cmp q (renumbered gens edits) ≡ Some x → (b : Bool) → has_path q counted ≡ b → (w : Bool) → has_path q (edit_paths edits) ≡ w → cond b n x ≡ cond b n (generation_of gens q)
  same_number q x h true c w v = refl
  same_number q x h false c true v = not_both (sym (same_there q) ∙ ap is_some h) (unwritten before after q written (wrote q ∙ v) c)
  same_number q x h false c false v = sym (ap or_zero (sym (number_elsewhere edits gens q v) ∙ h))

  pub edits_stamped : restamped changed n (renumbered gens edits) ≡ numbered counted gens after
  edits_stamped =
      same_maps path_cmp path_total path_exact (restamped changed n (renumbered gens edits)) (numbered counted gens after)
      (sorted_restamped changed n (renumbered gens edits) (sorted_renumbered gens edits (sorted_by_keys gens before keys ∙ s)))
      (sorted_keyed path_cmp (λ q (node : Node). number_after counted gens q) after ∙ sorted_edits before edits s)
      (λ q. found_restamped changed n (renumbered gens edits) q
      ∙ both_maps (number changed n q) (number_after counted gens q) (find path_cmp q (renumbered gens edits)) (node_at after q) (same_there q)
      (λ x h. ap (λ b. cond b n x) (all q) ∙ same_number q x h (has_path q counted) refl (has_path q (edit_paths edits)) refl)
      ∙ sym (found_keyed path_cmp (λ q (node : Node). number_after counted gens q) path_exact q after))
