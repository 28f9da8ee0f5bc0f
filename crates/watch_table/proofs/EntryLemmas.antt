-- Lists of entries by their keys, no two of which have one key.
use Rattle.std.specs.Prelude.{◌≡◌, ℕ, Bool, true, false, not, ◌||◌, cond, List, [], ◌∷◌, filter, Some, None, is_some}
use Rattle.std.specs.List.{list_any, AllByRecursion, IsDistinct}
use Rattle.std.specs.Map.{lookup, keys_of, remove_entry}
use Rattle.std.specs.Str.{bytes_eq}
use Rattle.std.specs.Cmp.Lexicographic.{bytes_decides}
use Rattle.std.proofs.Common.{refl, sym, ap, subst, ◌∙◌}
use Rattle.std.proofs.lemmas.Map.Keys.{IsDistinct-head, IsDistinct-tail}

abbrev pub one_key : {K : Type 0} → (K → List ℕ) → K → K → Bool
one_key text x y = bytes_eq (text x) (text y)

module _ {K X : Type 0} (text : K → List ℕ) where
  abbrev pub has_key : List ℕ → K × X → Bool
  has_key q e = bytes_eq q (text e.0)

  pub any_is_found : (q : List ℕ) (es : List (K × X)) → is_some (lookup (λ k. bytes_eq q (text k)) es) ≡ list_any (has_key q) es
  any_is_found q [] = refl
  any_is_found q (e ∷ es) =
      elim (has_key q e) as (λ b. is_some (cond b (Some e.1) (lookup (λ k. bytes_eq q (text k)) es)) ≡ (b || list_any (has_key q) es)) [
        | true ↦ refl
        | false ↦ any_is_found q es
      ]

  pub none_is_found : (q : List ℕ) (es : List (K × X)) → list_any (has_key q) es ≡ false → lookup (λ k. bytes_eq q (text k)) es ≡ None
  none_is_found q [] h = refl
  none_is_found q (e ∷ es) h = by (has_key q e) h (none_is_found q es)
    where
      by : (b : Bool) → (b || list_any (has_key q) es) ≡ false → (list_any (has_key q) es ≡ false → lookup (λ k. bytes_eq q (text k)) es ≡ None) → cond b (Some e.1) (lookup (λ k. bytes_eq q (text k)) es) ≡ None
      by true f rest = cc
      by false f rest = rest f

  all_stay : (q : List ℕ) (es : List (K × X)) → AllByRecursion (λ k. bytes_eq q (text k) ≡ false) (keys_of es) → filter (λ e. not (has_key q e)) es ≡ es
  all_stay q [] h = refl
  all_stay q (e ∷ es) h =
      ap (λ b. cond (not b) (e ∷ filter (λ x. not (has_key q x)) es) (filter (λ x. not (has_key q x)) es)) h.0 ∙ ap (λ l. e ∷ l) (all_stay q es h.1)

  -- without the first entry of a key there is none of it
  pub removed : (q : List ℕ) (es : List (K × X)) → IsDistinct (one_key text) (keys_of es) → remove_entry (λ k. bytes_eq q (text k)) es ≡ filter (λ e. not (has_key q e)) es
  removed q [] d = refl
  removed q (e ∷ es) d = by (has_key q e) refl (removed q es (IsDistinct-tail (one_key text) e.0 (keys_of es) d))
    where
      by : (b : Bool) → has_key q e ≡ b → remove_entry (λ k. bytes_eq q (text k)) es ≡ filter (λ x. not (has_key q x)) es → cond b es (e ∷ remove_entry (λ k. bytes_eq q (text k)) es) ≡ cond (not b) (e ∷ filter (λ x. not (has_key q x)) es) (filter (λ x. not (has_key q x)) es)
      by true h rest = sym (all_stay q es (subst (λ (x : List ℕ). AllByRecursion (λ k. bytes_eq x (text k) ≡ false) (keys_of es)) (sym ((bytes_decides q (text e.0)).0 h)) (IsDistinct-head (one_key text) e.0 (keys_of es) d)))
      by false h rest = ap (λ l. e ∷ l) rest
