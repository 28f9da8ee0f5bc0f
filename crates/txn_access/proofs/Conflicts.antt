-- The first conflict of marks that stand in parts.
use Rattle.std.proofs.Common.{◌≡◌, ℕ, ◌+◌, ◌<◌, true, false, cond, ◌||◌, List, [], ◌∷◌, ◌++◌, length, drop, get_or, Option, Some, None, is_some, refl, sym, ap, ◌∙◌}
use Rattle.std.proofs.lemmas.List.{drop_more}
use Rattle.path_map.specs.Chunks.{joined}
use Rattle.xs_model.specs.Paths.{Path}
use Rattle.mark_model.specs.Marks.{Marks, is_conflict, first_conflict, has_conflict}

abbrev pub or_first : Option Path → Option Path → Option Path
or_first None other = other
or_first (Some p) other = Some p

conflict_append : (ms ns : Marks) → first_conflict (ms ++ ns) ≡ or_first (first_conflict ms) (first_conflict ns)
conflict_append [] ns = refl
conflict_append (e ∷ ms) ns =
    elim (is_conflict e.1) as (λ b. cond b (Some e.0) (first_conflict (ms ++ ns)) ≡ or_first (cond b (Some e.0) (first_conflict ms)) (first_conflict ns)) [
      | true ↦ refl
      | false ↦ conflict_append ms ns
    ]

-- of a part and those behind it
pub conflict_from : (parts : List Marks) (i : ℕ) (part : Marks) (o : Option Path) → i < length parts → part ≡ get_or parts i part → o ≡ first_conflict part → first_conflict (joined (drop i parts)) ≡ or_first o (first_conflict (joined (drop (i + 1) parts)))
conflict_from parts i part o within is found =
    ap (λ (l : List Marks). first_conflict (joined l)) (drop_more parts i part within ∙ ap (λ (m : Marks). m ∷ drop (i + 1) parts) (sym is))
    ∙ conflict_append part (joined (drop (i + 1) parts))
    ∙ ap (λ q. or_first q (first_conflict (joined (drop (i + 1) parts)))) (sym found)

pub conflict_any : (ms : Marks) → is_some (first_conflict ms) ≡ has_conflict ms
conflict_any [] = refl
conflict_any (e ∷ ms) =
    elim (is_conflict e.1) as (λ b. is_some (cond b (Some e.0) (first_conflict ms)) ≡ (b || has_conflict ms)) [
      | true ↦ refl
      | false ↦ conflict_any ms
    ]
