-- A text at the place of one of its slashes.
use Rattle.std.proofs.Common.{◌≡◌, ◌≢◌, ℕ, zero, suc, ◌+◌, ◌<◌, ◌≤◌, max, Bool, true, false, cond, ◌||◌, eqb, List, [], ◌∷◌, ◌++◌, length, take, drop, get_or, count_by, refl, sym, ap, subst, ◌∙◌, arith, eqb-true, ◌⊎◌, inl, inr}
use Rattle.std.specs.List.{list_any}
use Rattle.std.proofs.lemmas.Bool.Decides.{nat_tests}
use Rattle.std.proofs.lemmas.List.{take-append-drop, drop_more, take_more, take_at, length-take-le}
use Rattle.std.proofs.lemmas.List.Recursion.{is_count_by}
use Rattle.xs_model.specs.Paths.{absolute_path, split_names, is_absolute, parents}
use Rattle.xs_path.specs.Texts.{IsPathText, leaf_of}
use Rattle.xs_path.proofs.Splitting.{is_slash, slashes, split_names-whole}
use Rattle.xs_path.proofs.Fronts.{absolute_path-append, front_slashes, length-absolute_path, IsPathText-front, leaf_behind, parent_before}

pub first_slash : (t : List ℕ) → is_absolute t ≡ true → get_or t 0 0 ≡ 47
first_slash [] h = cc
first_slash (b ∷ bs) h = grind (arith, nat_tests)

pub has_byte : (t : List ℕ) → is_absolute t ≡ true → 0 < length t
has_byte [] h = cc
has_byte (b ∷ bs) h = omega arith

pub count_by-slashes : (t : List ℕ) → slashes t ≡ count_by is_slash t
count_by-slashes t = is_count_by slashes is_slash refl (λ b bs. elim (is_slash b) as (λ s. cond s (suc (slashes bs)) (slashes bs) ≡ cond s (1 + slashes bs) (slashes bs)) [ true ↦ omega arith | false ↦ refl ]) t

-- no slash, by std's word
pub no_slashes : (t : List ℕ) → list_any is_slash t ≡ false → slashes t ≡ 0
no_slashes [] h = refl
no_slashes (b ∷ bs) h =
    let parts = neither (is_slash b) (list_any is_slash bs) h in
    ap (λ s. cond s (suc (slashes bs)) (slashes bs)) parts.0 ∙ no_slashes bs parts.1
  where
    neither : (s t : Bool) → s || t ≡ false → (s ≡ false) × (t ≡ false)
    neither true t h = cc
    neither false t h = (refl, h)

slashes-append : (a c : List ℕ) → slashes (a ++ c) ≡ slashes a + slashes c
slashes-append [] c = omega arith
slashes-append (b ∷ bs) c =
    elim (is_slash b) as (λ s. cond s (suc (slashes (bs ++ c))) (slashes (bs ++ c)) ≡ cond s (suc (slashes bs)) (slashes bs) + slashes c) [
      | true ↦ omega (arith, slashes-append bs c)
      | false ↦ slashes-append bs c
    ]

one_slash : (b : ℕ) → b ≡ 47 → slashes (b ∷ []) ≡ 1
one_slash b e = ap (λ c. slashes (c ∷ [])) e

one_other : (b : ℕ) → b ≢ 47 → slashes (b ∷ []) ≡ 0
one_other b e = let other : eqb b 47 ≡ false = grind (arith, nat_tests) in ap (λ s. cond s 1 0) other

-- one byte more
pub slashes-at_slash : (t : List ℕ) (i : ℕ) → i < length t → get_or t i 0 ≡ 47 → slashes (take (i + 1) t) ≡ slashes (take i t) + 1
slashes-at_slash t i p e = ap slashes (take_more t i 0 p) ∙ slashes-append (take i t) (get_or t i 0 ∷ []) ∙ ap (λ k. slashes (take i t) + k) (one_slash _ e)

pub slashes-at_other : (t : List ℕ) (i : ℕ) → i < length t → get_or t i 0 ≢ 47 → slashes (take (i + 1) t) ≡ slashes (take i t)
slashes-at_other t i p e = ap slashes (take_more t i 0 p) ∙ slashes-append (take i t) (get_or t i 0 ∷ []) ∙ ap (λ k. slashes (take i t) + k) (one_other _ e) ∙ omega arith

pub cut_at : (t : List ℕ) (i : ℕ) → i < length t → get_or t i 0 ≡ 47 → t ≡ take i t ++ 47 ∷ drop (i + 1) t
cut_at t i p e = sym (take-append-drop i t) ∙ ap (λ l. take i t ++ l) (drop_more t i 0 p ∙ ap (λ c. c ∷ drop (i + 1) t) e)

length_front : (t : List ℕ) (i : ℕ) → 0 < i → i < length t → 0 < length (take i t)
length_front t i p q = omega (arith, length-take-le i t (omega arith))

pub IsPathText-take : (t : List ℕ) (i : ℕ) → IsPathText t → 0 < i → i < length t → get_or t i 0 ≡ 47 → IsPathText (take i t)
IsPathText-take t i h p q e = IsPathText-front (take i t) (drop (i + 1) t) (subst IsPathText (cut_at t i q e) h) (length_front t i p q)

pub absolute_path-cut : (t : List ℕ) (i : ℕ) → IsPathText t → 0 < i → i < length t → get_or t i 0 ≡ 47 → absolute_path t ≡ absolute_path (take i t) ++ split_names (drop (i + 1) t)
absolute_path-cut t i h p q e =
    ap absolute_path (cut_at t i q e) ∙ absolute_path-append (take i t) (drop (i + 1) t) (subst IsPathText (cut_at t i q e) h) (length_front t i p q)

-- the front before a slash has as many names as it has slashes
pub absolute_path-take : (t : List ℕ) (i n : ℕ) → IsPathText t → 0 < i → i < length t → get_or t i 0 ≡ 47 → slashes (take i t) ≡ n → absolute_path (take i t) ≡ take n (absolute_path t)
absolute_path-take t i n h p q e k =
    sym (take_at (absolute_path (take i t)) (split_names (drop (i + 1) t)) n (front_slashes (take i t) (drop (i + 1) t) (subst IsPathText (cut_at t i q e) h) (length_front t i p q) ∙ k))
    ∙ ap (take n) (sym (absolute_path-cut t i h p q e))

-- and so has the whole text, `/` apart
pub names_or_root : (t : List ℕ) → is_absolute t ≡ true → length t ≢ 1 → length (absolute_path t) ≡ slashes t
names_or_root [] h p = cc
names_or_root (b ∷ []) h p = absurd (p refl)
names_or_root (b ∷ c ∷ x) h p = length-absolute_path b c x h

pub names_at_most : (t : List ℕ) → is_absolute t ≡ true → length (absolute_path t) ≤ slashes t
names_at_most [] h = cc
names_at_most (b ∷ []) h = omega arith
names_at_most (b ∷ c ∷ x) h = omega (arith, length-absolute_path b c x h)

-- THE LAST NAME
pub leaf_of-cut : (t : List ℕ) (i : ℕ) → IsPathText t → i < length t → get_or t i 0 ≡ 47 → list_any is_slash (drop (i + 1) t) ≡ false → drop (i + 1) t ≡ leaf_of (absolute_path t)
leaf_of-cut t i h q e n =
    sym (leaf_behind (take i t) (drop (i + 1) t) (subst IsPathText (cut_at t i q e) h) (no_slashes (drop (i + 1) t) n)) ∙ ap (λ l. leaf_of (absolute_path l)) (sym (cut_at t i q e))

pub parents-cut : (t : List ℕ) (i : ℕ) → IsPathText t → 0 < i → i < length t → get_or t i 0 ≡ 47 → list_any is_slash (drop (i + 1) t) ≡ false → absolute_path (take i t) ∷ [] ≡ parents (absolute_path t)
parents-cut t i h p q e n =
    sym (parent_before (take i t) (drop (i + 1) t) (subst IsPathText (cut_at t i q e) h) (no_slashes (drop (i + 1) t) n) (length_front t i p q)) ∙ ap (λ l. parents (absolute_path l)) (sym (cut_at t i q e))

-- a name below `/`
pub parents-one_name : (t : List ℕ) → is_absolute t ≡ true → list_any is_slash (drop 1 t) ≡ false → absolute_path t ≢ [] → absolute_path (take 1 t) ∷ [] ≡ parents (absolute_path t)
parents-one_name [] h n p = absurd (p refl)
parents-one_name (b ∷ []) h n p = absurd (p refl)
parents-one_name (b ∷ c ∷ x) h n p = sym (ap parents (split_names-whole (c ∷ x) (no_slashes (c ∷ x) n)))

pub IsPathText-root : (t : List ℕ) → is_absolute t ≡ true → IsPathText (take 1 t)
IsPathText-root [] h = cc
IsPathText-root (b ∷ bs) h = subst (λ c. IsPathText (c ∷ [])) (sym (eqb-true b 47 h)) (record { absolute = refl; faultless = refl })

cases_zero : (i : ℕ) → (i ≡ 0) ⊎ (0 < i)
cases_zero zero = inl refl
cases_zero (suc i) = inr (omega arith)

least : (i m : ℕ) → m ≡ max i 1 → (i ≡ 0) ⊎ (0 < i) → ((i ≡ 0) × (m ≡ 1)) ⊎ ((0 < i) × (m ≡ i))
least i m k (inl z) = inl (z, omega arith)
least i m k (inr p) = inr (p, omega arith)

-- the front of a text before its last slash, or the first slash alone
pub IsPathText-max : (t : List ℕ) (i m : ℕ) → IsPathText t → i < length t → get_or t i 0 ≡ 47 → m ≡ max i 1 → IsPathText (take m t)
IsPathText-max t i m h q e k =
    elim (least i m k (cases_zero i)) [
      | inl w ↦ rw w.1 (IsPathText-root t h.absolute)
      | inr w ↦ rw w.1 (IsPathText-take t i h w.0 q e)
    ]

pub parents-max : (t : List ℕ) (i m : ℕ) → IsPathText t → i < length t → get_or t i 0 ≡ 47 → list_any is_slash (drop (i + 1) t) ≡ false → absolute_path t ≢ [] → m ≡ max i 1 → absolute_path (take m t) ∷ [] ≡ parents (absolute_path t)
parents-max t i m h q e n p k =
    elim (least i m k (cases_zero i)) [
      | inl w ↦ rw w.1 (parents-one_name t h.absolute (subst (λ j. list_any is_slash (drop (j + 1) t) ≡ false) w.0 n) p)
      | inr w ↦ rw w.1 (parents-cut t i h w.0 q e n)
    ]
