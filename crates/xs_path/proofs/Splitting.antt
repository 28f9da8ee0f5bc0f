-- Texts and the names between their slashes.
use Rattle.std.proofs.Common.{◌≡◌, ℕ, suc, Bool, true, false, cond, List, [], ◌∷◌, ◌++◌, length, eqb, refl, sym, ap, ◌∙◌, arith, eqb-true}
use Rattle.xs_model.specs.Paths.{Path, Name, names_text, text, onto_first, split_names, absolute_path, is_absolute}
use Rattle.xs_path.specs.Texts.{leaf_of}

abbrev pub is_slash : ℕ → Bool
is_slash b = eqb b 47

-- how many slashes there are
abbrev pub slashes : List ℕ → ℕ
slashes [] = 0
slashes (b ∷ bs) = cond (is_slash b) (suc (slashes bs)) (slashes bs)

-- NAMES OF A TEXT
onto-text : (b : ℕ) (ns : Path) (x : List ℕ) → names_text ns ≡ 47 ∷ x → names_text (onto_first b ns) ≡ 47 ∷ b ∷ x
onto-text b [] x e = cc
onto-text b (n ∷ ns) x e = cc

pub names_text-split_names : (x : List ℕ) → names_text (split_names x) ≡ 47 ∷ x
names_text-split_names [] = refl
names_text-split_names (b ∷ bs) =
    elim (is_slash b) as (λ t. is_slash b ≡ t → names_text (cond t ([] ∷ split_names bs) (onto_first b (split_names bs))) ≡ 47 ∷ b ∷ bs) [
      | true ↦ λ h. ap (λ l. 47 ∷ l) (names_text-split_names bs) ∙ ap (λ c. 47 ∷ c ∷ bs) (sym (eqb-true b 47 h))
      | false ↦ λ h. onto-text b (split_names bs) bs (names_text-split_names bs)
    ] refl

of_names : (ns : Path) (x : List ℕ) → names_text ns ≡ 47 ∷ x → text ns ≡ 47 ∷ x
of_names [] x e = cc
of_names (n ∷ ns) x e = e

-- the text of the path of an absolute text is that text
pub text-absolute_path : (t : List ℕ) → is_absolute t ≡ true → text (absolute_path t) ≡ t
text-absolute_path [] h = cc
text-absolute_path (b ∷ []) h = ap (λ c. c ∷ []) (sym (eqb-true b 47 h))
text-absolute_path (b ∷ c ∷ bs) h =
    of_names (split_names (c ∷ bs)) (c ∷ bs) (names_text-split_names (c ∷ bs)) ∙ ap (λ d. d ∷ c ∷ bs) (sym (eqb-true b 47 h))

-- THEIR NUMBER
length-onto_first : (b : ℕ) (ns : Path) (n : ℕ) → length ns ≡ suc n → length (onto_first b ns) ≡ suc n
length-onto_first b [] n e = absurd (omega arith)
length-onto_first b (m ∷ ns) n e = e

pub length-split_names : (x : List ℕ) → length (split_names x) ≡ suc (slashes x)
length-split_names [] = refl
length-split_names (b ∷ bs) =
    elim (is_slash b) as (λ t. length (cond t ([] ∷ split_names bs) (onto_first b (split_names bs))) ≡ suc (cond t (suc (slashes bs)) (slashes bs))) [
      | true ↦ ap suc (length-split_names bs)
      | false ↦ length-onto_first b (split_names bs) (slashes bs) (length-split_names bs)
    ]

onto-append : (b : ℕ) (ns ms : Path) (n : ℕ) → length ns ≡ suc n → onto_first b (ns ++ ms) ≡ onto_first b ns ++ ms
onto-append b [] ms n e = absurd (omega arith)
onto-append b (m ∷ ns) ms n e = refl

-- a slash parts the names before it from those behind it
pub split_names-append : (a c : List ℕ) → split_names (a ++ 47 ∷ c) ≡ split_names a ++ split_names c
split_names-append [] c = refl
split_names-append (b ∷ bs) c =
    elim (is_slash b) as (λ t. cond t ([] ∷ split_names (bs ++ 47 ∷ c)) (onto_first b (split_names (bs ++ 47 ∷ c))) ≡ cond t ([] ∷ split_names bs) (onto_first b (split_names bs)) ++ split_names c) [
      | true ↦ ap (λ l. [] ∷ l) (split_names-append bs c)
      | false ↦ ap (onto_first b) (split_names-append bs c) ∙ onto-append b (split_names bs) (split_names c) (slashes bs) (length-split_names bs)
    ]

-- bytes without a slash are one name
pub split_names-whole : (n : List ℕ) → slashes n ≡ 0 → split_names n ≡ n ∷ []
split_names-whole [] e = refl
split_names-whole (b ∷ bs) e =
    elim (is_slash b) as (λ t. cond t (suc (slashes bs)) (slashes bs) ≡ 0 → cond t ([] ∷ split_names bs) (onto_first b (split_names bs)) ≡ (b ∷ bs) ∷ []) [
      | true ↦ λ h. absurd (omega arith)
      | false ↦ λ h. ap (onto_first b) (split_names-whole bs h)
    ] e

-- UP AND DOWN
pub leaf_of-push : (p : Path) (n : Name) → leaf_of (p ++ n ∷ []) ≡ n
leaf_of-push [] n = refl
leaf_of-push (m ∷ []) n = refl
leaf_of-push (m ∷ k ∷ ks) n = leaf_of-push (k ∷ ks) n
