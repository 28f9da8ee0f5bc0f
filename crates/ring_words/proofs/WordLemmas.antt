-- Lemmas on the words of a ring, on its indices and on notes.
use Rattle.std.proofs.Common.{◌≡◌, ℕ, ◌+◌, ◌-◌, ◌^◌, ◌<◌, ◌≤◌, ◌⊎◌, suc, List, [], ◌∷◌, ◌++◌, set, sym, refl, ap, ◌∙◌, inl, inr, arith, append_assoc}
use Rattle.std.proofs.lemmas.List.{length-set, get_or-set_same, get_or-set_other}
use Rattle.std.proofs.lemmas.Bool.{cases_eq}
use Rattle.std.specs.Prelude.{All}
use Rattle.ring_words.specs.Indices.{index_of, held}
use Rattle.ring_words.specs.Rule.{IsWords, IsNoted, last_note}

pub held_of : (s a b : ℕ) → b ≤ a → a ≤ b + 1024 → held (index_of s a) (index_of s b) ≡ a - b
held_of s a b low high = omega arith

-- WORDS after a store of a byte, of an index, of a note
module _ (ws : List ℕ) (is : IsWords ws) where
  pub words_byte : (place n : ℕ) → place < 1024 → n < 256 → IsWords (set ws place n)
  words_byte place n low byte =
      let count = is.count in
      record {
        count = length-set ws place n ∙ count;
        bytes = λ k below. elim (cases_eq k place) [
          | inl same ↦ rw same (rw (get_or-set_same ws place n 0 (omega arith)) byte)
          | inr other ↦ rw (get_or-set_other ws place k n 0 other) (is.bytes k below)
        ];
        prod = rw (get_or-set_other ws place 1024 n 0 (omega arith)) is.prod;
        cons = rw (get_or-set_other ws place 1025 n 0 (omega arith)) is.cons;
      }

  pub words_prod : (n : ℕ) → n < 2 ^ 32 → IsWords (set ws 1024 n)
  words_prod n fits =
      let count = is.count in
      record {
        count = length-set ws 1024 n ∙ count;
        bytes = λ k below. rw (get_or-set_other ws 1024 k n 0 (omega arith)) (is.bytes k below);
        prod = rw (get_or-set_same ws 1024 n 0 (omega arith)) fits;
        cons = rw (get_or-set_other ws 1024 1025 n 0 (omega arith)) is.cons;
      }

  pub words_cons : (n : ℕ) → n < 2 ^ 32 → IsWords (set ws 1025 n)
  words_cons n fits =
      let count = is.count in
      record {
        count = length-set ws 1025 n ∙ count;
        bytes = λ k below. rw (get_or-set_other ws 1025 k n 0 (omega arith)) (is.bytes k below);
        prod = rw (get_or-set_other ws 1025 1024 n 0 (omega arith)) is.prod;
        cons = rw (get_or-set_same ws 1025 n 0 (omega arith)) fits;
      }

  pub words_note : (n : ℕ) → IsWords (set ws 1026 n)
  words_note n =
      let count = is.count in
      record {
        count = length-set ws 1026 n ∙ count;
        bytes = λ k below. rw (get_or-set_other ws 1026 k n 0 (omega arith)) (is.bytes k below);
        prod = rw (get_or-set_other ws 1026 1024 n 0 (omega arith)) is.prod;
        cons = rw (get_or-set_other ws 1026 1025 n 0 (omega arith)) is.cons;
      }

-- NOTES
pub last_of_more : (d : ℕ) (notes : List (ℕ × ℕ)) (note : ℕ × ℕ) → last_note d (notes ++ note ∷ []) ≡ note.0
last_of_more d [] note = refl
last_of_more d (x ∷ xs) note = last_of_more x.0 xs note

-- a note may be found later, and among more notes
pub noted_later : (notes : List (ℕ × ℕ)) (value most more : ℕ) → most ≤ more → IsNoted notes value most → IsNoted notes value more
noted_later notes value most more up (before, then, after, is, low) = (before, then, after, is, omega arith)

pub noted_more : (notes more : List (ℕ × ℕ)) (value most : ℕ) → IsNoted notes value most → IsNoted (notes ++ more) value most
noted_more notes more value most (before, then, after, is, low) =
    (before, then, after ++ more, ap (λ l. l ++ more) is ∙ append_assoc before ((value, then) ∷ after) more, low)

-- what NOTE has is the value of a note, if there is one
pub last_is_noted : (notes : List (ℕ × ℕ)) (d most : ℕ) → All (λ note. note.1 ≤ most) notes → (last_note d notes ≡ d) ⊎ IsNoted notes (last_note d notes) most
last_is_noted [] d most all = inl refl
last_is_noted (x ∷ xs) d most all = inr (elim (last_is_noted xs x.0 most (λ k e below. all (suc k) e (omega arith))) [
  | inl first ↦ ([], x.1, xs, ap (λ v. (v, x.1) ∷ xs) (sym first), all 0 (0, 0) (omega arith))
  | inr (before, then, after, is, low) ↦ (x ∷ before, then, after, ap (λ l. x ∷ l) is, low)
])
