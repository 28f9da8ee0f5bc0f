-- A text that is cut at its first NUL.
use Rattle.std.proofs.Common.{◌≡◌, ℕ, ◌+◌, ◌-◌, ◌<◌, ◌==◌, List, [], ◌∷◌, length, take, drop, Option, Some, refl, sym, ap, ◌∙◌, arith, length-drop}
use Rattle.std.proofs.lemmas.Bool.{ne_eqb}
use Rattle.std.specs.Option.{option_and_then}
use Rattle.xs_model.specs.Requests.{cut_string, one_string, is_empty, when}

is_empty_length : (bytes : List ℕ) → is_empty bytes ≡ (length bytes == 0)
is_empty_length [] = refl
is_empty_length (b ∷ bs) = sym (ne_eqb (length (b ∷ bs)) 0 (λ h. absurd (omega arith)))

none_left : (n m : ℕ) → n < m → (m - (n + 1) == 0) ≡ (n + 1 == m)
none_left n m h = grind arith

string_in : List ℕ × List ℕ → Option (List ℕ)
string_in first = when (is_empty first.1) first.0

pub cut_whole : (text : List ℕ) (n : ℕ) → n < length text → cut_string text ≡ Some (take n text, drop (n + 1) text) → one_string text ≡ when (n + 1 == length text) (take n text)
cut_whole text n h e =
    ap (option_and_then (λ first. when (is_empty first.1) first.0)) e
    ∙ ap (λ b. when b (take n text)) (is_empty_length (drop (n + 1) text) ∙ ap (λ m. m == 0) (length-drop (n + 1) text) ∙ none_left n (length text) h)
