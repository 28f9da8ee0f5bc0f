-- The first string of a payload.
use Rattle.std.proofs.Common.{◌≡◌, ℕ, zero, suc, ◌+◌, ◌<◌, List, [], ◌∷◌, length, get_or, take, drop, Some, None, refl, add-one, arith}
use Rattle.std.proofs.lemmas.Bool.{ne_eqb}
use Rattle.xs_model.specs.Requests.{cut_string}

-- up to the first NUL
pub first_string : (payload : List ℕ) (i : ℕ) → ((k : ℕ) → k < i → get_or payload k 0 ≡ 0 → ⊥) → i < length payload → get_or payload i 0 ≡ 0 → cut_string payload ≡ Some (take i payload, drop (i + 1) payload)
first_string [] i none inside is = absurd (omega arith)
first_string (b ∷ bs) zero none inside is = rw is refl
first_string (b ∷ bs) (suc i) none inside is =
    let other = ne_eqb b 0 (none 0 (omega arith)) in
    let rest = first_string bs i (λ k h. none (suc k) (omega arith)) (omega arith) is in
    rw (other, rest) (simp add-one)

-- without a NUL there is none
pub no_string : (payload : List ℕ) → ((k : ℕ) → k < length payload → get_or payload k 0 ≡ 0 → ⊥) → cut_string payload ≡ None
no_string [] none = refl
no_string (b ∷ bs) none =
    let other = ne_eqb b 0 (none 0 (omega arith)) in
    let rest = no_string bs (λ k h. none (suc k) (omega arith)) in
    rw (other, rest) refl
