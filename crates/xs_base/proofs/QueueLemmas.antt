-- A part of a list, from a place up to another.
use Rattle.std.proofs.Common.{◌≡◌, ℕ, ◌+◌, ◌-◌, ◌≤◌, List, ◌++◌, length, take, drop, refl, sym, ap, ◌∙◌, arith}
use Rattle.std.proofs.lemmas.List.{drop-drop, drop-take, drop-append-le, take_at, length-take-le, length-drop}
use Rattle.std.proofs.Math.Seq.{take-append-add}

-- the part begins so much later
pub part_later : (n a b : ℕ) (xs : List ℕ) → n ≤ b - a → take (b - (a + n)) (drop (a + n) xs) ≡ drop n (take (b - a) (drop a xs))
part_later n a b xs within =
    let all : n + (b - (a + n)) ≡ b - a = omega arith in
    sym (ap (take (b - (a + n))) (drop-drop n a xs)) ∙ sym (drop-take n (b - (a + n)) (drop a xs)) ∙ ap (λ k. drop n (take k (drop a xs))) all

part_of_front : (a b : ℕ) (xs : List ℕ) → a ≤ b → drop a (take b xs) ≡ take (b - a) (drop a xs)
part_of_front a b xs ordered =
    let all : b ≡ a + (b - a) = omega arith in
    ap (λ k. drop a (take k xs)) all ∙ drop-take a (b - a) xs

front_of : (xs more tail : List ℕ) (n : ℕ) → n ≡ length xs + length more → take n (xs ++ (more ++ tail)) ≡ xs ++ more
front_of xs more tail n is =
    ap (λ k. take k (xs ++ (more ++ tail))) is ∙ take-append-add xs (more ++ tail) (length more) ∙ ap (λ ys. xs ++ ys) (take_at more tail (length more) refl)

-- more is written behind the part
pub part_written : (a b : ℕ) (xs more tail : List ℕ) → a ≤ b → b ≤ length xs → take (b + length more - a) (drop a (take b xs ++ (more ++ tail))) ≡ take (b - a) (drop a xs) ++ more
part_written a b xs more tail ordered within =
    let part = take (b - a) (drop a xs) in
    let front : length (take b xs) ≡ b = length-take-le b xs within in
    let cut = part_of_front a b xs ordered in
    let size : length part ≡ b - a = length-take-le (b - a) (drop a xs) (simp length-drop (omega arith)) in
    ap (take (b + length more - a)) (drop-append-le a (take b xs) (more ++ tail) (omega (arith, front)) ∙ ap (λ ys. ys ++ (more ++ tail)) cut)
    ∙ front_of part more tail (b + length more - a) (omega (arith, size))
