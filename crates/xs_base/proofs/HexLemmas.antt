-- Reading undoes writing: digits of bytes spell these bytes.
use Rattle.std.proofs.Common.{◌≡◌, ℕ, ◌+◌, ◌*◌, ◌/◌, ◌%◌, ◌<◌, ◌==◌, true, List, [], ◌∷◌, length, All, Some, None, Ok, refl, ap, arith}
use Rattle.std.specs.List.{AllByRecursion}
use Rattle.std.proofs.lemmas.List.Elements.{recursion_from_All}
use Rattle.std.proofs.lemmas.Bool.Decides.{nat_tests}
use Rattle.text_model.specs.Hex.{hex_value, hex_digit, hex, bad_hex_from, paired, bytes_of_hex}

hex_value-hex_digit : (n : ℕ) → n < 16 → hex_value (hex_digit n) ≡ Some n
hex_value-hex_digit n small = grind (arith, nat_tests)

bad_hex_from-hex : (at : ℕ) (bytes : List ℕ) → AllByRecursion (λ b. b < 256) bytes → bad_hex_from at (hex bytes) ≡ None
bad_hex_from-hex at [] all = refl
bad_hex_from-hex at (b ∷ bytes) all =
    rw (hex_value-hex_digit (b / 16) (omega (arith, all.0)), hex_value-hex_digit (b % 16) (omega (arith, all.0)))
    (bad_hex_from-hex (at + 1 + 1) bytes all.1)

length-hex : (bytes : List ℕ) → length (hex bytes) ≡ 2 * length bytes
length-hex [] = refl
length-hex (b ∷ bytes) = omega (arith, length-hex bytes)

paired-hex : (bytes : List ℕ) → AllByRecursion (λ b. b < 256) bytes → paired (hex bytes) ≡ bytes
paired-hex [] all = refl
paired-hex (b ∷ bytes) all =
    let joined : 16 * (b / 16) + b % 16 ≡ b = omega arith in
    rw (hex_value-hex_digit (b / 16) (omega (arith, all.0)), hex_value-hex_digit (b % 16) (omega (arith, all.0)), joined)
    (ap (λ rest. b ∷ rest) (paired-hex bytes all.1))

is_even : (text : List ℕ) (n : ℕ) → length text ≡ 2 * n → (length text % 2 == 0) ≡ true
is_even text n e = grind (arith, nat_tests)

pub bytes_of_hex-hex : (bytes : List ℕ) → All (λ b. b < 256) bytes → bytes_of_hex (hex bytes) ≡ Ok bytes
bytes_of_hex-hex bytes all =
    let each = recursion_from_All (λ b. b < 256) bytes all in
    rw (bad_hex_from-hex 0 bytes each, is_even (hex bytes) (length bytes) (length-hex bytes)) (ap Ok (paired-hex bytes each))
