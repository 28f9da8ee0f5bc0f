-- Reading undoes writing: the digits of a number are read as this number.
use Rattle.std.proofs.Common.{◌≡◌, ℕ, ◌+◌, ◌-◌, ◌*◌, ◌%◌, ◌^◌, ◌<◌, ◌≤◌, Bool, true, false, cond, List, [], ◌∷◌, ◌++◌, length, length-append, Option, Some, None, Ok, refl, ap, ◌∙◌, arith}
use Rattle.std.specs.Fmt.{decimal}
use Rattle.std.proofs.lemmas.Fmt.{decimal_by_steps, length-decimal-le}
use Rattle.std.proofs.lemmas.Bool.Decides.{nat_tests}
use Rattle.text_model.specs.Decimal.{is_digit, digits_number, bad_digit_from, bounded_number, number_unless, number_of}

digits_number_push : (before : ℕ) (digits : List ℕ) (d : ℕ) → digits_number before (digits ++ d ∷ []) ≡ 10 * digits_number before digits + (d - 48)
digits_number_push before [] d = refl
digits_number_push before (b ∷ digits) d = digits_number_push (10 * before + (b - 48)) digits d

is_digit-at : (n : ℕ) → n < 10 → is_digit (48 + n) ≡ true
is_digit-at n small = grind (arith, nat_tests)

-- one more byte behind digits, where the first of them is one
if_digit : (digit : Bool) (at : ℕ) (short long : Option ℕ) → (short ≡ None → long ≡ None) → cond digit short (Some at) ≡ None → cond digit long (Some at) ≡ None
if_digit true at short long more e = more e
if_digit false at short long more e = e

bad_digit_from_push : (at : ℕ) (digits : List ℕ) (n : ℕ) → n < 10 → bad_digit_from at digits ≡ None → bad_digit_from at (digits ++ (48 + n) ∷ []) ≡ None
bad_digit_from_push at [] n small e = rw (is_digit-at n small) refl
bad_digit_from_push at (b ∷ digits) n small e =
    if_digit (is_digit b) at (bad_digit_from (at + 1) digits) (bad_digit_from (at + 1) (digits ++ (48 + n) ∷ []))
    (bad_digit_from_push (at + 1) digits n small) e

-- a text of digits alone, which spell this number
record Spells (n : ℕ) (digits : List ℕ) : Type 0 where
  number : digits_number 0 digits ≡ n
  digits_alone : bad_digit_from 0 digits ≡ None
  some : 0 < length digits

Spells-decimal : (n : ℕ) → n < 2 ^ 64 → Spells n (decimal n)
Spells-decimal = decimal_by_steps Spells
    (λ n small. record { number = omega arith; digits_alone = rw (is_digit-at n small) refl; some = omega arith })
    (λ n digits big front. record {
      number = rw (digits_number_push 0 digits (48 + n % 10), front.number) (omega arith);
      digits_alone = bad_digit_from_push 0 digits (n % 10) (omega arith) front.digits_alone;
      some = omega (arith, length-append digits ((48 + n % 10) ∷ []));
    })

number_of-digits : (max : ℕ) (text : List ℕ) → 0 < length text → bad_digit_from 0 text ≡ None → number_of max text ≡ bounded_number max text
number_of-digits max [] some alone = absurd (omega arith)
number_of-digits max (b ∷ text) some alone = ap (λ fault. number_unless fault max (b ∷ text)) alone

bounded_number-within : (max : ℕ) (text : List ℕ) → length text ≤ 20 → digits_number 0 text ≤ max → bounded_number max text ≡ Ok (digits_number 0 text)
bounded_number-within max text short within = grind (arith, nat_tests)

pub number_of-decimal : (max number : ℕ) → number ≤ max → max < 2 ^ 64 → number_of max (decimal number) ≡ Ok number
number_of-decimal max number within fits =
    let text = decimal number in
    let spelled = Spells-decimal number (omega arith) in
    let short = length-decimal-le 20 number (omega arith) (omega arith) (omega arith) in
    number_of-digits max text spelled.some spelled.digits_alone
    ∙ bounded_number-within max text short (omega (arith, spelled.number)) ∙ ap Ok spelled.number
