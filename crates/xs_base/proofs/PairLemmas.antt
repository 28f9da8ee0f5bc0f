-- Bytes are read two digits at a time.
use Rattle.std.proofs.Common.{◌≡◌, ℕ, ◌+◌, ◌*◌, ◌%◌, ◌<◌, ◌≤◌, ◌==◌, true, List, [], ◌∷◌, ◌++◌, length, get_or, set, take, drop, Option, Some, None, Ok, refl, ap, sym, ◌∙◌, append_assoc, take_all, arith}
use Rattle.std.proofs.lemmas.List.{drop_more, drop_all, take_more_set, append-nil}
use Rattle.std.proofs.lemmas.Bool.Decides.{nat_tests}
use Rattle.text_model.specs.Hex.{hex_value, bad_hex_from, paired, bytes_of_hex}
use Rattle.xs_base.specs.Digits.{digit_or_16}

-- The bytes of the first i pairs of a text were read, and no value so far is above `most`. Where that is a digit, the
-- bytes so far and those of the digits left are those of all, and the first bad digit of what is left is that of all.
abbrev pub ReadsPairs : List ℕ → ℕ → List ℕ → ℕ → Type 0
ReadsPairs text i bytes most =
    most < 16 → (take i bytes ++ paired (drop (2 * i) text) ≡ paired text) × (bad_hex_from (2 * i) (drop (2 * i) text) ≡ bad_hex_from 0 text)

value_is : (v : Option ℕ) (n : ℕ) → n ≡ digit_or_16 v → n < 16 → v ≡ Some n
value_is (Some m) n is small = ap Some (sym is)
value_is None n is small = absurd (omega arith)

two_at : (text : List ℕ) (i : ℕ) → 2 * i + 1 < length text → drop (2 * i) text ≡ get_or text (2 * i) 0 ∷ get_or text (2 * i + 1) 0 ∷ drop (2 * (i + 1)) text
two_at text i within =
    let next : 2 * (i + 1) ≡ 2 * i + 1 + 1 = omega arith in
    rw next (drop_more text (2 * i) 0 (omega arith) ∙ ap (λ rest. get_or text (2 * i) 0 ∷ rest) (drop_more text (2 * i + 1) 0 within))

paired_front : (a b high low : ℕ) (rest : List ℕ) → hex_value a ≡ Some high → hex_value b ≡ Some low → paired (a ∷ b ∷ rest) ≡ (16 * high + low) ∷ paired rest
paired_front a b high low rest is_high is_low = rw (is_high, is_low) refl

bad_behind : (a b high low at : ℕ) (rest : List ℕ) → hex_value a ≡ Some high → hex_value b ≡ Some low → bad_hex_from at (a ∷ b ∷ rest) ≡ bad_hex_from (at + 1 + 1) rest
bad_behind a b high low at rest is_high is_low = rw (is_high, is_low) refl

-- one more pair was read
pub pair_read : (text bytes : List ℕ) (i high low most next : ℕ) → i < length bytes → 2 * i + 1 < length text → high ≡ digit_or_16 (hex_value (get_or text (2 * i) 0)) → low ≡ digit_or_16 (hex_value (get_or text (2 * i + 1) 0)) → most ≤ next → high ≤ next → low ≤ next → ReadsPairs text i bytes most → ReadsPairs text (i + 1) (set bytes i (high % 16 * 16 + low % 16)) next
pair_read text bytes i high low most next inside within high_is low_is most_le high_le low_le so_far small =
    let before = so_far (omega arith) in
    let a = get_or text (2 * i) 0 in
    let b = get_or text (2 * i + 1) 0 in
    let is_high = value_is (hex_value a) high high_is (omega arith) in
    let is_low = value_is (hex_value b) low low_is (omega arith) in
    let rest = drop (2 * (i + 1)) text in
    let value : high % 16 * 16 + low % 16 ≡ 16 * high + low = omega arith in
    let past : 2 * (i + 1) ≡ 2 * i + 1 + 1 = omega arith in
    let front = two_at text i within in (
      ap (λ taken. taken ++ paired rest) (take_more_set bytes i (high % 16 * 16 + low % 16) inside)
          ∙ ap (λ v. (take i bytes ++ v ∷ []) ++ paired rest) value
          ∙ append_assoc (take i bytes) ((16 * high + low) ∷ []) (paired rest)
          ∙ ap (λ pairs. take i bytes ++ pairs) (sym (ap paired front ∙ paired_front a b high low rest is_high is_low))
          ∙ before.0,
      ap (λ at. bad_hex_from at rest) past
          ∙ sym (ap (bad_hex_from (2 * i)) front ∙ bad_behind a b high low (2 * i) rest is_high is_low)
          ∙ before.1,
    )

is_even : (text : List ℕ) (n : ℕ) → length text ≡ 2 * n → (length text % 2 == 0) ≡ true
is_even text n e = grind (arith, nat_tests)

-- all pairs were read, and each digit was one
pub pairs_read : (text bytes : List ℕ) (i most : ℕ) → length text ≡ 2 * length bytes → length bytes ≤ i → most < 16 → ReadsPairs text i bytes most → bytes_of_hex text ≡ Ok bytes
pairs_read text bytes i most even done small so_far =
    let all = so_far small in
    let none : drop (2 * i) text ≡ [] = drop_all (2 * i) text (omega arith) in
    let no_bad : bad_hex_from 0 text ≡ None = sym all.1 ∙ ap (bad_hex_from (2 * i)) none in
    let whole : paired text ≡ bytes =
    sym all.0 ∙ ap (λ taken. taken ++ paired (drop (2 * i) text)) (take_all i bytes done) ∙ ap (λ rest. bytes ++ paired rest) none ∙ append-nil bytes
    in
    rw (no_bad, is_even text (length bytes) even) (ap Ok whole)
