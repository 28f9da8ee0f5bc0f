-- A digit is written before those that are there, as std's `decimal_step` has it.
use Rattle.std.proofs.Common.{◌≡◌, ℕ, ◌+◌, ◌-◌, ◌/◌, ◌%◌, ◌^◌, ◌<◌, ◌≤◌, List, [], ◌∷◌, ◌++◌, length, set, drop, ap, sym, ◌∙◌, append_assoc, arith}
use Rattle.std.proofs.lemmas.List.{drop-set}
use Rattle.std.proofs.lemmas.Fmt.{decimal_step, decimal_digit}
use Rattle.std.proofs.lemmas.Grind.{pow_more}
use Rattle.std.specs.Fmt.{decimal}
use Rattle.xs_perms.proofs.spelling.write_digits.Goals as goal

-- one place further to the front
at_start : (start : ℕ) → 0 < start → start - 1 + 1 ≡ start
at_start start h = omega arith

one_digit_more : (rest start : ℕ) (into : List ℕ) → 10 ≤ rest → rest < 2 ^ 64 → start < length into → decimal (rest / 10) ++ drop start (set into start (48 + rest % 10)) ≡ decimal rest ++ drop (start + 1) into
one_digit_more rest start into big fits within =
    ap (λ t. decimal (rest / 10) ++ t) (drop-set into start (48 + rest % 10) within)
    ∙ sym (append_assoc (decimal (rest / 10)) ((48 + rest % 10) ∷ []) (drop (start + 1) into))
    ∙ ap (λ t. t ++ drop (start + 1) into) (sym (decimal_step rest big fits))

last_digit : (rest start : ℕ) (into : List ℕ) → rest < 10 → start < length into → drop start (set into start (48 + rest)) ≡ decimal rest ++ drop (start + 1) into
last_digit rest start into small within =
    drop-set into start (48 + rest) within ∙ ap (λ t. t ++ drop (start + 1) into) (sym (decimal_digit rest small))

pub loop-rest-preserved : goal.loop-rest-preserved
loop-rest-preserved c =
    let rest = c.loop-rest.rest in let start = c.loop-rest.start in
    let powers = pow_more 10 start in
    let before : start - 1 + 1 ≡ start = at_start start (grind arith) in
    record {
      digits = rw before (one_digit_more rest start c.loop-rest.into (omega arith) (omega arith) (omega arith) ∙ c.loop-rest.invariant.digits);
      room = rw before (omega (arith, powers));
      within = omega arith;
    }

pub returns-clause-digits : goal.returns-clause-digits
returns-clause-digits c =
    last_digit c.loop-rest.rest c.loop-rest.start c.loop-rest.into (omega arith) (omega arith) ∙ c.loop-rest.invariant.digits
