use Rattle.std.proofs.Common.{◌≡◌, ℕ, ◌-◌, ◌<◌, List, ◌∷◌, ◌++◌, length, set, take, drop, refl, ap, ◌∙◌, arith, length-set, length-drop}
use borrow.Rule.Slice.PartMut.{put_mid}
use Rattle.std.proofs.lemmas.Slice.{take-put_mid}
use Rattle.std.proofs.lemmas.List.{take_all}
use Rattle.std.proofs.lemmas.Grind.{take-set_at}
use Rattle.xs_model.specs.Perms.{letter_byte}
use Rattle.xs_perms.proofs.spelling.print_perm.Goals as goal

-- a byte, and the digits behind it
written : (byte start : ℕ) (into digits new : List ℕ) → start < 5 → length into ≡ 6 → length digits ≡ 5 → new ≡ take (5 - start) (drop start digits)
    → take (6 - start) (put_mid 1 (6 - start - 1) (set into 0 byte) new) ≡ byte ∷ drop start digits
written byte start into digits new within room len is =
    let whole : new ≡ drop start digits = is ∙ take_all (5 - start) (drop start digits) (omega (arith, length-drop start digits)) in
    take-put_mid 1 (6 - start - 1) (set into 0 byte) new (6 - start) (omega (arith, ap length whole, length-drop start digits)) (omega (arith, length-set into 0 byte))
    ∙ ap (λ l. l ++ new) (take-set_at into 0 1 byte refl (omega arith)) ∙ ap (λ l. byte ∷ l) whole

pub returns-clause-text : goal.returns-clause-text
returns-clause-text c =
    written c.letter_byte.result c.write_digits-start.result c.args.into.now c.write_digits-start.new.into c.copy_from_slice.new.self c.write_digits-start.ensures.within (omega arith) c.write_digits-start.array_long c.copy_from_slice.ensures.after
    ∙ ap (λ b. b ∷ drop c.write_digits-start.result c.write_digits-start.new.into) c.letter_byte.ensures
    ∙ ap (λ l. letter_byte c.args.perm.letter ∷ l) c.write_digits-start.ensures.digits
