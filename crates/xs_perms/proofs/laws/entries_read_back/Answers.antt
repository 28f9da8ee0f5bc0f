use Rattle.std.proofs.Common.{◌≡◌, ℕ, Bool, false, Some, Ok, refl, sym, ap, ◌∙◌, arith}
use Rattle.std.specs.Fmt.{decimal}
use Rattle.text_model.specs.Decimal.{number_of}
use Rattle.xs_model.specs.declared.perm.Letter.{Letter}
use Rattle.xs_model.specs.declared.perm.Letter.TheVariants.{N, R, W, B}
use Rattle.xs_model.specs.Perms.{letter_byte, letter_of, perm_after, perm_with}
use Rattle.xs_perms.proofs.laws.entries_read_back.Goals as goal

letter_back : (letter : Letter) → letter_of (letter_byte letter) ≡ Some letter
letter_back N = refl
letter_back R = refl
letter_back W = refl
letter_back B = refl

entry_back : (letter : Letter) (stale : Bool) (domid : ℕ) → stale ≡ false → number_of 65535 (decimal domid) ≡ Ok domid
    → perm_after (letter_of (letter_byte letter)) (decimal domid) ≡ Ok (record { letter = letter; stale = stale; domid = domid })
entry_back letter stale domid fresh read =
    ap (λ l. perm_after l (decimal domid)) (letter_back letter) ∙ ap (perm_with letter) read
    ∙ ap (λ b. Ok (record { letter = letter; stale = b; domid = domid })) (sym fresh)

pub returns : goal.returns
returns c = λ perm fresh fits.
    entry_back perm.letter perm.stale perm.domid fresh (c.decimal_reads_back.ensures 65535 perm.domid (omega arith) (omega arith))
