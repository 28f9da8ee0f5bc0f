use Rattle.std.proofs.Common.{◌≡◌, ◌*◌, ◌++◌, take, drop}
use Rattle.text_model.specs.Hex.{hex}
use Rattle.xs_base.proofs.hexadecimal.write_digits.Given as goal

-- the digits so far and those of the bytes left are those of all
abbrev pub invariant-loop-i : goal.invariant-loop-i
invariant-loop-i l = take (2 * l.i) l.into ++ hex (drop l.i l.bytes) ≡ hex l.bytes
