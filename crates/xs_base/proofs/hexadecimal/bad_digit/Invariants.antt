use Rattle.std.proofs.Common.{◌≡◌, drop}
use Rattle.text_model.specs.Hex.{bad_hex_from}
use Rattle.xs_base.proofs.hexadecimal.bad_digit.Given as goal

-- the first bad digit of what is left is that of all
abbrev pub invariant-loop-at : goal.invariant-loop-at
invariant-loop-at l = bad_hex_from l.at (drop l.at l.text) ≡ bad_hex_from 0 l.text
