use Rattle.std.proofs.Common.{◌≡◌, ◌+◌, ◌*◌, ◌^◌, ◌≤◌, drop}
use Rattle.text_model.specs.Decimal.{digits_number}
use Rattle.xs_base.proofs.decimal.number_from.Given as goal

-- The number so far and the digits left spell the number of all. A byte adds at most 207 = 23 * 10 - 23, so the
-- number so far is below 23 times the power of ten.
abbrev pub invariant-loop-byte : goal.invariant-loop-byte
invariant-loop-byte l = record {
  spells : digits_number l.number (drop l.byte-index l.digits) ≡ digits_number 0 l.digits;
  bound : l.number + 23 ≤ 23 * 10 ^ l.byte-index;
}
