use Rattle.std.proofs.Common.{◌≡◌, ◌+◌, ◌≤◌, length, drop}
use Rattle.text_model.specs.Hex.{bad_hex_from}
use Rattle.stream_view.specs.Shown.{digits_of}
use Rattle.stream_view.proofs.form.count_of_digits.Given as goal

-- what is passed was digits and blanks, and so many digits
abbrev pub invariant-loop-byte : goal.invariant-loop-byte
invariant-loop-byte l = record {
  bad : bad_hex_from l.count (digits_of (drop l.byte-index l.text)) ≡ bad_hex_from 0 (digits_of l.text);
  counted : l.count + length (digits_of (drop l.byte-index l.text)) ≡ length (digits_of l.text);
  few : l.count ≤ l.byte-index;
}
