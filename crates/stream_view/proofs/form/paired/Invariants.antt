use Rattle.std.proofs.Common.{◌≡◌, ◌++◌, drop}
use Rattle.text_model.specs.Hex.{paired}
use Rattle.stream_view.specs.Shown.{digits_of}
use Rattle.stream_view.proofs.DigitLemmas.{held}
use Rattle.stream_view.proofs.form.paired.Given as goal

-- the bytes so far, and those of the digit that is held and of the digits left, are all
abbrev pub invariant-loop-byte : goal.invariant-loop-byte
invariant-loop-byte l = l.bytes.items ++ paired (held l.high ++ digits_of (drop l.byte-index l.text)) ≡ paired (digits_of l.text)
