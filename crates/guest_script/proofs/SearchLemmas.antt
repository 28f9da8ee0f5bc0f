-- What a search for a byte says of the places of a text.
use Rattle.std.proofs.Common.{◌≡◌, ℕ, ◌<◌, List, Some, None, length, get_or, arith}
use Rattle.std.proofs.lemmas.Bool.{eqb-true, eq-eqb}
use Rattle.memchr.specs.Find.{IsFirstByte, is_byte}

-- not before the first place
pub none_before : (text : List ℕ) (byte i : ℕ) → IsFirstByte (is_byte byte) text (Some i) → (k : ℕ) → k < i → get_or text k 0 ≡ byte → ⊥
none_before text byte i found k before is = found.0.before k (omega arith) before (eq-eqb (get_or text k 0) byte is)

pub is_there : (text : List ℕ) (byte i : ℕ) → IsFirstByte (is_byte byte) text (Some i) → get_or text i 0 ≡ byte
is_there text byte i found = eqb-true (get_or text i 0) byte found.1

-- nowhere
pub none_at_all : (text : List ℕ) (byte : ℕ) → IsFirstByte (is_byte byte) text None → (k : ℕ) → k < length text → get_or text k 0 ≡ byte → ⊥
none_at_all text byte absent k within is = absent k (omega arith) within (eq-eqb (get_or text k 0) byte is)
