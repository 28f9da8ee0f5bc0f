-- The laws of a queue, as statements. Each is proved of a function in `src/laws.rt`.
use Rattle.std.specs.Prelude.{◌≡◌, ℕ, ◌+◌, ◌≤◌, true, List, ◌++◌, length, drop}
use Rattle.xs_model.specs.declared.message.Header.{Header}
use Rattle.xs_model.specs.declared.message.TheConstants.{PAYLOAD_MAX}
use Rattle.xs_model.specs.Messages.{header_bytes}
use Rattle.xs_model.specs.Wholes.{whole_behind, rest_after}

-- what is written as a message, with its length in its header, is one
abbrev pub WrittenIsWhole : Type 0
WrittenIsWhole =
    (head : Header) (payload : List ℕ) → head.len ≡ length payload → length payload ≤ PAYLOAD_MAX → whole_behind 0 (header_bytes head ++ payload) ≡ true

-- however many bytes go, what is left is the rest of a message and whole messages behind it
abbrev pub StaysQueue : Type 0
StaysQueue =
    (rest n : ℕ) (bytes : List ℕ) → whole_behind rest bytes ≡ true → n ≤ length bytes → whole_behind (rest_after rest n bytes) (drop n bytes) ≡ true

-- what is left of a message in mid-way does not depend on the pieces in which it went
abbrev pub PiecesJoin : Type 0
PiecesJoin =
    (rest m n : ℕ) (bytes : List ℕ) → rest_after (rest_after rest m bytes) n (drop m bytes) ≡ rest_after rest (m + n) bytes

-- nothing is left of messages that went whole, whatever follows them
abbrev pub WholeLeaveNothing : Type 0
WholeLeaveNothing =
    (rest : ℕ) (messages more : List ℕ) → whole_behind rest messages ≡ true → rest_after rest (length messages) (messages ++ more) ≡ 0
