-- Whole messages, one after the other. Bytes leave in pieces of any length (xenstore-ring.txt), so what a connection has
-- still to send begins with what is left of a message that was sent in part, and whole messages follow.
use Rattle.std.specs.Prelude.{ℕ, zero, suc, ◌+◌, ◌-◌, Bool, true, false, ◌&&◌, List, [], ◌∷◌, length, nat_le}
use Rattle.xs_model.specs.declared.message.TheConstants.{PAYLOAD_MAX}
use Rattle.xs_model.specs.Messages.{word_at}

-- so many bytes has the message that begins here, by its header
abbrev pub message_length : List ℕ → ℕ
message_length bytes = 16 + word_at 12 bytes

-- a message begins here: its header, with a length that is allowed, and all of its payload
abbrev pub begins_message : List ℕ → Bool
begins_message bytes =
    nat_le 16 (length bytes) && (nat_le (word_at 12 bytes) PAYLOAD_MAX && nat_le (message_length bytes) (length bytes))

-- behind the first n bytes stand whole messages, one after the other, and nothing else
abbrev pub whole_behind : ℕ → List ℕ → Bool
whole_behind zero [] = true
whole_behind zero (b ∷ bs) = begins_message (b ∷ bs) && whole_behind (message_length (b ∷ bs) - 1) bs
whole_behind (suc n) [] = false
whole_behind (suc n) (b ∷ bs) = whole_behind n bs

-- Of the message in front `rest` bytes are left. So many are left of the message in front once n bytes went: each byte
-- is one less, and behind the last one the next message begins.
abbrev pub rest_after : ℕ → ℕ → List ℕ → ℕ
rest_after rest zero bytes = rest
rest_after rest (suc n) [] = rest
rest_after zero (suc n) (b ∷ bs) = rest_after (message_length (b ∷ bs) - 1) n bs
rest_after (suc rest) (suc n) (b ∷ bs) = rest_after rest n bs
