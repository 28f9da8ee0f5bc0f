-- The bytes of a message are a header and as many bytes as it says.
use Rattle.std.specs.Prelude.{◌≡◌, ℕ, ◌+◌, ◌*◌, ◌/◌, ◌%◌, ◌≤◌, length}
use Rattle.std.proofs.Common.{arith}
use Rattle.xs_model.specs.Messages.{Message}
use Rattle.machine_model.specs.Sizes.{IsOneMessage}

len_back : (n : ℕ) → n ≤ 4096 → n % 256 + 256 * (n / 256 % 256 + 256 * (n / 65536 % 256 + 256 * (n / 16777216 % 256 + 256 * 0))) ≡ n
len_back n h = omega arith

pub whole_of : (message : Message) → length message.payload ≤ 4096 → IsOneMessage message
whole_of message h = record { short = h; whole = omega (arith, len_back (length message.payload) h) }
