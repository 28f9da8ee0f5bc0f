-- The laws of inboxes, as statements. Each is proved of a function in `src/laws.rt`. A guest's bytes come in pieces of any
-- length (xenstore-ring.txt), and messages leave the front of the inbox at any time.
use Rattle.std.specs.Prelude.{◌≡◌, ℕ, ◌+◌, ◌<◌, ◌≤◌, Bool, true, false, List, [], ◌∷◌, ◌++◌, length, take, drop, min}
use Rattle.std.specs.List.{AllByRecursion}
use Rattle.world_model.specs.Fronts.{Front, Whole, TooLong, Part, front, is_part, intake}
use Rattle.msg_reassembly.specs.Inboxes.{room, messages_of}

-- WHOLE MESSAGES. A front is whole
abbrev pub is_whole : Front → Bool
is_whole (Whole n) = true
is_whole (TooLong len) = false
is_whole Part = false

-- lists, one after the other
abbrev pub joined : List (List ℕ) → List ℕ
joined [] = []
joined (m ∷ ms) = m ++ joined ms

-- bytes are these whole messages, and then what does not begin with one
pub record Splits (bytes : List ℕ) (messages : List (List ℕ)) (rest : List ℕ) : Type 0 where
  pub whole : bytes ≡ joined messages ++ rest
  pub each : AllByRecursion (λ m. front m ≡ Whole (length m)) messages
  pub ends : is_whole (front rest) ≡ false

-- every byte list splits so into its whole messages, and into no other messages
abbrev pub SplitsOneWay : Type 0
SplitsOneWay =
    (bytes : List ℕ) → record {
      found : (rest : List ℕ) × Splits bytes (messages_of bytes) rest;
      only : (messages : List (List ℕ)) (rest : List ℕ) → Splits bytes messages rest → messages ≡ messages_of bytes;
    }

-- CUTS. What happens to an inbox: bytes come, or the message in front leaves, if it is whole
pub data Move : Type 0 where
  Feed : List ℕ → Move
  Leave : Move

-- the bytes in an inbox, and the messages that left it
pub record Inbox : Type 0 where
  pub bytes : List ℕ
  pub left : List (List ℕ)

abbrev pub empty_inbox : Inbox
empty_inbox = record { bytes = []; left = [] }

abbrev pub without_front : Front → Inbox → Inbox
without_front (Whole n) inbox = record { bytes = drop n inbox.bytes; left = inbox.left ++ take n inbox.bytes ∷ [] }
without_front (TooLong len) inbox = inbox
without_front Part inbox = inbox

abbrev pub moved : Inbox → Move → Inbox
moved inbox (Feed bytes) = record { bytes = inbox.bytes ++ bytes; left = inbox.left }
moved inbox Leave = without_front (front inbox.bytes) inbox

abbrev pub all_moved : Inbox → List Move → Inbox
all_moved inbox [] = inbox
all_moved inbox (move ∷ moves) = all_moved (moved inbox move) moves

-- all bytes that came
abbrev pub fed : List Move → List ℕ
fed [] = []
fed (Feed bytes ∷ moves) = bytes ++ fed moves
fed (Leave ∷ moves) = fed moves

-- However the bytes were cut, and whenever messages left: those that left and those that are whole in the inbox are the
-- whole messages of all bytes that came.
abbrev pub CutsDoNotMatter : Type 0
CutsDoNotMatter =
    (moves : List Move) → (all_moved empty_inbox moves).left ++ messages_of (all_moved empty_inbox moves).bytes ≡ messages_of (fed moves)

-- INTAKE is the greatest number of the bytes such that before each of them the front is less than a message
pub record IsMost (inbox bytes : List ℕ) (n : ℕ) : Type 0 where
  pub there : n ≤ length bytes
  pub before : (m : ℕ) → m < n → is_part (front (inbox ++ take m bytes)) ≡ true
  pub ends : n < length bytes → is_part (front (inbox ++ take n bytes)) ≡ false

abbrev pub IntakeIsMost : Type 0
IntakeIsMost = (inbox bytes : List ℕ) → IsMost inbox bytes (intake inbox bytes)

-- one step of a server takes at most as many bytes as the inbox has room for
abbrev pub one_step : List ℕ → List ℕ → ℕ
one_step inbox bytes = min (room inbox) (length bytes)

-- two steps, which end at the header's end and at the message's, take them all
abbrev pub IntakeIsTwoSteps : Type 0
IntakeIsTwoSteps =
    (inbox bytes : List ℕ) → let first = one_step inbox bytes in
    intake inbox bytes ≡ first + one_step (inbox ++ take first bytes) (drop first bytes)
