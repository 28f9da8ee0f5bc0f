-- How rows spell requests and their answers, as tables: who asks for what in which transaction, and what comes back.
-- Every request has the number 1. A `|` in a payload stands for a NUL byte.
use Rattle.std.specs.Prelude.{◌≡◌, ℕ, ◌==◌, List, [], ◌∷◌, ◌++◌, length, map, flat_map, if◌then◌else◌, codes, decimal}
use Rattle.text_model.specs.Hex.{hex}
use Rattle.xs_model.specs.declared.message.kind.TheConstants.{ERROR, WATCH_EVENT}
use Rattle.xs_model.specs.Messages.{Message, message_bytes, string}
use Rattle.xs_model.specs.Requests.{all_types}
use Rattle.world_model.specs.Transcripts.{transcript_with}
use Rattle.model_rows.specs.Texts.{text_of, no_stream}

abbrev pub barred : List ℕ → List ℕ
barred text = map (λ b. if b == 124 then 0 else b) text

-- what comes back for a request: a payload, or the name of an error
pub data Answer : Type 0 where
  Gives : List ℕ → Answer
  Refuses : List ℕ → Answer

pub data Step : Type 0 where
  -- a line that prints nothing
  Head : List ℕ → Step
  -- a line, and what it prints
  Line : List ℕ → List ℕ → Step
  -- domain, type, transaction and payload; then the answer, and the payloads of the events that come with it
  Asks : ℕ → ℕ → ℕ → List ℕ → Answer → List (List ℕ) → Step
  -- the payloads of the events that a domain takes for what another one did
  Hears : ℕ → List (List ℕ) → Step

abbrev pub asked_message : ℕ → ℕ → List ℕ → Message
asked_message kind tx payload = record { kind = kind; req_id = 1; tx_id = tx; payload = barred payload }

abbrev pub answer_message : ℕ → ℕ → Answer → Message
answer_message kind tx (Gives payload) = asked_message kind tx payload
answer_message kind tx (Refuses name) = record { kind = ERROR; req_id = 1; tx_id = tx; payload = string name }

abbrev pub event_bytes : List ℕ → List ℕ
event_bytes payload = message_bytes (record { kind = WATCH_EVENT; req_id = 0; tx_id = 0; payload = barred payload })

-- a verb, a domain and a last field
abbrev pub words : List ℕ → ℕ → List ℕ → List ℕ
words verb d field = verb ++ (32 ∷ (decimal d ++ (32 ∷ field)))

abbrev pub script_lines : Step → List (List ℕ)
script_lines (Head line) = line ∷ []
script_lines (Line line printed) = line ∷ []
script_lines (Asks d kind tx payload answer events) =
    words (codes "send") d (hex (message_bytes (asked_message kind tx payload))) ∷ (codes "serve " ++ decimal d) ∷ []
script_lines (Hears d events) = words (codes "out") d (codes "4112") ∷ words (codes "take") d (codes "4112") ∷ []

abbrev pub taken_lines : ℕ → List ℕ → List (List ℕ)
taken_lines d bytes = words (codes "out") d (decimal (length bytes)) ∷ words (codes "take") d (hex bytes) ∷ []

abbrev pub served_lines : ℕ → ℕ → List ℕ → List (List ℕ)
served_lines d asked bytes =
    words (codes "send") d (decimal asked) ∷ words (codes "put") d (decimal asked) ∷ words (codes "intake") d (decimal asked)
    ∷ words (codes "do") d (codes "done") ∷ taken_lines d bytes

abbrev pub printed_lines : Step → List (List ℕ)
printed_lines (Head line) = []
printed_lines (Line line printed) = printed ∷ []
printed_lines (Asks d kind tx payload answer events) =
    served_lines d (length (message_bytes (asked_message kind tx payload)))
    (message_bytes (answer_message kind tx answer) ++ flat_map event_bytes events)
printed_lines (Hears d events) = taken_lines d (flat_map event_bytes events)

abbrev pub script : List Step → List (List ℕ)
script [] = []
script (step ∷ steps) = script_lines step ++ script steps

abbrev pub printed : List Step → List (List ℕ)
printed [] = []
printed (step ∷ steps) = printed_lines step ++ printed steps

-- the script of the steps prints what they say
abbrev pub Plays : List Step → Type 0
Plays steps = transcript_with no_stream all_types (text_of (script steps)) [] ≡ text_of (printed steps)
