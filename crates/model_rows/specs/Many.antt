-- Rows that are too long to be written out.
use Rattle.std.specs.Prelude.{ℕ, zero, suc, ◌+◌, List, [], ◌∷◌, ◌++◌, replicate, codes, decimal}
use Rattle.text_model.specs.Hex.{hex}
use Rattle.xs_model.specs.declared.message.kind.TheConstants.{WATCH, WRITE}
use Rattle.xs_model.specs.Messages.{message_bytes, string}
use Rattle.model_rows.specs.Steps.{Step, Asks, Gives, words}

-- n watches of `/`, with the tokens 1 to n from `from` on, each answered by its first event
abbrev pub watches : ℕ → ℕ → List Step
watches from zero = []
watches from (suc n) =
    Asks 5 WATCH 0 (codes "/|" ++ (decimal from ++ codes "|")) (Gives (codes "OK|")) ((codes "/|" ++ (decimal from ++ codes "|")) ∷ [])
    ∷ watches (from + 1) n

-- WRITE to `/a` of a value that no ring holds with its header
abbrev pub large_write : List ℕ
large_write =
    message_bytes (record { kind = WRITE; req_id = 5; tx_id = 0; payload = string (codes "/a") ++ replicate 1021 120 })

abbrev pub send_line : List ℕ → List ℕ
send_line bytes = words (codes "send") 0 (hex bytes)
