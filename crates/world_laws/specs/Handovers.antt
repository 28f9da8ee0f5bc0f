-- Handovers do not show: a script without them prints the same lines, but for those that tell of the handovers.
use Rattle.std.specs.Prelude.{◌≡◌, ℕ, Bool, not, List, [], ◌∷◌, ◌++◌, filter, flat_map, nat_eq, Option, Ok, codes}
use Rattle.std.specs.List.{starts_with}
use Rattle.std.specs.Str.{bytes_eq}
use Rattle.world_model.specs.declared.Said.{Said}
use Rattle.world_model.specs.Lines.{lines_of}
use Rattle.world_model.specs.Worlds.{World}
use Rattle.world_model.specs.Scripts.{Script, script_of}
use Rattle.world_model.specs.Transcripts.{is_handover, script_lines, transcript_with}

-- some lines as a text
abbrev pub text_of : List (List ℕ) → List ℕ
text_of lines = flat_map (λ line. line ++ 10 ∷ []) lines

-- a transcript without the lines that tell of handovers: those that begin with this word
abbrev pub tells_of_handover : List ℕ → Bool
tells_of_handover line = starts_with nat_eq line (codes "handover")

abbrev pub without_handover_lines : List ℕ → List ℕ
without_handover_lines text = text_of (filter (λ line. not (tells_of_handover line)) (lines_of text))

-- a script without handovers
abbrev pub without_handovers : Script → Script
without_handovers script =
    record { resume = script.resume; domains = script.domains; events = filter (λ e. not (is_handover e)) script.events }

-- a script's text without the lines that ask for handovers: those that are this word
abbrev pub without_handover_requests : List ℕ → List ℕ
without_handover_requests text = text_of (filter (λ line. not (bytes_eq line (codes "handover"))) (lines_of text))

-- THE LAWS, whatever the handovers say, and whatever world a stream to resume leads to
abbrev pub DeletingHandoversChangesNothing : Type 0
DeletingHandoversChangesNothing =
    (resume : List ℕ → Option World) (types : List ℕ) (script : Script) (says : List Said)
    → without_handover_lines (script_lines resume types script says) ≡ script_lines resume types (without_handovers script) []

-- what is left of a script's text is a script's text
abbrev pub HandoversMayBeDeleted : Type 0
HandoversMayBeDeleted =
    (text : List ℕ) (script : Script) → script_of text ≡ Ok script → script_of (without_handover_requests text) ≡ Ok (without_handovers script)

-- both, from text to text
abbrev pub TranscriptsHideHandovers : Type 0
TranscriptsHideHandovers =
    (resume : List ℕ → Option World) (types text : List ℕ) (script : Script) (says : List Said) → script_of text ≡ Ok script
    → without_handover_lines (transcript_with resume types text says) ≡ transcript_with resume types (without_handover_requests text) []
