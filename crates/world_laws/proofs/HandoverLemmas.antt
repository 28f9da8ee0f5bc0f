-- A transcript without the lines of its handovers is that of the script without handovers.
use Rattle.std.specs.Prelude.{◌≡◌, ℕ, Bool, true, false, cond, not, List, [], ◌∷◌, ◌++◌, filter, Option, Some, None, codes}
use Rattle.std.proofs.Common.{refl, ap, ◌∙◌, append_assoc}
use Rattle.world_model.specs.declared.Said.{Said}
use Rattle.world_model.specs.Lines.{lines_of}
use Rattle.world_model.specs.Worlds.{World, Event, Send, Put, Intake, Do, Out, Take, Poke, ShowPage, Handover, event_with}
use Rattle.world_model.specs.Scripts.{Script}
use Rattle.world_model.specs.Transcripts.{spaced, event_words, said_words, said_line, handover_says, later_says, is_handover, lines_from, lines_at, start_of, script_lines}
use Rattle.world_laws.specs.Handovers.{text_of, tells_of_handover, without_handover_lines, without_handovers}
use Rattle.world_laws.proofs.PlainLemmas.{Plain, words_plain, first_line}

-- a line is left, or not
line_by : (line rest : List ℕ) (b : Bool) → Plain line → tells_of_handover line ≡ b → without_handover_lines ((line ++ 10 ∷ []) ++ rest) ≡ cond b (without_handover_lines rest) ((line ++ 10 ∷ []) ++ without_handover_lines rest)
line_by line rest b plain tells =
    ap without_handover_lines (append_assoc line (10 ∷ []) rest)
    ∙ ap (λ lines. text_of (filter (λ l. not (tells_of_handover l)) lines)) (first_line line rest plain)
    ∙ ap (λ t. text_of (cond (not t) (line ∷ filter (λ l. not (tells_of_handover l)) (lines_of rest)) (filter (λ l. not (tells_of_handover l)) (lines_of rest)))) tells
    ∙ chosen b
  where
    chosen : (b : Bool) → text_of (cond (not b) (line ∷ filter (λ l. not (tells_of_handover l)) (lines_of rest)) (filter (λ l. not (tells_of_handover l)) (lines_of rest))) ≡ cond b (without_handover_lines rest) ((line ++ 10 ∷ []) ++ without_handover_lines rest)
    chosen true = refl
    chosen false = refl

handover_tells : (words : List (List ℕ)) → tells_of_handover (spaced (codes "handover" ∷ words)) ≡ true
handover_tells [] = refl
handover_tells (w ∷ words) = refl

module _ (types : List ℕ) where
  -- an event that is no handover
  other : (e : Event) (said : Said) (taken rest left : List ℕ) → tells_of_handover (spaced (event_words e ++ said_words said taken)) ≡ false → without_handover_lines rest ≡ left
      → without_handover_lines (said_line e said taken ++ rest) ≡ said_line e said taken ++ left
  other e said taken rest left tells same =
      line_by (spaced (event_words e ++ said_words said taken)) rest false (words_plain e said taken) tells ∙ ap (λ r. said_line e said taken ++ r) same

  run_without : (w : World) (es : List Event) (says : List Said) → without_handover_lines (lines_from types w es says) ≡ lines_from types w (filter (λ e. not (is_handover e)) es) []
  run_without w [] says = refl
  run_without w (Send d bytes ∷ es) says = let t = event_with types (Send d bytes) w in other (Send d bytes) t.said t.taken (lines_from types t.world es says) _ refl (run_without t.world es says)
  run_without w (Put d max ∷ es) says = let t = event_with types (Put d max) w in other (Put d max) t.said t.taken (lines_from types t.world es says) _ refl (run_without t.world es says)
  run_without w (Intake d max ∷ es) says = let t = event_with types (Intake d max) w in other (Intake d max) t.said t.taken (lines_from types t.world es says) _ refl (run_without t.world es says)
  run_without w (Do d ∷ es) says = let t = event_with types (Do d) w in other (Do d) t.said t.taken (lines_from types t.world es says) _ refl (run_without t.world es says)
  run_without w (Out d max ∷ es) says = let t = event_with types (Out d max) w in other (Out d max) t.said t.taken (lines_from types t.world es says) _ refl (run_without t.world es says)
  run_without w (Take d max ∷ es) says = let t = event_with types (Take d max) w in other (Take d max) t.said t.taken (lines_from types t.world es says) _ refl (run_without t.world es says)
  run_without w (Poke d which v ∷ es) says = let t = event_with types (Poke d which v) w in other (Poke d which v) t.said t.taken (lines_from types t.world es says) _ refl (run_without t.world es says)
  run_without w (ShowPage d ∷ es) says = let t = event_with types (ShowPage d) w in other (ShowPage d) t.said t.taken (lines_from types t.world es says) _ refl (run_without t.world es says)
  run_without w (Handover ∷ es) says =
      line_by (spaced (event_words Handover ++ said_words (handover_says says) [])) (lines_from types w es (later_says says)) true (words_plain Handover (handover_says says) [])
      (handover_tells (said_words (handover_says says) []))
      ∙ run_without w es (later_says says)

start_without : (types : List ℕ) (start : Option World) (es : List Event) (says : List Said) → without_handover_lines (lines_at types start es says) ≡ lines_at types start (filter (λ e. not (is_handover e)) es) []
start_without types None es says = refl
start_without types (Some w) es says = run_without types w es says

pub script_without : (resume : List ℕ → Option World) (types : List ℕ) (script : Script) (says : List Said) → without_handover_lines (script_lines resume types script says) ≡ script_lines resume types (without_handovers script) []
script_without resume types script says = start_without types (start_of resume script) script.events says
