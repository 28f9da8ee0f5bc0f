-- The lines of a stream, one after the other, through a buffer.
use Rattle.std.proofs.Common.{◌≡◌, ℕ, List, [], ◌∷◌, ◌++◌, Option, sym, ap, subst, ◌∙◌, append_assoc}
use Rattle.std.proofs.lemmas.List.{append-nil}
use Rattle.stream_model.specs.Record.{StreamRecord}
use Rattle.stream_model.specs.Places.{next_place}
use Rattle.stream_model.specs.View.{record_line, lines_from}
use Rattle.program_io.specs.Ends.{AppendsBut}

-- one more line in the buffer is one less to come
pub next_line : (lines pushed : List ℕ) (at next : ℕ) (bytes after : List ℕ) (records more : List StreamRecord) (item : StreamRecord)
    → records ≡ item ∷ more → pushed ≡ lines ++ record_line at item → after ≡ bytes → next ≡ next_place bytes at → pushed ++ lines_from next after more ≡ lines ++ lines_from at bytes records
next_line lines pushed at next bytes after records more item is line same step =
    rw (line, same, step) (append_assoc lines (record_line at item) (lines_from (next_place bytes at) bytes more)) ∙ ap (λ (x : List StreamRecord). lines ++ lines_from at bytes x) (sym is)

pub still_but : (old mid : Option (List ℕ)) (text before after : List ℕ) → after ≡ before → AppendsBut old mid text before → AppendsBut old mid text after
still_but old mid text before after same h = subst (λ (x : List ℕ). AppendsBut old mid text x) (sym same) h

-- no line is left but those in the buffer
pub none_left : (old new : Option (List ℕ)) (text lines : List ℕ) (at : ℕ) (bytes : List ℕ) (records : List StreamRecord) → records ≡ []
    → AppendsBut old new text (lines ++ lines_from at bytes records) → AppendsBut old new text lines
none_left old new text lines at bytes records none h =
    let same : lines ++ lines_from at bytes records ≡ lines = ap (λ (x : List StreamRecord). lines ++ lines_from at bytes x) none ∙ append-nil lines in
    subst (λ (x : List ℕ). AppendsBut old new text x) same h
