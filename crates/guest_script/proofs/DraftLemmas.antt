-- One more line of a script that is read line by line.
use Rattle.std.proofs.Common.{◌≡◌, ℕ, ◌+◌, Bool, true, false, not, ◌&&◌, cond, List, [], ◌∷◌, ◌++◌, map, reverse, Option, Some, None, is_some, Result, Ok, Err, refl, sym, ap, ◌∙◌, append_assoc}
use Rattle.std.proofs.lemmas.List.{append-nil, map-append, reverse-append}
use Rattle.world_model.specs.declared.LineKind.{LineKind}
use Rattle.world_model.specs.declared.LineKind.TheVariants.{Place}
use Rattle.world_model.specs.Worlds.{Event}
use Rattle.world_model.specs.Lines.{lines_of}
use Rattle.world_model.specs.Scripts.{◌>>=◌, line_of, Script, DomainLine, LineOf, Nothing, Resume, Domain, Events, Before, LineFault, empty_script, is_empty_list, with_line, onto_script, placed, placed_line, past_line, go_on, at_start, script_from, script_of}
use Rattle.guest_script.specs.Drafts.{first_stream, joined, followed, domids_of, has_events, place_of, IsSoundLine, Adds, behind_script, rest_of_script, GoesOn, ReadsLine}
use Rattle.guest_script.specs.declared.fault.LineFault.{LineFault as Fault}
use Rattle.guest_script.specs.declared.fault.LineFault.TheVariants as fault

-- A LINE BETWEEN TWO SCRIPTS
not_resumed : (body none : Bool) (resume : Option (List ℕ)) (line : LineOf) → cond (not body && (not (is_some resume) && none)) (Ok line) (Err Place) ≡ Ok line → resume ≡ None
not_resumed true none resume line h = cc
not_resumed false none None line h = refl
not_resumed false none (Some bytes) line h = cc

first_stream-resumed : (resume later : Option (List ℕ)) (bytes : List ℕ) → resume ≡ None → first_stream resume (Some bytes) ≡ first_stream (Some bytes) later
first_stream-resumed resume later bytes is = ap (λ r. first_stream r (Some bytes)) is

joined_more : (script later : Script) (line : LineOf) → placed (place_of script) line ≡ Ok line → joined script (with_line line later) ≡ joined (followed script line) later
joined_more script later Nothing may = refl
joined_more script later (Resume bytes) may =
    let fresh = not_resumed (has_events script.events) (is_empty_list (domids_of script.domains)) script.resume (Resume bytes) may in
    λ i. record {
      resume = first_stream-resumed script.resume later.resume bytes fresh i;
      domains = script.domains ++ later.domains;
      events = script.events ++ later.events;
    }
joined_more script later (Domain d start) may = λ i. record {
  resume = first_stream script.resume later.resume;
  domains = sym (append_assoc script.domains (record { domid = d; start = start } ∷ []) later.domains) i;
  events = script.events ++ later.events;
}
joined_more script later (Events es) may = λ i. record {
  resume = first_stream script.resume later.resume;
  domains = script.domains ++ later.domains;
  events = sym (append_assoc script.events es later.events) i;
}

behind_more : (script : Script) (line : LineOf) (rest : Result Script LineFault) → placed (place_of script) line ≡ Ok line → behind_script script (onto_script line rest) ≡ behind_script (followed script line) rest
behind_more script line (Ok later) may = ap Ok (joined_more script later line may)
behind_more script line (Err fault) may = refl

-- WHAT STANDS BEFORE THE NEXT LINE
domids_of-push : (lines : List DomainLine) (line : DomainLine) → line.domid ∷ domids_of lines ≡ domids_of (lines ++ line ∷ [])
domids_of-push lines line =
    let domid_of = λ (l : DomainLine). l.domid in
    sym (ap reverse (map-append domid_of lines (line ∷ [])) ∙ reverse-append (map domid_of lines) (line.domid ∷ []))

is_in_body : (events more : List Event) → has_events more ≡ true → true ≡ has_events (events ++ more)
is_in_body [] more some = sym some
is_in_body (e ∷ events) more some = refl

place_more : (script : Script) (line : LineOf) → IsSoundLine line → past_line line (place_of script) ≡ place_of (followed script line)
place_more script Nothing sound = refl
place_more script (Resume bytes) sound = refl
place_more script (Domain d start) sound = λ i. record {
  resumed = is_some script.resume;
  domids = domids_of-push script.domains (record { domid = d; start = start }) i;
  in_body = has_events script.events;
}
place_more script (Events es) sound = λ i. record {
  resumed = is_some script.resume;
  domids = domids_of script.domains;
  in_body = is_in_body script.events es sound.0 i;
}

-- ONE MORE LINE
pub goes_on : (old new : Script) (text : List ℕ) (line : LineOf) → placed_line (place_of old) text ≡ Ok line → placed (place_of old) line ≡ Ok line → IsSoundLine line → new ≡ followed old line → GoesOn old text new
goes_on old new text line read may sound is n lines =
    ap (λ (r : Result LineOf LineKind). behind_script old (go_on n r (λ l. script_from (n + 1) (past_line l (place_of old)) lines))) read
    ∙ behind_more old line (script_from (n + 1) (past_line line (place_of old)) lines) may
    ∙ ap (λ (b : Before). behind_script (followed old line) (script_from (n + 1) b lines)) (place_more old line sound)
    ∙ ap (λ s. rest_of_script s (n + 1) lines) (sym is)

pub stops_at : (old : Script) (text : List ℕ) (kind : LineKind) (n : ℕ) (lines : List (List ℕ)) → placed_line (place_of old) text ≡ Err kind → rest_of_script old n (text ∷ lines) ≡ Err (record { line = n; kind = kind })
stops_at old text kind n lines fault =
    ap (λ (r : Result LineOf LineKind). behind_script old (go_on n r (λ l. script_from (n + 1) (past_line l (place_of old)) lines))) fault

-- a line by itself, and then its place
pub reads_line : (old new : Script) (text : List ℕ) (line : LineOf) (result : Result (Unit {0}) Fault) → line_of text ≡ Ok line → IsSoundLine line → Adds old line new result → ReadsLine old text new result
reads_line old new text line (Ok done) is sound adds =
    goes_on old new text line (ap (λ (r : Result LineOf LineKind). r >>= placed (place_of old)) is ∙ adds.0) adds.0 sound adds.1
reads_line old new text line (Err (fault.Kind kind)) is sound adds =
    ap (λ (r : Result LineOf LineKind). r >>= placed (place_of old)) is ∙ adds
reads_line old new text line (Err fault.NoMemory) is sound adds = tt

-- THE FIRST LINE AND THE LAST
behind_empty : (rest : Result Script LineFault) → rest ≡ behind_script empty_script rest
behind_empty (Ok script) = refl
behind_empty (Err fault) = refl

pub all_left : (lines : List (List ℕ)) → script_from 1 at_start lines ≡ rest_of_script empty_script 1 lines
all_left lines = behind_empty (script_from 1 at_start lines)

first_stream-none : (resume : Option (List ℕ)) → first_stream resume None ≡ resume
first_stream-none None = refl
first_stream-none (Some bytes) = refl

pub none_left : (script : Script) (n : ℕ) → rest_of_script script n [] ≡ Ok script
none_left script n = λ i. Ok (record {
  resume = first_stream-none script.resume i;
  domains = append-nil script.domains i;
  events = append-nil script.events i;
})

-- where no line is left, the script so far is the text's
pub whole_script : (script : Script) (n : ℕ) (rest bytes : List ℕ) → rest ≡ [] → rest_of_script script n (lines_of rest) ≡ script_of bytes → script_of bytes ≡ Ok script
whole_script script n rest bytes empty left =
    sym left ∙ ap (λ r. rest_of_script script n (lines_of r)) empty ∙ none_left script n
