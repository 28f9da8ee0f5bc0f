-- A script's text without its lines `handover` is a text of the script without handovers.
use Rattle.std.specs.Prelude.{◌≡◌, ℕ, ◌+◌, ◌==◌, Bool, true, false, cond, not, ◌&&◌, List, [], ◌∷◌, ◌++◌, filter, Option, Result, Ok, Err, codes, is_ok, ◌⊎◌}
use Rattle.std.specs.List.{list_any}
use Rattle.std.specs.Str.{bytes_eq}
use Rattle.std.specs.Cmp.Lexicographic.{bytes_decides}
use Rattle.std.proofs.Common.{refl, sym, ap, subst, ◌∙◌, inl, inr, eqb-true}
use Rattle.std.proofs.lemmas.Bool.{cases_Bool}
use Rattle.xs_model.proofs.Maps.{not_both}
use Rattle.world_model.specs.declared.LineKind.{LineKind}
use Rattle.world_model.specs.declared.LineKind.TheVariants as kind
use Rattle.world_model.specs.declared.Said.{Said}
use Rattle.world_model.specs.Lines.{lines_of}
use Rattle.world_model.specs.Worlds.{World, Event, Send, Put, Intake, Do, Out, Take, Poke, ShowPage, Handover, serve}
use Rattle.world_model.specs.Scripts.{Script, ◌>>=◌, domid_field, word_field, count_field, hex_field, which_field, the_word, LineOf, Nothing, Resume, Domain, Events, one_event, one_field, two_fields, three_fields, domain_verb, count_verb, send_verb, poke_verb, handover_verb, resume_verb, domain_line, alone, by_verb, onto_field, fields_of, verb_line, line_of, Before, is_empty_list, may_resume, may_name, placed, past_line, with_line, LineFault, onto_script, placed_line, go_on, script_from, script_of, at_start}
use Rattle.world_model.specs.Transcripts.{spaced, is_handover, transcript_of, transcript_with}
use Rattle.world_laws.specs.Handovers.{without_handover_lines, without_handovers, without_handover_requests}
use Rattle.world_laws.proofs.PlainLemmas.{Plain, lines_plain, lines_again, each_left}
use Rattle.world_laws.proofs.HandoverLemmas.{script_without}

abbrev stays : Event → Bool
stays e = not (is_handover e)

abbrev is_left : List ℕ → Bool
is_left line = not (bytes_eq line (codes "handover"))

-- LINES THAT ARE NO HANDOVER have events that are none
abbrev Clean : Result LineOf LineKind → Type 0
Clean (Err k) = Unit {0}
Clean (Ok Nothing) = Unit {0}
Clean (Ok (Resume bytes)) = Unit {0}
Clean (Ok (Domain d start)) = Unit {0}
Clean (Ok (Events es)) = filter stays es ≡ es

bind_clean : {A : Type 0} (r : Result A LineKind) (f : A → Result LineOf LineKind) → ((x : A) → Clean (f x)) → Clean (r >>= f)
bind_clean (Ok x) f to = to x
bind_clean (Err k) f to = tt

if_clean : (b : Bool) (x y : Result LineOf LineKind) → (b ≡ true → Clean x) → Clean y → Clean (cond b x y)
if_clean true x y p q = p refl
if_clean false x y p q = q

domain_clean : (make : ℕ → List Event) → ((d : ℕ) → filter stays (make d) ≡ make d) → (fields : List (List ℕ)) → Clean (domain_verb make fields)
domain_clean make to fields =
    bind_clean (one_field fields) (λ field. domid_field field >>= λ domid. Ok (Events (make domid))) (λ field.
    bind_clean (domid_field field) (λ domid. Ok (Events (make domid))) (λ domid. to domid))

count_clean : (make : ℕ → ℕ → Event) → ((d max : ℕ) → is_handover (make d max) ≡ false) → (fields : List (List ℕ)) → Clean (count_verb make fields)
count_clean make to fields =
    bind_clean (two_fields fields) (λ both. domid_field both.0 >>= λ domid. count_field both.1 >>= λ max. one_event (make domid max)) (λ both.
    bind_clean (domid_field both.0) (λ domid. count_field both.1 >>= λ max. one_event (make domid max)) (λ domid.
    bind_clean (count_field both.1) (λ max. one_event (make domid max)) (λ max. ap (λ b. cond (not b) (make domid max ∷ []) []) (to domid max))))

send_clean : (fields : List (List ℕ)) → Clean (send_verb fields)
send_clean fields =
    bind_clean (two_fields fields) (λ both. domid_field both.0 >>= λ domid. hex_field both.1 >>= λ bytes. one_event (Send domid bytes)) (λ both.
    bind_clean (domid_field both.0) (λ domid. hex_field both.1 >>= λ bytes. one_event (Send domid bytes)) (λ domid.
    bind_clean (hex_field both.1) (λ bytes. one_event (Send domid bytes)) (λ bytes. refl)))

poke_clean : (fields : List (List ℕ)) → Clean (poke_verb fields)
poke_clean fields =
    bind_clean (three_fields fields) (λ all. domid_field all.0 >>= λ domid. which_field all.1 >>= λ which. word_field all.2 >>= λ value. one_event (Poke domid which value)) (λ all.
    bind_clean (domid_field all.0) (λ domid. which_field all.1 >>= λ which. word_field all.2 >>= λ value. one_event (Poke domid which value)) (λ domid.
    bind_clean (which_field all.1) (λ which. word_field all.2 >>= λ value. one_event (Poke domid which value)) (λ which.
    bind_clean (word_field all.2) (λ value. one_event (Poke domid which value)) (λ value. refl))))

resume_clean : (fields : List (List ℕ)) → Clean (resume_verb fields)
resume_clean fields =
    bind_clean (one_field fields) (λ field. hex_field field >>= λ bytes. Ok (Resume bytes)) (λ field.
    bind_clean (hex_field field) (λ bytes. Ok (Resume bytes)) (λ bytes. tt))

domain_line_clean : (fields : List (List ℕ)) → Clean (domain_line fields)
domain_line_clean fields =
    bind_clean (three_fields fields) (λ all. domid_field all.0 >>= λ domid. the_word (codes "at") all.1 >>= λ at. word_field all.2 >>= λ start. Ok (Domain domid start)) (λ all.
    bind_clean (domid_field all.0) (λ domid. the_word (codes "at") all.1 >>= λ at. word_field all.2 >>= λ start. Ok (Domain domid start)) (λ domid.
    bind_clean (the_word (codes "at") all.1) (λ at. word_field all.2 >>= λ start. Ok (Domain domid start)) (λ at.
    bind_clean (word_field all.2) (λ start. Ok (Domain domid start)) (λ start. tt))))

handover_clean : (fields : List (List ℕ)) → (fields ≡ [] → ⊥) → Clean (handover_verb fields)
handover_clean [] some = absurd (some refl)
handover_clean (f ∷ fields) some = tt

verb_clean : (verb : List ℕ) (fields : List (List ℕ)) → (bytes_eq verb (codes "handover") ≡ true → fields ≡ [] → ⊥) → Clean (by_verb verb fields)
verb_clean verb fields other =
    if_clean (bytes_eq verb (codes "send")) (send_verb fields) _ (λ t. send_clean fields)
    (if_clean (bytes_eq verb (codes "put")) (count_verb Put fields) _ (λ t. count_clean Put (λ d max. refl) fields)
    (if_clean (bytes_eq verb (codes "intake")) (count_verb Intake fields) _ (λ t. count_clean Intake (λ d max. refl) fields)
    (if_clean (bytes_eq verb (codes "do")) (domain_verb (alone Do) fields) _ (λ t. domain_clean (alone Do) (λ d. refl) fields)
    (if_clean (bytes_eq verb (codes "out")) (count_verb Out fields) _ (λ t. count_clean Out (λ d max. refl) fields)
    (if_clean (bytes_eq verb (codes "take")) (count_verb Take fields) _ (λ t. count_clean Take (λ d max. refl) fields)
    (if_clean (bytes_eq verb (codes "poke")) (poke_verb fields) _ (λ t. poke_clean fields)
    (if_clean (bytes_eq verb (codes "page")) (domain_verb (alone ShowPage) fields) _ (λ t. domain_clean (alone ShowPage) (λ d. refl) fields)
    (if_clean (bytes_eq verb (codes "serve")) (domain_verb serve fields) _ (λ t. domain_clean serve (λ d. refl) fields)
    (if_clean (bytes_eq verb (codes "handover")) (handover_verb fields) _ (λ t. handover_clean fields (other t))
    (if_clean (bytes_eq verb (codes "domain")) (domain_line fields) _ (λ t. domain_line_clean fields)
    (if_clean (bytes_eq verb (codes "resume")) (resume_verb fields) (Err kind.Verb) (λ t. resume_clean fields) tt)))))))))))

-- the fields of a line, with spaces between, are the line
record Fields (line : List ℕ) : Type 0 where
  first : List ℕ
  rest : List (List ℕ)
  are : fields_of line ≡ first ∷ rest
  join : spaced (first ∷ rest) ≡ line

longer_field : (b : ℕ) (f : List ℕ) (fs : List (List ℕ)) → spaced ((b ∷ f) ∷ fs) ≡ b ∷ spaced (f ∷ fs)
longer_field b f [] = refl
longer_field b f (g ∷ fs) = refl

line_fields : (line : List ℕ) → Fields line
line_fields [] = record { first = []; rest = []; are = refl; join = refl }
line_fields (b ∷ bs) =
    let r = line_fields bs in
    elim (cases_Bool (b == 32)) [
      | inl t ↦ record {
        first = [];
        rest = r.first ∷ r.rest;
        are = ap (λ x. cond x ([] ∷ fields_of bs) (onto_field b (fields_of bs))) t ∙ ap (λ fs. [] ∷ fs) r.are;
        join = ap (λ xs. 32 ∷ xs) r.join ∙ ap (λ x. x ∷ bs) (sym (eqb-true b 32 t));
      }
      | inr f ↦ record {
        first = b ∷ r.first;
        rest = r.rest;
        are = ap (λ x. cond x ([] ∷ fields_of bs) (onto_field b (fields_of bs))) f ∙ ap (onto_field b) r.are;
        join = longer_field b r.first r.rest ∙ ap (λ xs. b ∷ xs) r.join;
      }
    ]

line_clean : (line : List ℕ) → bytes_eq line (codes "handover") ≡ false → Clean (line_of line)
line_clean [] other = tt
line_clean (b ∷ bs) other =
    let r = line_fields (b ∷ bs) in
    if_clean (b == 35) (Ok Nothing) (verb_line (fields_of (b ∷ bs))) (λ t. tt) (subst (λ fs. Clean (verb_line fs)) (sym r.are) (verb_clean r.first r.rest (λ t none.
    let line : b ∷ bs ≡ codes "handover" = sym r.join ∙ ap (λ fs. spaced (r.first ∷ fs)) none ∙ (bytes_decides r.first (codes "handover")).0 t in
    not_both ((bytes_decides (b ∷ bs) (codes "handover")).1 line) other)))

-- THE LINES AFTER ONE: behind the same lines, or in the body, where no head line may stand
abbrev Follows : Before → Before → Type 0
Follows before before' = (before ≡ before') ⊎ (before.in_body ≡ true)

left_events : (es fs : List Event) → filter stays (es ++ fs) ≡ filter stays es ++ filter stays fs
left_events [] fs = refl
left_events (e ∷ es) fs =
    let rest = left_events es fs in
    elim (stays e) as (λ b. cond b (e ∷ filter stays (es ++ fs)) (filter stays (es ++ fs)) ≡ cond b (e ∷ filter stays es) (filter stays es) ++ filter stays fs) [ true ↦ ap (λ xs. e ∷ xs) rest | false ↦ rest ]

left_line : (l : LineOf) (script : Script) → Clean (Ok l) → without_handovers (with_line l script) ≡ with_line l (without_handovers script)
left_line Nothing script c = refl
left_line (Resume bytes) script c = refl
left_line (Domain d start) script c = refl
left_line (Events es) script c = ap (λ xs. record { resume = script.resume; domains = script.domains; events = xs }) (left_events es script.events ∙ ap (λ xs. xs ++ filter stays script.events) c)

abbrev script_or : Script → Result Script LineFault → Script
script_or default (Ok script) = script
script_or default (Err fault) = default

from_Ok : {x y : Script} → ◌≡◌ {A = Result Script LineFault} (Ok x) (Ok y) → x ≡ y
from_Ok {x = x} e = ap (script_or x) e

onto_ok : (l : LineOf) (r : Result Script LineFault) (script : Script) → onto_script l r ≡ Ok script → (rest : Script) × (r ≡ Ok rest) × (with_line l rest ≡ script)
onto_ok l (Ok rest) script e = (rest, refl, from_Ok e)
onto_ok l (Err fault) script e = not_both (ap is_ok e) refl

module _ (n m : ℕ) (lines left : List (List ℕ)) (later : (before before' : Before) → Follows before before' → (script : Script) → script_from (n + 1) before lines ≡ Ok script → script_from (m + 1) before' left ≡ Ok (without_handovers script)) where
  -- a line that is placed in both
  line_stays : (l : LineOf) (before before' : Before) → Clean (Ok l) → Follows (past_line l before) (past_line l before') → (script : Script)
      → onto_script l (script_from (n + 1) (past_line l before) lines) ≡ Ok script → onto_script l (script_from (m + 1) (past_line l before') left) ≡ Ok (without_handovers script)
  line_stays l before before' c follows script e =
      let r = onto_ok l (script_from (n + 1) (past_line l before) lines) script e in
      ap (onto_script l) (later (past_line l before) (past_line l before') follows r.0 r.1) ∙ ap Ok (sym (left_line l r.0 c) ∙ ap without_handovers r.2)

  abbrev placed_on : Before → LineOf → Result Script LineFault
  placed_on before l = go_on n (placed before l) (λ l. script_from (n + 1) (past_line l before) lines)

  abbrev placed_left : Before → LineOf → Result Script LineFault
  placed_left before l = go_on m (placed before l) (λ l. script_from (m + 1) (past_line l before) left)

  -- a head line, which the body refuses
  head_stays : (l : LineOf) (may : Before → Bool) → ((before : Before) → before.in_body ≡ true → may before ≡ false) → Clean (Ok l)
      → (before before' : Before) → Follows before before' → (script : Script)
      → go_on n (cond (may before) (Ok l) (Err kind.Place)) (λ l. script_from (n + 1) (past_line l before) lines) ≡ Ok script
      → go_on m (cond (may before') (Ok l) (Err kind.Place)) (λ l. script_from (m + 1) (past_line l before') left) ≡ Ok (without_handovers script)
  head_stays l may not_in_body c before before' follows script e = elim follows [
    | inl same ↦ subst (λ b. go_on m (cond (may b) (Ok l) (Err kind.Place)) (λ l. script_from (m + 1) (past_line l b) left) ≡ Ok (without_handovers script)) same (same_by (may before) e)
    | inr body ↦ not_both (ap is_ok (ap (λ b. go_on n (cond b (Ok l) (Err kind.Place)) (λ l. script_from (n + 1) (past_line l before) lines)) (sym (not_in_body before body)) ∙ e)) refl
  ]
    where
      same_by : (b : Bool) → go_on n (cond b (Ok l) (Err kind.Place)) (λ l. script_from (n + 1) (past_line l before) lines) ≡ Ok script → go_on m (cond b (Ok l) (Err kind.Place)) (λ l. script_from (m + 1) (past_line l before) left) ≡ Ok (without_handovers script)
      same_by true e = line_stays l before before c (inl refl) script e
      same_by false e = not_both (ap is_ok e) refl

  line_on : (l : LineOf) → Clean (Ok l) → (before before' : Before) → Follows before before' → (script : Script) → placed_on before l ≡ Ok script → placed_left before' l ≡ Ok (without_handovers script)
  line_on Nothing c before before' follows script e = line_stays Nothing before before' c follows script e
  line_on (Resume bytes) c before before' follows script e = head_stays (Resume bytes) may_resume (λ b body. ap (λ x. not x && (not b.resumed && is_empty_list b.domids)) body) c before before' follows script e
  line_on (Domain d start) c before before' follows script e = head_stays (Domain d start) (may_name d) (λ b body. ap (λ x. not x && not (list_any (λ e. e == d) b.domids)) body) c before before' follows script e
  line_on (Events es) c before before' follows script e = line_stays (Events es) before before' c (inr refl) script e

  read_on : (r : Result LineOf LineKind) → Clean r → (before before' : Before) → Follows before before' → (script : Script)
      → go_on n (r >>= placed before) (λ l. script_from (n + 1) (past_line l before) lines) ≡ Ok script → go_on m (r >>= placed before') (λ l. script_from (m + 1) (past_line l before') left) ≡ Ok (without_handovers script)
  read_on (Ok l) c before before' follows script e = line_on l c before before' follows script e
  read_on (Err k) c before before' follows script e = not_both (ap is_ok e) refl

-- THE WHOLE TEXT
script_on : (lines : List (List ℕ)) (n m : ℕ) (before before' : Before) → Follows before before' → (script : Script) → script_from n before lines ≡ Ok script → script_from m before' (filter is_left lines) ≡ Ok (without_handovers script)
script_on [] n m before before' follows script e = ap Ok (ap without_handovers (from_Ok e))
script_on (line ∷ lines) n m before before' follows script e =
    elim (bytes_eq line (codes "handover")) as (λ b. bytes_eq line (codes "handover") ≡ b → script_from m before' (cond (not b) (line ∷ filter is_left lines) (filter is_left lines)) ≡ Ok (without_handovers script)) [
      | true ↦ λ t.
          let asked : go_on n (Ok (Events (Handover ∷ []))) (λ l. script_from (n + 1) (past_line l before) lines) ≡ Ok script =
          subst (λ x. go_on n (placed_line before x) (λ l. script_from (n + 1) (past_line l before) lines) ≡ Ok script) ((bytes_decides line (codes "handover")).0 t) e
          in
          let r = onto_ok (Events (Handover ∷ [])) (script_from (n + 1) (past_line (Events (Handover ∷ [])) before) lines) script asked in
          script_on lines (n + 1) m (past_line (Events (Handover ∷ [])) before) before' (inr refl) r.0 r.1 ∙ ap Ok (ap without_handovers r.2)
      | false ↦ λ f.
          read_on n m lines (filter is_left lines) (λ b b' follow s h. script_on lines (n + 1) (m + 1) b b' follow s h) (line_of line) (line_clean line f) before before' follows script e
    ] refl

pub script_left : (text : List ℕ) (script : Script) → script_of text ≡ Ok script → script_of (without_handover_requests text) ≡ Ok (without_handovers script)
script_left text script e =
    ap (script_from 1 at_start) (lines_again (filter is_left (lines_of text)) (each_left Plain is_left (lines_of text) (lines_plain text)))
    ∙ script_on (lines_of text) 1 1 at_start at_start (inl refl) script e

pub transcript_left : (resume : List ℕ → Option World) (types text : List ℕ) (script : Script) (says : List Said) → script_of text ≡ Ok script
    → without_handover_lines (transcript_with resume types text says) ≡ transcript_with resume types (without_handover_requests text) []
transcript_left resume types text script says e =
    ap (λ r. without_handover_lines (transcript_of resume types r says)) e ∙ script_without resume types script says
    ∙ sym (ap (λ r. transcript_of resume types r []) (script_left text script e))
