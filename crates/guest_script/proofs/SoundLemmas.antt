-- What holds of every line that is read: its numbers are within their bounds.
use Rattle.std.proofs.Common.{◌≡◌, ℕ, ◌≤◌, ◌<◌, ◌+◌, ◌==◌, ◌||◌, Bool, true, false, cond, ltb, List, [], ◌∷◌, ◌++◌, length, Option, Some, None, IfSome, Result, Ok, Err, IfOk, refl, arith, subst, codes}
use Rattle.std.proofs.lemmas.Bool.{ltb-false, eqb-false}
use Rattle.std.specs.List.{AllByRecursion}
use Rattle.std.specs.Str.{bytes_eq}
use Rattle.text_model.specs.declared.NumFault.{NumFault}
use Rattle.text_model.specs.declared.NumFault.TheVariants.{TooLarge}
use Rattle.text_model.specs.declared.HexFault.{HexFault}
use Rattle.text_model.specs.Decimal.{digits_number, bad_digit_from, number_unless, number_of}
use Rattle.text_model.specs.Hex.{bytes_of_hex}
use Rattle.world_model.specs.declared.LineKind.{LineKind}
use Rattle.world_model.specs.declared.LineKind.TheVariants as kind
use Rattle.world_model.specs.Worlds.{Event, Send, Put, Intake, Do, Out, Take, Poke, ShowPage, Handover, serve}
use Rattle.world_model.specs.Lines.{lines_of}
use Rattle.world_model.specs.Scripts.{◌>>=◌, Script, LineFault, Before, at_start, with_line, onto_script, may_resume, may_name, placed, placed_line, past_line, go_on, script_from, script_of, LineOf, Nothing, Resume, Domain, Events, number_or_fault, number_field, domid_field, word_field, count_field, positive, some_bytes, hex_field, which_field, the_word, no_field, one_field, two_fields, three_fields, one_event, domain_verb, count_verb, send_verb, poke_verb, handover_verb, resume_verb, domain_line, alone, by_verb, fields_of, verb_line, line_of}
use Rattle.guest_script.specs.Drafts.{IsDomid, IsCount, IsSoundEvent, IsSoundDomain, IsSoundLine}

-- one after the other, and one or the other
bind_holds : {A B : Type 0} (P : A → Type 0) (Q : B → Type 0) (r : Result A LineKind) (f : A → Result B LineKind) → IfOk r P → ((x : A) → P x → IfOk (f x) Q) → IfOk (r >>= f) Q
bind_holds P Q (Ok x) f holds more = more x holds
bind_holds P Q (Err kind) f holds more = tt

-- where nothing need be known of the first
bind_any : {A B : Type 0} (Q : B → Type 0) (r : Result A LineKind) (f : A → Result B LineKind) → ((x : A) → IfOk (f x) Q) → IfOk (r >>= f) Q
bind_any Q (Ok x) f more = more x
bind_any Q (Err kind) f more = tt

cond_holds : {A : Type 0} (P : A → Type 0) (b : Bool) (x y : Result A LineKind) → IfOk x P → IfOk y P → IfOk (cond b x y) P
cond_holds P true x y first second = first
cond_holds P false x y first second = second

-- NUMBERS
below_max : (over : Bool) (max n : ℕ) → ltb max n ≡ over → IfOk {T = ℕ} {E = NumFault} (cond over (Err TooLarge) (Ok n)) (λ n. n ≤ max)
below_max true max n is = tt
below_max false max n is = ltb-false max n is

short_or_long : (long : Bool) (max n : ℕ) → IfOk {T = ℕ} {E = NumFault} (cond (long || ltb max n) (Err TooLarge) (Ok n)) (λ n. n ≤ max)
short_or_long true max n = tt
short_or_long false max n = below_max (ltb max n) max n refl

unless_within : (bad : Option ℕ) (max : ℕ) (text : List ℕ) → IfOk (number_unless bad max text) (λ n. n ≤ max)
unless_within (Some at) max text = tt
unless_within None max text = short_or_long (ltb 20 (length text)) max (digits_number 0 text)

number_of_within : (max : ℕ) (text : List ℕ) → IfOk (number_of max text) (λ n. n ≤ max)
number_of_within max [] = tt
number_of_within max (b ∷ bs) = unless_within (bad_digit_from 0 (b ∷ bs)) max (b ∷ bs)

number_or_fault_holds : (P : ℕ → Type 0) (r : Result ℕ NumFault) → IfOk r P → IfOk (number_or_fault r) P
number_or_fault_holds P (Ok n) holds = holds
number_or_fault_holds P (Err fault) holds = tt

number_field_within : (max : ℕ) (field : List ℕ) → IfOk (number_field max field) (λ n. n ≤ max)
number_field_within max field = number_or_fault_holds (λ n. n ≤ max) (number_of max field) (number_of_within max field)

some_count : (none : Bool) (n : ℕ) → (n == 0) ≡ none → n ≤ 65536 → IfOk {T = ℕ} {E = LineKind} (cond none (Err kind.Number) (Ok n)) IsCount
some_count true n is within = tt
some_count false n is within =
    let other = eqb-false n 0 is in
    (omega (arith, other), within)

count_field_within : (field : List ℕ) → IfOk (count_field field) IsCount
count_field_within field =
    bind_holds (λ n. n ≤ 65536) IsCount (number_field 65536 field) positive (number_field_within 65536 field)
    (λ n within. some_count (n == 0) n refl within)

some_bytes_some : (r : Result (List ℕ) HexFault) → IfOk (some_bytes r) (λ bytes. 1 ≤ length bytes)
some_bytes_some (Ok []) = tt
some_bytes_some (Ok (b ∷ bs)) = omega arith
some_bytes_some (Err fault) = tt

hex_field_some : (field : List ℕ) → IfOk (hex_field field) (λ bytes. 1 ≤ length bytes)
hex_field_some field = some_bytes_some (bytes_of_hex field)

fits_word : (r : Result ℕ LineKind) → IfOk r (λ n. n ≤ 4294967295) → IfOk r (λ n. n < 4294967296)
fits_word (Ok n) within = omega arith
fits_word (Err kind) within = tt

word_fits : (field : List ℕ) → IfOk (word_field field) (λ n. n < 4294967296)
word_fits field = fits_word (word_field field) (number_field_within 4294967295 field)

-- VERBS
domain_verb_sound : (make : ℕ → List Event) (fields : List (List ℕ)) → ((d : ℕ) → IsDomid d → IsSoundLine (Events (make d))) → IfOk (domain_verb make fields) IsSoundLine
domain_verb_sound make fields sound =
    bind_any IsSoundLine (one_field fields) (λ field. domid_field field >>= λ d. Ok (Events (make d)))
    (λ field. bind_holds IsDomid IsSoundLine (domid_field field) (λ d. Ok (Events (make d))) (number_field_within 32751 field) sound)

count_verb_sound : (make : ℕ → ℕ → Event) (fields : List (List ℕ)) → ((d max : ℕ) → IsDomid d → IsCount max → IsSoundEvent (make d max)) → IfOk (count_verb make fields) IsSoundLine
count_verb_sound make fields sound =
    bind_any IsSoundLine (two_fields fields) (λ both. domid_field both.0 >>= λ d. count_field both.1 >>= λ max. one_event (make d max))
    (λ both. bind_holds IsDomid IsSoundLine (domid_field both.0) (λ d. count_field both.1 >>= λ max. one_event (make d max)) (number_field_within 32751 both.0)
    (λ d domid. bind_holds IsCount IsSoundLine (count_field both.1) (λ max. one_event (make d max)) (count_field_within both.1)
    (λ max count. (refl, (sound d max domid count, tt)))))

send_verb_sound : (fields : List (List ℕ)) → IfOk (send_verb fields) IsSoundLine
send_verb_sound fields =
    bind_any IsSoundLine (two_fields fields) (λ both. domid_field both.0 >>= λ d. hex_field both.1 >>= λ bytes. one_event (Send d bytes))
    (λ both. bind_holds IsDomid IsSoundLine (domid_field both.0) (λ d. hex_field both.1 >>= λ bytes. one_event (Send d bytes)) (number_field_within 32751 both.0)
    (λ d domid. bind_holds (λ bytes. 1 ≤ length bytes) IsSoundLine (hex_field both.1) (λ bytes. one_event (Send d bytes)) (hex_field_some both.1)
    (λ bytes some. (refl, ((domid, some), tt)))))

poke_verb_sound : (fields : List (List ℕ)) → IfOk (poke_verb fields) IsSoundLine
poke_verb_sound fields =
    bind_any IsSoundLine (three_fields fields) (λ all. domid_field all.0 >>= λ d. which_field all.1 >>= λ which. word_field all.2 >>= λ value. one_event (Poke d which value))
    (λ all. bind_holds IsDomid IsSoundLine (domid_field all.0) (λ d. which_field all.1 >>= λ which. word_field all.2 >>= λ value. one_event (Poke d which value)) (number_field_within 32751 all.0)
    (λ d domid. bind_any IsSoundLine (which_field all.1) (λ which. word_field all.2 >>= λ value. one_event (Poke d which value))
    (λ which. bind_holds (λ n. n < 4294967296) IsSoundLine (word_field all.2) (λ value. one_event (Poke d which value)) (word_fits all.2)
    (λ value fits. (refl, ((domid, fits), tt))))))

handover_verb_sound : (fields : List (List ℕ)) → IfOk (handover_verb fields) IsSoundLine
handover_verb_sound fields = bind_any IsSoundLine (no_field fields) (λ none. one_event Handover) (λ none. (refl, (tt, tt)))

resume_verb_sound : (fields : List (List ℕ)) → IfOk (resume_verb fields) IsSoundLine
resume_verb_sound fields =
    bind_any IsSoundLine (one_field fields) (λ field. hex_field field >>= λ bytes. Ok (Resume bytes))
    (λ field. bind_holds (λ bytes. 1 ≤ length bytes) IsSoundLine (hex_field field) (λ bytes. Ok (Resume bytes)) (hex_field_some field) (λ bytes some. some))

domain_line_sound : (fields : List (List ℕ)) → IfOk (domain_line fields) IsSoundLine
domain_line_sound fields =
    bind_any IsSoundLine (three_fields fields) (λ all. domid_field all.0 >>= λ d. the_word (97 ∷ 116 ∷ []) all.1 >>= λ at. word_field all.2 >>= λ start. Ok (Domain d start))
    (λ all. bind_holds IsDomid IsSoundLine (domid_field all.0) (λ d. the_word (97 ∷ 116 ∷ []) all.1 >>= λ at. word_field all.2 >>= λ start. Ok (Domain d start)) (number_field_within 32751 all.0)
    (λ d domid. bind_any IsSoundLine (the_word (97 ∷ 116 ∷ []) all.1) (λ at. word_field all.2 >>= λ start. Ok (Domain d start))
    (λ at. bind_holds (λ n. n < 4294967296) IsSoundLine (word_field all.2) (λ start. Ok (Domain d start)) (word_fits all.2)
    (λ start fits. (domid, fits)))))

serve_sound : (d : ℕ) → IsDomid d → IsSoundLine (Events (serve d))
serve_sound d domid =
    (refl, ((domid, (omega arith, omega arith)), ((domid, (omega arith, omega arith)), (domid, ((domid, (omega arith, omega arith)), ((domid, (omega arith, omega arith)), tt))))))

-- the verbs in a table
abbrev rows_of : List ℕ → List (List ℕ) → List (Bool × Result LineOf LineKind)
rows_of verb fields =
    (bytes_eq verb (codes "send"), send_verb fields)
    ∷ (bytes_eq verb (codes "put"), count_verb Put fields)
    ∷ (bytes_eq verb (codes "intake"), count_verb Intake fields)
    ∷ (bytes_eq verb (codes "do"), domain_verb (alone Do) fields)
    ∷ (bytes_eq verb (codes "out"), count_verb Out fields)
    ∷ (bytes_eq verb (codes "take"), count_verb Take fields)
    ∷ (bytes_eq verb (codes "poke"), poke_verb fields)
    ∷ (bytes_eq verb (codes "page"), domain_verb (alone ShowPage) fields)
    ∷ (bytes_eq verb (codes "serve"), domain_verb serve fields)
    ∷ (bytes_eq verb (codes "handover"), handover_verb fields)
    ∷ (bytes_eq verb (codes "domain"), domain_line fields)
    ∷ (bytes_eq verb (codes "resume"), resume_verb fields)
    ∷ []

abbrev first_true : List (Bool × Result LineOf LineKind) → Result LineOf LineKind
first_true [] = Err kind.Verb
first_true (row ∷ rows) = cond row.0 row.1 (first_true rows)

first_true_sound : (rows : List (Bool × Result LineOf LineKind)) → AllByRecursion (λ row. IfOk row.1 IsSoundLine) rows → IfOk (first_true rows) IsSoundLine
first_true_sound [] sound = tt
first_true_sound (row ∷ rows) sound = cond_holds IsSoundLine row.0 row.1 (first_true rows) sound.0 (first_true_sound rows sound.1)

by_verb_sound : (verb : List ℕ) (fields : List (List ℕ)) → IfOk (by_verb verb fields) IsSoundLine
by_verb_sound verb fields = first_true_sound (rows_of verb fields) (
  send_verb_sound fields,
  (
    count_verb_sound Put fields (λ d max domid count. (domid, count)),
    (
      count_verb_sound Intake fields (λ d max domid count. (domid, count)),
      (
        domain_verb_sound (alone Do) fields (λ d domid. (refl, (domid, tt))),
        (
          count_verb_sound Out fields (λ d max domid count. (domid, count)),
          (
            count_verb_sound Take fields (λ d max domid count. (domid, count)),
            (
              poke_verb_sound fields,
              (
                domain_verb_sound (alone ShowPage) fields (λ d domid. (refl, (domid, tt))),
                (
                  domain_verb_sound serve fields serve_sound,
                  (
                    handover_verb_sound fields,
                    (
                      domain_line_sound fields,
                      (resume_verb_sound fields, tt),
                    ),
                  ),
                ),
              ),
            ),
          ),
        ),
      ),
    ),
  ),
)

verb_line_sound : (fields : List (List ℕ)) → IfOk (verb_line fields) IsSoundLine
verb_line_sound [] = tt
verb_line_sound (verb ∷ fields) = by_verb_sound verb fields

pub line_of_sound : (text : List ℕ) → IfOk (line_of text) IsSoundLine
line_of_sound [] = tt
line_of_sound (b ∷ bs) = cond_holds IsSoundLine (b == 35) (Ok Nothing) (verb_line (fields_of (b ∷ bs))) tt (verb_line_sound (fields_of (b ∷ bs)))

-- WHOLE SCRIPTS: a sound line before sound ones
pub record IsSoundScript (script : Script) : Type 0 where
  pub resume : IfSome script.resume (λ bytes. 1 ≤ length bytes)
  pub domains : AllByRecursion IsSoundDomain script.domains
  pub events : AllByRecursion IsSoundEvent script.events

pub joined_all : {A : Type 0} (P : A → Type 0) (first later : List A) → AllByRecursion P first → AllByRecursion P later → AllByRecursion P (first ++ later)
joined_all P [] later holds rest = rest
joined_all P (x ∷ first) later holds rest = (holds.0, joined_all P first later holds.1 rest)

with_line_sound : (line : LineOf) (script : Script) → IsSoundLine line → IsSoundScript script → IsSoundScript (with_line line script)
with_line_sound Nothing script sound rest = rest
with_line_sound (Resume bytes) script sound rest = record { resume = sound; domains = rest.domains; events = rest.events }
with_line_sound (Domain d start) script sound rest = record { resume = rest.resume; domains = (sound, rest.domains); events = rest.events }
with_line_sound (Events es) script sound rest = record { resume = rest.resume; domains = rest.domains; events = joined_all IsSoundEvent es script.events sound.1 rest.events }

onto_script_sound : (line : LineOf) (rest : Result Script LineFault) → IsSoundLine line → IfOk rest IsSoundScript → IfOk (onto_script line rest) IsSoundScript
onto_script_sound line (Ok script) sound rest = with_line_sound line script sound rest
onto_script_sound line (Err fault) sound rest = tt

placed_sound : (before : Before) (line : LineOf) → IsSoundLine line → IfOk (placed before line) IsSoundLine
placed_sound before Nothing sound = sound
placed_sound before (Resume bytes) sound = cond_holds IsSoundLine (may_resume before) (Ok (Resume bytes)) (Err kind.Place) sound tt
placed_sound before (Domain d start) sound = cond_holds IsSoundLine (may_name d before) (Ok (Domain d start)) (Err kind.Place) sound tt
placed_sound before (Events es) sound = sound

placed_line_sound : (before : Before) (text : List ℕ) → IfOk (placed_line before text) IsSoundLine
placed_line_sound before text = bind_holds IsSoundLine IsSoundLine (line_of text) (placed before) (line_of_sound text) (placed_sound before)

go_on_sound : (n : ℕ) (line : Result LineOf LineKind) (rest : LineOf → Result Script LineFault) → IfOk line IsSoundLine → ((l : LineOf) → IfOk (rest l) IsSoundScript) → IfOk (go_on n line rest) IsSoundScript
go_on_sound n (Ok line) rest sound later = onto_script_sound line (rest line) sound (later line)
go_on_sound n (Err fault) rest sound later = tt

script_from_sound : (lines : List (List ℕ)) (n : ℕ) (before : Before) → IfOk (script_from n before lines) IsSoundScript
script_from_sound [] n before = record { resume = tt; domains = tt; events = tt }
script_from_sound (text ∷ lines) n before =
    go_on_sound n (placed_line before text) (λ l. script_from (n + 1) (past_line l before) lines) (placed_line_sound before text)
    (λ l. script_from_sound lines (n + 1) (past_line l before))

-- a script that is read is sound
pub script_of_sound : (text : List ℕ) (script : Script) → script_of text ≡ Ok script → IsSoundScript script
script_of_sound text script is = subst (λ (r : Result Script LineFault). IfOk r IsSoundScript) is (script_from_sound (lines_of text) 1 at_start)
