-- Scripts: a line an event. This project's own. An empty line and one that begins with `#` do nothing; fields are
-- separated by exactly one space; head lines (`resume`, `domain`) come before all others.
use Rattle.std.specs.Prelude.{ℕ, ◌+◌, ◌==◌, Bool, true, false, not, ◌&&◌, List, [], ◌∷◌, ◌++◌, if◌then◌else◌, Option, Some, None, Result, Ok, Err, codes}
use Rattle.std.specs.List.{list_any}
use Rattle.std.specs.Str.{bytes_eq}
use Rattle.text_model.specs.declared.NumFault.{NumFault}
use Rattle.text_model.specs.declared.HexFault.{HexFault}
use Rattle.text_model.specs.Decimal.{number_of}
use Rattle.text_model.specs.Hex.{bytes_of_hex}
use Rattle.world_model.specs.declared.Which.{Which}
use Rattle.world_model.specs.declared.Which.TheVariants.{ReqCons, ReqProd, RspCons, RspProd}
use Rattle.world_model.specs.declared.LineKind.{LineKind}
use Rattle.world_model.specs.declared.LineKind.TheVariants as kind
use Rattle.world_model.specs.Lines.{lines_of}
use Rattle.world_model.specs.Worlds.{Event, Send, Put, Intake, Do, Out, Take, Poke, ShowPage, Handover, serve}

pub record DomainLine : Type 0 where
  pub domid : ℕ
  pub start : ℕ

pub record Script : Type 0 where
  pub resume : Option (List ℕ)
  pub domains : List DomainLine
  pub events : List Event

-- A FIELD, or its fault
infixl 10 ◌>>=◌
abbrev pub ◌>>=◌ : {A B : Type 0} → Result A LineKind → (A → Result B LineKind) → Result B LineKind
(Ok x) >>= f = f x
(Err e) >>= f = Err e

abbrev pub number_or_fault : Result ℕ NumFault → Result ℕ LineKind
number_or_fault (Ok n) = Ok n
number_or_fault (Err fault) = Err kind.Number

abbrev pub number_field : ℕ → List ℕ → Result ℕ LineKind
number_field max field = number_or_fault (number_of max field)

abbrev pub domid_field : List ℕ → Result ℕ LineKind
domid_field field = number_field 32751 field

abbrev pub word_field : List ℕ → Result ℕ LineKind
word_field field = number_field 4294967295 field

-- how many bytes to move at the most: 1 to 65536
abbrev pub positive : ℕ → Result ℕ LineKind
positive n = if n == 0 then Err kind.Number else Ok n

abbrev pub count_field : List ℕ → Result ℕ LineKind
count_field field = do
  n ← number_field 65536 field
  positive n

-- one or more bytes
abbrev pub some_bytes : Result (List ℕ) HexFault → Result (List ℕ) LineKind
some_bytes (Ok []) = Err kind.Hex
some_bytes (Ok (b ∷ bs)) = Ok (b ∷ bs)
some_bytes (Err fault) = Err kind.Hex

abbrev pub hex_field : List ℕ → Result (List ℕ) LineKind
hex_field field = some_bytes (bytes_of_hex field)

abbrev pub which_field : List ℕ → Result Which LineKind
which_field field =
    if bytes_eq field (codes "req_cons") then Ok ReqCons
    else (if bytes_eq field (codes "req_prod") then Ok ReqProd
    else (if bytes_eq field (codes "rsp_cons") then Ok RspCons
    else (if bytes_eq field (codes "rsp_prod") then Ok RspProd else Err kind.Word)))

abbrev pub the_word : List ℕ → List ℕ → Result (List ℕ) LineKind
the_word word field = if bytes_eq field word then Ok field else Err kind.Word

-- A LINE BY ITSELF: nothing, a head line, or events
pub data LineOf : Type 0 where
  Nothing : LineOf
  Resume : List ℕ → LineOf
  Domain : ℕ → ℕ → LineOf
  Events : List Event → LineOf

abbrev pub one_event : Event → Result LineOf LineKind
one_event event = Ok (Events (event ∷ []))

-- exactly so many fields after the verb
abbrev pub no_field : List (List ℕ) → Result (Unit {0}) LineKind
no_field [] = Ok tt
no_field (f ∷ fs) = Err kind.Fields

abbrev pub one_field : List (List ℕ) → Result (List ℕ) LineKind
one_field [] = Err kind.Fields
one_field (f ∷ []) = Ok f
one_field (f ∷ g ∷ fs) = Err kind.Fields

abbrev pub two_fields : List (List ℕ) → Result (List ℕ × List ℕ) LineKind
two_fields [] = Err kind.Fields
two_fields (f ∷ []) = Err kind.Fields
two_fields (f ∷ g ∷ []) = Ok (f, g)
two_fields (f ∷ g ∷ h ∷ fs) = Err kind.Fields

abbrev pub three_fields : List (List ℕ) → Result (List ℕ × List ℕ × List ℕ) LineKind
three_fields [] = Err kind.Fields
three_fields (f ∷ []) = Err kind.Fields
three_fields (f ∷ g ∷ []) = Err kind.Fields
three_fields (f ∷ g ∷ h ∷ []) = Ok (f, g, h)
three_fields (f ∷ g ∷ h ∷ i ∷ fs) = Err kind.Fields

-- `VERB D`
abbrev pub domain_verb : (ℕ → List Event) → List (List ℕ) → Result LineOf LineKind
domain_verb make fields = do
  field ← one_field fields
  domid ← domid_field field
  Ok (Events (make domid))

-- `VERB D N`
abbrev pub count_verb : (ℕ → ℕ → Event) → List (List ℕ) → Result LineOf LineKind
count_verb make fields = do
  both ← two_fields fields
  domid ← domid_field both.0
  max ← count_field both.1
  one_event (make domid max)

-- `send D HEX`
abbrev pub send_verb : List (List ℕ) → Result LineOf LineKind
send_verb fields = do
  both ← two_fields fields
  domid ← domid_field both.0
  bytes ← hex_field both.1
  one_event (Send domid bytes)

-- `poke D WORD V`
abbrev pub poke_verb : List (List ℕ) → Result LineOf LineKind
poke_verb fields = do
  all ← three_fields fields
  domid ← domid_field all.0
  which ← which_field all.1
  value ← word_field all.2
  one_event (Poke domid which value)

-- `handover`
abbrev pub handover_verb : List (List ℕ) → Result LineOf LineKind
handover_verb fields = do
  _none ← no_field fields
  one_event Handover

-- `resume HEX`
abbrev pub resume_verb : List (List ℕ) → Result LineOf LineKind
resume_verb fields = do
  field ← one_field fields
  bytes ← hex_field field
  Ok (Resume bytes)

-- `domain D at I`
abbrev pub domain_line : List (List ℕ) → Result LineOf LineKind
domain_line fields = do
  all ← three_fields fields
  domid ← domid_field all.0
  _at ← the_word (codes "at") all.1
  start ← word_field all.2
  Ok (Domain domid start)

abbrev pub alone : (ℕ → Event) → ℕ → List Event
alone make d = make d ∷ []

abbrev pub by_verb : List ℕ → List (List ℕ) → Result LineOf LineKind
by_verb verb fields =
    if bytes_eq verb (codes "send") then send_verb fields
    else (if bytes_eq verb (codes "put") then count_verb Put fields
    else (if bytes_eq verb (codes "intake") then count_verb Intake fields
    else (if bytes_eq verb (codes "do") then domain_verb (alone Do) fields
    else (if bytes_eq verb (codes "out") then count_verb Out fields
    else (if bytes_eq verb (codes "take") then count_verb Take fields
    else (if bytes_eq verb (codes "poke") then poke_verb fields
    else (if bytes_eq verb (codes "page") then domain_verb (alone ShowPage) fields
    else (if bytes_eq verb (codes "serve") then domain_verb serve fields
    else (if bytes_eq verb (codes "handover") then handover_verb fields
    else (if bytes_eq verb (codes "domain") then domain_line fields
    else (if bytes_eq verb (codes "resume") then resume_verb fields else Err kind.Verb)))))))))))

-- the fields of a line
abbrev pub onto_field : ℕ → List (List ℕ) → List (List ℕ)
onto_field b [] = (b ∷ []) ∷ []
onto_field b (f ∷ fs) = (b ∷ f) ∷ fs

abbrev pub fields_of : List ℕ → List (List ℕ)
fields_of [] = [] ∷ []
fields_of (b ∷ bs) = if b == 32 then [] ∷ fields_of bs else onto_field b (fields_of bs)

abbrev pub verb_line : List (List ℕ) → Result LineOf LineKind
verb_line [] = Err kind.Verb
verb_line (verb ∷ fields) = by_verb verb fields

abbrev pub line_of : List ℕ → Result LineOf LineKind
line_of [] = Ok Nothing
line_of (b ∷ bs) = if b == 35 then Ok Nothing else verb_line (fields_of (b ∷ bs))

-- A LINE IN ITS PLACE, behind those read before it
pub record Before : Type 0 where
  pub resumed : Bool
  pub domids : List ℕ
  pub in_body : Bool

abbrev pub at_start : Before
at_start = record { resumed = false; domids = []; in_body = false }

abbrev pub is_empty_list : List ℕ → Bool
is_empty_list [] = true
is_empty_list (d ∷ ds) = false

-- `resume` stands before any `domain`, once
abbrev pub may_resume : Before → Bool
may_resume before = not before.in_body && (not before.resumed && is_empty_list before.domids)

-- a domain is named once
abbrev pub may_name : ℕ → Before → Bool
may_name d before = not before.in_body && not (list_any (λ e. e == d) before.domids)

abbrev pub placed : Before → LineOf → Result LineOf LineKind
placed before Nothing = Ok Nothing
placed before (Resume bytes) = if may_resume before then Ok (Resume bytes) else Err kind.Place
placed before (Domain d start) = if may_name d before then Ok (Domain d start) else Err kind.Place
placed before (Events es) = Ok (Events es)

abbrev pub past_line : LineOf → Before → Before
past_line Nothing before = before
past_line (Resume bytes) before = record { resumed = true; domids = before.domids; in_body = before.in_body }
past_line (Domain d start) before = record { resumed = before.resumed; domids = d ∷ before.domids; in_body = before.in_body }
past_line (Events es) before = record { resumed = before.resumed; domids = before.domids; in_body = true }

abbrev pub with_line : LineOf → Script → Script
with_line Nothing script = script
with_line (Resume bytes) script = record { resume = Some bytes; domains = script.domains; events = script.events }
with_line (Domain d start) script =
    record { resume = script.resume; domains = record { domid = d; start = start } ∷ script.domains; events = script.events }
with_line (Events es) script = record { resume = script.resume; domains = script.domains; events = es ++ script.events }

-- THE WHOLE TEXT: the script, or the first line at fault, counted from 1, and its first fault
pub record LineFault : Type 0 where
  pub line : ℕ
  pub kind : LineKind

abbrev pub empty_script : Script
empty_script = record { resume = None; domains = []; events = [] }

abbrev pub onto_script : LineOf → Result Script LineFault → Result Script LineFault
onto_script l (Ok script) = Ok (with_line l script)
onto_script l (Err fault) = Err fault

-- the lines from number n on, behind those before
abbrev pub placed_line : Before → List ℕ → Result LineOf LineKind
placed_line before bytes = do
  l ← line_of bytes
  placed before l

abbrev pub go_on : ℕ → Result LineOf LineKind → (LineOf → Result Script LineFault) → Result Script LineFault
go_on n (Err fault) rest = Err (record { line = n; kind = fault })
go_on n (Ok l) rest = onto_script l (rest l)

abbrev pub script_from : ℕ → Before → List (List ℕ) → Result Script LineFault
script_from n before [] = Ok empty_script
script_from n before (bytes ∷ lines) =
    go_on n (placed_line before bytes) (λ l. script_from (n + 1) (past_line l before) lines)

abbrev pub script_of : List ℕ → Result Script LineFault
script_of bytes = script_from 1 at_start (lines_of bytes)
