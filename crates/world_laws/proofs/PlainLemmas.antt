-- Texts without a line feed: what is printed for an event is one line, and a text of lines has just these lines.
use Rattle.std.specs.Prelude.{◌≡◌, ℕ, zero, suc, ◌+◌, ◌/◌, ◌%◌, ◌≤◌, ◌==◌, Bool, true, false, cond, not, ◌&&◌, List, [], ◌∷◌, ◌++◌, filter, Option, Some, None, nat_lt}
use Rattle.std.specs.List.{AllByRecursion}
use Rattle.std.specs.Fmt.{digits, decimal, digits_onto, digit_glyph}
use Rattle.std.proofs.Common.{refl, ap, ◌∙◌, append_assoc, arith, ne_eqb}
use Rattle.std.proofs.lemmas.Bool.{and_parts, and_from, not_from_false, not-true}
use Rattle.machine_model.proofs.Lists.{all_append}
use Rattle.text_model.specs.Hex.{hex, hex_digit}
use Rattle.world_model.specs.declared.Said.{Said}
use Rattle.world_model.specs.declared.Said.TheVariants.{Gone, Queued, Put as SaidPut, InFull, DroppedIndex, Took, Part, DroppedLength, Held, Crowded, Done, NoneQueued, NoSpace, Sent, Got, Poked, Page, Handed, RefusedFault, RefusedChanged, NoMemory}
use Rattle.world_model.specs.Lines.{onto_line, lines_of}
use Rattle.world_model.specs.Worlds.{Event, Send, Put, Intake, Do, Out, Take, Poke, ShowPage, Handover}
use Rattle.world_model.specs.Transcripts.{spaced, event_words, hex_or_dash, byte_or_end, said_words}
use Rattle.world_laws.specs.Handovers.{text_of}

abbrev pub is_plain : List ℕ → Bool
is_plain [] = true
is_plain (b ∷ bs) = not (b == 10) && is_plain bs

abbrev pub Plain : List ℕ → Type 0
Plain text = is_plain text ≡ true

plain_append : (xs ys : List ℕ) → Plain xs → Plain ys → Plain (xs ++ ys)
plain_append [] ys p q = q
plain_append (x ∷ xs) ys p q = let parts = and_parts (not (x == 10)) (is_plain xs) p in and_from (not (x == 10)) (is_plain (xs ++ ys)) parts.0 (plain_append xs ys parts.1 q)

plain_cons : (b : ℕ) (bs : List ℕ) → 11 ≤ b → Plain bs → Plain (b ∷ bs)
plain_cons b bs high p = and_from (not (b == 10)) (is_plain bs) (not_from_false (b == 10) (ne_eqb b 10 (λ e. omega arith))) p

-- NUMBERS AND BYTES
glyph_high : (d : ℕ) → 11 ≤ digit_glyph false d
glyph_high d = elim (nat_lt d 10) as (λ b. 11 ≤ cond b (48 + d) (cond false (55 + d) (87 + d))) [ true ↦ omega arith | false ↦ omega arith ]

digits_plain : (k n : ℕ) (behind : List ℕ) → Plain behind → Plain (digits_onto k 10 false n behind)
digits_plain zero n behind p = p
digits_plain (suc k) n behind p =
    let next = plain_cons (digit_glyph false (n % 10)) behind (glyph_high (n % 10)) p in
    elim (n / 10 == 0) as (λ b. Plain (cond b (digit_glyph false (n % 10) ∷ behind) (digits_onto k 10 false (n / 10) (digit_glyph false (n % 10) ∷ behind)))) [
      | true ↦ next
      | false ↦ digits_plain k (n / 10) (digit_glyph false (n % 10) ∷ behind) next
    ]

decimal_plain : (n : ℕ) → Plain (decimal n)
unfolding digits
decimal_plain n = digits_plain 64 n [] refl

hex_high : (n : ℕ) → 11 ≤ hex_digit n
hex_high n = elim (nat_lt n 10) as (λ b. 11 ≤ cond b (48 + n) (87 + n)) [ true ↦ omega arith | false ↦ omega arith ]

hex_plain : (bytes : List ℕ) → Plain (hex bytes)
hex_plain [] = refl
hex_plain (b ∷ bytes) = plain_cons (hex_digit (b / 16)) (hex_digit (b % 16) ∷ hex bytes) (hex_high (b / 16)) (plain_cons (hex_digit (b % 16)) (hex bytes) (hex_high (b % 16)) (hex_plain bytes))

-- WORDS
spaced_plain : (words : List (List ℕ)) → AllByRecursion Plain words → Plain (spaced words)
spaced_plain [] h = refl
spaced_plain (w ∷ []) h = h.0
spaced_plain (w ∷ v ∷ words) h = plain_append w (32 ∷ spaced (v ∷ words)) h.0 (plain_cons 32 (spaced (v ∷ words)) (omega arith) (spaced_plain (v ∷ words) h.1))

event_plain : (e : Event) → AllByRecursion Plain (event_words e)
event_plain (Send d bytes) = (refl, (decimal_plain d, tt))
event_plain (Put d max) = (refl, (decimal_plain d, tt))
event_plain (Intake d max) = (refl, (decimal_plain d, tt))
event_plain (Do d) = (refl, (decimal_plain d, tt))
event_plain (Out d max) = (refl, (decimal_plain d, tt))
event_plain (Take d max) = (refl, (decimal_plain d, tt))
event_plain (Poke d which v) = (refl, (decimal_plain d, tt))
event_plain (ShowPage d) = (refl, (decimal_plain d, tt))
event_plain Handover = (refl, tt)

got_plain : (bytes : List ℕ) → Plain (hex_or_dash bytes)
got_plain [] = refl
got_plain (b ∷ bytes) = hex_plain (b ∷ bytes)

byte_plain : (o : Option ℕ) → Plain (byte_or_end o)
byte_plain None = refl
byte_plain (Some b) = hex_plain (b ∷ [])

said_plain : (said : Said) (taken : List ℕ) → AllByRecursion Plain (said_words said taken)
said_plain Gone taken = (refl, tt)
said_plain (Queued n) taken = (decimal_plain n, tt)
said_plain (SaidPut n) taken = (decimal_plain n, tt)
said_plain InFull taken = (refl, tt)
said_plain (DroppedIndex prod cons) taken = (refl, (refl, (decimal_plain prod, (decimal_plain cons, tt))))
said_plain (Took n) taken = (decimal_plain n, tt)
said_plain Part taken = (refl, tt)
said_plain (DroppedLength len) taken = (refl, (refl, (decimal_plain len, tt)))
said_plain (Held unsent) taken = (refl, (decimal_plain unsent, tt))
said_plain (Crowded conn) taken = (refl, (decimal_plain conn, tt))
said_plain Done taken = (refl, tt)
said_plain NoneQueued taken = (refl, tt)
said_plain NoSpace taken = (refl, tt)
said_plain (Sent n) taken = (decimal_plain n, tt)
said_plain (Got n) taken = (got_plain taken, tt)
said_plain Poked taken = (refl, tt)
said_plain (Page rc rp sc sp err) taken = (decimal_plain rc, (decimal_plain rp, (decimal_plain sc, (decimal_plain sp, (decimal_plain err, tt)))))
said_plain Handed taken = (refl, tt)
said_plain RefusedFault taken = (refl, (refl, tt))
said_plain (RefusedChanged at put got) taken = (refl, (refl, (decimal_plain at, (byte_plain put, (byte_plain got, tt)))))
said_plain NoMemory taken = tt

pub words_plain : (e : Event) (said : Said) (taken : List ℕ) → Plain (spaced (event_words e ++ said_words said taken))
words_plain e said taken = spaced_plain (event_words e ++ said_words said taken) (all_append Plain (event_words e) (said_words said taken) (event_plain e) (said_plain said taken))

-- LINES
pub first_line : (line rest : List ℕ) → Plain line → lines_of (line ++ 10 ∷ rest) ≡ line ∷ lines_of rest
first_line [] rest p = refl
first_line (b ∷ line) rest p =
    let parts = and_parts (not (b == 10)) (is_plain line) p in
    ap (λ t. cond t ([] ∷ lines_of (line ++ 10 ∷ rest)) (onto_line b (lines_of (line ++ 10 ∷ rest)))) (not-true (b == 10) parts.0) ∙ ap (onto_line b) (first_line line rest parts.1)

onto_plain : (b : ℕ) (lines : List (List ℕ)) → (b == 10) ≡ false → AllByRecursion Plain lines → AllByRecursion Plain (onto_line b lines)
onto_plain b [] f h = (and_from (not (b == 10)) true (not_from_false (b == 10) f) refl, tt)
onto_plain b (l ∷ ls) f h = (and_from (not (b == 10)) (is_plain l) (not_from_false (b == 10) f) h.0, h.1)

pub lines_plain : (text : List ℕ) → AllByRecursion Plain (lines_of text)
lines_plain [] = tt
lines_plain (b ∷ bs) =
    let rest = lines_plain bs in
    elim (b == 10) as (λ t. (b == 10) ≡ t → AllByRecursion Plain (cond t ([] ∷ lines_of bs) (onto_line b (lines_of bs)))) [
      | true ↦ λ t. (refl, rest)
      | false ↦ λ f. onto_plain b (lines_of bs) f rest
    ] refl

pub lines_again : (lines : List (List ℕ)) → AllByRecursion Plain lines → lines_of (text_of lines) ≡ lines
lines_again [] h = refl
lines_again (l ∷ ls) h = ap lines_of (append_assoc l (10 ∷ []) (text_of ls)) ∙ first_line l (text_of ls) h.0 ∙ ap (λ rest. l ∷ rest) (lines_again ls h.1)

pub each_left : {X : Type 0} (P : X → Type 0) (test : X → Bool) (xs : List X) → AllByRecursion P xs → AllByRecursion P (filter test xs)
each_left P test [] h = tt
each_left P test (x ∷ xs) h =
    let rest = each_left P test xs h.1 in
    elim (test x) as (λ b. AllByRecursion P (cond b (x ∷ filter test xs) (filter test xs))) [ true ↦ (h.0, rest) | false ↦ rest ]
