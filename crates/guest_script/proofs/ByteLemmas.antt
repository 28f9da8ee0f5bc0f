-- The bytes of made requests, and of the lines that they stand in.
use Rattle.std.proofs.Common.{◌≡◌, ℕ, zero, suc, ◌+◌, ◌/◌, ◌%◌, ◌<◌, ◌≤◌, ◌==◌, Bool, true, false, cond, List, [], ◌∷◌, ◌++◌, nat_lt, refl, arith}
use Rattle.std.specs.List.{list_all, AllByRecursion}
use Rattle.std.proofs.lemmas.Bool.{and_parts, ltb-true}
use Rattle.std.specs.Int.{bytes_low_first}
use Rattle.std.specs.Fmt.{digits, decimal, digits_onto, digit_glyph}
use Rattle.byteorder.specs.Endian.{little_bytes}
use Rattle.text_model.specs.Hex.{hex, hex_digit}
use Rattle.xs_model.specs.declared.message.kind.TheConstants.{DIRECTORY, READ, GET_PERMS, WRITE, MKDIR, RM}
use Rattle.xs_model.specs.Messages.{Message, message_bytes, header_bytes, header_for, string}
use Rattle.guest_script.specs.declared.generator.Choice.{Choice}
use Rattle.guest_script.specs.declared.generator.Choice.TheVariants.{Read, Write, Mkdir, Rm, Directory, GetPerms, Transaction, Watch}
use Rattle.guest_script.specs.declared.generator.Known.{Known}
use Rattle.guest_script.specs.Made.{leaf_of, path_in, tree_request, may_watch, request_for, make_bulk, open_bulk}
use Rattle.guest_script.proofs.SoundLemmas.{joined_all}

abbrev pub IsByte : ℕ → Type 0
IsByte b = b < 256

-- behind the space, and so in a field
abbrev pub IsInField : ℕ → Type 0
IsInField b = 33 ≤ b

-- DIGITS
digits_all : (P : ℕ → Type 0) → ((d : ℕ) → d < 10 → P (digit_glyph false d)) → (k n : ℕ) (behind : List ℕ) → AllByRecursion P behind → AllByRecursion P (digits_onto k 10 false n behind)
digits_all P each zero n behind rest = rest
digits_all P each (suc k) n behind rest =
    let here : P (digit_glyph false (n % 10)) = each (n % 10) (omega arith) in
    elim (n / 10 == 0) as (λ b. AllByRecursion P (cond b (digit_glyph false (n % 10) ∷ behind) (digits_onto k 10 false (n / 10) (digit_glyph false (n % 10) ∷ behind)))) [
      | true ↦ (here, rest)
      | false ↦ digits_all P each k (n / 10) (digit_glyph false (n % 10) ∷ behind) (here, rest)
    ]

decimal_all : (P : ℕ → Type 0) → ((d : ℕ) → d < 10 → P (digit_glyph false d)) → (n : ℕ) → AllByRecursion P (decimal n)
unfolding digits
decimal_all P each n = digits_all P each 64 n [] tt

glyph_byte : (d : ℕ) → d < 10 → IsByte (digit_glyph false d)
glyph_byte d small = elim (nat_lt d 10) as (λ b. IsByte (cond b (48 + d) (cond false (55 + d) (87 + d)))) [ true ↦ omega arith | false ↦ omega arith ]

glyph_in_field : (d : ℕ) → d < 10 → IsInField (digit_glyph false d)
glyph_in_field d small = elim (nat_lt d 10) as (λ b. IsInField (cond b (48 + d) (cond false (55 + d) (87 + d)))) [ true ↦ omega arith | false ↦ omega arith ]

decimal_bytes : (n : ℕ) → AllByRecursion IsByte (decimal n)
decimal_bytes = decimal_all IsByte glyph_byte

pub decimal_in_field : (n : ℕ) → AllByRecursion IsInField (decimal n)
decimal_in_field = decimal_all IsInField glyph_in_field

hex_digit_in_field : (n : ℕ) → IsInField (hex_digit n)
hex_digit_in_field n = elim (nat_lt n 10) as (λ b. IsInField (cond b (48 + n) (87 + n))) [ true ↦ omega arith | false ↦ omega arith ]

pub hex_in_field : (bytes : List ℕ) → AllByRecursion IsInField (hex bytes)
hex_in_field [] = tt
hex_in_field (b ∷ bytes) = (hex_digit_in_field (b / 16), (hex_digit_in_field (b % 16), hex_in_field bytes))

-- MESSAGES
little_are_bytes : (i k n : ℕ) → AllByRecursion IsByte (bytes_low_first i k n)
little_are_bytes i zero n = tt
little_are_bytes zero (suc k) n = (omega arith, little_are_bytes 1 k n)
little_are_bytes (suc i) (suc k) n = (omega arith, little_are_bytes (suc (suc i)) k n)

message_bytes_all : (m : Message) → AllByRecursion IsByte m.payload → AllByRecursion IsByte (message_bytes m)
message_bytes_all m payload =
    let head = header_for m in
    let kind : List ℕ = little_bytes 4 head.kind in
    let req_id : List ℕ = little_bytes 4 head.req_id in
    let tx_id : List ℕ = little_bytes 4 head.tx_id in
    let len : List ℕ = little_bytes 4 head.len in
    let last = joined_all IsByte tx_id len (little_are_bytes 0 4 head.tx_id) (little_are_bytes 0 4 head.len) in
    let behind = joined_all IsByte req_id (tx_id ++ len) (little_are_bytes 0 4 head.req_id) last in
    joined_all IsByte (header_bytes head) m.payload (joined_all IsByte kind (req_id ++ (tx_id ++ len)) (little_are_bytes 0 4 head.kind) behind) payload

leaf_bytes : (j : ℕ) → AllByRecursion IsByte (leaf_of j)
leaf_bytes j = elim (j == 8) as (λ b. AllByRecursion IsByte (cond b [] (47 ∷ decimal j))) [ true ↦ tt | false ↦ (omega arith, decimal_bytes j) ]

path_bytes : (v : ℕ) → AllByRecursion IsByte (path_in v)
path_bytes v =
    let names = joined_all IsByte (decimal (v / 32 % 8)) (leaf_of (v / 256 % 9)) (decimal_bytes (v / 32 % 8)) (leaf_bytes (v / 256 % 9)) in
    (omega arith, (omega arith, (omega arith, (omega arith, (omega arith, (omega arith, names))))))

string_bytes : (text : List ℕ) → AllByRecursion IsByte text → AllByRecursion IsByte (text ++ 0 ∷ [])
string_bytes text all = joined_all IsByte text (0 ∷ []) all (omega arith, tt)

abbrev IsMade : Message → Type 0
IsMade m = AllByRecursion IsByte m.payload

either_made : (b : Bool) (m n : Message) → IsMade m → IsMade n → IsMade (cond b m n)
either_made true m n first second = first
either_made false m n first second = second

tree_bytes : (kind i v : ℕ) (known : Known) (rest : List ℕ) → AllByRecursion IsByte rest → IsMade (tree_request kind i v known rest)
tree_bytes kind i v known rest all = joined_all IsByte (path_in v) (0 ∷ rest) (path_bytes v) (omega arith, all)

request_bytes : (choice : Choice) (i v : ℕ) (known : Known) → IsMade (request_for choice i v known)
request_bytes Read i v known = tree_bytes READ i v known [] tt
request_bytes Write i v known = tree_bytes WRITE i v known (decimal v) (decimal_bytes v)
request_bytes Mkdir i v known = tree_bytes MKDIR i v known [] tt
request_bytes Rm i v known = tree_bytes RM i v known [] tt
request_bytes Directory i v known = tree_bytes DIRECTORY i v known [] tt
request_bytes GetPerms i v known = tree_bytes GET_PERMS i v known [] tt
request_bytes Transaction i v known = either_made known.is_open _ _ (omega arith, (omega arith, tt)) (omega arith, tt)
request_bytes Watch i v known =
    let watched = joined_all IsByte (path_in v) (0 ∷ string (decimal i)) (path_bytes v) (omega arith, string_bytes (decimal i) (decimal_bytes i)) in
    either_made (may_watch known) _ (tree_request READ i v known []) watched (tree_bytes READ i v known [] tt)

pub made_bytes : (choice : Choice) (i v : ℕ) (known : Known) → AllByRecursion IsByte (message_bytes (request_for choice i v known))
made_bytes choice i v known = message_bytes_all (request_for choice i v known) (request_bytes choice i v known)

-- the two requests that are written out
tested : (bytes : List ℕ) → list_all (λ b. nat_lt b 256) bytes ≡ true → AllByRecursion IsByte bytes
tested [] test = tt
tested (b ∷ bytes) test =
    let parts = and_parts (nat_lt b 256) (list_all (λ b. nat_lt b 256) bytes) test in
    (ltb-true b 256 parts.0, tested bytes parts.1)

pub make_bytes : AllByRecursion IsByte (message_bytes make_bulk)
make_bytes = tested (message_bytes make_bulk) refl

pub open_bytes : AllByRecursion IsByte (message_bytes open_bulk)
open_bytes = tested (message_bytes open_bulk) refl
