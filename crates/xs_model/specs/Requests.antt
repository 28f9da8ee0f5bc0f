-- What a payload asks for (xenstore.txt, "Xenstore wire protocol" and each command). That bytes behind the last
-- string of WATCH, UNWATCH and INTRODUCE are ignored, the bounds of numbers and tokens, and that the offset of
-- DIRECTORY_PART may lack its NUL, are this project's own.
use Rattle.std.specs.Prelude.{ℕ, ◌==◌, Bool, true, false, not, ◌||◌, List, [], ◌∷◌, length, nat_lt, if◌then◌else◌, Option, Some, None, option_map, option_and_then, Result, Ok, Err, codes, ◌++◌}
use Rattle.std.specs.List.{list_any}
use Rattle.std.specs.Str.{bytes_eq}
use Rattle.text_model.specs.Decimal.{number_of}
use Rattle.xs_model.specs.declared.path.PathFault.{PathFault}
use Rattle.xs_model.specs.declared.perm.Perm.{Perm}
use Rattle.xs_model.specs.declared.message.WireErr.{WireErr}
use Rattle.xs_model.specs.declared.message.WireErr.TheVariants.{Einval, Enosys}
use Rattle.xs_model.specs.declared.message.kind.TheConstants.{DIRECTORY, READ, GET_PERMS, WATCH, UNWATCH, TRANSACTION_START, TRANSACTION_END, INTRODUCE, RELEASE, GET_DOMAIN_PATH, WRITE, MKDIR, RM, SET_PERMS, IS_DOMAIN_INTRODUCED, SET_TARGET, RESET_WATCHES, DIRECTORY_PART}
use Rattle.xs_model.specs.Paths.{Path, path_of}
use Rattle.xs_model.specs.Perms.{perm_of}
use Rattle.xs_model.specs.Messages.{string}

-- what a tree command does at its path
pub data Operation : Type 0 where
  Directory : Operation
  Read : Operation
  GetPerms : Operation
  Write : List ℕ → Operation
  Mkdir : Operation
  Rm : Operation
  SetPerms : List Perm → Operation
  -- the list of children from an offset on, as far as one reply takes it
  DirectoryPart : ℕ → Operation

pub data Request : Type 0 where
  Command : Operation → Path → Request
  Watch : List ℕ → List ℕ → Request
  Unwatch : List ℕ → List ℕ → Request
  Start : Request
  End : Bool → Request
  Introduce : ℕ → ℕ → Request
  Release : ℕ → Request
  DomainPath : ℕ → Request
  IsIntroduced : ℕ → Request
  SetTarget : ℕ → ℕ → Request
  ResetWatches : Request

-- STEPS THAT MAY FAIL, one after the other
infixl 10 ◌>>=◌
abbrev pub ◌>>=◌ : {A B : Type 0} → Option A → (A → Option B) → Option B
o >>= f = option_and_then f o

abbrev pub ok_value : {A E : Type 0} → Result A E → Option A
ok_value (Ok x) = Some x
ok_value (Err e) = None

abbrev pub when : {A : Type 0} → Bool → A → Option A
when b x = if b then Some x else None

-- STRINGS. A byte in front of the string that was cut off
abbrev pub onto_string : ℕ → List ℕ × List ℕ → List ℕ × List ℕ
onto_string b cut = (b ∷ cut.0, cut.1)

-- the bytes before the first NUL, and those after it
abbrev pub cut_string : List ℕ → Option (List ℕ × List ℕ)
cut_string [] = None
cut_string (b ∷ bs) = if b == 0 then Some ([], bs) else option_map (onto_string b) (cut_string bs)

abbrev pub is_empty : List ℕ → Bool
is_empty [] = true
is_empty (b ∷ bs) = false

-- exactly one string, and no byte after it
abbrev pub one_string : List ℕ → Option (List ℕ)
one_string payload = do
  first ← cut_string payload
  when (is_empty first.1) first.0

-- two strings, and the bytes after them
abbrev pub two_strings : List ℕ → Option (List ℕ × List ℕ × List ℕ)
two_strings payload = do
  first ← cut_string payload
  second ← cut_string first.1
  Some (first.0, second.0, second.1)

-- FIELDS
abbrev pub domid_of : List ℕ → Option ℕ
domid_of bytes = ok_value (number_of 32751 bytes)

-- the special paths (xenstore.txt, "Special watches")
abbrev pub introduce_domain : List ℕ
introduce_domain = codes "@introduceDomain"

abbrev pub release_domain : List ℕ
release_domain = codes "@releaseDomain"

abbrev pub is_special : List ℕ → Bool
is_special bytes = bytes_eq bytes introduce_domain || bytes_eq bytes release_domain

abbrev pub is_ok_path : Result Path PathFault → Bool
is_ok_path (Ok p) = true
is_ok_path (Err e) = false

-- a path for this domain, or a special path
abbrev pub is_watch_path : List ℕ → ℕ → Bool
is_watch_path bytes domid = is_special bytes || is_ok_path (path_of bytes domid)

-- at most 1022 bytes, maybe none
abbrev pub is_token : List ℕ → Bool
is_token bytes = not (nat_lt 1022 (length bytes))

abbrev pub onto_perms : Perm → List Perm → List Perm
onto_perms perm perms = perm ∷ perms

-- Entries, each a string, up to the end: `rest` are the bytes of the entry at hand that came already, and there is at
-- least one entry
abbrev pub last_perm : Option Perm → Bool → Option (List Perm) → Option (List Perm)
last_perm None at_end more = None
last_perm (Some perm) true more = Some (perm ∷ [])
last_perm (Some perm) false more = option_map (onto_perms perm) more

abbrev pub perms_of : List ℕ → List ℕ → Option (List Perm)
perms_of rest [] = None
perms_of rest (b ∷ bs) =
    if b == 0 then last_perm (ok_value (perm_of rest)) (is_empty bs) (perms_of [] bs) else perms_of (rest ++ b ∷ []) bs

-- PAYLOADS. Exactly one string, a path
abbrev pub one_path : List ℕ → ℕ → Option Path
one_path payload domid = do
  bytes ← one_string payload
  ok_value (path_of bytes domid)

abbrev pub path_request : Operation → List ℕ → ℕ → Option Request
path_request operation payload domid = option_map (Command operation) (one_path payload domid)

abbrev pub is_root : Path → Bool
is_root [] = true
is_root (n ∷ ns) = false

-- `/` can't be removed
abbrev pub rm_request : List ℕ → ℕ → Option Request
rm_request payload domid = do
  path ← one_path payload domid
  when (not (is_root path)) (Command Rm path)

-- a path, and all bytes after it are the value
abbrev pub write_request : List ℕ → ℕ → Option Request
write_request payload domid = do
  first ← cut_string payload
  path ← ok_value (path_of first.0 domid)
  Some (Command (Write first.1) path)

-- a path and one or more entries
abbrev pub set_perms_request : List ℕ → ℕ → Option Request
set_perms_request payload domid = do
  first ← cut_string payload
  path ← ok_value (path_of first.0 domid)
  perms ← perms_of [] first.1
  Some (Command (SetPerms perms) path)

-- the last field of a payload: its bytes to the end, or to a NUL behind which nothing stands
abbrev pub whole_field : List ℕ → Option (List ℕ × List ℕ) → Option (List ℕ)
whole_field bytes None = Some bytes
whole_field bytes (Some cut) = when (is_empty cut.1) cut.0

abbrev pub last_field : List ℕ → Option (List ℕ)
last_field bytes = whole_field bytes (cut_string bytes)

-- a path, and an offset of 64 bits
abbrev pub part_request : List ℕ → ℕ → Option Request
part_request payload domid = do
  first ← cut_string payload
  path ← ok_value (path_of first.0 domid)
  digits ← last_field first.1
  offset ← ok_value (number_of 18446744073709551615 digits)
  Some (Command (DirectoryPart offset) path)

-- a watch path and a token, for WATCH or UNWATCH
abbrev pub watch_request : (List ℕ → List ℕ → Request) → List ℕ → ℕ → Option Request
watch_request request payload domid = do
  both ← two_strings payload
  wpath ← when (is_watch_path both.0 domid) both.0
  token ← when (is_token both.1) both.1
  Some (request wpath token)

-- `T` commits, `F` drops
abbrev pub end_request : List ℕ → Option Request
end_request payload =
    if bytes_eq payload (string (codes "T")) then Some (End true)
    else (if bytes_eq payload (string (codes "F")) then Some (End false) else None)

-- a domid, a frame number that is read past, and an event channel
abbrev pub introduce_request : List ℕ → Option Request
introduce_request payload = do
  both ← two_strings payload
  third ← cut_string both.2
  domid ← domid_of both.0
  _gfn ← ok_value (number_of 18446744073709551615 both.1)
  evtchn ← ok_value (number_of 4294967295 third.0)
  Some (Introduce domid evtchn)

-- exactly one domid
abbrev pub domid_request : (ℕ → Request) → List ℕ → Option Request
domid_request request payload = do
  bytes ← one_string payload
  domid ← domid_of bytes
  Some (request domid)

-- domain 0 can't be released
abbrev pub release_request : List ℕ → Option Request
release_request payload = do
  bytes ← one_string payload
  domid ← domid_of bytes
  when (not (domid == 0)) (Release domid)

-- exactly two domids
abbrev pub target_request : List ℕ → Option Request
target_request payload = do
  both ← two_strings payload
  _end ← when (is_empty both.2) both.2
  domid ← domid_of both.0
  target ← domid_of both.1
  Some (SetTarget domid target)

-- what a domain's payload of a served type asks for, where it is in its form
abbrev pub asked : ℕ → List ℕ → ℕ → Option Request
asked kind payload domid =
    if kind == DIRECTORY then path_request Directory payload domid
    else (if kind == READ then path_request Read payload domid
    else (if kind == GET_PERMS then path_request GetPerms payload domid
    else (if kind == WATCH then watch_request Watch payload domid
    else (if kind == UNWATCH then watch_request Unwatch payload domid
    else (if kind == TRANSACTION_START then Some Start
    else (if kind == TRANSACTION_END then end_request payload
    else (if kind == INTRODUCE then introduce_request payload
    else (if kind == RELEASE then release_request payload
    else (if kind == GET_DOMAIN_PATH then domid_request DomainPath payload
    else (if kind == WRITE then write_request payload domid
    else (if kind == MKDIR then path_request Mkdir payload domid
    else (if kind == RM then rm_request payload domid
    else (if kind == SET_PERMS then set_perms_request payload domid
    else (if kind == IS_DOMAIN_INTRODUCED then domid_request IsIntroduced payload
    else (if kind == SET_TARGET then target_request payload
    else (if kind == RESET_WATCHES then Some ResetWatches
    else (if kind == DIRECTORY_PART then part_request payload domid else None)))))))))))))))))

abbrev pub or_einval : Option Request → Result Request WireErr
or_einval None = Err Einval
or_einval (Some request) = Ok request

-- Every type of the profile. The types that are served are a parameter of what follows and of the machine's step, and
-- of nothing else.
abbrev pub all_types : List ℕ
all_types =
    DIRECTORY ∷ READ ∷ GET_PERMS ∷ WATCH ∷ UNWATCH ∷ TRANSACTION_START ∷ TRANSACTION_END ∷ INTRODUCE ∷ RELEASE
    ∷ GET_DOMAIN_PATH ∷ WRITE ∷ MKDIR ∷ RM ∷ SET_PERMS ∷ IS_DOMAIN_INTRODUCED ∷ SET_TARGET ∷ RESET_WATCHES
    ∷ DIRECTORY_PART ∷ []

-- The request, or the first refusal: a type that is not served, then a payload outside its form
abbrev pub request_of : List ℕ → ℕ → List ℕ → ℕ → Result Request WireErr
request_of served kind payload domid =
    if list_any (λ t. t == kind) served then or_einval (asked kind payload domid) else Err Enosys
