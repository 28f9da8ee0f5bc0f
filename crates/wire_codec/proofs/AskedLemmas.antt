-- No payload asks for RM of `/`, for SET_PERMS without entries or for RELEASE of domain 0, nor names a domid out of bounds.
use Rattle.std.proofs.Common.{◌≡◌, ℕ, ◌<◌, ◌≤◌, ◌==◌, Bool, true, false, cond, not, ◌||◌, List, [], ◌∷◌, ◌++◌, length, nat_lt, Option, Some, None, IfSome, IfOk, option_map, Result, Ok, Err, codes, refl, subst, arith, ltb-false}
use Rattle.std.proofs.lemmas.Bool.{eqb-false}
use Rattle.std.specs.Prelude.{option_and_then}
use Rattle.std.specs.List.{list_any}
use Rattle.std.specs.Str.{bytes_eq}
use Rattle.text_model.specs.declared.NumFault.{NumFault}
use Rattle.text_model.specs.declared.NumFault.TheVariants.{TooLarge}
use Rattle.text_model.specs.Decimal.{digits_number, bad_digit_from, number_unless, number_of}
use Rattle.xs_model.specs.declared.perm.Perm.{Perm}
use Rattle.xs_model.specs.declared.message.WireErr.TheVariants as wire
use Rattle.xs_model.specs.declared.message.kind.TheConstants.{DIRECTORY, READ, GET_PERMS, WATCH, UNWATCH, TRANSACTION_START, TRANSACTION_END, INTRODUCE, RELEASE, GET_DOMAIN_PATH, WRITE, MKDIR, RM, SET_PERMS, IS_DOMAIN_INTRODUCED, SET_TARGET, RESET_WATCHES, DIRECTORY_PART}
use Rattle.xs_model.specs.Paths.{Path, path_of}
use Rattle.xs_model.specs.Perms.{perm_of}
use Rattle.xs_model.specs.Trees.{has_entry}
use Rattle.xs_model.specs.Messages.{string}
use Rattle.xs_model.specs.Requests.{Operation, Directory, Read, GetPerms, Mkdir, Rm, SetPerms, Request, Command, Watch, Unwatch, Start, End, Introduce, Release, DomainPath, IsIntroduced, SetTarget, ResetWatches, ok_value, when, cut_string, one_string, two_strings, domid_of, is_empty, is_watch_path, is_token, last_perm, perms_of, one_path, path_request, is_root, rm_request, write_request, set_perms_request, last_field, part_request, watch_request, end_request, introduce_request, domid_request, release_request, target_request, asked, or_einval, request_of}
use Rattle.xs_model.specs.Commands.{is_out_of_form}
use Rattle.wire_codec.specs.declared.request.Request as code
use Rattle.wire_codec.specs.declared.request.Request.TheVariants as variant
use Rattle.wire_codec.specs.declared.request.RequestErr.{RequestErr}
use Rattle.wire_codec.specs.Codec.{request_view, IsRequest, AsksInForm}

-- of a request, that it is in its form
abbrev pub HasForm : Request → Type 0
HasForm (Command operation path) = is_out_of_form operation path ≡ false
HasForm (Watch wpath token) = Unit {0}
HasForm (Unwatch wpath token) = Unit {0}
HasForm Start = Unit {0}
HasForm (End commit) = Unit {0}
HasForm (Introduce domid evtchn) = domid ≤ 32751
HasForm (Release domid) = (0 < domid) × (domid ≤ 32751)
HasForm (DomainPath domid) = domid ≤ 32751
HasForm (IsIntroduced domid) = domid ≤ 32751
HasForm (SetTarget domid target) = (domid ≤ 32751) × (target ≤ 32751)
HasForm ResetWatches = Unit {0}

if_some : {A : Type 0} (P : A → Type 0) (b : Bool) (x y : Option A) → IfSome x P → IfSome y P → IfSome (cond b x y) P
if_some P true x y p q = p
if_some P false x y p q = q

if_form : (b : Bool) (x y : Option Request) → IfSome x HasForm → IfSome y HasForm → IfSome (cond b x y) HasForm
if_form b x y p q = if_some HasForm b x y p q

then_form : {A : Type 0} (o : Option A) (f : A → Option Request) → ((x : A) → IfSome (f x) HasForm) → IfSome (option_and_then f o) HasForm
then_form None f to = tt
then_form (Some x) f to = to x

-- DOMIDS. A number is within its bound
bounded : (max number : ℕ) (long large : Bool) → nat_lt max number ≡ large → IfSome (ok_value {E = NumFault} (cond (long || large) (Err TooLarge) (Ok number))) (λ n. n ≤ max)
bounded max number true large is = tt
bounded max number false true is = tt
bounded max number false false is = ltb-false max number is

number_within : (fault : Option ℕ) (max : ℕ) (text : List ℕ) → IfSome (ok_value (number_unless fault max text)) (λ n. n ≤ max)
number_within None max text = bounded max (digits_number 0 text) (nat_lt 20 (length text)) (nat_lt max (digits_number 0 text)) refl
number_within (Some at) max text = tt

domid_within : (bytes : List ℕ) → IfSome (domid_of bytes) (λ domid. domid ≤ 32751)
domid_within [] = tt
domid_within (b ∷ bs) = number_within (bad_digit_from 0 (b ∷ bs)) 32751 (b ∷ bs)

then_domid_at : (o : Option ℕ) (f : ℕ → Option Request) → IfSome o (λ domid. domid ≤ 32751) → ((domid : ℕ) → domid ≤ 32751 → IfSome (f domid) HasForm) → IfSome (option_and_then f o) HasForm
then_domid_at None f within to = tt
then_domid_at (Some domid) f within to = to domid within

then_domid : (bytes : List ℕ) (f : ℕ → Option Request) → ((domid : ℕ) → domid ≤ 32751 → IfSome (f domid) HasForm) → IfSome (option_and_then f (domid_of bytes)) HasForm
then_domid bytes f to = then_domid_at (domid_of bytes) f (domid_within bytes) to

-- domain 0 is not released
not_zero : (zero : Bool) (domid : ℕ) → (domid == 0) ≡ zero → domid ≤ 32751 → IfSome (when (not zero) (Release domid)) HasForm
not_zero true domid is within = tt
not_zero false domid is within = (omega (arith, eqb-false domid 0 is), within)

-- ENTRIES
last_perm-some : (o : Option Perm) (ends : Bool) (more : Option (List Perm)) → IfSome (last_perm o ends more) (λ perms. has_entry perms ≡ true)
last_perm-some None ends more = tt
last_perm-some (Some perm) true more = refl
last_perm-some (Some perm) false None = tt
last_perm-some (Some perm) false (Some perms) = refl

perms_of-some : (rest bytes : List ℕ) → IfSome (perms_of rest bytes) (λ perms. has_entry perms ≡ true)
perms_of-some rest [] = tt
perms_of-some rest (b ∷ bs) =
    if_some (λ perms. has_entry perms ≡ true) (b == 0) (last_perm (ok_value (perm_of rest)) (is_empty bs) (perms_of [] bs)) (perms_of (rest ++ b ∷ []) bs)
    (last_perm-some (ok_value (perm_of rest)) (is_empty bs) (perms_of [] bs)) (perms_of-some (rest ++ b ∷ []) bs)

set_perms_with : (o : Option (List Perm)) (path : Path) → IfSome o (λ perms. has_entry perms ≡ true) → IfSome (option_and_then (λ perms. Some (Command (SetPerms perms) path)) o) HasForm
set_perms_with None path some = tt
set_perms_with (Some perms) path some = rw some refl

set_perms_form : (payload : List ℕ) (domid : ℕ) → IfSome (set_perms_request payload domid) HasForm
set_perms_form payload domid =
    then_form (cut_string payload) _ (λ first. then_form (ok_value (path_of first.0 domid)) _ (λ path. set_perms_with (perms_of [] first.1) path (perms_of-some [] first.1)))

-- THE ROOT
not_root : (b : Bool) (path : Path) → is_root path ≡ b → IfSome (when (not b) (Command Rm path)) HasForm
not_root true path is = tt
not_root false path is = is

rm_form : (payload : List ℕ) (domid : ℕ) → IfSome (rm_request payload domid) HasForm
rm_form payload domid = then_form (one_path payload domid) _ (λ path. not_root (is_root path) path refl)

-- THE OTHER PAYLOADS
path_form_at : (operation : Operation) (o : Option Path) → ((path : Path) → is_out_of_form operation path ≡ false) → IfSome (option_map (Command operation) o) HasForm
path_form_at operation None always = tt
path_form_at operation (Some path) always = always path

path_form : (operation : Operation) (payload : List ℕ) (domid : ℕ) → ((path : Path) → is_out_of_form operation path ≡ false) → IfSome (path_request operation payload domid) HasForm
path_form operation payload domid always = path_form_at operation (one_path payload domid) always

write_form : (payload : List ℕ) (domid : ℕ) → IfSome (write_request payload domid) HasForm
write_form payload domid = then_form (cut_string payload) _ (λ first. then_form (ok_value (path_of first.0 domid)) _ (λ path. refl))

part_form : (payload : List ℕ) (domid : ℕ) → IfSome (part_request payload domid) HasForm
part_form payload domid =
    then_form (cut_string payload) _ (λ first. then_form (ok_value (path_of first.0 domid)) _ (λ path.
    then_form (last_field first.1) _ (λ digits. then_form (ok_value (number_of 18446744073709551615 digits)) _ (λ offset. refl))))

watch_form : (request : List ℕ → List ℕ → Request) → ((wpath token : List ℕ) → HasForm (request wpath token)) → (payload : List ℕ) (domid : ℕ) → IfSome (watch_request request payload domid) HasForm
watch_form request form payload domid =
    then_form (two_strings payload) _ (λ both. then_form (when (is_watch_path both.0 domid) both.0) _ (λ wpath. then_form (when (is_token both.1) both.1) _ (λ token. form wpath token)))

end_form : (payload : List ℕ) → IfSome (end_request payload) HasForm
end_form payload =
    if_form (bytes_eq payload (string (codes "T"))) _ _ tt (if_form (bytes_eq payload (string (codes "F"))) (Some (End false)) None tt tt)

introduce_form : (payload : List ℕ) → IfSome (introduce_request payload) HasForm
introduce_form payload =
    then_form (two_strings payload) _ (λ both. then_form (cut_string both.2) _ (λ third. then_domid both.0 _ (λ domid within.
    then_form (ok_value (number_of 18446744073709551615 both.1)) _ (λ gfn. then_form (ok_value (number_of 4294967295 third.0)) _ (λ evtchn. within)))))

domid_form : (request : ℕ → Request) → ((domid : ℕ) → domid ≤ 32751 → HasForm (request domid)) → (payload : List ℕ) → IfSome (domid_request request payload) HasForm
domid_form request form payload = then_form (one_string payload) _ (λ bytes. then_domid bytes _ (λ domid within. form domid within))

release_form : (payload : List ℕ) → IfSome (release_request payload) HasForm
release_form payload = then_form (one_string payload) _ (λ bytes. then_domid bytes _ (λ domid within. not_zero (domid == 0) domid refl within))

target_form : (payload : List ℕ) → IfSome (target_request payload) HasForm
target_form payload =
    then_form (two_strings payload) _ (λ both. then_form (when (is_empty both.2) both.2) _ (λ last. then_domid both.0 _ (λ domid within. then_domid both.1 _ (λ target target_within. (within, target_within)))))

asked_form : (kind : ℕ) (payload : List ℕ) (domid : ℕ) → IfSome (asked kind payload domid) HasForm
asked_form kind payload domid =
    if_form (kind == DIRECTORY) _ _ (path_form Directory payload domid (λ path. refl)) (
    if_form (kind == READ) _ _ (path_form Read payload domid (λ path. refl)) (
    if_form (kind == GET_PERMS) _ _ (path_form GetPerms payload domid (λ path. refl)) (
    if_form (kind == WATCH) _ _ (watch_form Watch (λ wpath token. tt) payload domid) (
    if_form (kind == UNWATCH) _ _ (watch_form Unwatch (λ wpath token. tt) payload domid) (
    if_form (kind == TRANSACTION_START) _ _ tt (
    if_form (kind == TRANSACTION_END) _ _ (end_form payload) (
    if_form (kind == INTRODUCE) _ _ (introduce_form payload) (
    if_form (kind == RELEASE) _ _ (release_form payload) (
    if_form (kind == GET_DOMAIN_PATH) _ _ (domid_form DomainPath (λ domid within. within) payload) (
    if_form (kind == WRITE) _ _ (write_form payload domid) (
    if_form (kind == MKDIR) _ _ (path_form Mkdir payload domid (λ path. refl)) (
    if_form (kind == RM) _ _ (rm_form payload domid) (
    if_form (kind == SET_PERMS) _ _ (set_perms_form payload domid) (
    if_form (kind == IS_DOMAIN_INTRODUCED) _ _ (domid_form IsIntroduced (λ domid within. within) payload) (
    if_form (kind == SET_TARGET) _ _ (target_form payload) (
    if_form (kind == RESET_WATCHES) _ _ tt (
    if_form (kind == DIRECTORY_PART) (part_request payload domid) None (part_form payload domid) tt)))))))))))))))))

-- REQUESTS
asked_in_form : (o : Option Request) (request : Request) → IfSome o HasForm → or_einval o ≡ Ok request → HasForm request
asked_in_form None request form is = cc
asked_in_form (Some defined) request form is =
    let same : defined ≡ request = cc in
    subst HasForm same form

served_in_form : (served : Bool) (o : Option Request) (request : Request) → IfSome o HasForm → cond served (or_einval o) (Err wire.Enosys) ≡ Ok request → HasForm request
served_in_form true o request form is = asked_in_form o request form is
served_in_form false o request form is = cc

has_form : (served : List ℕ) (kind : ℕ) (payload : List ℕ) (domid : ℕ) (request : Request) → request_of served kind payload domid ≡ Ok request → HasForm request
has_form served kind payload domid request = served_in_form (list_any (λ t. t == kind) served) (asked kind payload domid) request (asked_form kind payload domid)

pub command_in_form : (served : List ℕ) (kind : ℕ) (payload : List ℕ) (domid : ℕ) (operation : Operation) (path : Path)
    → request_of served kind payload domid ≡ Ok (Command operation path) → is_out_of_form operation path ≡ false
command_in_form served kind payload domid operation path = has_form served kind payload domid (Command operation path)

pub request_in_form : (result : Result code.Request RequestErr) (served : List ℕ) (kind : ℕ) (payload : List ℕ) (domid : ℕ) → IsRequest result (request_of served kind payload domid) → IfOk result AsksInForm
request_in_form (Ok (variant.Command command)) served kind payload domid is = has_form served kind payload domid (request_view (variant.Command command)) is
request_in_form (Ok (variant.Watch wpath token)) served kind payload domid is = tt
request_in_form (Ok (variant.Unwatch wpath token)) served kind payload domid is = tt
request_in_form (Ok variant.Start) served kind payload domid is = tt
request_in_form (Ok (variant.End commit)) served kind payload domid is = tt
request_in_form (Ok (variant.Introduce named evtchn)) served kind payload domid is = has_form served kind payload domid (Introduce named evtchn) is
request_in_form (Ok (variant.Release named)) served kind payload domid is = has_form served kind payload domid (Release named) is
request_in_form (Ok (variant.DomainPath named)) served kind payload domid is = has_form served kind payload domid (DomainPath named) is
request_in_form (Ok (variant.IsIntroduced named)) served kind payload domid is = has_form served kind payload domid (IsIntroduced named) is
request_in_form (Ok (variant.SetTarget named target)) served kind payload domid is = has_form served kind payload domid (SetTarget named target) is
request_in_form (Ok variant.ResetWatches) served kind payload domid is = tt
request_in_form (Err error) served kind payload domid is = tt
