-- What each request in its form has: short paths and short watches.
use Rattle.std.specs.Prelude.{◌≡◌, ℕ, ◌≤◌, ◌==◌, Bool, true, false, cond, not, List, [], length, nat_lt, Option, Some, None, option_map, option_and_then, Result, Ok, Err, codes}
use Rattle.std.specs.List.{list_any}
use Rattle.std.specs.Str.{bytes_eq}
use Rattle.std.proofs.Common.{refl, subst, ltb-false}
use Rattle.std.proofs.lemmas.Bool.{not-true}
use Rattle.text_model.specs.Decimal.{number_of}
use Rattle.xs_model.specs.declared.message.WireErr.{WireErr}
use Rattle.xs_model.specs.declared.message.WireErr.TheVariants.{Enosys}
use Rattle.xs_model.specs.declared.message.kind.TheConstants.{DIRECTORY, READ, GET_PERMS, WATCH, UNWATCH, TRANSACTION_START, TRANSACTION_END, INTRODUCE, RELEASE, GET_DOMAIN_PATH, WRITE, MKDIR, RM, SET_PERMS, IS_DOMAIN_INTRODUCED, SET_TARGET, RESET_WATCHES, DIRECTORY_PART}
use Rattle.xs_model.specs.Paths.{path_of}
use Rattle.xs_model.specs.Messages.{string}
use Rattle.xs_model.specs.Requests.{Operation, Directory, Read, GetPerms, Write, Mkdir, Rm, SetPerms, DirectoryPart, Request, Command, Watch, Unwatch, Start, End, Introduce, Release, DomainPath, IsIntroduced, SetTarget, ResetWatches, ok_value, when, cut_string, one_string, two_strings, domid_of, is_empty, is_watch_path, is_token, one_path, path_request, is_root, rm_request, write_request, set_perms_request, last_field, part_request, perms_of, watch_request, end_request, introduce_request, domid_request, release_request, target_request, asked, or_einval, request_of}
use Rattle.xs_model.proofs.Maps.{not_Some, from_Some}
use Rattle.xs_model.specs.Laws.{IsShort}
use Rattle.xs_model.proofs.LengthLemmas.{path_of-short, watch_path-short}

abbrev pub InForm : Request → Type 0
InForm (Command operation path) = IsShort path
InForm (Watch wpath token) = (length wpath ≤ 3072) × (length token ≤ 1022)
InForm (Unwatch wpath token) = Unit {0}
InForm Start = Unit {0}
InForm (End commit) = Unit {0}
InForm (Introduce domid evtchn) = Unit {0}
InForm (Release domid) = Unit {0}
InForm (DomainPath domid) = Unit {0}
InForm (IsIntroduced domid) = Unit {0}
InForm (SetTarget domid target) = Unit {0}
InForm ResetWatches = Unit {0}

-- of the value, if there is one
pub record Always {A : Type 0} (P : A → Type 0) (o : Option A) : Type 0 where
  pub holds : (x : A) → o ≡ Some x → P x

always_None : {A : Type 0} {P : A → Type 0} → Always P None
always_None = record { holds = λ x e. not_Some e }

always_Some : {A : Type 0} {P : A → Type 0} (x : A) → P x → Always P (Some x)
always_Some {P = P} x p = record { holds = λ y e. subst P (from_Some e) p }

if_always : {A : Type 0} {P : A → Type 0} (b : Bool) {x y : Option A} → Always P x → Always P y → Always P (cond b x y)
if_always true p q = p
if_always false p q = q

then_always : {A B : Type 0} {P : B → Type 0} (o : Option A) (f : A → Option B) → ((x : A) → o ≡ Some x → Always P (f x)) → Always P (option_and_then f o)
then_always None f to = always_None
then_always (Some x) f to = to x refl

map_always : {A B : Type 0} {P : B → Type 0} (o : Option A) (f : A → B) → ((x : A) → o ≡ Some x → P (f x)) → Always P (option_map f o)
map_always None f to = always_None
map_always (Some x) f to = always_Some (f x) (to x refl)

when_some : {A : Type 0} (b : Bool) (x y : A) → when b x ≡ Some y → (b ≡ true) × (x ≡ y)
when_some true x y e = (refl, from_Some e)
when_some false x y e = not_Some e

-- PAYLOADS
one_path-short : (payload : List ℕ) (domid : ℕ) → Always IsShort (one_path payload domid)
one_path-short payload domid = then_always (one_string payload) (λ bytes. ok_value (path_of bytes domid)) (λ bytes e. record { holds = path_of-short bytes domid })

path_form : (operation : Operation) (payload : List ℕ) (domid : ℕ) → Always InForm (path_request operation payload domid)
path_form operation payload domid = map_always (one_path payload domid) (Command operation) (λ path e. (one_path-short payload domid).holds path e)

rm_form : (payload : List ℕ) (domid : ℕ) → Always InForm (rm_request payload domid)
rm_form payload domid = then_always (one_path payload domid) (λ path. when (not (is_root path)) (Command Rm path)) (λ path e. if_always (not (is_root path)) (always_Some (Command Rm path) ((one_path-short payload domid).holds path e)) always_None)

write_form : (payload : List ℕ) (domid : ℕ) → Always InForm (write_request payload domid)
write_form payload domid =
    then_always (cut_string payload) _ (λ first e. then_always (ok_value (path_of first.0 domid)) _ (λ path f. always_Some (Command (Write first.1) path) (path_of-short first.0 domid path f)))

set_perms_form : (payload : List ℕ) (domid : ℕ) → Always InForm (set_perms_request payload domid)
set_perms_form payload domid =
    then_always (cut_string payload) _ (λ first e. then_always (ok_value (path_of first.0 domid)) _ (λ path f. then_always (perms_of [] first.1) _ (λ perms g.
    always_Some (Command (SetPerms perms) path) (path_of-short first.0 domid path f))))

part_form : (payload : List ℕ) (domid : ℕ) → Always InForm (part_request payload domid)
part_form payload domid =
    then_always (cut_string payload) _ (λ first e. then_always (ok_value (path_of first.0 domid)) _ (λ path f. then_always (last_field first.1) _ (λ digits g.
    then_always (ok_value (number_of 18446744073709551615 digits)) _ (λ offset i. always_Some (Command (DirectoryPart offset) path) (path_of-short first.0 domid path f)))))

watch_short : (path bytes wpath token : List ℕ) (domid : ℕ) → when (is_watch_path path domid) path ≡ Some wpath → when (is_token bytes) bytes ≡ Some token → (length wpath ≤ 3072) × (length token ≤ 1022)
watch_short path bytes wpath token domid e f =
    let a = when_some (is_watch_path path domid) path wpath e in
    let b = when_some (is_token bytes) bytes token f in
    (subst (λ w. length w ≤ 3072) a.1 (watch_path-short path domid a.0), subst (λ t. length t ≤ 1022) b.1 (ltb-false 1022 (length bytes) (not-true (nat_lt 1022 (length bytes)) b.0)))

watch_form : (payload : List ℕ) (domid : ℕ) → Always InForm (watch_request Watch payload domid)
watch_form payload domid =
    then_always (two_strings payload) _ (λ both e. then_always (when (is_watch_path both.0 domid) both.0) _ (λ wpath f. then_always (when (is_token both.1) both.1) _ (λ token g. always_Some (Watch wpath token) (watch_short both.0 both.1 wpath token domid f g))))

unwatch_form : (payload : List ℕ) (domid : ℕ) → Always InForm (watch_request Unwatch payload domid)
unwatch_form payload domid =
    then_always (two_strings payload) _ (λ both e. then_always (when (is_watch_path both.0 domid) both.0) _ (λ wpath f. then_always (when (is_token both.1) both.1) _ (λ token g. always_Some (Unwatch wpath token) tt)))

end_form : (payload : List ℕ) → Always InForm (end_request payload)
end_form payload = if_always (bytes_eq payload (string (codes "T"))) (always_Some (End true) tt) (if_always (bytes_eq payload (string (codes "F"))) (always_Some (End false) tt) always_None)

introduce_form : (payload : List ℕ) → Always InForm (introduce_request payload)
introduce_form payload =
    then_always (two_strings payload) _ (λ both e. then_always (cut_string both.2) _ (λ third f. then_always (domid_of both.0) _ (λ domid g.
    then_always (ok_value (number_of 18446744073709551615 both.1)) _ (λ gfn i. then_always (ok_value (number_of 4294967295 third.0)) _ (λ evtchn j.
    always_Some (Introduce domid evtchn) tt)))))

domain_path_form : (payload : List ℕ) → Always InForm (domid_request DomainPath payload)
domain_path_form payload = then_always (one_string payload) _ (λ bytes e. then_always (domid_of bytes) _ (λ domid f. always_Some (DomainPath domid) tt))

is_introduced_form : (payload : List ℕ) → Always InForm (domid_request IsIntroduced payload)
is_introduced_form payload = then_always (one_string payload) _ (λ bytes e. then_always (domid_of bytes) _ (λ domid f. always_Some (IsIntroduced domid) tt))

release_form : (payload : List ℕ) → Always InForm (release_request payload)
release_form payload = then_always (one_string payload) _ (λ bytes e. then_always (domid_of bytes) _ (λ domid f. if_always (not (domid == 0)) (always_Some (Release domid) tt) always_None))

target_form : (payload : List ℕ) → Always InForm (target_request payload)
target_form payload =
    then_always (two_strings payload) _ (λ both e. then_always (when (is_empty both.2) both.2) _ (λ last f. then_always (domid_of both.0) _ (λ domid g. then_always (domid_of both.1) _ (λ target i. always_Some (SetTarget domid target) tt))))

asked_form : (kind : ℕ) (payload : List ℕ) (domid : ℕ) → Always InForm (asked kind payload domid)
asked_form kind payload domid =
    if_always (kind == DIRECTORY) (path_form Directory payload domid) (
    if_always (kind == READ) (path_form Read payload domid) (
    if_always (kind == GET_PERMS) (path_form GetPerms payload domid) (
    if_always (kind == WATCH) (watch_form payload domid) (
    if_always (kind == UNWATCH) (unwatch_form payload domid) (
    if_always (kind == TRANSACTION_START) (always_Some Start tt) (
    if_always (kind == TRANSACTION_END) (end_form payload) (
    if_always (kind == INTRODUCE) (introduce_form payload) (
    if_always (kind == RELEASE) (release_form payload) (
    if_always (kind == GET_DOMAIN_PATH) (domain_path_form payload) (
    if_always (kind == WRITE) (write_form payload domid) (
    if_always (kind == MKDIR) (path_form Mkdir payload domid) (
    if_always (kind == RM) (rm_form payload domid) (
    if_always (kind == SET_PERMS) (set_perms_form payload domid) (
    if_always (kind == IS_DOMAIN_INTRODUCED) (is_introduced_form payload) (
    if_always (kind == SET_TARGET) (target_form payload) (
    if_always (kind == RESET_WATCHES) (always_Some ResetWatches tt) (
    if_always (kind == DIRECTORY_PART) (part_form payload domid) always_None)))))))))))))))))

-- of a request that is not refused
abbrev pub IfAsked : (Request → Type 0) → Result Request WireErr → Type 0
IfAsked P (Ok request) = P request
IfAsked P (Err error) = Unit {0}

or_einval_form : (o : Option Request) → Always InForm o → IfAsked InForm (or_einval o)
or_einval_form None h = tt
or_einval_form (Some request) h = h.holds request refl

served_form : (b : Bool) (kind : ℕ) (payload : List ℕ) (domid : ℕ) → IfAsked InForm (cond b (or_einval (asked kind payload domid)) (Err Enosys))
served_form true kind payload domid = or_einval_form (asked kind payload domid) (asked_form kind payload domid)
served_form false kind payload domid = tt

pub request_of-form : (served : List ℕ) (kind : ℕ) (payload : List ℕ) (domid : ℕ) → IfAsked InForm (request_of served kind payload domid)
request_of-form served kind payload domid = served_form (list_any (λ t. t == kind) served) kind payload domid
