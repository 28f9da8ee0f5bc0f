-- A watch that is asked for is one that its domain may ask for.
use Rattle.std.proofs.Common.{◌≡◌, ℕ, ◌==◌, Bool, true, false, cond, not, List, [], Option, Some, None, option_map, option_and_then, Result, Ok, Err, refl, ap, subst}
use Rattle.std.specs.List.{list_any}
use Rattle.std.specs.Str.{bytes_eq}
use Rattle.std.specs.Prelude.{codes}
use Rattle.text_model.specs.Decimal.{number_of}
use Rattle.xs_model.specs.declared.message.WireErr.{WireErr}
use Rattle.xs_model.specs.declared.message.WireErr.TheVariants.{Enosys}
use Rattle.xs_model.specs.declared.message.kind.TheConstants.{DIRECTORY, READ, GET_PERMS, WATCH, UNWATCH, TRANSACTION_START, TRANSACTION_END, INTRODUCE, RELEASE, GET_DOMAIN_PATH, WRITE, MKDIR, RM, SET_PERMS, IS_DOMAIN_INTRODUCED, SET_TARGET, RESET_WATCHES, DIRECTORY_PART}
use Rattle.xs_model.specs.Paths.{path_of}
use Rattle.xs_model.specs.Messages.{string}
use Rattle.xs_model.specs.Requests.{Directory, Read, GetPerms, Write, Mkdir, Rm, SetPerms, DirectoryPart, Request, Command, Watch, Unwatch, Start, End, Introduce, Release, DomainPath, IsIntroduced, SetTarget, ResetWatches, ok_value, when, cut_string, one_string, two_strings, domid_of, is_empty, one_path, is_root, perms_of, watch_request, last_field, is_watch_path, is_token, asked, or_einval, request_of, all_types}
use Rattle.xs_model.proofs.Maps.{not_Some, from_Some}
use Rattle.daemon.specs.Asks.{WatchesInForm}

module _ (domid : ℕ) where
  -- of the request, if there is one
  record Always (o : Option Request) : Type 0 where
    holds : (request : Request) → o ≡ Some request → WatchesInForm domid request

  none : Always None
  none = record { holds = λ request e. not_Some e }

  some : (request : Request) → WatchesInForm domid request → Always (Some request)
  some request h = record { holds = λ other e. subst (WatchesInForm domid) (from_Some e) h }

  either : (b : Bool) {x y : Option Request} → Always x → Always y → Always (cond b x y)
  either true p q = p
  either false p q = q

  after : {A : Type 0} (o : Option A) (f : A → Option Request) → ((x : A) → o ≡ Some x → Always (f x)) → Always (option_and_then f o)
  after None f to = none
  after (Some x) f to = to x refl

  mapped : {A : Type 0} (o : Option A) (f : A → Request) → ((x : A) → WatchesInForm domid (f x)) → Always (option_map f o)
  mapped None f to = none
  mapped (Some x) f to = some (f x) (to x)

  only : (b : Bool) (request : Request) → WatchesInForm domid request → Always (when b request)
  only b request h = either b (some request h) none

  -- a path and a token that passed their tests
  passed : {A : Type 0} (test : A → Bool) (x y : A) → when (test x) x ≡ Some y → test y ≡ true
  passed test x y e = by (test x) refl e
    where
      by : (b : Bool) → test x ≡ b → when b x ≡ Some y → test y ≡ true
      by true t is = subst (λ z. test z ≡ true) (from_Some is) t
      by false t is = not_Some is

  watches : (payload : List ℕ) → Always (watch_request Watch payload domid)
  watches payload =
      after (two_strings payload) _ (λ both e. after (when (is_watch_path both.0 domid) both.0) _ (λ wpath f. after (when (is_token both.1) both.1) _ (λ token g.
      some (Watch wpath token) (passed (λ w. is_watch_path w domid) both.0 wpath f, passed is_token both.1 token g))))

  unwatches : (payload : List ℕ) → Always (watch_request Unwatch payload domid)
  unwatches payload =
      after (two_strings payload) _ (λ both e. after (when (is_watch_path both.0 domid) both.0) _ (λ wpath f. after (when (is_token both.1) both.1) _ (λ token g. some (Unwatch wpath token) tt)))

  asked_in_form : (kind : ℕ) (payload : List ℕ) → Always (asked kind payload domid)
  asked_in_form kind payload =
      either (kind == DIRECTORY) (mapped (one_path payload domid) (Command Directory) (λ path. tt)) (
      either (kind == READ) (mapped (one_path payload domid) (Command Read) (λ path. tt)) (
      either (kind == GET_PERMS) (mapped (one_path payload domid) (Command GetPerms) (λ path. tt)) (
      either (kind == WATCH) (watches payload) (
      either (kind == UNWATCH) (unwatches payload) (
      either (kind == TRANSACTION_START) (some Start tt) (
      either (kind == TRANSACTION_END) (either (bytes_eq payload (string (codes "T"))) (some (End true) tt) (either (bytes_eq payload (string (codes "F"))) (some (End false) tt) none)) (
      either (kind == INTRODUCE) (after (two_strings payload) _ (λ both a. after (cut_string both.2) _ (λ third b. after (domid_of both.0) _ (λ d e. after (ok_value (number_of 18446744073709551615 both.1)) _ (λ gfn f. after (ok_value (number_of 4294967295 third.0)) _ (λ evtchn g. some (Introduce d evtchn) tt)))))) (
      either (kind == RELEASE) (after (one_string payload) _ (λ bytes a. after (domid_of bytes) _ (λ d b. only (not (d == 0)) (Release d) tt))) (
      either (kind == GET_DOMAIN_PATH) (after (one_string payload) _ (λ bytes a. after (domid_of bytes) _ (λ d b. some (DomainPath d) tt))) (
      either (kind == WRITE) (after (cut_string payload) _ (λ first a. after (ok_value (path_of first.0 domid)) _ (λ path b. some (Command (Write first.1) path) tt))) (
      either (kind == MKDIR) (mapped (one_path payload domid) (Command Mkdir) (λ path. tt)) (
      either (kind == RM) (after (one_path payload domid) _ (λ path a. only (not (is_root path)) (Command Rm path) tt)) (
      either (kind == SET_PERMS) (after (cut_string payload) _ (λ first a. after (ok_value (path_of first.0 domid)) _ (λ path b. after (perms_of [] first.1) _ (λ perms e. some (Command (SetPerms perms) path) tt)))) (
      either (kind == IS_DOMAIN_INTRODUCED) (after (one_string payload) _ (λ bytes a. after (domid_of bytes) _ (λ d b. some (IsIntroduced d) tt))) (
      either (kind == SET_TARGET) (after (two_strings payload) _ (λ both a. after (when (is_empty both.2) both.2) _ (λ end b. after (domid_of both.0) _ (λ d e. after (domid_of both.1) _ (λ target f. some (SetTarget d target) tt))))) (
      either (kind == RESET_WATCHES) (some ResetWatches tt) (
      either (kind == DIRECTORY_PART) (after (cut_string payload) _ (λ first a. after (ok_value (path_of first.0 domid)) _ (λ path b. after (last_field first.1) _ (λ digits e. after (ok_value (number_of 18446744073709551615 digits)) _ (λ offset f. some (Command (DirectoryPart offset) path) tt))))) none)))))))))))))))))

  not_err : {A : Type 0} {error : WireErr} {request : Request} → ◌≡◌ {A = Result Request WireErr} (Err error) (Ok request) → A
  not_err e = cc

  of_payload : (o : Option Request) → Always o → (request : Request) → or_einval o ≡ Ok request → WatchesInForm domid request
  of_payload None h request e = not_err e
  of_payload (Some found) h request e = h.holds request (ap ok_value e)

  pub read_in_form : (kind : ℕ) (payload : List ℕ) (request : Request) → request_of all_types kind payload domid ≡ Ok request → WatchesInForm domid request
  read_in_form kind payload request e = by (list_any (λ t. t == kind) all_types) e
    where
      by : (b : Bool) → cond b (or_einval (asked kind payload domid)) (Err Enosys) ≡ Ok request → WatchesInForm domid request
      by true f = of_payload (asked kind payload domid) (asked_in_form kind payload) request f
      by false f = not_err f
