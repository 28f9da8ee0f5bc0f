-- What each request has that a payload of one message asks for. What is said of payloads would stand in `FormLemmas` of
-- xs_model, and that a number is at most its bound in text_model.
use Rattle.std.specs.Prelude.{◌≡◌, ℕ, suc, ◌<◌, ◌≤◌, ◌^◌, ◌==◌, Bool, true, false, cond, not, ◌||◌, List, [], ◌∷◌, ◌++◌, length, nat_lt, Option, Some, None, option_map, option_and_then, Result, Ok, Err, codes}
use Rattle.std.specs.List.{AllByRecursion, list_any}
use Rattle.std.specs.Str.{bytes_eq}
use Rattle.std.proofs.Common.{refl, ap, subst, arith, ltb-false}
use Rattle.text_model.specs.declared.NumFault.{NumFault}
use Rattle.text_model.specs.declared.NumFault.TheVariants.{TooLarge}
use Rattle.text_model.specs.Decimal.{digits_number, bad_digit_from, number_unless, number_of}
use Rattle.xs_model.specs.declared.perm.Letter.{Letter}
use Rattle.xs_model.specs.declared.perm.Perm.{Perm}
use Rattle.xs_model.specs.declared.message.WireErr.TheVariants.{Enosys}
use Rattle.xs_model.specs.declared.message.kind.TheConstants.{DIRECTORY, READ, GET_PERMS, WATCH, UNWATCH, TRANSACTION_START, TRANSACTION_END, INTRODUCE, RELEASE, GET_DOMAIN_PATH, WRITE, MKDIR, RM, SET_PERMS, IS_DOMAIN_INTRODUCED, SET_TARGET, RESET_WATCHES, DIRECTORY_PART}
use Rattle.xs_model.specs.Paths.{Path, path_of}
use Rattle.xs_model.specs.Perms.{letter_of, perm_with, perm_after, perm_of}
use Rattle.xs_model.specs.Messages.{string}
use Rattle.xs_model.specs.Requests.{Operation, Directory, Read, GetPerms, Write, Mkdir, Rm, SetPerms, DirectoryPart, Request, Command, Watch, Unwatch, Start, End, Introduce, Release, DomainPath, IsIntroduced, SetTarget, ResetWatches, ok_value, when, onto_string, cut_string, one_string, two_strings, domid_of, is_empty, is_watch_path, is_token, onto_perms, last_perm, perms_of, one_path, path_request, is_root, rm_request, write_request, set_perms_request, last_field, part_request, watch_request, end_request, introduce_request, domid_request, release_request, target_request, asked, or_einval, request_of}
use Rattle.xs_model.proofs.Maps.{not_Some, from_Some}
use Rattle.xs_model.proofs.FormLemmas.{Always, IfAsked}
use Rattle.kept_model.specs.Sound.{IsSpelled, has_nul}
use Rattle.kept_model.proofs.StepPaths.{read_spelled}
use Rattle.kept_model.proofs.StepNodes.{OperationFits}

-- a request of a domain
abbrev pub RequestFits : ℕ → Request → Type 0
RequestFits domid (Command operation path) = OperationFits operation × IsSpelled path
RequestFits domid (Watch wpath token) = (is_watch_path wpath domid ≡ true) × (is_token token ≡ true) × (has_nul token ≡ false)
RequestFits domid (Unwatch wpath token) = Unit {0}
RequestFits domid Start = Unit {0}
RequestFits domid (End commit) = Unit {0}
RequestFits domid (Introduce new evtchn) = (new ≤ 32751) × (evtchn < 2 ^ 32)
RequestFits domid (Release old) = Unit {0}
RequestFits domid (DomainPath of) = Unit {0}
RequestFits domid (IsIntroduced of) = Unit {0}
RequestFits domid (SetTarget of target) = target ≤ 32751
RequestFits domid ResetWatches = Unit {0}

-- OF A VALUE, IF THERE IS ONE
none : {A : Type 0} {P : A → Type 0} → Always P None
none = record { holds = λ x e. not_Some e }

some : {A : Type 0} {P : A → Type 0} (x : A) → P x → Always P (Some x)
some {P = P} x p = record { holds = λ y e. subst P (from_Some e) p }

either : {A : Type 0} {P : A → Type 0} (b : Bool) {x y : Option A} → Always P x → Always P y → Always P (cond b x y)
either true p q = p
either false p q = q

after : {A B : Type 0} {P : B → Type 0} (o : Option A) (f : A → Option B) → ((x : A) → o ≡ Some x → Always P (f x)) → Always P (option_and_then f o)
after None f to = none
after (Some x) f to = to x refl

mapped : {A B : Type 0} {P : B → Type 0} (o : Option A) (f : A → B) → ((x : A) → o ≡ Some x → P (f x)) → Always P (option_map f o)
mapped None f to = none
mapped (Some x) f to = some (f x) (to x refl)

when_is : {A : Type 0} (b : Bool) (x y : A) → when b x ≡ Some y → (b ≡ true) × (x ≡ y)
when_is true x y e = (refl, from_Some e)
when_is false x y e = not_Some e

ok_is : {A E : Type 0} (r : Result A E) (x : A) → ok_value r ≡ Some x → r ≡ Ok x
ok_is (Ok y) x e = ap (λ z. Ok z) (from_Some e)
ok_is (Err error) x e = not_Some e

-- FIELDS. A number is at most its bound
number_most : (max : ℕ) (text : List ℕ) → Always (λ n. n ≤ max) (ok_value (number_of max text))
number_most max [] = none
number_most max (b ∷ bs) = by (bad_digit_from 0 (b ∷ bs))
  where
    n : ℕ
    n = digits_number 0 (b ∷ bs)

    bounded : (c d : Bool) → nat_lt max n ≡ d → Always (λ m. m ≤ max) (ok_value (cond (c || d) (Err TooLarge) (Ok n)))
    bounded true d e = none
    bounded false true e = none
    bounded false false e = some n (ltb-false max n e)

    by : (fault : Option ℕ) → Always (λ m. m ≤ max) (ok_value (number_unless fault max (b ∷ bs)))
    by (Some at) = none
    by None = bounded (nat_lt 20 (length (b ∷ bs))) (nat_lt max n) refl

-- an entry's domid has 16 bits
perm_small : (text : List ℕ) → Always (λ perm. perm.domid < 2 ^ 16) (ok_value (perm_of text))
perm_small [] = none
perm_small (b ∷ text) = by (letter_of b)
  where
    with_number : (letter : Letter) (r : Result ℕ NumFault) → Always (λ n. n ≤ 65535) (ok_value r) → Always (λ (perm : Perm). perm.domid < 2 ^ 16) (ok_value (perm_with letter r))
    with_number letter (Ok domid) h = let l : domid ≤ 65535 = h.holds domid refl in some (record { letter = letter; stale = false; domid = domid }) (omega arith)
    with_number letter (Err fault) h = none

    by : (letter : Option Letter) → Always (λ (perm : Perm). perm.domid < 2 ^ 16) (ok_value (perm_after letter text))
    by None = none
    by (Some letter) = with_number letter (number_of 65535 text) (number_most 65535 text)

-- there are no more entries than bytes
abbrev AreFew : ℕ → List Perm → Type 0
AreFew n perms = (length perms ≤ n) × AllByRecursion (λ perm. perm.domid < 2 ^ 16) perms

last_few : (n : ℕ) (o : Option Perm) (at_end : Bool) (more : Option (List Perm)) → Always (λ perm. perm.domid < 2 ^ 16) o → Always (AreFew n) more → Always (AreFew (suc n)) (last_perm o at_end more)
last_few n None at_end more p h = none
last_few n (Some perm) true more p h = some (perm ∷ []) (omega arith, (p.holds perm refl, tt))
last_few n (Some perm) false more p h =
    mapped more (onto_perms perm) (λ perms e. let few : AreFew n perms = h.holds perms e in let short : length perms ≤ n = few.0 in (omega arith, (p.holds perm refl, few.1)))

more_few : (n : ℕ) (o : Option (List Perm)) → Always (AreFew n) o → Always (AreFew (suc n)) o
more_few n o h = record { holds = λ perms e. let few : AreFew n perms = h.holds perms e in let short : length perms ≤ n = few.0 in (omega arith, few.1) }

perms_few : (rest bytes : List ℕ) → Always (AreFew (length bytes)) (perms_of rest bytes)
perms_few rest [] = none
perms_few rest (b ∷ bs) =
    either (b == 0) (last_few (length bs) (ok_value (perm_of rest)) (is_empty bs) (perms_of [] bs) (perm_small rest) (perms_few [] bs))
    (more_few (length bs) (perms_of (rest ++ b ∷ []) bs) (perms_few (rest ++ b ∷ []) bs))

-- what is behind a string is no longer than all
cut_shorter : (bytes : List ℕ) → Always (λ (cut : List ℕ × List ℕ). length cut.1 ≤ length bytes) (cut_string bytes)
cut_shorter [] = none
cut_shorter (b ∷ bs) =
    either (b == 0) (some ([], bs) (omega arith))
    (mapped (cut_string bs) (onto_string b) (λ cut e. let l : length cut.1 ≤ length bs = (cut_shorter bs).holds cut e in omega arith))

-- and what was cut off is a text
abbrev pub IsText : List ℕ → Type 0
IsText bytes = has_nul bytes ≡ false

onto_is_text : (b : ℕ) (text : List ℕ) → (b == 0) ≡ false → IsText text → IsText (b ∷ text)
onto_is_text b text other e = λ i. other i || e i

pub cut_is_text : (bytes : List ℕ) → Always (λ (cut : List ℕ × List ℕ). IsText cut.0) (cut_string bytes)
cut_is_text [] = none
cut_is_text (b ∷ bs) =
    let later = cut_is_text bs in
    elim (b == 0) as (λ c. (b == 0) ≡ c → Always (λ (cut : List ℕ × List ℕ). IsText cut.0) (cond c (Some ([], bs)) (option_map (onto_string b) (cut_string bs)))) [
      | true ↦ λ e. some ([], bs) refl
      | false ↦ λ e. mapped (cut_string bs) (onto_string b) (λ cut f. onto_is_text b cut.0 e (later.holds cut f))
    ] refl

-- one string, and nothing behind it
pub one_is_text : (payload : List ℕ) → Always IsText (one_string payload)
one_is_text payload = after (cut_string payload) (λ first. when (is_empty first.1) first.0) (λ first e. either (is_empty first.1) (some first.0 ((cut_is_text payload).holds first e)) none)

second_is_text : (payload : List ℕ) → Always (λ (both : List ℕ × List ℕ × List ℕ). IsText both.1) (two_strings payload)
second_is_text payload =
    after (cut_string payload) _ (λ first e. after (cut_string first.1) _ (λ second f. some (first.0, second.0, second.1) ((cut_is_text first.1).holds second f)))

path_read : (bytes : List ℕ) (domid : ℕ) (p : Path) → ok_value (path_of bytes domid) ≡ Some p → IsSpelled p
path_read bytes domid p e = read_spelled bytes domid p (ok_is (path_of bytes domid) p e)

-- PAYLOADS
one_path_spelled : (payload : List ℕ) (domid : ℕ) → Always IsSpelled (one_path payload domid)
one_path_spelled payload domid = after (one_string payload) (λ bytes. ok_value (path_of bytes domid)) (λ bytes e. record { holds = path_read bytes domid })

module _ (domid : ℕ) (payload : List ℕ) where
  abbrev Reads : Option Request → Type 0
  Reads o = Always (RequestFits domid) o

  path_reads : (operation : Operation) → OperationFits operation → Reads (path_request operation payload domid)
  path_reads operation o = mapped (one_path payload domid) (Command operation) (λ path e. (o, (one_path_spelled payload domid).holds path e))

  rm_reads : Reads (rm_request payload domid)
  rm_reads =
      after (one_path payload domid) (λ path. when (not (is_root path)) (Command Rm path))
      (λ path e. either (not (is_root path)) (some (Command Rm path) (tt, (one_path_spelled payload domid).holds path e)) none)

  write_reads : length payload ≤ 4096 → Reads (write_request payload domid)
  write_reads few =
      after (cut_string payload) _ (λ first e. after (ok_value (path_of first.0 domid)) _ (λ path f.
      let l : length first.1 ≤ length payload = (cut_shorter payload).holds first e in
      some (Command (Write first.1) path) (omega arith, path_read first.0 domid path f)))

  set_perms_reads : length payload ≤ 4096 → Reads (set_perms_request payload domid)
  set_perms_reads few =
      after (cut_string payload) _ (λ first e. after (ok_value (path_of first.0 domid)) _ (λ path f. after (perms_of [] first.1) _ (λ perms g.
      let l : length first.1 ≤ length payload = (cut_shorter payload).holds first e in
      let read : AreFew (length first.1) perms = (perms_few [] first.1).holds perms g in
      let short : length perms ≤ length first.1 = read.0 in
      some (Command (SetPerms perms) path) (record { entries = omega arith; domids = read.1 }, path_read first.0 domid path f))))

  part_reads : Reads (part_request payload domid)
  part_reads =
      after (cut_string payload) _ (λ first e. after (ok_value (path_of first.0 domid)) _ (λ path f. after (last_field first.1) _ (λ text g.
      after (ok_value (number_of 18446744073709551615 text)) _ (λ offset i. some (Command (DirectoryPart offset) path) (tt, path_read first.0 domid path f)))))

  watch_fits : (path bytes wpath token : List ℕ) → IsText bytes → when (is_watch_path path domid) path ≡ Some wpath → when (is_token bytes) bytes ≡ Some token
      → (is_watch_path wpath domid ≡ true) × (is_token token ≡ true) × (has_nul token ≡ false)
  watch_fits path bytes wpath token is e f =
      let a = when_is (is_watch_path path domid) path wpath e in
      let b = when_is (is_token bytes) bytes token f in
      (subst (λ w. is_watch_path w domid ≡ true) a.1 a.0, subst (λ t. is_token t ≡ true) b.1 b.0, subst IsText b.1 is)

  watch_reads : Reads (watch_request Watch payload domid)
  watch_reads =
      after (two_strings payload) _ (λ both e. after (when (is_watch_path both.0 domid) both.0) _ (λ wpath f. after (when (is_token both.1) both.1) _ (λ token g.
      some (Watch wpath token) (watch_fits both.0 both.1 wpath token ((second_is_text payload).holds both e) f g))))

  unwatch_reads : Reads (watch_request Unwatch payload domid)
  unwatch_reads =
      after (two_strings payload) _ (λ both e. after (when (is_watch_path both.0 domid) both.0) _ (λ wpath f. after (when (is_token both.1) both.1) _ (λ token g.
      some (Unwatch wpath token) tt)))

  end_reads : Reads (end_request payload)
  end_reads = either (bytes_eq payload (string (codes "T"))) (some (End true) tt) (either (bytes_eq payload (string (codes "F"))) (some (End false) tt) none)

  introduce_reads : Reads (introduce_request payload)
  introduce_reads =
      after (two_strings payload) _ (λ both e. after (cut_string both.2) _ (λ third f. after (domid_of both.0) _ (λ new g.
      after (ok_value (number_of 18446744073709551615 both.1)) _ (λ gfn i. after (ok_value (number_of 4294967295 third.0)) _ (λ evtchn j.
      let l : evtchn ≤ 4294967295 = (number_most 4294967295 third.0).holds evtchn j in
      some (Introduce new evtchn) ((number_most 32751 both.0).holds new g, omega arith))))))

  domain_path_reads : Reads (domid_request DomainPath payload)
  domain_path_reads = after (one_string payload) _ (λ bytes e. after (domid_of bytes) _ (λ of f. some (DomainPath of) tt))

  is_introduced_reads : Reads (domid_request IsIntroduced payload)
  is_introduced_reads = after (one_string payload) _ (λ bytes e. after (domid_of bytes) _ (λ of f. some (IsIntroduced of) tt))

  release_reads : Reads (release_request payload)
  release_reads = after (one_string payload) _ (λ bytes e. after (domid_of bytes) _ (λ old f. either (not (old == 0)) (some (Release old) tt) none))

  target_reads : Reads (target_request payload)
  target_reads =
      after (two_strings payload) _ (λ both e. after (when (is_empty both.2) both.2) _ (λ last f. after (domid_of both.0) _ (λ of g. after (domid_of both.1) _ (λ target i.
      some (SetTarget of target) ((number_most 32751 both.1).holds target i)))))

  asked_reads : (kind : ℕ) → length payload ≤ 4096 → Reads (asked kind payload domid)
  asked_reads kind few =
      either (kind == DIRECTORY) (path_reads Directory tt) (
      either (kind == READ) (path_reads Read tt) (
      either (kind == GET_PERMS) (path_reads GetPerms tt) (
      either (kind == WATCH) watch_reads (
      either (kind == UNWATCH) unwatch_reads (
      either (kind == TRANSACTION_START) (some Start tt) (
      either (kind == TRANSACTION_END) end_reads (
      either (kind == INTRODUCE) introduce_reads (
      either (kind == RELEASE) release_reads (
      either (kind == GET_DOMAIN_PATH) domain_path_reads (
      either (kind == WRITE) (write_reads few) (
      either (kind == MKDIR) (path_reads Mkdir tt) (
      either (kind == RM) rm_reads (
      either (kind == SET_PERMS) (set_perms_reads few) (
      either (kind == IS_DOMAIN_INTRODUCED) is_introduced_reads (
      either (kind == SET_TARGET) target_reads (
      either (kind == RESET_WATCHES) (some ResetWatches tt) (
      either (kind == DIRECTORY_PART) part_reads none)))))))))))))))))

  or_einval_reads : (o : Option Request) → Reads o → IfAsked (RequestFits domid) (or_einval o)
  or_einval_reads None h = tt
  or_einval_reads (Some request) h = h.holds request refl

  served_reads : (b : Bool) (kind : ℕ) → length payload ≤ 4096 → IfAsked (RequestFits domid) (cond b (or_einval (asked kind payload domid)) (Err Enosys))
  served_reads true kind few = or_einval_reads (asked kind payload domid) (asked_reads kind few)
  served_reads false kind few = tt

  pub request_of_fits : (served : List ℕ) (kind : ℕ) → length payload ≤ 4096 → IfAsked (RequestFits domid) (request_of served kind payload domid)
  request_of_fits served kind few = served_reads (list_any (λ t. t == kind) served) kind few
