-- What an input shows, by what was read of it.
use Rattle.std.proofs.Common.{◌≡◌, ℕ, ◌≤◌, List, ◌++◌, length, Option, Some, None, refl, sym, ap, subst, ◌∙◌}
use Rattle.std.specs.Prelude.{IfSome, IsSome, Result, Ok, Err}
use Rattle.std.specs.Io.KnownBytes.{Appends, Consumes, IsAtEnd}
use Rattle.std.proofs.lemmas.List.{append-nil}
use Rattle.stream_model.specs.Record.{StreamRecord}
use Rattle.stream_model.specs.Spelling.{IsStream}
use Rattle.stream_model.specs.View.{view_text}
use Rattle.stream_model.specs.declared.fault.StreamFault.{StreamFault}
use Rattle.stream_model.specs.Faults.{IsFirstFault}
use Rattle.stream_model.proofs.SpelledIsRead.{same_records, stream_of-spelled}
use Rattle.stream_model.proofs.FirstFault.{reads_first_fault}
use Rattle.stream_view.specs.declared.form.Form.{Form}
use Rattle.program_io.specs.Ends.{AppendsFront, input_limit}
use Rattle.stream_view.specs.Shown.{form_of, bytes_given, Gives, Shows, IsNoStream}
use Rattle.stream_view.specs.declared.status.ViewStatus.TheVariants.{Stream}

-- what holds of all that was read to the end holds of what the source had, where it tells it
of_source : (P : List ℕ → Type 0) (old new : Option (List ℕ)) (input : List ℕ) → Consumes old new input → IsAtEnd new → P input → IfSome old P
of_source P None new input read end h = tt
of_source P (Some all) None input read end h = absurd read
of_source P (Some all) (Some left) input read end h =
    let whole : all ≡ input = read ∙ ap (λ l. input ++ l) end ∙ append-nil input in
    subst P (sym whole) h

some_is : {A : Type 0} (x y : A) → Some x ≡ Some y → x ≡ y
some_is x y e = cc

-- by the same words an input gives the same bytes
same_bytes : (words : List (List ℕ)) (input bytes others : List ℕ) → Gives words input bytes → Gives words input others → bytes ≡ others
same_bytes words input bytes others h g =
    let form : h.form ≡ g.form = some_is h.form g.form (sym h.asked ∙ g.asked) in
    some_is bytes others (sym h.given ∙ ap (λ f. bytes_given f input) form ∙ g.given)

-- and the same lines
pub same_lines : (words : List (List ℕ)) (input bytes : List ℕ) (records : List StreamRecord) (lines : List ℕ) → Gives words input bytes → IsStream bytes records → Shows words input lines → view_text bytes records ≡ lines
same_lines words input bytes records lines gives stream shows =
    let same = same_bytes words input shows.bytes bytes shows.gives gives in
    let other : IsStream bytes shows.records = subst (λ b. IsStream b shows.records) same shows.stream in
    sym (shows.text ∙ ap (λ b. view_text b shows.records) same ∙ ap (view_text bytes) (same_records bytes shows.records records other stream))

front_of_shown : (words : List (List ℕ)) (input bytes : List ℕ) (records : List StreamRecord) (old new : Option (List ℕ)) → Gives words input bytes → IsStream bytes records
    → AppendsFront old new (view_text bytes records) → (lines : List ℕ) → Shows words input lines → AppendsFront old new lines
front_of_shown words input bytes records old new gives stream front lines shows =
    subst (AppendsFront old new) (same_lines words input bytes records lines gives stream shows) front

ok_or_err : {A E : Type 0} (x : A) (e : E) → ◌≡◌ {A = Result A E} (Ok x) (Err e) → ⊥
ok_or_err x e h = cc

-- a stream has no fault
no_fault_shown : (words : List (List ℕ)) (input bytes lines : List ℕ) (fault : StreamFault) → Gives words input bytes → IsFirstFault bytes fault → Shows words input lines → ⊥
no_fault_shown words input bytes lines fault gives first shows =
    let same = same_bytes words input shows.bytes bytes shows.gives gives in
    let stream : IsStream bytes shows.records = subst (λ b. IsStream b shows.records) same shows.stream in
    ok_or_err shows.records fault (sym (stream_of-spelled bytes shows.records stream) ∙ reads_first_fault bytes fault first)

none_is_some : IsSome {T = List ℕ} None → ⊥
none_is_some h = cc

-- what was told of a source's bytes was told of those that were read
told_of : (P : List ℕ → Type 0) (old new : Option (List ℕ)) (input : List ℕ) → Consumes old new input → IsAtEnd new → IsSome old → IfSome old P → P input
told_of P None new input read end told h = absurd (none_is_some told)
told_of P (Some all) None input read end told h = absurd read
told_of P (Some all) (Some left) input read end told h =
    let whole : all ≡ input = read ∙ ap (λ l. input ++ l) end ∙ append-nil input in
    subst P whole h

not_shown : (words : List (List ℕ)) (old new : Option (List ℕ)) (input bytes : List ℕ) (fault : StreamFault) → Consumes old new input → IsAtEnd new → Gives words input bytes → IsFirstFault bytes fault
    → IsSome old → IfSome old (λ all. (lines : List ℕ) × Shows words all lines) → ⊥
not_shown words old new input bytes fault read end gives first told h =
    let shown = told_of (λ all. (lines : List ℕ) × Shows words all lines) old new input read end told h in
    no_fault_shown words input bytes shown.0 fault gives first shown.1

-- the fault that was answered is the first of the bytes
no_stream : (words : List (List ℕ)) (input bytes : List ℕ) (found fault : StreamFault) → Gives words input bytes → IsFirstFault bytes found → Stream found ≡ Stream fault → IsNoStream words input fault
no_stream words input bytes found fault gives first e =
    let same : found ≡ fault = cc in
    record { bytes = bytes; gives = gives; first = subst (IsFirstFault bytes) same first }

-- ---- what was read, step by step, of a source

-- the words, what the source gave to its end, and the bytes that this gives, which are read as the slice `read`
pub record IsRead (words : List (List ℕ)) (before after : Option (List ℕ)) (read : List ℕ) : Type 0 where
  pub input : List ℕ
  pub taken : Consumes before after input
  pub ended : IsAtEnd after
  pub gives : Gives words input read

pub is_read : (words : List (List ℕ)) (before after : Option (List ℕ)) (form : Form) (input bytes read : List ℕ) → Some form ≡ form_of words → Consumes before after input → IsAtEnd after → length input ≤ input_limit
    → bytes_given form input ≡ Some bytes → read ≡ bytes → IsRead words before after read
is_read words before after form input bytes read asked taken ended short given same =
    record { input = input; taken = taken; ended = ended; gives = record { form = form; asked = sym asked; short = short; given = given ∙ ap Some (sym same) } }

pub told_fault : (words : List (List ℕ)) (before after : Option (List ℕ)) (read : List ℕ) (found fault : StreamFault) → IsRead words before after read → IsFirstFault read found → Stream found ≡ Stream fault
    → IfSome before (λ input. IsNoStream words input fault)
told_fault words before after read found fault r first e =
    of_source (λ input. IsNoStream words input fault) before after r.input r.taken r.ended (no_stream words r.input read found fault r.gives first e)

pub told_no_lines : (words : List (List ℕ)) (before after : Option (List ℕ)) (read : List ℕ) (fault : StreamFault) → IsRead words before after read → IsFirstFault read fault
    → IsSome before → IfSome before (λ input. (lines : List ℕ) × Shows words input lines) → ⊥
told_no_lines words before after read fault r first told shown = not_shown words before after r.input read fault r.taken r.ended r.gives first told shown

pub told_lines : (words : List (List ℕ)) (before after : Option (List ℕ)) (read : List ℕ) (records : List StreamRecord) → IsRead words before after read → IsStream read records
    → IfSome before (λ input. (lines : List ℕ) × Shows words input lines)
told_lines words before after read records r stream =
    of_source (λ input. (lines : List ℕ) × Shows words input lines) before after r.input r.taken r.ended
    (view_text read records, record { bytes = read; gives = r.gives; records = records; stream = stream; text = refl })

pub told_front : (words : List (List ℕ)) (before after : Option (List ℕ)) (read : List ℕ) (records : List StreamRecord) (old new : Option (List ℕ)) → IsRead words before after read → IsStream read records
    → AppendsFront old new (view_text read records) → IfSome before (λ input. (lines : List ℕ) → Shows words input lines → AppendsFront old new lines)
told_front words before after read records old new r stream front =
    of_source (λ input. (lines : List ℕ) → Shows words input lines → AppendsFront old new lines) before after r.input r.taken r.ended
    (front_of_shown words r.input read records old new r.gives stream front)

shown : (words : List (List ℕ)) (input read : List ℕ) (records : List StreamRecord) → Gives words input read → IsStream read records → Shows words input (view_text read records)
shown words input read records gives stream = record { bytes = read; gives = gives; records = records; stream = stream; text = refl }

pub told_done : (words : List (List ℕ)) (before after : Option (List ℕ)) (read : List ℕ) (records : List StreamRecord) (old new : Option (List ℕ)) → IsRead words before after read → IsStream read records
    → Appends old new (view_text read records) → IfSome before (λ input. (lines : List ℕ) × Shows words input lines × Appends old new lines)
told_done words before after read records old new r stream appends =
    of_source (λ input. (lines : List ℕ) × Shows words input lines × Appends old new lines) before after r.input r.taken r.ended
    (view_text read records, shown words r.input read records r.gives stream, appends)

-- what is said of inputs without lines is said of another input
pub told_some : (words : List (List ℕ)) (before after : Option (List ℕ)) (read : List ℕ) (records : List StreamRecord) (P : Type 0) → IsRead words before after read → IsStream read records
    → IfSome before (λ input. ((lines : List ℕ) → Shows words input lines → ⊥) → P)
told_some words before after read records P r stream =
    of_source (λ input. ((lines : List ℕ) → Shows words input lines → ⊥) → P) before after r.input r.taken r.ended
    (λ none. absurd (none (view_text read records) (shown words r.input read records r.gives stream)))
