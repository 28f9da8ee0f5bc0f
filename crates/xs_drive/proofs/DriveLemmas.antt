-- What `drive` says of its ends, from what its parts say.
use Rattle.std.proofs.Common.{◌≡◌, ℕ, ◌≤◌, List, ◌++◌, length, take, refl, sym, ap, subst, ◌∙◌, inl, Option, Some, None, Result, Ok, Err, IfSome, IsSome}
use Rattle.std.proofs.lemmas.Bool.{false≢true}
use Rattle.std.proofs.lemmas.List.{append-nil}
use Rattle.std.specs.Io.KnownBytes.{Appends, Consumes, IsAtEnd, Keeps}
use Rattle.xs_model.specs.Requests.{all_types}
use Rattle.kept_model.specs.declared.fault.LoadFault.{LoadFault}
use Rattle.kept_model.specs.States.{State}
use Rattle.world_model.specs.declared.LineKind.{LineKind}
use Rattle.world_model.specs.declared.Said.{Said}
use Rattle.world_model.specs.Worlds.{World}
use Rattle.world_model.specs.Scripts.{Script, LineFault, script_of}
use Rattle.world_model.specs.Transcripts.{start_of, with_domains, resumed_by, lines_at, lines_from, transcript_of}
use Rattle.world_laws.proofs.ScriptLemmas.{transcript_left}
use Rattle.world_states.specs.States.{resumed, begun_by}
use Rattle.program_io.specs.Ends.{input_limit}
use Rattle.handover.specs.Hands.{Told}
use Rattle.world_core.specs.Stands.{Kept}
use Rattle.xs_drive.specs.Vaults.{HandsOn, told_within}
use Rattle.xs_drive.specs.Ends.{IsPlayable, IsRefused, IsFaulty, PlaysAll, PlaysFront, PlaysFrontOrNone, transcript}
use Rattle.xs_drive.specs.declared.status.Status.TheVariants as status
use Rattle.xs_drive.specs.Starts.{Starts, StartsNot}
use Rattle.xs_drive.proofs.HandLemmas.{hands_counts}
use Rattle.xs_drive.specs.Play.{RunsAllFrom, RunsFrontFrom}

-- what holds of a text that was read to its end holds of what the source had left
pub of_whole : (old new : Option (List ℕ)) (text : List ℕ) (P : List ℕ → Type 0) → Consumes old new text → IsAtEnd new → P text → IfSome old P
of_whole None new text P read end holds = tt
of_whole (Some all) None text P read end holds = absurd read
of_whole (Some all) (Some rest) text P read end holds =
    subst P (sym (read ∙ ap (λ r. text ++ r) end ∙ append-nil text)) holds

-- and what is told of the source holds of the text
pub told_of : (old new : Option (List ℕ)) (text : List ℕ) (P : List ℕ → Type 0) → Consumes old new text → IsAtEnd new → IsSome old → IfSome old P → P text
told_of None new text P read end some holds = absurd (false≢true some)
told_of (Some all) None text P read end some holds = absurd read
told_of (Some all) (Some rest) text P read end some holds = subst P (read ∙ ap (λ r. text ++ r) end ∙ append-nil text) holds

-- THE TEXT by what was read of it
abbrev pub playable : (slice text : List ℕ) (script : Script) (world : Kept) → slice ≡ text → length text ≤ input_limit → script_of slice ≡ Ok script → Starts script world → IsPlayable text
playable slice text script world whole short reads starts =
    record { short = short; script = script; reads = ap script_of (sym whole) ∙ reads; start = starts.start; starts = starts.starts }

pub refused : (slice text : List ℕ) (script : Script) (fault : LoadFault) → slice ≡ text → length text ≤ input_limit → script_of slice ≡ Ok script → StartsNot script fault → IsRefused text fault
refused slice text script fault whole short reads starts =
    record { short = short; script = script; reads = ap script_of (sym whole) ∙ reads; stream = starts.stream; resumes = starts.resumes; refused = starts.refused }

pub faulty : (slice text : List ℕ) (line : ℕ) (kind : LineKind) → slice ≡ text → length text ≤ input_limit → script_of slice ≡ Err (record { line = line; kind = kind }) → IsFaulty text line kind
faulty slice text line kind whole short reads = record { short = short; reads = ap script_of (sym whole) ∙ reads }

-- a text reads one way
same_script : {a b : Script} → ◌≡◌ {A = Result Script LineFault} (Ok a) (Ok b) → a ≡ b
same_script {a = a} e = ap (λ (r : Result Script LineFault). elim r as (λ _. Script) [ Ok s ↦ s | Err f ↦ a ]) e

pub not_refused : {A : Type 0} (text : List ℕ) (fault : LoadFault) → IsRefused text fault → IsPlayable text → A
not_refused text fault is playable = absurd (none_or_some (sym starts ∙ playable.starts))
  where
    same : playable.script ≡ is.script
    same = same_script (sym playable.reads ∙ is.reads)

    starts : start_of resumed playable.script ≡ None
    starts =
        ap (λ (r : Option (List ℕ)). elim (resumed_by resumed r) as (λ _. Option World) [ None ↦ None | Some w ↦ Some (with_domains playable.script.domains w) ])
        (ap (λ (s : Script). s.resume) same ∙ is.resumes)
        ∙ ap (λ (r : Result State LoadFault). elim (begun_by r) as (λ _. Option World) [ None ↦ None | Some w ↦ Some (with_domains playable.script.domains w) ]) is.refused

    none_or_some : ◌≡◌ {A = Option World} None (Some playable.start) → ⊥
    none_or_some e = cc

pub not_faulty : {A : Type 0} (text : List ℕ) (line : ℕ) (kind : LineKind) → IsFaulty text line kind → IsPlayable text → A
not_faulty text line kind is playable = absurd (ok_or_err (sym playable.reads ∙ is.reads))
  where
    ok_or_err : {a : Script} {f : LineFault} → ◌≡◌ {A = Result Script LineFault} (Ok a) (Err f) → ⊥
    ok_or_err e = cc

-- THE RUN of a text that is played
module _ (slice text : List ℕ) (script : Script) (world : Kept) (whole : slice ≡ text) (short : length text ≤ input_limit) (reads : script_of slice ≡ Ok script) (starts : Starts script world)
    (out out_new : Option (List ℕ)) (vault vault_new : Told) where
  abbrev is_played : IsPlayable text
  is_played = playable slice text script world whole short reads starts

  transcript_is : (says : List Said) → transcript text says ≡ lines_from all_types starts.start script.events says
  transcript_is says =
      ap (λ r. transcript_of resumed all_types r says) is_played.reads ∙ ap (λ w. lines_at all_types w script.events says) starts.starts

  pub front_plays : RunsFrontFrom world script.events out out_new vault vault_new → PlaysFront text out out_new vault vault_new
  front_plays runs =
      let front = runs starts.start starts.stands in
      record {
        says = front.says;
        n = front.n;
        plays = record {
          playable = is_played;
          wrote = subst (λ (x : List ℕ). Appends out out_new (take front.n x)) (sym (transcript_is front.says)) front.run.wrote;
          hands = front.run.hands;
          hides = transcript_left resumed all_types text script front.says is_played.reads;
        };
      }

  pub all_plays : RunsAllFrom world script.events out out_new vault vault_new → PlaysAll text out out_new vault vault_new
  all_plays runs =
      let all = runs starts.start starts.stands in
      let lines : List ℕ = lines_from all_types starts.start script.events all.says in
      let same : lines ≡ transcript text all.says = sym (transcript_is all.says) in
      record {
        says = all.says;
        plays = record {
          playable = is_played;
          wrote = subst (λ (x : List ℕ). Appends out out_new (take (length x) x)) same all.run.wrote;
          hands = subst (λ (x : List ℕ). HandsOn starts.start script.events all.says (told_within (length x) starts.start script.events all.says) vault vault_new) same all.run.hands;
          hides = transcript_left resumed all_types text script all.says is_played.reads;
        };
        all = subst (λ (x : List ℕ). told_within (length x) starts.start script.events all.says ≡ length all.says) same all.all;
      }

kept_bytes : (known : Option (List ℕ)) → Keeps known known
kept_bytes None = tt
kept_bytes (Some xs) = refl

-- WANT OF MEMORY before a run began: nothing was written, and no handover was made
pub not_begun : (left : Option (List ℕ)) (out : Option (List ℕ)) (vault : Told) → IfSome left (λ text. PlaysFrontOrNone text out out vault vault)
not_begun None out vault = tt
not_begun (Some text) out vault = inl (record { nothing = kept_bytes out; untouched = refl })

-- the status tells its fault
pub load_of : (fault other : LoadFault) → status.Load fault ≡ status.Load other → fault ≡ other
load_of fault other e = cc

-- THE COUNT of the vault's faults
pub all_counts : (script : Script) (world : Kept) (out out_new : Option (List ℕ)) (vault vault_new : Told) → Starts script world → RunsAllFrom world script.events out out_new vault vault_new → vault.faults ≤ vault_new.faults
all_counts script world out out_new vault vault_new starts runs =
    let all = runs starts.start starts.stands in
    hands_counts starts.start script.events all.says _ vault vault_new all.run.hands

pub front_counts : (script : Script) (world : Kept) (out out_new : Option (List ℕ)) (vault vault_new : Told) → Starts script world → RunsFrontFrom world script.events out out_new vault vault_new → vault.faults ≤ vault_new.faults
front_counts script world out out_new vault vault_new starts runs =
    let front = runs starts.start starts.stands in
    hands_counts starts.start script.events front.says _ vault vault_new front.run.hands
