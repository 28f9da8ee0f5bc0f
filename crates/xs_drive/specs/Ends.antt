-- What `drive` says of its ends. This project's own.
use Rattle.std.specs.Prelude.{◌≡◌, ◌⊎◌, ℕ, ◌≤◌, List, [], length, take, Option, Some, Ok, Err}
use Rattle.std.specs.Io.KnownBytes.{Appends, Keeps}
use Rattle.program_io.specs.Ends.{input_limit}
use Rattle.xs_model.specs.Requests.{all_types}
use Rattle.kept_model.specs.declared.fault.LoadFault.{LoadFault}
use Rattle.kept_model.specs.Normal.{state_of_bytes}
use Rattle.world_model.specs.declared.LineKind.{LineKind}
use Rattle.world_model.specs.declared.Said.{Said}
use Rattle.world_model.specs.Worlds.{World}
use Rattle.world_model.specs.Scripts.{Script, script_of}
use Rattle.world_model.specs.Transcripts.{start_of, transcript_with}
use Rattle.world_laws.specs.Handovers.{without_handover_lines, without_handover_requests}
use Rattle.world_states.specs.States.{resumed}
use Rattle.handover.specs.Hands.{Told}
use Rattle.xs_drive.specs.Vaults.{HandsOn, told_within}

-- THE TEXT is a script, which begins in this world: that of a new store, or of the state that its stream tells
pub record IsPlayable (text : List ℕ) : Type 0 where
  pub short : length text ≤ input_limit
  pub script : Script
  pub reads : script_of text ≡ Ok script
  pub start : World
  pub starts : start_of resumed script ≡ Some start

-- or the stream with which it begins tells no state
pub record IsRefused (text : List ℕ) (fault : LoadFault) : Type 0 where
  pub short : length text ≤ input_limit
  pub script : Script
  pub reads : script_of text ≡ Ok script
  pub stream : List ℕ
  pub resumes : script.resume ≡ Some stream
  pub refused : state_of_bytes stream ≡ Err fault

-- or it is no script: its first faulty line, and that line's first fault
pub record IsFaulty (text : List ℕ) (line : ℕ) (kind : LineKind) : Type 0 where
  pub short : length text ≤ input_limit
  pub reads : script_of text ≡ Err (record { line = line; kind = kind })

-- ITS TRANSCRIPT, where its handovers say this
abbrev pub transcript : List ℕ → List Said → List ℕ
transcript text says = transcript_with resumed all_types text says

-- THE RUN of a text, of whose transcript n bytes were written. There is one transcript for all guests, and nothing in it
-- shows that the store was replaced.
pub record Plays (text : List ℕ) (says : List Said) (n : ℕ) (out out_new : Option (List ℕ)) (vault vault_new : Told) : Type 0 where
  pub playable : IsPlayable text
  -- what was written is a front of the transcript with these answers
  pub wrote : Appends out out_new (take n (transcript text says))
  -- they are those of the script's handovers, and the vault took and gave what they say whose lines are among these bytes
  pub hands : HandsOn playable.start playable.script.events says (told_within n playable.start playable.script.events says) vault vault_new
  -- without its lines that tell of handovers it is the transcript of the script without handovers
  pub hides : without_handover_lines (transcript text says) ≡ transcript (without_handover_requests text) []

-- all of the transcript was written, and every handover's line is in it
pub record PlaysAll (text : List ℕ) (out out_new : Option (List ℕ)) (vault vault_new : Told) : Type 0 where
  pub says : List Said
  pub plays : Plays text says (length (transcript text says)) out out_new vault vault_new
  pub all : told_within (length (transcript text says)) plays.playable.start plays.playable.script.events says ≡ length says

-- some of it was
pub record PlaysFront (text : List ℕ) (out out_new : Option (List ℕ)) (vault vault_new : Told) : Type 0 where
  pub says : List Said
  pub n : ℕ
  pub plays : Plays text says n out out_new vault vault_new

-- or the run had not begun
pub record HasNotBegun (out out_new : Option (List ℕ)) (vault vault_new : Told) : Type 0 where
  pub nothing : Keeps out out_new
  pub untouched : vault_new ≡ vault

abbrev pub PlaysFrontOrNone : List ℕ → Option (List ℕ) → Option (List ℕ) → Told → Told → Type 0
PlaysFrontOrNone text out out_new vault vault_new =
    HasNotBegun out out_new vault vault_new ⊎ PlaysFront text out out_new vault vault_new
