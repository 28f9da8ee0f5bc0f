-- What events print, for each world that the code's world stands for. This project's own.
use Rattle.std.specs.Prelude.{◌≡◌, ◌⊎◌, ℕ, true, false, List, [], ◌∷◌, ◌++◌, length, take, Option}
use Rattle.std.specs.Io.KnownBytes.{Appends}
use Rattle.xs_model.specs.Requests.{all_types}
use Rattle.kept_model.specs.Images.{image}
use Rattle.world_model.specs.declared.Said.{Said}
use Rattle.world_model.specs.Worlds.{World, Event, event_with}
use Rattle.world_model.specs.Transcripts.{event_line, is_handover, lines_from}
use Rattle.world_states.specs.States.{kept}
use Rattle.handover.specs.Hands.{Told}
use Rattle.world_core.specs.Stands.{Kept, StandsFor}
use Rattle.world_core.specs.Handovers.{HandsAs}
use Rattle.xs_drive.specs.Vaults.{is_answer, MayTake, HandsOn, told_within}

-- the line of the event in that world, where a handover says this
abbrev pub line_in : World → Event → List Said → List ℕ
line_in w event says = event_line event says (event_with all_types event w)

-- A LINE WAS PRINTED: that of a handover with what it said, by which the vault took and gave; and else the vault is as before
abbrev pub SaysOf : World → Event → List Said → Told → Told → Type 0
SaysOf w event [] vault vault_new = (is_handover event ≡ false) × (vault_new ≡ vault)
SaysOf w event (said ∷ []) vault vault_new =
    (is_handover event ≡ true) × (is_answer said ≡ true) × HandsAs (image (kept w)) vault said vault_new
SaysOf w event (said ∷ other ∷ says) vault vault_new = ⊥

pub record PrintsIn (w : World) (event : Event) (lines : List ℕ) (vault : Told) (new : Kept) (lines_new : List ℕ) (vault_new : Told) : Type 0 where
  pub stands : StandsFor new (event_with all_types event w).world
  pub says : List Said
  pub said : SaysOf w event says vault vault_new
  pub printed : lines_new ≡ lines ++ line_in w event says

abbrev pub Prints : Kept → Event → List ℕ → Told → Kept → List ℕ → Told → Type 0
Prints old event lines vault new lines_new vault_new =
    (w : World) → StandsFor old w → PrintsIn w event lines vault new lines_new vault_new

-- NO LINE WAS, for want of memory: a handover may have put its image all the same
abbrev pub PrintsNothing : Kept → Event → Told → Told → Type 0
PrintsNothing old event vault vault_new =
    (w : World) → StandsFor old w
    → ((is_handover event ≡ false) × (vault_new ≡ vault)) ⊎ ((is_handover event ≡ true) × MayTake (image (kept w)) vault vault_new)

-- A RUN of events from a world, of whose lines n bytes were written
pub record Runs (w : World) (events : List Event) (says : List Said) (n : ℕ) (out out_new : Option (List ℕ)) (vault vault_new : Told) : Type 0 where
  pub wrote : Appends out out_new (take n (lines_from all_types w events says))
  pub hands : HandsOn w events says (told_within n w events says) vault vault_new

-- all of them were written, and every handover's line is among them
pub record RunsAll (w : World) (events : List Event) (out out_new : Option (List ℕ)) (vault vault_new : Told) : Type 0 where
  pub says : List Said
  pub run : Runs w events says (length (lines_from all_types w events says)) out out_new vault vault_new
  pub all : told_within (length (lines_from all_types w events says)) w events says ≡ length says

-- or some of it was
pub record RunsFront (w : World) (events : List Event) (out out_new : Option (List ℕ)) (vault vault_new : Told) : Type 0 where
  pub says : List Said
  pub n : ℕ
  pub run : Runs w events says n out out_new vault vault_new

abbrev pub RunsAllFrom : Kept → List Event → Option (List ℕ) → Option (List ℕ) → Told → Told → Type 0
RunsAllFrom world events out out_new vault vault_new =
    (w : World) → StandsFor world w → RunsAll w events out out_new vault vault_new

abbrev pub RunsFrontFrom : Kept → List Event → Option (List ℕ) → Option (List ℕ) → Told → Told → Type 0
RunsFrontFrom world events out out_new vault vault_new =
    (w : World) → StandsFor world w → RunsFront w events out out_new vault vault_new
