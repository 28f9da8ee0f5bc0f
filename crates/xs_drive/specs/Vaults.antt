-- The handovers of a run: which images go through the vault, and what it took and gave. This project's own.
use Rattle.std.specs.Prelude.{◌≡◌, ◌⊎◌, ◌^◌, ◌+◌, ◌-◌, ◌≤◌, ℕ, min, Bool, true, false, if◌then◌else◌, nat_le, List, [], ◌∷◌, length, take, drop}
use Rattle.std.specs.List.{AllByRecursion}
use Rattle.xs_base.specs.Vault.{Gains, Stays}
use Rattle.xs_model.specs.Requests.{all_types}
use Rattle.kept_model.specs.Images.{image}
use Rattle.world_model.specs.declared.Said.{Said}
use Rattle.world_model.specs.declared.Said.TheVariants.{Queued, Gone, Put, Took, InFull, Part, DroppedIndex, DroppedLength, Held, Crowded, Done, NoneQueued, NoSpace, Sent, Got, Poked, Page, Handed, RefusedFault, RefusedChanged, NoMemory}
use Rattle.world_model.specs.Worlds.{World, Event, event_with}
use Rattle.world_model.specs.Transcripts.{is_handover, event_line, says_after}
use Rattle.world_states.specs.States.{kept}
use Rattle.handover.specs.Hands.{Told, IsLater, MayGain}
use Rattle.world_core.specs.Handovers.{HandsAs}

-- for each handover of the events, the image of what is kept just before it
abbrev pub images : World → List Event → List (List ℕ)
images w [] = []
images w (e ∷ es) =
    let later = images (event_with all_types e w).world es in
    if is_handover e then image (kept w) ∷ later else later

-- WHAT A HANDOVER SAYS: that a new store goes on, or why the old one does. Want of memory ends the run instead.
abbrev pub is_answer : Said → Bool
is_answer Handed = true
is_answer RefusedFault = true
is_answer (RefusedChanged at put got) = true
is_answer NoMemory = false
is_answer (Queued n) = false
is_answer Gone = false
is_answer (Put n) = false
is_answer (Took n) = false
is_answer InFull = false
is_answer Part = false
is_answer (DroppedIndex prod cons) = false
is_answer (DroppedLength len) = false
is_answer (Held unsent) = false
is_answer (Crowded conn) = false
is_answer Done = false
is_answer NoneQueued = false
is_answer NoSpace = false
is_answer (Sent n) = false
is_answer (Got n) = false
is_answer Poked = false
is_answer (Page req_cons req_prod rsp_cons rsp_prod error) = false

-- as many answers as there are handovers, and each is one
pub record AreAnswers (w : World) (events : List Event) (says : List Said) : Type 0 where
  pub count : length says ≡ length (images w events)
  pub each : AllByRecursion (λ said. is_answer said ≡ true) says

-- ALL HANDED: one after the other, each takes and gives what its answer says of its image
abbrev pub AllHand : List (List ℕ) → Told → List Said → Told → Type 0
AllHand [] vault [] vault_new = vault_new ≡ vault
AllHand [] vault (said ∷ says) vault_new = ⊥
AllHand (image ∷ images) vault [] vault_new = ⊥
AllHand (image ∷ images) vault (said ∷ says) vault_new =
    (between : Told) × HandsAs image vault said between × AllHand images between says vault_new

-- MAY HAND, where no line tells what came of it: the vault took the image or not, and gave a string or none
pub record MayTake (image : List ℕ) (vault vault_new : Told) : Type 0 where
  pub later : IsLater vault vault_new
  pub put : MayGain vault.puts vault_new.puts image
  pub got : Stays vault.gets vault_new.gets ⊎ ((string : List ℕ) × Gains vault.gets vault_new.gets string)

abbrev pub MayHand : List (List ℕ) → Told → Told → Type 0
MayHand [] vault vault_new = vault_new ≡ vault
MayHand (image ∷ images) vault vault_new = (between : Told) × MayTake image vault between × MayHand images between vault_new

-- the number of handovers whose lines stand within the first n bytes of the transcript
abbrev pub told_within : ℕ → World → List Event → List Said → ℕ
told_within n w [] says = 0
told_within n w (e ∷ es) says =
    let told = event_with all_types e w in
    let line = length (event_line e says told) in
    let later = told_within (n - line) told.world es (says_after e says) in
    if nat_le line n then (if is_handover e then later + 1 else later) else 0

-- among answers, those that tell of a fault
abbrev pub is_fault : Said → Bool
is_fault RefusedFault = true
is_fault Handed = false
is_fault (RefusedChanged at put got) = false
is_fault NoMemory = false
is_fault (Queued n) = false
is_fault Gone = false
is_fault (Put n) = false
is_fault (Took n) = false
is_fault InFull = false
is_fault Part = false
is_fault (DroppedIndex prod cons) = false
is_fault (DroppedLength len) = false
is_fault (Held unsent) = false
is_fault (Crowded conn) = false
is_fault Done = false
is_fault NoneQueued = false
is_fault NoSpace = false
is_fault (Sent n) = false
is_fault (Got n) = false
is_fault Poked = false
is_fault (Page req_cons req_prod rsp_cons rsp_prod error) = false

abbrev pub faults_in : List Said → ℕ
faults_in [] = 0
faults_in (said ∷ says) = if is_fault said then faults_in says + 1 else faults_in says

-- the count rose at least so often, or stands at its end
abbrev pub RoseBy : ℕ → ℕ → ℕ → Type 0
RoseBy n before now = min (before + n) (2 ^ 64 - 1) ≤ now

-- no answer tells of bytes that the vault changed
abbrev pub tells_of_change : Said → Bool
tells_of_change (RefusedChanged at put got) = true
tells_of_change Handed = false
tells_of_change RefusedFault = false
tells_of_change NoMemory = false
tells_of_change (Queued n) = false
tells_of_change Gone = false
tells_of_change (Put n) = false
tells_of_change (Took n) = false
tells_of_change InFull = false
tells_of_change Part = false
tells_of_change (DroppedIndex prod cons) = false
tells_of_change (DroppedLength len) = false
tells_of_change (Held unsent) = false
tells_of_change (Crowded conn) = false
tells_of_change Done = false
tells_of_change NoneQueued = false
tells_of_change NoSpace = false
tells_of_change (Sent n) = false
tells_of_change (Got n) = false
tells_of_change Poked = false
tells_of_change (Page req_cons req_prod rsp_cons rsp_prod error) = false

abbrev pub NoneChanged : List Said → Type 0
NoneChanged says = AllByRecursion (λ said. tells_of_change said ≡ false) says

-- THE HANDOVERS OF A RUN from this world, of which the first k were told in lines that were written
pub record HandsOn (w : World) (events : List Event) (says : List Said) (k : ℕ) (vault vault_new : Told) : Type 0 where
  -- each handover says one thing
  pub answers : AreAnswers w events says
  -- the vault took and gave what those say
  pub between : Told
  pub handed : AllHand (take k (images w events)) vault (take k says) between
  -- and what it did since is that of later ones, of which no line tells yet
  pub behind : MayHand (drop k (images w events)) between vault_new
  -- its faults were counted
  pub faults : RoseBy (faults_in (take k says)) vault.faults vault_new.faults
  -- an honest one changed nothing
  pub honest : vault.honest ≡ true → NoneChanged (take k says)
