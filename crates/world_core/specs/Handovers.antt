-- A handover in a world: what it says, and what the vault took and gave. This project's own.
use Rattle.std.specs.Prelude.{◌≡◌, ℕ, List}
use Rattle.kept_model.specs.Images.{image}
use Rattle.world_model.specs.declared.Said.{Said}
use Rattle.world_model.specs.declared.Said.TheVariants.{Queued, Gone, Put, Took, InFull, Part, DroppedIndex, DroppedLength, Held, Crowded, Done, NoneQueued, NoSpace, Sent, Got, Poked, Page, Handed, RefusedFault, RefusedChanged, NoMemory}
use Rattle.world_model.specs.Worlds.{World}
use Rattle.world_states.specs.States.{kept}
use Rattle.handover.specs.declared.handed.Refusal.{Refusal}
use Rattle.handover.specs.declared.handed.Refusal.TheVariants as refusal
use Rattle.handover.specs.Hands.{Told, HasHanded, HasFailed, HasChanged, HadNoMemory}
use Rattle.world_core.specs.Stands.{Kept, StandsFor, GoesOn}

-- what a refusal says
abbrev pub refused_by : Refusal → Said
refused_by refusal.VaultFault = RefusedFault
refused_by (refusal.Changed change) = RefusedChanged change.at change.put change.got
refused_by refusal.NoMemory = NoMemory

-- by the image of what was kept: what the vault took and gave where a handover said so. It says nothing else.
abbrev pub HandsAs : List ℕ → Told → Said → Told → Type 0
HandsAs image vault Handed vault_new = HasHanded image vault vault_new
HandsAs image vault RefusedFault vault_new = HasFailed image vault vault_new
HandsAs image vault (RefusedChanged at put got) vault_new = HasChanged image vault (record { at = at; put = put; got = got }) vault_new
HandsAs image vault NoMemory vault_new = HadNoMemory image vault vault_new
HandsAs image vault (Queued n) vault_new = ⊥
HandsAs image vault Gone vault_new = ⊥
HandsAs image vault (Put n) vault_new = ⊥
HandsAs image vault (Took n) vault_new = ⊥
HandsAs image vault InFull vault_new = ⊥
HandsAs image vault Part vault_new = ⊥
HandsAs image vault (DroppedIndex prod cons) vault_new = ⊥
HandsAs image vault (DroppedLength len) vault_new = ⊥
HandsAs image vault (Held unsent) vault_new = ⊥
HandsAs image vault (Crowded conn) vault_new = ⊥
HandsAs image vault Done vault_new = ⊥
HandsAs image vault NoneQueued vault_new = ⊥
HandsAs image vault NoSpace vault_new = ⊥
HandsAs image vault (Sent n) vault_new = ⊥
HandsAs image vault (Got n) vault_new = ⊥
HandsAs image vault Poked vault_new = ⊥
HandsAs image vault (Page req_cons req_prod rsp_cons rsp_prod error) vault_new = ⊥

-- A HANDOVER: the image is that of what each world keeps which was stood for, and each is stood for after it. Where no new
-- store goes on, nothing has changed.
pub record HandsOver (old : Kept) (vault : Told) (said : Said) (new : Kept) (vault_new : Told) : Type 0 where
  pub hands : (w : World) → StandsFor old w → HandsAs (image (kept w)) vault said vault_new
  pub goes_on : GoesOn old new
  pub refused : (said ≡ Handed → ⊥) → new ≡ old
