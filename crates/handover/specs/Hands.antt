-- One handover, by the image of the state that was kept and by what the vault took and gave. This project's own.
use Rattle.std.specs.Prelude.{◌≡◌, ◌⊎◌, ℕ, Bool, false, List, Option, Result, Ok, Err}
use Rattle.xs_base.specs.Faults.{NeverFalls, Rose}
use Rattle.xs_base.specs.Vault.{Gains, Stays}
use Rattle.handover.specs.declared.change.Change.{Change}
use Rattle.handover.specs.declared.handed.Refusal.{Refusal}
use Rattle.handover.specs.declared.handed.Refusal.TheVariants.{VaultFault, Changed, NoMemory}
use Rattle.handover.specs.Changes.{IsFirstChange}

-- what a vault tells: the strings that it took and that it gave, how many of its calls failed, and whether it gives back
-- what was put last
pub record Told : Type 0 where
  pub puts : Option (List (List ℕ))
  pub gets : Option (List (List ℕ))
  pub faults : ℕ
  pub honest : Bool

-- whatever comes of it, no fault is forgotten, and an honest vault stays one
pub record IsLater (vault vault_new : Told) : Type 0 where
  pub counts : NeverFalls vault.faults vault_new.faults
  pub honest : vault_new.honest ≡ vault.honest

-- the vault took this string, or it did not
abbrev pub MayGain : Option (List (List ℕ)) → Option (List (List ℕ)) → List ℕ → Type 0
MayGain old new string = Stays old new ⊎ Gains old new string

-- A NEW STORE goes on: the vault took the image and gave it back
pub record HasHanded (image : List ℕ) (vault vault_new : Told) : Type 0 where
  pub later : IsLater vault vault_new
  pub put : Gains vault.puts vault_new.puts image
  pub got : Gains vault.gets vault_new.gets image

-- THE OLD ONE goes on: a call of the vault failed
pub record HasFailed (image : List ℕ) (vault vault_new : Told) : Type 0 where
  pub later : IsLater vault vault_new
  pub rose : Rose vault.faults vault_new.faults
  pub put : MayGain vault.puts vault_new.puts image
  pub got : Stays vault.gets vault_new.gets

-- or it gave back another string, as no honest vault does
pub record HasChanged (image : List ℕ) (vault : Told) (change : Change) (vault_new : Told) : Type 0 where
  pub later : IsLater vault vault_new
  pub dishonest : vault.honest ≡ false
  pub string : List ℕ
  pub put : Gains vault.puts vault_new.puts image
  pub got : Gains vault.gets vault_new.gets string
  pub first : IsFirstChange image string change

-- or there was no memory: behind the image that was put, at most itself was given
pub record HadNoMemory (image : List ℕ) (vault vault_new : Told) : Type 0 where
  pub later : IsLater vault vault_new
  pub put : MayGain vault.puts vault_new.puts image
  pub got : MayGain vault.gets vault_new.gets image

abbrev pub IsRefused : List ℕ → Told → Refusal → Told → Type 0
IsRefused image vault VaultFault vault_new = HasFailed image vault vault_new
IsRefused image vault (Changed change) vault_new = HasChanged image vault change vault_new
IsRefused image vault NoMemory vault_new = HadNoMemory image vault vault_new

-- what comes back through a vault: the image itself, or why there is none
abbrev pub Passes : List ℕ → Told → Result (List ℕ) Refusal → Told → Type 0
Passes image vault (Ok got) vault_new = (got ≡ image) × HasHanded image vault vault_new
Passes image vault (Err refusal) vault_new = IsRefused image vault refusal vault_new
