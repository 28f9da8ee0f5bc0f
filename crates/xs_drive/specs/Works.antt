-- What each form of the program does. This project's own.
use Rattle.std.specs.Prelude.{◌≡◌, ℕ, List, Option, Some, None, IfSome}
use Rattle.std.specs.Io.KnownBytes.{Appends}
use Rattle.program_io.specs.Ends.{AppendsFront}
use Rattle.guest_script.specs.Made.{made_script}
use Rattle.handover.specs.Hands.{Told}
use Rattle.xs_drive.specs.declared.form.Form.{Form}
use Rattle.xs_drive.specs.declared.form.Form.TheVariants.{Run, Make, Bulk}
use Rattle.xs_drive.specs.Ends.{PlaysAll, PlaysFront, PlaysFrontOrNone}
use Rattle.xs_drive.specs.Counts.{CountsAll, CountsFront, CountsNothing}

-- A MADE SCRIPT was written, and no handover made
pub record MakesAll (seed count : ℕ) (out out_new : Option (List ℕ)) (vault vault_new : Told) : Type 0 where
  pub wrote : Appends out out_new (made_script seed count)
  pub untouched : vault_new ≡ vault

-- or a front of it
pub record MakesFront (seed count : ℕ) (out out_new : Option (List ℕ)) (vault vault_new : Told) : Type 0 where
  pub wrote : AppendsFront out out_new (made_script seed count)
  pub untouched : vault_new ≡ vault

-- THE WORK IS DONE, where the source had these bytes left
abbrev pub Finishes : Option Form → Option (List ℕ) → Option (List ℕ) → Option (List ℕ) → Told → Told → Type 0
Finishes None left out out_new vault vault_new = ⊥
Finishes (Some Run) left out out_new vault vault_new = IfSome left (λ text. PlaysAll text out out_new vault vault_new)
Finishes (Some (Make seed count)) left out out_new vault vault_new = MakesAll seed count out out_new vault vault_new
Finishes (Some (Bulk seed count)) left out out_new vault vault_new = CountsAll seed count out out_new vault vault_new

-- the sink failed
abbrev pub Stops : Option Form → Option (List ℕ) → Option (List ℕ) → Option (List ℕ) → Told → Told → Type 0
Stops None left out out_new vault vault_new = ⊥
Stops (Some Run) left out out_new vault vault_new = IfSome left (λ text. PlaysFront text out out_new vault vault_new)
Stops (Some (Make seed count)) left out out_new vault vault_new = MakesFront seed count out out_new vault vault_new
Stops (Some (Bulk seed count)) left out out_new vault vault_new = CountsFront seed count out out_new vault vault_new

-- no memory was found
abbrev pub Starves : Option Form → Option (List ℕ) → Option (List ℕ) → Option (List ℕ) → Told → Told → Type 0
Starves None left out out_new vault vault_new = ⊥
Starves (Some Run) left out out_new vault vault_new = IfSome left (λ text. PlaysFrontOrNone text out out_new vault vault_new)
Starves (Some (Make seed count)) left out out_new vault vault_new = MakesFront seed count out out_new vault vault_new
Starves (Some (Bulk seed count)) left out out_new vault vault_new = CountsNothing seed count out out_new vault vault_new
