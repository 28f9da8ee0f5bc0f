-- What a call answers that may find no memory. This project's own.
use Rattle.std.specs.Prelude.{◌≡◌, ◌⊎◌, Result, Ok, Err}

-- the answer is the one that is defined, or it is `memory`, the error for want of memory
abbrev pub Gives : {T E : Type 0} → E → Result T E → Result T E → Type 0
Gives memory (Ok x) defined = defined ≡ Ok x
Gives memory (Err e) defined = (e ≡ memory) ⊎ (defined ≡ Err e)
