-- Chains of tests that are passed.
use Rattle.std.specs.Prelude.{◌≡◌, Bool, false, cond, Option, Some, Result, Err}
use Rattle.std.proofs.Common.{ap, ◌∙◌}
use Rattle.kept_model.specs.declared.fault.LoadFault.{LoadFault}
use Rattle.kept_model.specs.Loading.{unless, given}

pub pass : {A : Type 0} (bad : Bool) (fault : LoadFault) (next r : Result A LoadFault) → bad ≡ false → next ≡ r → unless bad fault next ≡ r
unfolding unless
pass bad fault next r e t = ap (λ b. cond b (Err fault) next) e ∙ t

pub take : {A B : Type 0} (o : Option A) (fault : LoadFault) (next : A → Result B LoadFault) (x : A) (r : Result B LoadFault) → o ≡ Some x → next x ≡ r → given o fault next ≡ r
unfolding given
take o fault next x r e t = ap (λ p. given p fault next) e ∙ t
