-- Facts of an answer, put together.
use Rattle.std.proofs.Common.{Result, Ok, Err}
use Rattle.std.specs.Prelude.{MatchResult, IfOk, IfErr}

pub both_sides : {T E : Type 0} (r : Result T E) (P Q R : T → Type 0) (U V : Type 0) → IfOk r P → IfOk r Q → IfOk r R → IfErr r (λ _. U) → IfErr r (λ _. V)
    → MatchResult r (λ x. P x × Q x × R x) (λ _. U × V)
both_sides (Ok x) P Q R U V p q o u v = (p, q, o)
both_sides (Err e) P Q R U V p q o u v = (u, v)
