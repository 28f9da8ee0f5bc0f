-- There is one least free id.
use Rattle.std.proofs.Common.{◌≡◌, ℕ, ◌<◌, Bool, true, false, List, nat_lt, is_some, refl, sym, ap, ◌∙◌, arith}
use Rattle.std.proofs.lemmas.Bool.Decides.{nat_tests}
use Rattle.machine_model.specs.Limits.{IsLeastFree}

pub same_free : {A : Type 0} (a b : ℕ) (es : List (ℕ × A)) → IsLeastFree a es → IsLeastFree b es → a ≡ b
same_free a b es p q = by (nat_lt a b) (nat_lt b a) refl refl
  where
    never : {C : Type 0} (x y : ℕ) → IsLeastFree x es → IsLeastFree y es → x < y → C
    never x y p q lt = let bad : false ≡ true = sym (ap is_some p.free) ∙ q.least x p.positive lt in cc

    by : (s t : Bool) → nat_lt a b ≡ s → nat_lt b a ≡ t → a ≡ b
    by true t l r = never a b p q (grind (arith, nat_tests))
    by false true l r = never b a q p (grind (arith, nat_tests))
    by false false l r = grind (arith, nat_tests)
