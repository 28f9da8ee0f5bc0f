-- How a chain of tests answers: with what follows, where each test fails and each value is there.
use Rattle.std.specs.Prelude.{◌≡◌, Bool, true, false, cond, Option, Some, None, Result, Ok, Err, option_map, option_and_then}
use Rattle.std.proofs.Common.{refl, ap}
use Rattle.xs_model.specs.Requests.{ok_value, when}
use Rattle.xs_model.proofs.Maps.{from_Some, not_Some}
use Rattle.kept_model.specs.declared.fault.LoadFault.{LoadFault}
use Rattle.kept_model.specs.Loading.{unless, given, ◌>>=◌}

pub ok_is : {A : Type 0} {x y : A} → ◌≡◌ {A = Result A LoadFault} (Ok x) (Ok y) → x ≡ y
ok_is e = from_Some (ap ok_value e)

pub not_ok : {A B : Type 0} {fault : LoadFault} {y : A} → ◌≡◌ {A = Result A LoadFault} (Err fault) (Ok y) → B
not_ok e = not_Some (ap ok_value e)

-- the test fails
pub unless_ok : {A : Type 0} (b : Bool) (fault : LoadFault) (x : Result A LoadFault) (y : A) → unless b fault x ≡ Ok y → (b ≡ false) × (x ≡ Ok y)
unfolding unless
unless_ok true fault x y e = not_ok e
unless_ok false fault x y e = (refl, e)

-- the value is there
pub given_ok : {A B : Type 0} (o : Option A) (fault : LoadFault) (f : A → Result B LoadFault) (y : B) → given o fault f ≡ Ok y → (x : A) × (o ≡ Some x) × (f x ≡ Ok y)
unfolding given
given_ok None fault f y e = not_ok e
given_ok (Some x) fault f y e = (x, refl, e)

-- what went before answers
pub then_ok : {A B : Type 0} (r : Result A LoadFault) (f : A → Result B LoadFault) (y : B) → ◌>>=◌ r f ≡ Ok y → (x : A) × (r ≡ Ok x) × (f x ≡ Ok y)
then_ok (Err fault) f y e = not_ok e
then_ok (Ok x) f y e = (x, refl, e)

-- OPTIONS
pub ok_from : {A E : Type 0} (r : Result A E) (x : A) → ok_value r ≡ Some x → r ≡ Ok x
ok_from (Ok y) x e = ap (λ z. Ok z) (from_Some e)
ok_from (Err fault) x e = not_Some e

pub when_some : {A : Type 0} (b : Bool) (x y : A) → when b x ≡ Some y → (b ≡ true) × (x ≡ y)
when_some true x y e = (refl, from_Some e)
when_some false x y e = not_Some e

pub some_if : {A : Type 0} (b : Bool) (o : Option A) (y : A) → cond b o None ≡ Some y → (b ≡ true) × (o ≡ Some y)
some_if true o y e = (refl, e)
some_if false o y e = not_Some e

pub map_some : {A B : Type 0} (f : A → B) (o : Option A) (y : B) → option_map f o ≡ Some y → (x : A) × (o ≡ Some x) × (f x ≡ y)
map_some f None y e = not_Some e
map_some f (Some x) y e = (x, refl, from_Some e)

pub then_some : {A B : Type 0} (f : A → Option B) (o : Option A) (y : B) → option_and_then f o ≡ Some y → (x : A) × (o ≡ Some x) × (f x ≡ Some y)
then_some f None y e = not_Some e
then_some f (Some x) y e = (x, refl, e)
