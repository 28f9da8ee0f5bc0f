-- Bytes without a fault, their fronts, and a domain's directory in front of them.
use Rattle.std.proofs.Common.{◌≡◌, ℕ, suc, ◌+◌, ◌-◌, ◌<◌, Bool, true, false, not, cond, ◌&&◌, ◌||◌, eqb, ltb, List, [], ◌∷◌, ◌++◌, length, get_or, Option, Some, None, refl, sym, ap, ◌∙◌, arith}
use Rattle.std.proofs.lemmas.Bool.Decides.{nat_tests}
use Rattle.xs_model.specs.declared.path.PathFault.{PathFault}
use Rattle.xs_model.specs.declared.path.PathFault.TheVariants.{TooLong, BadByte, DoubleSlash, TrailingSlash}
use Rattle.xs_model.specs.Paths.{is_path_byte, path_limit, fault_from, trailing_fault, or_else, path_fault}

-- the last of some bytes, `before` standing in front of them
abbrev pub last_of : ℕ → List ℕ → ℕ
last_of before [] = before
last_of before (b ∷ bs) = last_of b bs

-- a test that finds a fault
some_fault : (t : Bool) (f : PathFault) (rest : Option PathFault) → cond t (Some f) rest ≡ None → (t ≡ false) × (rest ≡ None)
some_fault true f rest e = cc
some_fault false f rest e = (refl, e)

no_fault : (t : Bool) (f : PathFault) (rest : Option PathFault) → t ≡ false → rest ≡ None → cond t (Some f) rest ≡ None
no_fault true f rest p e = cc
no_fault false f rest p e = e

either : (f g : Option PathFault) → or_else f g ≡ None → (f ≡ None) × (g ≡ None)
either (Some f) g e = cc
either None g e = (refl, e)

neither : (f g : Option PathFault) → f ≡ None → g ≡ None → or_else f g ≡ None
neither (Some f) g p q = cc
neither None g p q = q

-- THE PARTS OF A FAULT
pub record IsFaultless (b : ℕ) (bs : List ℕ) : Type 0 where
  pub fits : ltb (path_limit (b ∷ bs)) (suc (length bs)) ≡ false
  pub places : fault_from 0 0 (b ∷ bs) ≡ None
  pub end : trailing_fault (b ∷ bs) ≡ None

pub faultless : (b : ℕ) (bs : List ℕ) → path_fault (b ∷ bs) ≡ None → IsFaultless b bs
faultless b bs e =
    let long = some_fault (ltb (path_limit (b ∷ bs)) (suc (length bs))) (TooLong (suc (length bs))) _ e in
    let later = either (fault_from 0 0 (b ∷ bs)) (trailing_fault (b ∷ bs)) long.1 in
    record { fits = long.0; places = later.0; end = later.1 }

pub path_fault-none : (b : ℕ) (bs : List ℕ) → IsFaultless b bs → path_fault (b ∷ bs) ≡ None
path_fault-none b bs h =
    no_fault (ltb (path_limit (b ∷ bs)) (suc (length bs))) (TooLong (suc (length bs))) _ h.fits (neither _ _ h.places h.end)

-- FAULTS AT A PLACE
abbrev is_bad : ℕ → ℕ → Bool
is_bad at b = not (is_path_byte b) || (eqb at 0 && eqb b 64)

abbrev is_double : ℕ → ℕ → Bool
is_double before b = eqb before 47 && eqb b 47

record IsGood (at before b : ℕ) (bs : List ℕ) : Type 0 where
  byte : is_bad at b ≡ false
  slash : is_double before b ≡ false
  rest : fault_from (at + 1) b bs ≡ None

good : (at before b : ℕ) (bs : List ℕ) → fault_from at before (b ∷ bs) ≡ None → IsGood at before b bs
good at before b bs e =
    let bad = some_fault (is_bad at b) (BadByte at) _ e in
    let double = some_fault (is_double before b) (DoubleSlash at) _ bad.1 in
    record { byte = bad.0; slash = double.0; rest = double.1 }

fault_from-none : (at before b : ℕ) (bs : List ℕ) → IsGood at before b bs → fault_from at before (b ∷ bs) ≡ None
fault_from-none at before b bs h = no_fault (is_bad at b) (BadByte at) _ h.byte (no_fault (is_double before b) (DoubleSlash at) _ h.slash h.rest)

-- a byte that is fine
passes : (x y z v w : Bool) (f g rest : Option PathFault) → x ≡ true → y ≡ false → w ≡ false → cond (not x || (y && z)) f (cond (v && w) g rest) ≡ rest
passes true false z true false f g rest p q r = refl
passes true false z false false f g rest p q r = refl
passes true false z v true f g rest p q r = cc
passes true true z v w f g rest p q r = cc
passes false y z v w f g rest p q r = cc

pub fault_from-next : (at before b : ℕ) (bs : List ℕ) → is_path_byte b ≡ true → eqb at 0 ≡ false → eqb b 47 ≡ false → fault_from at before (b ∷ bs) ≡ fault_from (at + 1) b bs
fault_from-next at before b bs p q r = passes (is_path_byte b) (eqb at 0) (eqb b 64) (eqb before 47) (eqb b 47) _ _ _ p q r

pub fault_from-slash : (at before : ℕ) (bs : List ℕ) → eqb before 47 ≡ false → fault_from at before (47 ∷ bs) ≡ fault_from (at + 1) 47 bs
fault_from-slash at before bs p = single (eqb at 0) (eqb before 47) _ _ _ p
  where
    single : (y v : Bool) (f g rest : Option PathFault) → v ≡ false → cond (y && false) f (cond (v && true) g rest) ≡ rest
    single true true f g rest p = cc
    single true false f g rest p = refl
    single false true f g rest p = cc
    single false false f g rest p = refl

-- a front of bytes without a fault has none
pub fault_from-front : (at before : ℕ) (a c : List ℕ) → fault_from at before (a ++ c) ≡ None → fault_from at before a ≡ None
fault_from-front at before [] c e = refl
fault_from-front at before (b ∷ bs) c e =
    let h = good at before b (bs ++ c) e in
    fault_from-none at before b bs (record { byte = h.byte; slash = h.slash; rest = fault_from-front (at + 1) b bs c h.rest })

-- no slash stands before a slash
pub apart : (at before : ℕ) (a c : List ℕ) → fault_from at before (a ++ 47 ∷ c) ≡ None → eqb (last_of before a) 47 ≡ false
apart at before [] c e = let h = (good at before 47 c e).slash in both (eqb before 47) h
  where
    both : (t : Bool) → t && true ≡ false → t ≡ false
    both true h = h
    both false h = refl
apart at before (b ∷ bs) c e = apart (at + 1) b bs c (good at before b (bs ++ 47 ∷ c) e).rest

-- a byte that is fine in front is fine at every place
later_byte : (at later b : ℕ) → 0 < later → is_bad at b ≡ false → is_bad later b ≡ false
later_byte at later b p = inside (not (is_path_byte b)) (eqb at 0 && eqb b 64)
  where
    front : eqb later 0 ≡ false
    front = grind (arith, nat_tests)

    inside : (s t : Bool) → s || t ≡ false → s || (eqb later 0 && eqb b 64) ≡ false
    inside true t q = q
    inside false t q = ap (λ u. u && eqb b 64) front

-- the place of bytes matters in front alone
pub fault_from-later : (at later before : ℕ) (a : List ℕ) → 0 < later → fault_from at before a ≡ None → fault_from later before a ≡ None
fault_from-later at later before [] p e = refl
fault_from-later at later before (b ∷ bs) p e =
    let h = good at before b bs e in
    fault_from-none later before b bs (record { byte = later_byte at later b p h.byte; slash = h.slash; rest = fault_from-later (at + 1) (later + 1) b bs (omega arith) h.rest })

-- a relative path behind a slash
pub fault_from-behind : (at b : ℕ) (bs : List ℕ) → 0 < at → eqb b 47 ≡ false → fault_from 0 0 (b ∷ bs) ≡ None → fault_from at 47 (b ∷ bs) ≡ None
fault_from-behind at b bs p q e =
    let h = good 0 0 b bs e in
    fault_from-none at 47 b bs (record { byte = later_byte 0 at b p h.byte; slash = q; rest = fault_from-later 1 (at + 1) b bs (omega arith) h.rest })

-- THE LAST BYTE
get_or-last : (b : ℕ) (bs : List ℕ) → get_or (b ∷ bs) (length bs) 0 ≡ last_of b bs
get_or-last b [] = refl
get_or-last b (c ∷ bs) = get_or-last c bs

end_is : (b : ℕ) (bs : List ℕ) → eqb (get_or (b ∷ bs) (suc (length bs) - 1) 0) 47 ≡ eqb (last_of b bs) 47
end_is b bs = ap (λ k. eqb (get_or (b ∷ bs) k 0) 47) (omega arith) ∙ ap (λ c. eqb c 47) (get_or-last b bs)

-- a path ends in a slash where its last byte is one
pub trailing_fault-none : (b : ℕ) (bs : List ℕ) → eqb (last_of b bs) 47 ≡ false → trailing_fault (b ∷ bs) ≡ None
trailing_fault-none b bs p = no_fault _ TrailingSlash None (apart_from (ltb 1 (suc (length bs))) _ (end_is b bs ∙ p)) refl
  where
    apart_from : (s t : Bool) → t ≡ false → s && t ≡ false
    apart_from true t h = h
    apart_from false t h = refl

pub no_slash_at_end : (b c : ℕ) (bs : List ℕ) → trailing_fault (b ∷ c ∷ bs) ≡ None → eqb (last_of b (c ∷ bs)) 47 ≡ false
no_slash_at_end b c bs e =
    sym (end_is b (c ∷ bs)) ∙ second _ _ (grind (arith, nat_tests)) (some_fault (ltb 1 (suc (suc (length bs))) && eqb (get_or (b ∷ c ∷ bs) (suc (suc (length bs)) - 1) 0) 47) TrailingSlash None e).0
  where
    second : (s t : Bool) → s ≡ true → s && t ≡ false → t ≡ false
    second true t h q = q
    second false t h q = cc
