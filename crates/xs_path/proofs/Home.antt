-- A domain's directory in front of a relative path.
use Rattle.std.proofs.Common.{◌≡◌, ℕ, suc, ◌+◌, ◌%◌, ◌^◌, ◌<◌, ◌≤◌, true, false, cond, eqb, ltb, List, [], ◌∷◌, ◌++◌, length, None, refl, ap, subst, ◌∙◌, arith, append_assoc, length-append}
use Rattle.std.specs.Fmt.{decimal}
use Rattle.std.specs.Prelude.{codes}
use Rattle.std.proofs.lemmas.Fmt.{decimal_by_steps, length-decimal-le, decimal_nonempty}
use Rattle.std.proofs.lemmas.Bool.Decides.{nat_tests}
use Rattle.xs_model.specs.Paths.{home, is_path_byte, is_absolute, fault_from, trailing_fault, path_fault, split_names, absolute_path}
use Rattle.xs_path.specs.Texts.{IsPathText}
use Rattle.xs_path.proofs.Splitting.{is_slash, slashes, split_names-append, split_names-whole}
use Rattle.xs_path.proofs.Faults.{last_of, IsFaultless, faultless, path_fault-none, fault_from-next, fault_from-slash, fault_from-behind, trailing_fault-none, no_slash_at_end}

-- the text of a domain's path
abbrev pub home_text : ℕ → List ℕ → List ℕ
home_text domid bytes = codes "/local/domain/" ++ (decimal domid ++ 47 ∷ bytes)

-- the bytes behind what is written of the directory
pub home_text-append : (text : List ℕ) (domid : ℕ) (bytes : List ℕ) → text ≡ codes "/local/domain/" ++ (decimal domid ++ 47 ∷ []) → text ++ bytes ≡ home_text domid bytes
home_text-append text domid bytes e =
    ap (λ l. l ++ bytes) e ∙ ap (λ l. codes "/local/domain/" ++ l) (append_assoc (decimal domid) (47 ∷ []) bytes)

-- DIGITS
abbrev are_digits : List ℕ → Type 0
are_digits [] = Unit {0}
are_digits (b ∷ bs) = (48 ≤ b) × (b < 58) × are_digits bs

are_digits-push : (bs : List ℕ) (b : ℕ) → are_digits bs → 48 ≤ b → b < 58 → are_digits (bs ++ b ∷ [])
are_digits-push [] b h p q = (p, q, tt)
are_digits-push (c ∷ bs) b h p q = (h.0, h.1, are_digits-push bs b h.2 p q)

decimal-digits : (n : ℕ) → n < 2 ^ 64 → are_digits (decimal n)
decimal-digits = decimal_by_steps (λ n ds. are_digits ds) (λ n h. (omega arith, omega arith, tt)) (λ n ds p h. are_digits-push ds (48 + n % 10) h (omega arith) (omega arith))

digits-slashes : (bs : List ℕ) → are_digits bs → slashes bs ≡ 0
digits-slashes [] h = refl
digits-slashes (b ∷ bs) h =
    let low = h.0 in
    let high = h.1 in
    let other : is_slash b ≡ false = grind (arith, nat_tests) in
    ap (λ s. cond s (suc (slashes bs)) (slashes bs)) other ∙ digits-slashes bs h.2

digit_byte : (b : ℕ) → 48 ≤ b → b < 58 → is_path_byte b ≡ true
digit_byte b p q = grind (arith, nat_tests)

-- digits behind the first place have no fault
fault_from-digits : (at before : ℕ) (ds rest : List ℕ) → 0 < at → are_digits ds → fault_from at before (ds ++ rest) ≡ fault_from (at + length ds) (last_of before ds) rest
fault_from-digits at before [] rest p h = ap (λ k. fault_from k before rest) (omega arith)
fault_from-digits at before (b ∷ ds) rest p h =
    let low = h.0 in
    let high = h.1 in
    let later : eqb at 0 ≡ false = grind (arith, nat_tests) in
    let other : eqb b 47 ≡ false = grind (arith, nat_tests) in
    fault_from-next at before b (ds ++ rest) (digit_byte b low high) later other
    ∙ fault_from-digits (at + 1) b ds rest (omega arith) h.2 ∙ ap (λ k. fault_from k (last_of b ds) rest) (omega arith)

digits-last : (before : ℕ) (ds : List ℕ) → 0 < length ds → are_digits ds → eqb (last_of before ds) 47 ≡ false
digits-last before [] p h = absurd (omega arith)
digits-last before (b ∷ []) p h = let low = h.0 in grind (arith, nat_tests)
digits-last before (b ∷ c ∷ ds) p h = digits-last b (c ∷ ds) (omega arith) h.2

last_of-append : (before : ℕ) (a : List ℕ) (b : ℕ) (bs : List ℕ) → last_of before (a ++ b ∷ bs) ≡ last_of b bs
last_of-append before [] b bs = refl
last_of-append before (c ∷ a) b bs = last_of-append c a b bs

fits_home : (d l : ℕ) → d ≤ 5 → ltb 2048 l ≡ false → ltb 3072 (14 + (d + suc l)) ≡ false
fits_home d l p q = grind (arith, nat_tests)

-- the text behind the first slash
abbrev behind : ℕ → List ℕ → List ℕ
behind domid bytes = codes "local/domain/" ++ (decimal domid ++ 47 ∷ bytes)

module _ (domid : ℕ) (b : ℕ) (bs : List ℕ) (low : domid ≤ 32751) (relative : eqb b 47 ≡ false) (fine : path_fault (b ∷ bs) ≡ None) where
  digits : are_digits (decimal domid)
  digits = decimal-digits domid (omega arith)

  some_digit : 0 < length (decimal domid)
  some_digit = decimal_nonempty domid (omega arith)

  parts : IsFaultless b bs
  parts = faultless b bs fine

  short : ltb 2048 (suc (length bs)) ≡ false
  short = subst (λ t. ltb (cond t 3072 2048) (suc (length bs)) ≡ false) relative parts.fits

  no_slash_last : eqb (last_of b bs) 47 ≡ false
  no_slash_last = last b bs relative parts.end
    where
      last : (b : ℕ) (bs : List ℕ) → eqb b 47 ≡ false → trailing_fault (b ∷ bs) ≡ None → eqb (last_of b bs) 47 ≡ false
      last b [] p e = p
      last b (c ∷ bs) p e = no_slash_at_end b c bs e

  places : fault_from 0 0 (home_text domid (b ∷ bs)) ≡ None
  places =
      fault_from-digits 14 47 (decimal domid) (47 ∷ b ∷ bs) (omega arith) digits
      ∙ fault_from-slash (14 + length (decimal domid)) (last_of 47 (decimal domid)) (b ∷ bs) (digits-last 47 (decimal domid) some_digit digits)
      ∙ fault_from-behind (14 + length (decimal domid) + 1) b bs (omega arith) relative parts.places

  long : length (behind domid (b ∷ bs)) ≡ 13 + (length (decimal domid) + suc (suc (length bs)))
  long = omega (arith, length-append (decimal domid) (47 ∷ b ∷ bs))

  fits : ltb 3072 (suc (length (behind domid (b ∷ bs)))) ≡ false
  fits = ap (λ k. ltb 3072 k) (omega (arith, long)) ∙ fits_home (length (decimal domid)) (suc (length bs)) (length-decimal-le 5 domid (omega arith) (omega arith) (omega arith)) short

  ending : eqb (last_of 47 (behind domid (b ∷ bs))) 47 ≡ false
  ending = ap (λ c. eqb c 47) (last_of-append 47 (decimal domid) 47 (b ∷ bs)) ∙ no_slash_last

  home_is_text : IsPathText (home_text domid (b ∷ bs))
  home_is_text = record {
    absolute = refl;
    faultless = path_fault-none 47 (behind domid (b ∷ bs)) (record { fits = fits; places = places; end = trailing_fault-none 47 (behind domid (b ∷ bs)) ending });
  }

  home_path : absolute_path (home_text domid (b ∷ bs)) ≡ home domid ++ split_names (b ∷ bs)
  home_path =
      ap (λ ns. codes "local" ∷ codes "domain" ∷ ns) (split_names-append (decimal domid) (b ∷ bs) ∙ ap (λ ns. ns ++ split_names (b ∷ bs)) (split_names-whole (decimal domid) (digits-slashes (decimal domid) digits)))

pub home_text-is : (domid : ℕ) (bytes : List ℕ) → domid ≤ 32751 → is_absolute bytes ≡ false → path_fault bytes ≡ None → IsPathText (home_text domid bytes)
home_text-is domid [] low relative fine = cc
home_text-is domid (b ∷ bs) low relative fine = home_is_text domid b bs low relative fine

pub absolute_path-home_text : (domid : ℕ) (bytes : List ℕ) → domid ≤ 32751 → is_absolute bytes ≡ false → path_fault bytes ≡ None → absolute_path (home_text domid bytes) ≡ home domid ++ split_names bytes
absolute_path-home_text domid [] low relative fine = cc
absolute_path-home_text domid (b ∷ bs) low relative fine = home_path domid b bs low relative fine
