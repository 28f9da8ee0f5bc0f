-- Sixteen bytes without a fault are the header.
use Rattle.std.proofs.Common.{◌≡◌, ℕ, zero, suc, ◌≤◌, Bool, true, false, cond, not, ltb, eqb, List, [], ◌∷◌, ◌++◌, length, take, drop, replicate, Option, Some, None, Result, Ok, refl, sym, ◌∙◌, arith}
use Rattle.std.specs.Prelude.{codes, ◌&&◌, nat_eq}
use Rattle.std.specs.Int.{w32, to_be_bytes}
use Rattle.std.specs.List.{list_all, starts_with}
use lib.Pointwise.{pointwise}
use Rattle.std.proofs.lemmas.Bool.{ltb-false, eqb-true}
use Rattle.std.proofs.lemmas.List.{length-take, length-drop}
use Rattle.std.proofs.lemmas.Nat.{be_bytes_4}
use Rattle.byteorder.specs.Endian.{big_number}
use Rattle.byteorder.specs.Numbers.{big_from-take}
use Rattle.stream_model.specs.declared.fault.StreamFault.{StreamFault}
use Rattle.stream_model.specs.declared.fault.StreamFault.TheVariants.{BadIdent, Cut, BadVersion, BadFlags}
use Rattle.stream_model.specs.Fields.{AreBytes, part}
use Rattle.stream_model.specs.Record.{StreamRecord}
use Rattle.stream_model.specs.Spelling.{header}
use Rattle.stream_model.specs.Reading.{header_fault, unless}
use Rattle.stream_model.proofs.FieldLemmas.{AreBytes-drop, AreBytes-take, concat-parts}

both_true : (a b : Bool) → (a && b) ≡ true → (a ≡ true) × (b ≡ true)
both_true true b e = (refl, e)
both_true false b e = absurd cc

not_false : (b : Bool) → not b ≡ false → b ≡ true
not_false true e = refl
not_false false e = absurd cc

same_bytes : (xs ys : List ℕ) → pointwise nat_eq xs ys ≡ true → ys ≡ xs
same_bytes [] [] e = refl
same_bytes [] (y ∷ ys) e = absurd cc
same_bytes (x ∷ xs) [] e = absurd cc
same_bytes (x ∷ xs) (y ∷ ys) e =
    let parts = both_true (nat_eq x y) (pointwise nat_eq xs ys) e in
    let first = eqb-true x y parts.0 in
    let rest = same_bytes xs ys parts.1 in
    cc

zeros : (xs : List ℕ) (n : ℕ) → length xs ≡ n → list_all (λ b. eqb b 0) xs ≡ true → xs ≡ replicate n 0
zeros [] zero len e = refl
zeros [] (suc n) len e = absurd (omega arith)
zeros (x ∷ xs) zero len e = absurd (omega arith)
zeros (x ∷ xs) (suc n) len e =
    let parts = both_true (eqb x 0) (list_all (λ b. eqb b 0) xs) e in
    let first = eqb-true x 0 parts.0 in
    let rest = zeros xs n (omega arith) parts.1 in
    cc

no_fault : (b : Bool) (fault : StreamFault) (more : Option StreamFault) → cond b (Some fault) more ≡ None → (b ≡ false) × (more ≡ None)
no_fault true fault more e = absurd cc
no_fault false fault more e = (refl, e)

pub unless_ok : (fault : Option StreamFault) (found : Result (List StreamRecord) StreamFault) (records : List StreamRecord) → unless fault found ≡ Ok records → (fault ≡ None) × (found ≡ Ok records)
unless_ok None found records e = (refl, e)
unless_ok (Some fault) found records e = absurd cc

pub is_header : (bytes : List ℕ) → AreBytes bytes → header_fault bytes ≡ None → bytes ≡ header ++ drop 16 bytes
unfolding header
is_header bytes h e =
    let version = big_number 4 (drop 8 bytes) in
    let ident = no_fault (not (starts_with nat_eq bytes (codes "xenstore"))) BadIdent _ e in
    let long = no_fault (ltb (length bytes) 16) (Cut 0) _ ident.1 in
    let one = no_fault (not (eqb version 1)) (BadVersion version) _ long.1 in
    let flags = no_fault (not (list_all (λ b. eqb b 0) (part 12 4 bytes))) BadFlags None one.1 in
    let le : 16 ≤ length bytes = ltb-false _ _ long.0 in
    let ident_is : take 8 bytes ≡ codes "xenstore" = same_bytes (codes "xenstore") (take 8 bytes) (not_false _ ident.0) in
    let version_long : length (part 8 4 bytes) ≡ 4 = omega (arith, length-take 4 (drop 8 bytes), length-drop 8 bytes) in
    let version_is : to_be_bytes w32 1 ≡ part 8 4 bytes =
    be_bytes_4 (part 8 4 bytes) 1 version_long (AreBytes-take 4 (drop 8 bytes) (AreBytes-drop 8 bytes h))
    (sym (eqb-true _ _ (not_false _ one.0)) ∙ sym (big_from-take 0 4 4 (drop 8 bytes) (omega arith)) ∙ omega arith) in
    let flags_long : length (part 12 4 bytes) ≡ 4 = omega (arith, length-take 4 (drop 12 bytes), length-drop 12 bytes) in
    let flags_are : part 12 4 bytes ≡ replicate 4 0 = zeros (part 12 4 bytes) 4 flags_long (not_false _ flags.0) in
    let split = concat-parts (8 ∷ 4 ∷ 4 ∷ []) 0 bytes in
    sym split ∙ rw (ident_is, ← version_is, flags_are) refl
