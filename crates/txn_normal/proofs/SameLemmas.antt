-- Entries that are the same.
use Rattle.std.proofs.Common.{◌≡◌, ◌==◌, ◌&&◌, ℕ, Bool, true, false, List, [], ◌∷◌, refl, ap, ◌∙◌}
use Rattle.std.specs.Cmp.Lexicographic.{pointwise}
use Rattle.xs_model.specs.declared.perm.Letter.{Letter}
use Rattle.xs_model.specs.declared.perm.Letter.TheVariants.{N, R, W, B}
use Rattle.xs_model.specs.declared.perm.Perm.{Perm}
use Rattle.xs_model.specs.contracts.perm.LetterPartialEq.TheImpl.{eq-value as letter}
use Rattle.xs_model.specs.contracts.perm.PermPartialEq.TheImpl.{eq-value as perm}
use Rattle.kept_model.specs.Said.{letter_byte}
use Rattle.kept_model.specs.Normal.{same_perm, same_perms}

same_letter : (l m : Letter) → letter.it l m ≡ (letter_byte l == letter_byte m)
same_letter N N = refl
same_letter N R = refl
same_letter N W = refl
same_letter N B = refl
same_letter R N = refl
same_letter R R = refl
same_letter R W = refl
same_letter R B = refl
same_letter W N = refl
same_letter W R = refl
same_letter W W = refl
same_letter W B = refl
same_letter B N = refl
same_letter B R = refl
same_letter B W = refl
same_letter B B = refl

abbrev with : Letter → Bool → ℕ → Perm
with l s d = record { letter = l; stale = s; domid = d }

perm_by : (l m : Letter) (s t : Bool) (d e : ℕ) → perm.it (with l s d) (with m t e) ≡ same_perm (with l s d) (with m t e)
perm_by l m true true d e = ap (λ b. b && (d == e)) (same_letter l m)
perm_by l m true false d e = ap (λ b. b && false) (same_letter l m)
perm_by l m false true d e = ap (λ b. b && false) (same_letter l m)
perm_by l m false false d e = ap (λ b. b && (d == e)) (same_letter l m)

pub perms_same : (ps qs : List Perm) → pointwise perm.it ps qs ≡ same_perms ps qs
perms_same [] [] = refl
perms_same [] (q ∷ qs) = refl
perms_same (p ∷ ps) [] = refl
perms_same (p ∷ ps) (q ∷ qs) =
    ap (λ b. b && pointwise perm.it ps qs) (perm_by p.letter q.letter p.stale q.stale p.domid q.domid) ∙ ap (λ b. same_perm p q && b) (perms_same ps qs)
