-- Answers of RM, and texts of children.
use Rattle.std.proofs.Common.{◌≡◌, ◌≢◌, List, [], ◌∷◌, ◌++◌, length, refl, sym, ap, ◌∙◌, arith, append_assoc, append-nil, Result, Ok}
use Rattle.xs_model.specs.declared.perm.Rights.{Rights}
use Rattle.xs_model.specs.Paths.{Path, Name, child, text, names_text}
use Rattle.xs_model.specs.Commands.{rm_answer, rm_absent}

pub one_absent : (rights : Rights) (absent below : List Path) → length absent ≡ 1 → rm_answer rights absent below ≡ rm_absent rights ([] ∷ [])
one_absent rights [] below h = absurd (omega arith)
one_absent rights (p ∷ []) below h = refl
one_absent rights (p ∷ q ∷ ps) below h = absurd (omega arith)

pub text_of_names : (p : Path) → (p ≢ []) → text p ≡ names_text p
text_of_names [] h = absurd (h refl)
text_of_names (n ∷ p) h = refl

names_text-child : (p : Path) (n : Name) → names_text (child p n) ≡ names_text p ++ 47 ∷ n
names_text-child [] n = append-nil (47 ∷ n)
names_text-child (m ∷ p) n = ap (λ t. (47 ∷ m) ++ t) (names_text-child p n) ∙ sym (append_assoc (47 ∷ m) (names_text p) (47 ∷ n))

filled : (p : Path) (n : Name) → text (child p n) ≡ names_text (child p n)
filled [] n = refl
filled (m ∷ p) n = refl

pub text_of_child : (p : Path) (n : Name) → (names_text p ++ 47 ∷ []) ++ n ≡ text (child p n)
text_of_child p n = append_assoc (names_text p) (47 ∷ []) n ∙ sym (filled p n ∙ names_text-child p n)

pub from_ok : {A E : Type 0} (x y : A) → ◌≡◌ {A = Result A E} (Ok x) (Ok y) → x ≡ y
from_ok x y e = cc
