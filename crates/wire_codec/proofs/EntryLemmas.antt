-- The entries of a payload, string by string.
use Rattle.std.proofs.Common.{◌≡◌, ℕ, ◌<◌, ◌==◌, Bool, true, false, cond, List, [], ◌∷◌, ◌++◌, length, Option, Some, None, IfSome, is_some, option_map, Ok, Err, refl, sym, ap, ◌∙◌, append_assoc, append-nil, arith}
use Rattle.std.proofs.lemmas.Bool.{ne_eqb}
use Rattle.xs_model.specs.declared.perm.Perm.{Perm}
use Rattle.xs_model.specs.declared.perm.PermFault.{PermFault}
use Rattle.xs_model.specs.Perms.{perm_of}
use Rattle.xs_model.proofs.Maps.{not_both}
use Rattle.xs_model.specs.Requests.{cut_string, onto_string, ok_value, is_empty, onto_perms, last_perm, perms_of}

is_empty-length : (bytes : List ℕ) → is_empty bytes ≡ (length bytes == 0)
is_empty-length [] = refl
is_empty-length (b ∷ bs) = sym (ne_eqb (length (b ∷ bs)) 0 (λ h. absurd (omega arith)))

-- the entries, by the first string, which `before` stands in front of
abbrev pub perms_by : List ℕ → Option (List ℕ × List ℕ) → Option (List Perm)
perms_by before None = None
perms_by before (Some cut) = last_perm (ok_value (perm_of (before ++ cut.0))) (is_empty cut.1) (perms_of [] cut.1)

perms_by-onto : (before : List ℕ) (b : ℕ) (o : Option (List ℕ × List ℕ)) → perms_by (before ++ b ∷ []) o ≡ perms_by before (option_map (onto_string b) o)
perms_by-onto before b None = refl
perms_by-onto before b (Some cut) = ap (λ s. last_perm (ok_value (perm_of s)) (is_empty cut.1) (perms_of [] cut.1)) (append_assoc before (b ∷ []) cut.0)

perms_step : (ends : Bool) (before : List ℕ) (b : ℕ) (bs : List ℕ) → perms_of (before ++ b ∷ []) bs ≡ perms_by (before ++ b ∷ []) (cut_string bs)
    → cond ends (last_perm (ok_value (perm_of before)) (is_empty bs) (perms_of [] bs)) (perms_of (before ++ b ∷ []) bs)
    ≡ perms_by before (cond ends (Some ([], bs)) (option_map (onto_string b) (cut_string bs)))
perms_step true before b bs h = ap (λ s. last_perm (ok_value (perm_of s)) (is_empty bs) (perms_of [] bs)) (sym (append-nil before))
perms_step false before b bs h = h ∙ perms_by-onto before b (cut_string bs)

perms_by_cut : (before bytes : List ℕ) → perms_of before bytes ≡ perms_by before (cut_string bytes)
perms_by_cut before [] = refl
perms_by_cut before (b ∷ bs) = perms_step (b == 0) before b bs (perms_by_cut (before ++ b ∷ []) bs)

-- without a string there is no entry
pub perms_uncut : (perms : List Perm) (rest : List ℕ) → cut_string rest ≡ None → option_map (λ more. perms ++ more) (perms_of [] rest) ≡ None
perms_uncut perms rest cut = ap (option_map (λ more. perms ++ more)) (perms_by_cut [] rest ∙ ap (perms_by []) cut)

-- nor with one that is none
pub perms_bad : (perms : List Perm) (rest string behind : List ℕ) (fault : PermFault) → cut_string rest ≡ Some (string, behind) → perm_of string ≡ Err fault
    → option_map (λ more. perms ++ more) (perms_of [] rest) ≡ None
perms_bad perms rest string behind fault cut bad =
    ap (option_map (λ more. perms ++ more)) (perms_by_cut [] rest ∙ ap (perms_by []) cut ∙ ap (λ r. last_perm (ok_value r) (is_empty behind) (perms_of [] behind)) bad)

map_onto : (perms : List Perm) (perm : Perm) (o : Option (List Perm)) → option_map (λ more. perms ++ more) (option_map (onto_perms perm) o) ≡ option_map (λ more. (perms ++ perm ∷ []) ++ more) o
map_onto perms perm None = refl
map_onto perms perm (Some more) = ap Some (sym (append_assoc perms (perm ∷ []) more))

-- an entry, and those behind it
perms_first : (perms : List Perm) (perm : Perm) (rest string behind : List ℕ) → cut_string rest ≡ Some (string, behind) → perm_of string ≡ Ok perm
    → option_map (λ more. perms ++ more) (perms_of [] rest) ≡ option_map (λ more. perms ++ more) (last_perm (Some perm) (is_empty behind) (perms_of [] behind))
perms_first perms perm rest string behind cut good =
    ap (option_map (λ more. perms ++ more)) (perms_by_cut [] rest ∙ ap (perms_by []) cut ∙ ap (λ r. last_perm (ok_value r) (is_empty behind) (perms_of [] behind)) good)

pub perms_more : (perms : List Perm) (perm : Perm) (rest string behind : List ℕ) → cut_string rest ≡ Some (string, behind) → perm_of string ≡ Ok perm → (length behind == 0) ≡ false
    → option_map (λ more. perms ++ more) (perms_of [] rest) ≡ option_map (λ more. (perms ++ perm ∷ []) ++ more) (perms_of [] behind)
perms_more perms perm rest string behind cut good some =
    perms_first perms perm rest string behind cut good
    ∙ ap (λ b. option_map (λ more. perms ++ more) (last_perm (Some perm) b (perms_of [] behind))) (is_empty-length behind ∙ some) ∙ map_onto perms perm (perms_of [] behind)

pub perms_last : (perms : List Perm) (perm : Perm) (rest string behind : List ℕ) → cut_string rest ≡ Some (string, behind) → perm_of string ≡ Ok perm → (length behind == 0) ≡ true
    → option_map (λ more. perms ++ more) (perms_of [] rest) ≡ Some (perms ++ perm ∷ [])
perms_last perms perm rest string behind cut good end =
    perms_first perms perm rest string behind cut good
    ∙ ap (λ b. option_map (λ more. perms ++ more) (last_perm (Some perm) b (perms_of [] behind))) (is_empty-length behind ∙ end)

-- what is behind a string is shorter
shorter_onto : (b : ℕ) (bs : List ℕ) (o : Option (List ℕ × List ℕ)) → IfSome o (λ cut. length cut.1 < length bs) → IfSome (option_map (onto_string b) o) (λ cut. length cut.1 < length (b ∷ bs))
shorter_onto b bs None h = tt
shorter_onto b bs (Some cut) h = omega arith

shorter_step : (ends : Bool) (b : ℕ) (bs : List ℕ) → IfSome (cut_string bs) (λ cut. length cut.1 < length bs)
    → IfSome (cond ends (Some ([], bs)) (option_map (onto_string b) (cut_string bs))) (λ cut. length cut.1 < length (b ∷ bs))
shorter_step true b bs h = omega arith
shorter_step false b bs h = shorter_onto b bs (cut_string bs) h

cut_shorter : (bytes : List ℕ) → IfSome (cut_string bytes) (λ cut. length cut.1 < length bytes)
cut_shorter [] = tt
cut_shorter (b ∷ bs) = shorter_step (b == 0) b bs (cut_shorter bs)

pub behind_shorter : (bytes string behind : List ℕ) → cut_string bytes ≡ Some (string, behind) → length behind < length bytes
behind_shorter bytes string behind cut = rw cut at (cut_shorter bytes)

-- WHETHER THERE ARE ENTRIES
some_map : {A B : Type 0} (f : A → B) (o : Option A) → is_some (option_map f o) ≡ is_some o
some_map f None = refl
some_map f (Some x) = refl

pub none_uncut : (perms : List Perm) (rest : List ℕ) → cut_string rest ≡ None → is_some (perms_of [] rest) ≡ false
none_uncut perms rest cut = sym (some_map (λ more. perms ++ more) (perms_of [] rest)) ∙ ap is_some (perms_uncut perms rest cut)

pub none_bad : (perms : List Perm) (rest string behind : List ℕ) (fault : PermFault) → cut_string rest ≡ Some (string, behind) → perm_of string ≡ Err fault → is_some (perms_of [] rest) ≡ false
none_bad perms rest string behind fault cut bad = sym (some_map (λ more. perms ++ more) (perms_of [] rest)) ∙ ap is_some (perms_bad perms rest string behind fault cut bad)

pub some_more : (perm : Perm) (rest string behind : List ℕ) → cut_string rest ≡ Some (string, behind) → perm_of string ≡ Ok perm → (length behind == 0) ≡ false
    → is_some (perms_of [] behind) ≡ is_some (perms_of [] rest)
some_more perm rest string behind cut good some =
    sym (some_map (λ more. perm ∷ more) (perms_of [] behind)) ∙ sym (ap is_some (perms_more [] perm rest string behind cut good some)) ∙ some_map (λ more. [] ++ more) (perms_of [] rest)

pub some_last : (perm : Perm) (rest string behind : List ℕ) → cut_string rest ≡ Some (string, behind) → perm_of string ≡ Ok perm → (length behind == 0) ≡ true → is_some (perms_of [] rest) ≡ true
some_last perm rest string behind cut good end = sym (some_map (λ more. [] ++ more) (perms_of [] rest)) ∙ ap is_some (perms_last [] perm rest string behind cut good end)

-- no entries are left where there are none, whatever came before
pub none_left : (perms : List Perm) (o : Option (List Perm)) (whole : Option (List Perm)) → option_map (λ more. perms ++ more) o ≡ whole → is_some whole ≡ true → is_some o ≡ false → ⊥
none_left perms o whole is some none = not_both some (ap is_some (sym is) ∙ some_map (λ more. perms ++ more) o ∙ none)
