-- Texts on the wire: those of paths, of watches and of tokens end at their only NUL, and the text of a path tells the path.
-- But for what a stream is read by, these are facts of paths and of strings, and belong to a lower crate.
use Rattle.std.specs.Prelude.{◌≡◌, ℕ, ◌+◌, ◌==◌, Bool, true, false, cond, not, ◌&&◌, ◌||◌, List, [], ◌∷◌, length, nat_lt, Option, Some, None, option_map, option_and_then}
use Rattle.std.specs.Str.{bytes_eq}
use Rattle.std.specs.Cmp.Lexicographic.{bytes_decides}
use Rattle.std.proofs.Common.{sym, refl, ap, ◌∙◌, eqb-true, ⊎_elim}
use Rattle.std.proofs.lemmas.Bool.{or_parts, or_from, or_cases, not-false}
use Rattle.xs_model.specs.declared.path.PathFault.{PathFault}
use Rattle.xs_model.specs.declared.path.PathFault.TheVariants.{BadByte, DoubleSlash, TooLong}
use Rattle.xs_model.specs.Paths.{Path, text, is_absolute, is_path_byte, path_limit, fault_from, trailing_fault, or_else, path_fault, path_unless, path_of}
use Rattle.xs_model.specs.Messages.{string}
use Rattle.xs_model.specs.Requests.{ok_value, when, onto_string, cut_string, is_empty, one_string, introduce_domain, release_domain, is_special, is_ok_path, is_watch_path}
use Rattle.xs_model.proofs.Maps.{not_both, not_Some}
use Rattle.kept_model.specs.Sound.{IsSpelled, has_nul}
use Rattle.kept_model.specs.Loading.{absolute_of}

-- A STRING is cut at its NUL
cut_there : (bytes : List ℕ) → has_nul bytes ≡ false → cut_string (string bytes) ≡ Some (bytes, [])
cut_there [] h = refl
cut_there (b ∷ bs) h =
    let parts = or_parts (b == 0) (has_nul bs) h in
    ap (λ c. cond c (Some ([], string bs)) (option_map (onto_string b) (cut_string (string bs)))) parts.0
    ∙ ap (option_map (onto_string b)) (cut_there bs parts.1)

pub one_string-string : (bytes : List ℕ) → has_nul bytes ≡ false → one_string (string bytes) ≡ Some bytes
one_string-string bytes h = ap (option_and_then (λ (first : List ℕ × List ℕ). when (is_empty first.1) first.0)) (cut_there bytes h)

-- NO BYTE OF A PATH is a NUL
not_nul : (b : ℕ) → is_path_byte b ≡ true → (b == 0) ≡ false
not_nul b h = by (b == 0) refl
  where
    by : (c : Bool) → (b == 0) ≡ c → c ≡ false
    by true e = not_both h (ap is_path_byte (eqb-true b 0 e))
    by false e = refl

fault_step : (a b : Bool) (f g : PathFault) (rest : Option PathFault) → cond a (Some f) (cond b (Some g) rest) ≡ None → (a ≡ false) × (rest ≡ None)
fault_step true b f g rest e = not_Some (sym e)
fault_step false true f g rest e = not_Some (sym e)
fault_step false false f g rest e = (refl, e)

no_nul_from : (at before : ℕ) (bs : List ℕ) → fault_from at before bs ≡ None → has_nul bs ≡ false
no_nul_from at before [] e = refl
no_nul_from at before (b ∷ bs) e =
    let parts = fault_step (not (is_path_byte b) || (at == 0 && b == 64)) (before == 47 && b == 47) (BadByte at) (DoubleSlash at) (fault_from (at + 1) b bs) e in
    let good = or_parts (not (is_path_byte b)) (at == 0 && b == 64) parts.0 in
    or_from (b == 0) (has_nul bs) (not_nul b (not-false (is_path_byte b) good.0)) (no_nul_from (at + 1) b bs parts.1)

first_none : (c : Bool) (long : PathFault) (f t : Option PathFault) → cond c (Some long) (or_else f t) ≡ None → f ≡ None
first_none true long f t e = not_Some (sym e)
first_none false long None t e = refl
first_none false long (Some fault) t e = not_Some (sym e)

no_nul_path : (bs : List ℕ) → path_fault bs ≡ None → has_nul bs ≡ false
no_nul_path [] e = not_Some (sym e)
no_nul_path (b ∷ bs) e =
    no_nul_from 0 0 (b ∷ bs) (first_none (nat_lt (path_limit (b ∷ bs)) (length (b ∷ bs))) (TooLong (length (b ∷ bs))) (fault_from 0 0 (b ∷ bs)) (trailing_fault (b ∷ bs)) e)

ok_path : (bs : List ℕ) (domid : ℕ) (fault : Option PathFault) → path_fault bs ≡ fault → is_ok_path (path_unless fault bs domid) ≡ true → has_nul bs ≡ false
ok_path bs domid (Some fault) f e = not_both e refl
ok_path bs domid None f e = no_nul_path bs f

special_text : (bs : List ℕ) → is_special bs ≡ true → has_nul bs ≡ false
special_text bs e = ⊎_elim
    (λ s. ap has_nul ((bytes_decides bs introduce_domain).0 s))
    (λ s. ap has_nul ((bytes_decides bs release_domain).0 s))
    (or_cases (bytes_eq bs introduce_domain) (bytes_eq bs release_domain) e)

pub watch_path_text : (bs : List ℕ) (domid : ℕ) → is_watch_path bs domid ≡ true → has_nul bs ≡ false
watch_path_text bs domid e = ⊎_elim (special_text bs) (ok_path bs domid (path_fault bs) refl) (or_cases (is_special bs) (is_ok_path (path_of bs domid)) e)

-- THE TEXT OF A PATH
pub path_text : (p : Path) → IsSpelled p → has_nul (text p) ≡ false
path_text p e = ok_path (text p) 0 (path_fault (text p)) refl (ap is_ok_path e)

text_absolute : (p : Path) → is_absolute (text p) ≡ true
text_absolute [] = refl
text_absolute (n ∷ ns) = refl

pub absolute_of-text : (p : Path) → IsSpelled p → absolute_of (text p) ≡ Some p
absolute_of-text p e = ap (λ b. cond b (ok_value (path_of (text p) 0)) None) (text_absolute p) ∙ ap ok_value e

pub not_special : (p : Path) → is_special (text p) ≡ false
not_special [] = refl
not_special (n ∷ ns) = refl
