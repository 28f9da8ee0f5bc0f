-- Which bytes are a path, whether memory is found for it or not, and which are that of `/`.
use Rattle.std.proofs.Common.{◌≡◌, ℕ, ◌+◌, ◌==◌, Bool, true, false, cond, List, [], ◌∷◌, ◌++◌, Option, Some, None, option_map, is_some, Result, Err, refl, ap, ◌∙◌, subst}
use Rattle.std.proofs.lemmas.Bool.{eqb-true}
use Rattle.std.specs.Prelude.{option_and_then, nat_lt, length, slice_index, not, ◌-◌, ◌||◌, ◌&&◌}
use Rattle.xs_model.specs.declared.path.PathFault.{PathFault}
use Rattle.xs_model.specs.declared.path.PathFault.TheVariants.{Empty, TooLong, BadByte, DoubleSlash, TrailingSlash, NoMemory}
use Rattle.xs_model.specs.Paths.{Path, Name, home, path_fault, path_limit, is_path_byte, fault_from, trailing_fault, or_else, split_names, onto_first, absolute_path, path_unless, path_of}
use Rattle.xs_model.specs.Requests.{Command, Rm, Request, ok_value, one_string, is_root, rm_request}
use Rattle.wire_codec.specs.Codec.{is_root_text}

-- NO FAULT OF BYTES IS WANT OF MEMORY
abbrev Named : Option PathFault → Type 0
Named None = Unit {0}
Named (Some Empty) = Unit {0}
Named (Some (TooLong len)) = Unit {0}
Named (Some (BadByte at)) = Unit {0}
Named (Some (DoubleSlash at)) = Unit {0}
Named (Some TrailingSlash) = Unit {0}
Named (Some NoMemory) = ⊥

either_named : (b : Bool) (x y : Option PathFault) → Named x → Named y → Named (cond b x y)
either_named true x y h k = h
either_named false x y h k = k

from_named : (at before : ℕ) (bytes : List ℕ) → Named (fault_from at before bytes)
from_named at before [] = tt
from_named at before (b ∷ bs) =
    either_named (not (is_path_byte b) || (at == 0 && b == 64)) (Some (BadByte at)) (cond (before == 47 && b == 47) (Some (DoubleSlash at)) (fault_from (at + 1) b bs)) tt
    (either_named (before == 47 && b == 47) (Some (DoubleSlash at)) (fault_from (at + 1) b bs) tt (from_named (at + 1) b bs))

both_named : (x y : Option PathFault) → Named x → Named y → Named (or_else x y)
both_named (Some fault) y h k = h
both_named None y h k = k

fault_named : (bytes : List ℕ) → Named (path_fault bytes)
fault_named [] = tt
fault_named (b ∷ bs) =
    either_named (nat_lt (path_limit (b ∷ bs)) (length (b ∷ bs))) (Some (TooLong (length (b ∷ bs)))) (or_else (fault_from 0 0 (b ∷ bs)) (trailing_fault (b ∷ bs))) tt
    (both_named (fault_from 0 0 (b ∷ bs)) (trailing_fault (b ∷ bs)) (from_named 0 0 (b ∷ bs))
    (either_named (nat_lt 1 (length (b ∷ bs)) && slice_index (b ∷ bs) (length (b ∷ bs) - 1) == 47) (Some TrailingSlash) None tt tt))

path_at : (o : Option PathFault) (bytes : List ℕ) (domid : ℕ) (read : Result Path PathFault) → Named o → ((fault : PathFault) → path_unless o bytes domid ≡ Err fault → read ≡ Err fault)
    → read ≡ Err NoMemory → is_some (ok_value (path_unless o bytes domid)) ≡ true
path_at None bytes domid read named exact memory = refl
path_at (Some fault) bytes domid read named exact memory =
    let told : read ≡ Err fault = exact fault refl in
    let same : fault ≡ NoMemory = cc in
    absurd (subst (λ f. Named (Some f)) same named)

-- where each fault is told, want of memory is answered for a path alone
pub path_wanted : (bytes : List ℕ) (domid : ℕ) (read : Result Path PathFault) → ((fault : PathFault) → path_of bytes domid ≡ Err fault → read ≡ Err fault)
    → read ≡ Err NoMemory → is_some (ok_value (path_of bytes domid)) ≡ true
path_wanted bytes domid read = path_at (path_fault bytes) bytes domid read (fault_named bytes)

-- THE ROOT
onto_first-below : (b : ℕ) (names : List Name) → is_root (onto_first b names) ≡ false
onto_first-below b [] = refl
onto_first-below b (n ∷ ns) = refl

either_below : (b : Bool) (p q : Path) → is_root p ≡ false → is_root q ≡ false → is_root (cond b p q) ≡ false
either_below true p q h k = h
either_below false p q h k = k

split_names-below : (bytes : List ℕ) → is_root (split_names bytes) ≡ false
split_names-below [] = refl
split_names-below (b ∷ bs) = either_below (b == 47) ([] ∷ split_names bs) (onto_first b (split_names bs)) refl (onto_first-below b (split_names bs))

-- other bytes than those of `/` spell another path
spelled_below : (absolute : Bool) (b : ℕ) (bs : List ℕ) (domid : ℕ) → (b == 47) ≡ absolute → is_root_text (b ∷ bs) ≡ false
    → is_root (cond absolute (absolute_path (b ∷ bs)) (home domid ++ split_names (b ∷ bs))) ≡ false
spelled_below true b [] domid is other = cc
spelled_below true b (c ∷ bs) domid is other = split_names-below (c ∷ bs)
spelled_below false b bs domid is other = refl

abbrev rm_by : Option Path → Option Request
rm_by o = option_and_then (λ path. cond (not (is_root path)) (Some (Command Rm path)) None) o

rm_path : (path : Path) → is_root path ≡ false → rm_by (Some path) ≡ option_map (Command Rm) (Some path)
rm_path path below = ap (λ b. cond (not b) (Some (Command Rm path)) None) below

rm_text : (o : Option PathFault) (bytes : List ℕ) (domid : ℕ) → path_fault bytes ≡ o → is_root_text bytes ≡ false
    → rm_by (ok_value (path_unless o bytes domid)) ≡ option_map (Command Rm) (ok_value (path_unless o bytes domid))
rm_text (Some fault) bytes domid is other = refl
rm_text None [] domid is other = cc
rm_text None (b ∷ bs) domid is other = rm_path (cond (b == 47) (absolute_path (b ∷ bs)) (home domid ++ split_names (b ∷ bs))) (spelled_below (b == 47) b bs domid refl other)

rm_string : (payload string : List ℕ) (domid : ℕ) → one_string payload ≡ Some string → rm_request payload domid ≡ rm_by (ok_value (path_of string domid))
rm_string payload string domid is = ap (λ o. rm_by (option_and_then (λ bytes. ok_value (path_of bytes domid)) o)) is

pub rm_other : (payload string : List ℕ) (domid : ℕ) → one_string payload ≡ Some string → is_root_text string ≡ false
    → rm_request payload domid ≡ option_map (Command Rm) (ok_value (path_of string domid))
rm_other payload string domid is other = rm_string payload string domid is ∙ rm_text (path_fault string) string domid refl other

root_bytes : (bytes : List ℕ) → is_root_text bytes ≡ true → bytes ≡ 47 ∷ []
root_bytes [] h = cc
root_bytes (b ∷ []) h = ap (λ (n : ℕ). n ∷ []) (eqb-true b 47 h)
root_bytes (b ∷ c ∷ bs) h = cc

pub rm_root : (payload string : List ℕ) (domid : ℕ) → one_string payload ≡ Some string → is_root_text string ≡ true → rm_request payload domid ≡ None
rm_root payload string domid is root = rm_string payload string domid is ∙ ap (λ s. rm_by (ok_value (path_of s domid))) (root_bytes string root)
