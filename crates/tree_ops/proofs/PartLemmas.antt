-- Names from a place on, as many as a payload takes.
use Rattle.std.specs.Prelude.{◌≡◌, ◌≢◌, ℕ, zero, suc, ◌+◌, ◌-◌, ◌<◌, ◌≤◌, ◌==◌, Bool, true, false, cond, not, ◌||◌, ◌&&◌, List, [], ◌∷◌, ◌++◌, length, take, drop, nat_lt, Option, Some, None, Ok}
use Rattle.std.specs.List.{AllByRecursion}
use Rattle.std.specs.Cmp.{both_ways}
use Rattle.std.proofs.Common.{sym, refl, ap, subst, ◌∙◌, arith, append_assoc, append-nil, length-append}
use Rattle.std.proofs.lemmas.Bool.{ne_eqb, lt-ltb, ltb-true, le-ltb}
use Rattle.std.proofs.lemmas.List.{take-append-le, drop-append-le}
use Rattle.xs_model.specs.declared.path.PathFault.{PathFault}
use Rattle.xs_model.specs.Paths.{Path, Name, child, text, names_text, is_path_byte, fault_from, trailing_fault, or_else, path_fault, path_unless, path_of}
use Rattle.xs_model.specs.Messages.{string, strings}
use Rattle.xs_model.specs.Commands.{onto_kept, up_to_last_nul, part_of_list}
use Rattle.xs_model.proofs.Maps.{not_both, not_Some, from_Some}
use Rattle.node_tree.specs.Names.{names_above, first_name}
use Rattle.tree_ops.specs.Places.{IsWithin, IsPlace}
use Rattle.tree_ops.proofs.ChildLemmas.{split_first}
use Rattle.tree_ops.proofs.NameLemmas.{NextName}

-- NAMES HAVE NO NUL
abbrev pub NoNul : List ℕ → Type 0
NoNul bs = AllByRecursion (λ b. b ≢ 0) bs

none_right : (b : Bool) (fault : PathFault) (o : Option PathFault) → cond b (Some fault) o ≡ None → (b ≡ false) × (o ≡ None)
none_right true fault o h = not_Some (sym h)
none_right false fault o h = (refl, h)

first_false : (x y : Bool) → (x || y) ≡ false → x ≡ false
first_false true y h = h
first_false false y h = refl

path_byte : (b : ℕ) → not (is_path_byte b) ≡ false → b ≢ 0
path_byte b h e = not_both refl (subst (λ n. not (is_path_byte n) ≡ false) e h)

faultless_from : (at before : ℕ) (bytes : List ℕ) → fault_from at before bytes ≡ None → NoNul bytes
faultless_from at before [] h = tt
faultless_from at before (b ∷ bs) h =
    let byte = none_right (not (is_path_byte b) || (at == 0 && b == 64)) _ (cond (before == 47 && b == 47) (Some _) (fault_from (at + 1) b bs)) h in
    let slash = none_right (before == 47 && b == 47) _ (fault_from (at + 1) b bs) byte.1 in
    (path_byte b (first_false (not (is_path_byte b)) (at == 0 && b == 64) byte.0), faultless_from (at + 1) b bs slash.1)

first_none : (x y : Option PathFault) → or_else x y ≡ None → x ≡ None
first_none None y h = refl
first_none (Some fault) y h = h

faultless : (bytes : List ℕ) → path_fault bytes ≡ None → NoNul bytes
faultless [] h = tt
faultless (b ∷ bs) h =
    faultless_from 0 0 (b ∷ bs) (first_none (fault_from 0 0 (b ∷ bs)) (trailing_fault (b ∷ bs)) (none_right _ _ (or_else (fault_from 0 0 (b ∷ bs)) (trailing_fault (b ∷ bs))) h).1)

no_fault : (o : Option PathFault) (bytes : List ℕ) (p : Path) → path_unless o bytes 0 ≡ Ok p → o ≡ None
no_fault None bytes p h = refl
no_fault (Some fault) bytes p h = cc

behind_clean : (xs ys : List ℕ) → NoNul (xs ++ ys) → NoNul ys
behind_clean [] ys h = h
behind_clean (x ∷ xs) ys h = behind_clean xs ys h.1

last_clean : (p : Path) (n : Name) → NoNul (names_text (child p n)) → NoNul n
last_clean [] n h = subst NoNul (append-nil n) h.1
last_clean (m ∷ p) n h = last_clean p n (behind_clean m (names_text (child p n)) h.1)

child_text : (p : Path) (n : Name) → text (child p n) ≡ names_text (child p n)
child_text [] n = refl
child_text (m ∷ p) n = refl

pub name_clean : (p : Path) (n : Name) → path_of (text (child p n)) 0 ≡ Ok (child p n) → NoNul n
name_clean p n spelled =
    last_clean p n (subst NoNul (child_text p n) (faultless (text (child p n)) (no_fault (path_fault (text (child p n))) (text (child p n)) (child p n) spelled)))

take_clean : (n : ℕ) (bs : List ℕ) → NoNul bs → NoNul (take n bs)
take_clean zero bs h = tt
take_clean (suc n) [] h = tt
take_clean (suc n) (b ∷ bs) h = (h.0, take_clean n bs h.1)

drop_clean : (n : ℕ) (bs : List ℕ) → NoNul bs → NoNul (drop n bs)
drop_clean zero bs h = h
drop_clean (suc n) [] h = tt
drop_clean (suc n) (b ∷ bs) h = drop_clean n bs h.1

-- UP TO THE LAST NUL
onto_nul : (kept : List ℕ) → onto_kept 0 kept ≡ 0 ∷ kept
onto_nul [] = refl
onto_nul (b ∷ bs) = refl

onto_string : (b : ℕ) (bs kept : List ℕ) → onto_kept b ((bs ++ 0 ∷ []) ++ kept) ≡ b ∷ ((bs ++ 0 ∷ []) ++ kept)
onto_string b [] kept = refl
onto_string b (c ∷ bs) kept = refl

string_kept : (bs more : List ℕ) → up_to_last_nul (string bs ++ more) ≡ string bs ++ up_to_last_nul more
string_kept [] more = onto_nul (up_to_last_nul more)
string_kept (b ∷ bs) more = ap (onto_kept b) (string_kept bs more) ∙ onto_string b bs (up_to_last_nul more)

none_kept : (bs : List ℕ) → NoNul bs → up_to_last_nul bs ≡ []
none_kept [] h = refl
none_kept (b ∷ bs) h = ap (onto_kept b) (none_kept bs h.1) ∙ ap (λ nul. cond nul (b ∷ []) []) (ne_eqb b 0 h.0)

-- PARTS
take_over : (xs ys : List ℕ) (m n : ℕ) → m ≡ length xs + n → take m (xs ++ ys) ≡ xs ++ take n ys
take_over [] ys m n h = ap (λ k. take k ys) (omega (arith, h))
take_over (x ∷ xs) ys zero n h = absurd (omega (arith, h))
take_over (x ∷ xs) ys (suc m) n h = ap (λ l. x ∷ l) (take_over xs ys m n (omega (arith, h)))

drop_over : (xs ys : List ℕ) (m n : ℕ) → m ≡ length xs + n → drop m (xs ++ ys) ≡ drop n ys
drop_over [] ys m n h = ap (λ k. drop k ys) (omega (arith, h))
drop_over (x ∷ xs) ys zero n h = absurd (omega (arith, h))
drop_over (x ∷ xs) ys (suc m) n h = drop_over xs ys m n (omega (arith, h))

string_length : (bs : List ℕ) → length (string bs) ≡ length bs + 1
string_length bs = length-append bs (0 ∷ [])

-- the payload takes one more name
pub part_on : (payload rest more : List ℕ) → length payload + length rest < 4096 → part_of_list payload (string rest ++ more) ≡ part_of_list (payload ++ string rest) more
part_on payload rest more fits =
    let room : 4096 - length payload ≡ length (string rest) + (4096 - length (payload ++ string rest)) = omega (arith, fits, string_length rest, length-append payload (string rest)) in
    ap (λ l. payload ++ up_to_last_nul (take (4096 - length payload) l)) (append_assoc (string rest) more (0 ∷ []))
    ∙ ap (λ l. payload ++ up_to_last_nul l) (take_over (string rest) (string more) (4096 - length payload) (4096 - length (payload ++ string rest)) room)
    ∙ ap (λ l. payload ++ l) (string_kept rest (take (4096 - length (payload ++ string rest)) (string more)))
    ∙ sym (append_assoc payload (string rest) (up_to_last_nul (take (4096 - length (payload ++ string rest)) (string more))))

-- it takes no more
pub part_full : (payload rest more : List ℕ) → NoNul rest → 4096 ≤ length payload + length rest → part_of_list payload (string rest ++ more) ≡ payload
part_full payload rest more clean full =
    let room = 4096 - length payload in
    let behind : string (string rest ++ more) ≡ rest ++ (0 ∷ string more) = append_assoc (string rest) more (0 ∷ []) ∙ append_assoc rest (0 ∷ []) (string more) in
    let front : take room (string (string rest ++ more)) ≡ take room rest = ap (take room) behind ∙ take-append-le room rest (0 ∷ string more) (omega (arith, full)) in
    ap (λ l. payload ++ up_to_last_nul l) front
    ∙ ap (λ l. payload ++ l) (none_kept (take room rest) (take_clean room rest clean))
    ∙ append-nil payload

-- it takes the empty name
take_one : (n : ℕ) → 0 < n → take {A = ℕ} n (0 ∷ []) ≡ 0 ∷ []
take_one zero h = absurd (omega (arith, h))
take_one (suc zero) h = refl
take_one (suc (suc n)) h = refl

pub part_ends : (payload : List ℕ) → length payload < 4096 → part_of_list payload [] ≡ payload ++ 0 ∷ []
part_ends payload fits = ap (λ l. payload ++ up_to_last_nul l) (take_one (4096 - length payload) (omega (arith, fits)))

pub part_cut : (payload : List ℕ) → 4096 ≤ length payload → part_of_list payload [] ≡ payload
part_cut payload full =
    let none : 4096 - length payload ≡ 0 = omega (arith, full) in
    ap (λ n. payload ++ up_to_last_nul (take n (0 ∷ []))) none ∙ append-nil payload

-- of the first name some bytes are passed
pub string_from : (n : Name) (more : List ℕ) (passed : ℕ) → passed ≤ length n → drop passed (string n ++ more) ≡ string (drop passed n) ++ more
string_from n more passed within =
    ap (drop passed) (append_assoc n (0 ∷ []) more)
    ∙ drop-append-le passed n (0 ∷ more) within
    ∙ sym (append_assoc (drop passed n) (0 ∷ []) more)

-- PLACES. So far, and the bytes that are left to pass
pub record IsPassing (names : List Name) (offset : ℕ) (last : Name) (left : ℕ) : Type 0 where
  pub rest : drop offset (strings names) ≡ drop left (strings (names_above last names))
  pub inside : nat_lt (length (strings names)) offset ≡ nat_lt (length (strings (names_above last names))) left

pub no_names : (names : List Name) → first_name names ≡ None → names ≡ []
no_names [] h = refl
no_names (n ∷ names) h = not_Some (sym h)

not_above : (m n : ℕ) → n ≤ m → nat_lt m n ≡ false
not_above m n h = le-ltb m n h

pub place_end : (names : List Name) (offset : ℕ) (last : Name) (left : ℕ) → IsPassing names offset last left → first_name (names_above last names) ≡ None → left ≡ 0 → IsPlace names offset last 0
place_end names offset last left so_far none all =
    let ns = no_names (names_above last names) none in
    record {
      rest = so_far.rest ∙ ap (λ k. drop k (strings (names_above last names))) all;
      within = λ n is. not_Some (sym none ∙ is);
      inside = so_far.inside ∙ ap (nat_lt (length (strings (names_above last names)))) all ∙ not_above (length (strings (names_above last names))) 0 (omega arith);
    }

pub place_beyond : (names : List Name) (offset : ℕ) (last : Name) (left : ℕ) → IsPassing names offset last left → first_name (names_above last names) ≡ None → 0 < left → nat_lt (length (strings names)) offset ≡ true
place_beyond names offset last left so_far none some =
    so_far.inside ∙ ap (λ ns. nat_lt (length (strings ns)) left) (no_names (names_above last names) none) ∙ lt-ltb 0 left some

pub place_found : (names : List Name) (offset : ℕ) (last n : Name) (left : ℕ) → IsPassing names offset last left → first_name (names_above last names) ≡ Some n → left ≤ length n → IsPlace names offset last left
place_found names offset last n left so_far found within =
    let parts = split_first (names_above last names) n found in
    record {
      rest = so_far.rest;
      within = λ m is. subst (λ k. left ≤ length k) (from_Some (sym found ∙ is)) within;
      inside = so_far.inside ∙ ap (λ ns. nat_lt (length (strings ns)) left) parts.1
          ∙ not_above (length (string n ++ strings parts.0)) left (omega (arith, within, string_length n, length-append (string n) (strings parts.0)));
    }

less_by : (a b k m n : ℕ) → a ≡ k + b → m ≡ k + n → nat_lt a m ≡ nat_lt b n
less_by a b k m n h e =
    both_ways (nat_lt a m) (nat_lt b n)
    (λ t. lt-ltb b n (omega (arith, h, e, ltb-true a m t)))
    (λ t. lt-ltb a m (omega (arith, h, e, ltb-true b n t)))

pub place_on : (names : List Name) (offset : ℕ) (last n : Name) (left : ℕ) → IsPassing names offset last left → NextName names last n → length n < left → IsPassing names offset n (left - (length n + 1))
place_on names offset last n left so_far next beyond =
    let more = strings (names_above n names) in
    let on : left ≡ length (string n) + (left - (length n + 1)) = omega (arith, beyond, string_length n) in
    record {
      rest = so_far.rest ∙ ap (λ ns. drop left (strings ns)) next.split ∙ drop_over (string n) more left (left - (length n + 1)) on;
      inside = so_far.inside ∙ ap (λ ns. nat_lt (length (strings ns)) left) next.split
          ∙ less_by (length (string n ++ more)) (length more) (length (string n)) left (left - (length n + 1)) (length-append (string n) more) on;
    }

-- GIVING NAMES. What is given so far and what is left make the whole
pub record IsGiving (names : List Name) (whole payload : List ℕ) (last : Name) (passed : ℕ) : Type 0 where
  pub so_far : part_of_list payload (drop passed (strings (names_above last names))) ≡ whole
  pub within : IsWithin (names_above last names) passed

module _ (names : List Name) (whole payload : List ℕ) (last n : Name) (passed : ℕ) (so_far : IsGiving names whole payload last passed) (next : NextName names last n) where
  rest_given : part_of_list payload (string (drop passed n) ++ strings (names_above n names)) ≡ whole
  rest_given =
      let first : first_name (names_above last names) ≡ Some n = ap first_name next.split in
      ap (part_of_list payload) (sym (ap (λ ns. drop passed (strings ns)) next.split ∙ string_from n (strings (names_above n names)) passed (so_far.within n first))) ∙ so_far.so_far

  pub given_all : NoNul n → 4096 ≤ length payload + length (drop passed n) → payload ≡ whole
  given_all clean full = sym (part_full payload (drop passed n) (strings (names_above n names)) (drop_clean passed n clean) full) ∙ rest_given

  pub given_one : length payload + length (drop passed n) < 4096 → IsGiving names whole (payload ++ string (drop passed n)) n 0
  given_one fits = record {
    so_far = sym (part_on payload (drop passed n) (strings (names_above n names)) fits) ∙ rest_given;
    within = λ m is. omega arith;
  }

pub given_end : (names : List Name) (whole payload : List ℕ) (last : Name) (passed : ℕ) → IsGiving names whole payload last passed → first_name (names_above last names) ≡ None → part_of_list payload [] ≡ whole
given_end names whole payload last passed so_far none =
    ap (part_of_list payload) (sym (ap (λ ns. drop passed (strings ns)) (no_names (names_above last names) none) ∙ drop_none passed)) ∙ so_far.so_far
  where
    drop_none : (n : ℕ) → drop {A = ℕ} n [] ≡ []
    drop_none zero = refl
    drop_none (suc n) = refl
