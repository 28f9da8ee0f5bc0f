-- Paths that their texts are read as. These are facts of paths, and belong to `xs_model` by their nature.
use Rattle.std.specs.Prelude.{◌≡◌, ◌≢◌, ℕ, ◌+◌, ◌-◌, ◌<◌, ◌≤◌, ◌==◌, Bool, true, false, cond, not, ◌&&◌, ◌||◌, List, [], ◌∷◌, ◌++◌, length, drop, nat_lt, slice_index, get_or, Option, Some, None, Ok}
use Rattle.std.specs.List.{AllByRecursion}
use Rattle.std.proofs.Common.{sym, refl, ap, subst, ◌∙◌, arith, append_assoc, eqb-true, ne_eqb, ltb-false, le-ltb, le_trans}
use Rattle.std.proofs.lemmas.Bool.{and_right}
use Rattle.xs_model.specs.declared.path.PathFault.{PathFault}
use Rattle.xs_model.specs.declared.path.PathFault.TheVariants.{TooLong, BadByte, DoubleSlash, TrailingSlash}
use Rattle.xs_model.specs.Paths.{Name, Path, child, parents, names_text, text, home, is_path_byte, is_absolute, fault_from, trailing_fault, or_else, path_fault, onto_first, split_names, absolute_path, spelled_path, path_unless, path_of}
use Rattle.xs_model.specs.Requests.{ok_value}
use Rattle.xs_model.specs.Laws.{IsName, HasNames}
use Rattle.xs_model.proofs.Maps.{not_both, not_Some, from_Some}
use Rattle.xs_model.proofs.LengthLemmas.{shorter_above}
use Rattle.xs_model.proofs.NameLemmas.{spelled-names}
use Rattle.xs_model.proofs.WayLemmas.{parents-child}
use Rattle.kept_model.specs.Sound.{IsSpelled}
use Rattle.kept_model.specs.Normal.{parent_or_root}
use Rattle.kept_model.proofs.LoadMaps.{all_split}

abbrev NoSlash : List ℕ → Type 0
NoSlash bs = AllByRecursion (λ b. b ≢ 47) bs

-- A TEXT THAT IS CUT AT ITS SLASHES is joined again
onto_text : (b : ℕ) (ns : List Name) (bs : List ℕ) → names_text ns ≡ 47 ∷ bs → names_text (onto_first b ns) ≡ 47 ∷ b ∷ bs
onto_text b [] bs e = let l : 0 ≡ length (47 ∷ bs) = ap length e in absurd (omega arith)
onto_text b (n ∷ ns) bs e = let tail : n ++ names_text ns ≡ bs = ap (drop 1) e in ap (λ r. 47 ∷ b ∷ r) tail

split_text : (bs : List ℕ) → names_text (split_names bs) ≡ 47 ∷ bs
split_text [] = refl
split_text (b ∷ bs) =
    elim (b == 47) as (λ c. (b == 47) ≡ c → names_text (cond c ([] ∷ split_names bs) (onto_first b (split_names bs))) ≡ 47 ∷ b ∷ bs) [
      | true ↦ λ t. ap (λ r. 47 ∷ r) (split_text bs) ∙ ap (λ k. 47 ∷ k ∷ bs) (sym (eqb-true b 47 t))
      | false ↦ λ t. onto_text b (split_names bs) bs (split_text bs)
    ] refl

text_filled : (p : Path) (bs : List ℕ) → names_text p ≡ 47 ∷ bs → text p ≡ 47 ∷ bs
text_filled [] bs e = let l : 0 ≡ length (47 ∷ bs) = ap length e in absurd (omega arith)
text_filled (n ∷ ns) bs e = e

absolute_text : (bytes : List ℕ) → is_absolute bytes ≡ true → text (absolute_path bytes) ≡ bytes
absolute_text [] h = not_both h refl
absolute_text (b ∷ []) h = ap (λ k. k ∷ []) (sym (eqb-true b 47 h))
absolute_text (b ∷ c ∷ bs) h = text_filled (split_names (c ∷ bs)) (c ∷ bs) (split_text (c ∷ bs)) ∙ ap (λ k. k ∷ c ∷ bs) (sym (eqb-true b 47 h))

-- what was read has no fault
read_path : (bytes : List ℕ) (p : Path) (fault : Option PathFault) → path_fault bytes ≡ fault → path_unless fault bytes 0 ≡ Ok p → is_absolute bytes ≡ true → (path_fault bytes ≡ None) × (p ≡ absolute_path bytes)
read_path bytes p (Some fault) f e h = not_Some (ap ok_value e)
read_path bytes p None f e h =
    let read : spelled_path bytes 0 ≡ p = from_Some (ap ok_value e) in
    (f, sym read ∙ ap (λ b. cond b (absolute_path bytes) (home 0 ++ split_names bytes)) h)

-- an absolute text that is read as a path is the text of the path
pub spelled : (bytes : List ℕ) (p : Path) → is_absolute bytes ≡ true → path_of bytes 0 ≡ Ok p → IsSpelled p
spelled bytes p h e =
    let same : text p ≡ bytes = ap text (read_path bytes p (path_fault bytes) refl e h).1 ∙ absolute_text bytes h in
    ap (λ bs. path_of bs 0) same ∙ e

pub root_spelled : IsSpelled []
root_spelled = refl

-- THE PATH ABOVE. No fault comes of bytes that are left out at the end
front_by : (a b : Bool) (f g : PathFault) (long short : Option PathFault) → (long ≡ None → short ≡ None) → cond a (Some f) (cond b (Some g) long) ≡ None → cond a (Some f) (cond b (Some g) short) ≡ None
front_by true b f g long short to e = e
front_by false true f g long short to e = e
front_by false false f g long short to e = to e

fault_front : (at before : ℕ) (xs ys : List ℕ) → fault_from at before (xs ++ ys) ≡ None → fault_from at before xs ≡ None
fault_front at before [] ys e = refl
fault_front at before (x ∷ xs) ys e =
    front_by (not (is_path_byte x) || (at == 0 && x == 64)) (before == 47 && x == 47) (BadByte at) (DoubleSlash at) (fault_from (at + 1) x (xs ++ ys)) (fault_from (at + 1) x xs) (fault_front (at + 1) x xs ys) e

-- the last byte of names is no slash
abbrev last_of : ℕ → List ℕ → ℕ
last_of b [] = b
last_of b (c ∷ cs) = last_of c cs

last_append : (b : ℕ) (xs ys : List ℕ) → last_of b (xs ++ ys) ≡ last_of (last_of b xs) ys
last_append b [] ys = refl
last_append b (x ∷ xs) ys = last_append x xs ys

last_other : (b : ℕ) (xs : List ℕ) → (b ≢ 47) → NoSlash xs → last_of b xs ≢ 47
last_other b [] h k = h
last_other b (x ∷ xs) h k = last_other x xs k.0 k.1

name_end : (b : ℕ) (n : Name) → IsName n → last_of b n ≢ 47
name_end b [] is = let l : 0 < 0 = is.filled in absurd (omega arith)
name_end b (c ∷ cs) is = last_other c cs is.no_slash.0 is.no_slash.1

names_end : (b : ℕ) (ns : List Name) → (b ≢ 47) → HasNames ns → last_of b (names_text ns) ≢ 47
names_end b [] h k = h
names_end b (n ∷ ns) h k = λ e. names_end (last_of 47 n) ns (name_end 47 n k.0) k.1 (sym (last_append 47 n (names_text ns)) ∙ e)

last-is : (b : ℕ) (bs : List ℕ) → get_or (b ∷ bs) (length bs) 0 ≡ last_of b bs
last-is b [] = refl
last-is b (c ∷ bs) = last-is c bs

no_trailing : (b : ℕ) (bs : List ℕ) → (last_of b bs ≢ 47) → trailing_fault (b ∷ bs) ≡ None
no_trailing b bs h =
    let e : length (b ∷ bs) - 1 ≡ length bs = omega arith in
    let last : slice_index (b ∷ bs) (length (b ∷ bs) - 1) ≡ last_of b bs = ap (λ k. get_or (b ∷ bs) k 0) e ∙ last-is b bs in
    let other : (slice_index (b ∷ bs) (length (b ∷ bs) - 1) == 47) ≡ false = ap (λ k. k == 47) last ∙ ne_eqb (last_of b bs) 47 h in
    ap (λ c. cond c (Some TrailingSlash) None) (and_right (nat_lt 1 (length (b ∷ bs))) (slice_index (b ∷ bs) (length (b ∷ bs) - 1) == 47) other)

-- names that are joined are cut again
cut_name : (n : Name) (rest : List ℕ) (ns : List Name) → NoSlash n → split_names rest ≡ [] ∷ ns → split_names (n ++ rest) ≡ n ∷ ns
cut_name [] rest ns h e = e
cut_name (c ∷ cs) rest ns h e =
    ap (λ b. cond b ([] ∷ split_names (cs ++ rest)) (onto_first c (split_names (cs ++ rest)))) (ne_eqb c 47 h.0)
    ∙ ap (onto_first c) (cut_name cs rest ns h.1 e)

cut_names : (ns : List Name) → HasNames ns → split_names (names_text ns) ≡ [] ∷ ns
cut_names [] h = refl
cut_names (n ∷ ns) h = ap (λ ms. [] ∷ ms) (cut_name n (names_text ns) ns h.0.no_slash (cut_names ns h.1))

whole_text : (q : Path) → HasNames q → absolute_path (text q) ≡ q
whole_text [] h = refl
whole_text ([] ∷ ns) h = let l : 0 < 0 = h.0.filled in absurd (omega arith)
whole_text ((c ∷ cs) ∷ ns) h = cut_name (c ∷ cs) (names_text ns) ns h.0.no_slash (cut_names ns h.1)

names_append : (p q : Path) → names_text (p ++ q) ≡ names_text p ++ names_text q
names_append [] q = refl
names_append (n ∷ p) q = ap (λ r. 47 ∷ (n ++ r)) (names_append p q) ∙ ap (λ r. 47 ∷ r) (sym (append_assoc n (names_text p) (names_text q)))

fault_parts : (l : Bool) (f : PathFault) (o t : Option PathFault) → cond l (Some f) (or_else o t) ≡ None → (l ≡ false) × (o ≡ None)
fault_parts true f o t e = not_Some (sym e)
fault_parts false f None t e = (refl, refl)
fault_parts false f (Some g) t e = not_Some (sym e)

above_faultless : (q : Path) (n : Name) → HasNames q → path_fault (text (child q n)) ≡ None → path_fault (text q) ≡ None
above_faultless [] n h e = refl
above_faultless (m ∷ ms) n h e =
    let long : List ℕ = text (child (m ∷ ms) n) in
    let short : List ℕ = text (m ∷ ms) in
    let parts = fault_parts (nat_lt 3072 (length long)) (TooLong (length long)) (fault_from 0 0 long) (trailing_fault long) e in
    let fits : length short ≤ 3072 = le_trans (shorter_above (m ∷ ms) (n ∷ [])) (ltb-false 3072 (length long) parts.0) in
    let front : fault_from 0 0 short ≡ None = fault_front 0 0 short (names_text (n ∷ [])) (ap (fault_from 0 0) (sym (names_append (m ∷ ms) (n ∷ []))) ∙ parts.1) in
    let end : trailing_fault short ≡ None = no_trailing 47 (m ++ names_text ms) (λ s. names_end (last_of 47 m) ms (name_end 47 m h.0) h.1 (sym (last_append 47 m (names_text ms)) ∙ s)) in
    λ i. cond (le-ltb 3072 (length short) fits i) (Some (TooLong (length short))) (or_else (front i) (end i))

text_absolute : (p : Path) → is_absolute (text p) ≡ true
text_absolute [] = refl
text_absolute (n ∷ ns) = refl

parent_spelled : (q : Path) (n : Name) → IsSpelled (child q n) → IsSpelled q
parent_spelled q n h =
    let whole : List ℕ = text (child q n) in
    let names : HasNames q = (all_split IsName q (n ∷ []) (spelled-names whole 0 (child q n) h)).0 in
    let fault = above_faultless q n names (read_path whole (child q n) (path_fault whole) refl h (text_absolute (child q n))).0 in
    ap (λ f. path_unless f (text q) 0) fault
    ∙ ap (λ b. Ok (cond b (absolute_path (text q)) (home 0 ++ split_names (text q)))) (text_absolute q)
    ∙ ap (λ r. Ok r) (whole_text q names)

last_name : (n : Name) (ns : List Name) → (q : Path) × (m : Name) × (n ∷ ns ≡ child q m)
last_name n [] = ([], n, refl)
last_name n (m ∷ ns) = let last = last_name m ns in (n ∷ last.0, last.1, ap (λ p. n ∷ p) last.2)

-- the path above one that is spelled is spelled
pub parents_spelled : (p : Path) → IsSpelled p → AllByRecursion IsSpelled (parent_or_root p)
parents_spelled [] h = (h, tt)
parents_spelled (n ∷ ns) h =
    let last = last_name n ns in
    let above : AllByRecursion IsSpelled (last.0 ∷ []) = (parent_spelled last.0 last.1 (subst IsSpelled last.2 h), tt) in
    subst (AllByRecursion IsSpelled) (sym (ap parents last.2 ∙ parents-child last.0 last.1)) above
