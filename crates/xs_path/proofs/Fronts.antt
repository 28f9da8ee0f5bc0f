-- Where the text of a path is cut at a slash.
use Rattle.std.proofs.Common.{◌≡◌, ◌≢◌, ℕ, suc, ◌<◌, true, false, ltb, List, [], ◌∷◌, ◌++◌, length, refl, sym, ap, ◌∙◌, arith, length-append}
use Rattle.std.proofs.lemmas.Bool.Decides.{nat_tests}
use Rattle.std.proofs.lemmas.List.{take_at, length_push}
use Rattle.xs_model.specs.Paths.{Path, Name, absolute_path, split_names, parents, path_limit}
use Rattle.xs_path.specs.Texts.{IsPathText, leaf_of}
use Rattle.xs_path.proofs.Splitting.{is_slash, slashes, length-split_names, split_names-append, split_names-whole, leaf_of-push}
use Rattle.xs_path.proofs.Faults.{IsFaultless, faultless, path_fault-none, fault_from-front, apart, trailing_fault-none}

shorter : (m k n : ℕ) → ltb m n ≡ false → k < n → ltb m k ≡ false
shorter m k n p q = grind (arith, nat_tests)

-- what stands before a slash, if anything, is the text of a path
pub IsPathText-front : (a r : List ℕ) → IsPathText (a ++ 47 ∷ r) → 0 < length a → IsPathText a
IsPathText-front [] r h p = absurd (omega arith)
IsPathText-front (b ∷ x) r h p =
    let parts = faultless b (x ++ 47 ∷ r) h.faultless in
    let shown : IsFaultless b x = record {
      fits = shorter (path_limit (b ∷ x)) (suc (length x)) (suc (length (x ++ 47 ∷ r))) parts.fits (omega (arith, length-append x (47 ∷ r)));
      places = fault_from-front 0 0 (b ∷ x) (47 ∷ r) parts.places;
      end = trailing_fault-none b x (apart 0 0 (b ∷ x) r parts.places);
    } in
    record { absolute = h.absolute; faultless = path_fault-none b x shown }

-- that path, with the names behind the slash, is the whole path
pub absolute_path-append : (a r : List ℕ) → IsPathText (a ++ 47 ∷ r) → 0 < length a → absolute_path (a ++ 47 ∷ r) ≡ absolute_path a ++ split_names r
absolute_path-append [] r h p = absurd (omega arith)
absolute_path-append (b ∷ []) r h p =
    let alone = apart 0 0 (b ∷ []) r (faultless b (47 ∷ r) h.faultless).places in
    let slash = h.absolute in
    absurd cc
absolute_path-append (b ∷ c ∷ x) r h p = split_names-append (c ∷ x) r

-- a path but `/` has as many names as its text has slashes
pub length-absolute_path : (b c : ℕ) (x : List ℕ) → is_slash b ≡ true → length (absolute_path (b ∷ c ∷ x)) ≡ slashes (b ∷ c ∷ x)
length-absolute_path b c x p = length-split_names (c ∷ x) ∙ sym (rw p refl)

pub front_slashes : (a r : List ℕ) → IsPathText (a ++ 47 ∷ r) → 0 < length a → length (absolute_path a) ≡ slashes a
front_slashes [] r h p = absurd (omega arith)
front_slashes (b ∷ []) r h p =
    let alone = apart 0 0 (b ∷ []) r (faultless b (47 ∷ r) h.faultless).places in
    let slash = h.absolute in
    absurd cc
front_slashes (b ∷ c ∷ x) r h p = length-absolute_path b c x h.absolute

-- THE LAST NAME
pub parents-push : (p : Path) (n : Name) → parents (p ++ n ∷ []) ≡ p ∷ []
parents-push [] n = refl
parents-push (m ∷ ms) n = ap (λ q. q ∷ []) (take_at (m ∷ ms) (n ∷ []) (length (ms ++ n ∷ [])) (omega (arith, length_push ms n)))

pub leaf_behind : (a n : List ℕ) → IsPathText (a ++ 47 ∷ n) → slashes n ≡ 0 → leaf_of (absolute_path (a ++ 47 ∷ n)) ≡ n
leaf_behind [] [] h e = refl
leaf_behind [] (c ∷ n) h e = ap leaf_of (split_names-whole (c ∷ n) e)
leaf_behind (b ∷ x) n h e =
    ap leaf_of (absolute_path-append (b ∷ x) n h (omega arith) ∙ ap (λ l. absolute_path (b ∷ x) ++ l) (split_names-whole n e)) ∙ leaf_of-push (absolute_path (b ∷ x)) n

pub parent_before : (a n : List ℕ) → IsPathText (a ++ 47 ∷ n) → slashes n ≡ 0 → 0 < length a → parents (absolute_path (a ++ 47 ∷ n)) ≡ absolute_path a ∷ []
parent_before a n h e p =
    ap parents (absolute_path-append a n h p ∙ ap (λ l. absolute_path a ++ l) (split_names-whole n e)) ∙ parents-push (absolute_path a) n

-- a path of one name
pub one_name : (n : List ℕ) → slashes n ≡ 0 → absolute_path (47 ∷ n) ≢ [] → parents (absolute_path (47 ∷ n)) ≡ [] ∷ []
one_name [] e p = absurd (p refl)
one_name (c ∷ n) e p = ap parents (split_names-whole (c ∷ n) e)
