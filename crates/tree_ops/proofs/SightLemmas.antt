-- What a look down to a path finds.
use Rattle.std.proofs.Common.{◌≡◌, ℕ, zero, suc, arith, ◌+◌, ◌<◌, Bool, true, false, cond, List, [], ◌∷◌, ◌++◌, length, get_or, take, drop, reverse, refl, sym, ap, subst, ◌∙◌, inl, inr}
use Rattle.std.proofs.lemmas.Bool.{cases_lt}
use Rattle.std.proofs.lemmas.List.{append-nil, take_all, take_more, drop_more, take-append-drop, length-drop, length-take-le, take-take, reverse-append}
use Rattle.xs_model.specs.Paths.{Path, Name, child, parents, way_down}
use Rattle.xs_model.specs.Trees.{Tree, IsTree, is_present}
use Rattle.xs_model.specs.Commands.{absent_of, nearest_of}
use Rattle.xs_model.proofs.Maps.{not_both}
use Rattle.xs_model.proofs.WayLemmas.{way_below, way_down-is, present_above}
use Rattle.xs_model.proofs.PathLemmas.{child-way}
use Rattle.tree_ops.specs.Ways.{IsNearest}

-- THE WAY DOWN. What is above a present path is passed
passed : (tree : Tree) → IsTree tree → (p : Path) (ns rest : List Name) → is_present tree (p ++ ns) ≡ true → (absent_of tree (way_below p (ns ++ rest)) ≡ absent_of tree (way_below (p ++ ns) rest)) × (nearest_of tree p (way_below p (ns ++ rest)) ≡ nearest_of tree (p ++ ns) (way_below (p ++ ns) rest))
passed tree is p [] rest h =
    let here = append-nil p in
    (ap (λ q. absent_of tree (way_below q rest)) (sym here), ap (λ q. nearest_of tree q (way_below q rest)) (sym here))
passed tree is p (n ∷ ns) rest h =
    let on = child-way p n ns in
    let there : is_present tree (child p n ++ ns) ≡ true = subst (λ q. is_present tree q ≡ true) (sym on) h in
    let next = passed tree is (child p n) ns rest there in
    let seen = present_above tree is (child p n) ns there in (
      ap (λ b. cond b (absent_of tree (way_below (child p n) (ns ++ rest))) (child p n ∷ way_below (child p n) (ns ++ rest))) seen ∙ next.0 ∙ ap (λ q. absent_of tree (way_below q rest)) on,
      ap (λ b. cond b (nearest_of tree (child p n) (way_below (child p n) (ns ++ rest))) p) seen ∙ next.1 ∙ ap (λ q. nearest_of tree q (way_below q rest)) on,
    )

-- the nearest path, and the absent ones
abbrev pub touched : Tree → Path → List Path
touched tree path = nearest_of tree [] (way_down [] path) ∷ absent_of tree (way_down [] path)

from_root : (tree : Tree) → IsTree tree → (path : Path) → touched tree path ≡ nearest_of tree [] (way_below [] path) ∷ absent_of tree (way_below [] path)
from_root tree is path =
    ap (λ ps. nearest_of tree [] ps ∷ absent_of tree ps) (way_down-is [] path)
    ∙ ap (λ b. cond b (nearest_of tree [] (way_below [] path)) [] ∷ cond b (absent_of tree (way_below [] path)) ([] ∷ way_below [] path)) is.root

-- what lies below the nearest present path
below_nearest : (tree : Tree) (above : Path) (rest : List Name) → (0 < length rest → is_present tree (child above (get_or rest 0 [])) ≡ false) → nearest_of tree above (way_below above rest) ∷ absent_of tree (way_below above rest) ≡ above ∷ way_below above rest
below_nearest tree above [] missing = refl
below_nearest tree above (n ∷ rest) missing =
    ap (λ b. cond b (nearest_of tree (child above n) (way_below (child above n) rest)) above ∷ cond b (absent_of tree (way_below (child above n) rest)) (child above n ∷ way_below (child above n) rest)) (missing (omega arith))

way_found : (tree : Tree) → IsTree tree → (above : Path) (rest : List Name) → is_present tree above ≡ true → (0 < length rest → is_present tree (child above (get_or rest 0 [])) ≡ false) → touched tree (above ++ rest) ≡ way_down above rest
way_found tree is above rest h missing =
    let down = passed tree is [] above rest h in
    from_root tree is (above ++ rest)
    ∙ (λ i. down.1 i ∷ down.0 i)
    ∙ below_nearest tree above rest missing
    ∙ sym (way_down-is above rest)

rest_missing : (tree : Tree) (path : Path) (names : ℕ) → IsNearest tree path names → 0 < length (drop names path) → is_present tree (child (take names path) (get_or (drop names path) 0 [])) ≡ false
rest_missing tree path names near some =
    elim (cases_lt names (length path)) [
      | inl below ↦
          let way = drop_more path names [] below in
          let n : get_or (drop names path) 0 [] ≡ get_or path names [] = ap (λ ns. get_or ns 0 []) way in
          ap (λ m. is_present tree (child (take names path) m)) n ∙ ap (is_present tree) (sym (take_more path names [] below)) ∙ near.below below
      | inr beyond ↦ absurd (omega (arith, length-drop names path))
    ]

pub way_seen : (tree : Tree) → IsTree tree → (path : Path) (names : ℕ) → IsNearest tree path names → touched tree path ≡ way_down (take names path) (drop names path)
way_seen tree is path names near =
    ap (touched tree) (sym (take-append-drop names path))
    ∙ way_found tree is (take names path) (drop names path) near.found (rest_missing tree path names near)

-- the root is there, so an absent path has a name
pub deeper : (tree : Tree) → IsTree tree → (path : Path) (names : ℕ) → is_present tree (take names path) ≡ false → 0 < names
deeper tree is path zero h = absurd (not_both is.root h)
deeper tree is path (suc n) h = omega arith

-- one name further down
pub way_step : (p : Path) (n : ℕ) → n < length p → way_down (take n p) (drop n p) ≡ take n p ∷ way_down (take (n + 1) p) (drop (n + 1) p)
way_step p n h =
    ap (way_down (take n p)) (drop_more p n [] h)
    ∙ ap (λ q. take n p ∷ way_down q (drop (n + 1) p)) (sym (take_more p n [] h))

pub way_end : (path : Path) → way_down (take (length path) path) (drop (length path) path) ≡ path ∷ []
way_end path =
    ap (λ p. way_down p (drop (length path) path)) (take_all (length path) path (omega arith))
    ∙ ap (way_down path) (drop_all path)
  where
    drop_all : (p : Path) → drop (length p) p ≡ []
    drop_all [] = refl
    drop_all (n ∷ ns) = drop_all ns

-- a present path is the way alone
pub alone_seen : (tree : Tree) → IsTree tree → (path : Path) → is_present tree path ≡ true → touched tree path ≡ path ∷ []
alone_seen tree is path there =
    let near : IsNearest tree path (length path) = record {
      within = omega arith;
      found = ap (is_present tree) (take_all (length path) path (omega arith)) ∙ there;
      below = λ h. absurd (omega (arith, h));
    } in
    way_seen tree is path (length path) near ∙ way_end path

-- one name further up
up_parent : (path : Path) (k : ℕ) → k < length path → parents (take (suc k) path) ≡ take k path ∷ []
up_parent [] k h = absurd (omega (arith, h))
up_parent (n ∷ ns) k h =
    ap (λ m. take m (n ∷ take k ns) ∷ []) (length-take-le k ns (omega (arith, h)))
    ∙ ap (λ p. p ∷ []) (take-take k (suc k) (n ∷ ns) (omega arith))

one_path : (popped : Bool) (p q : Path) → cond popped (p ∷ []) [] ≡ q ∷ [] → p ≡ q
one_path true p q h = cc
one_path false p q h = cc

pub up_step : (path : Path) (at k : ℕ) (up new : Path) (ups : List Path) (popped : Bool) → at ≡ suc k → k < length path → up ≡ take at path
    → up ∷ reverse ups ≡ way_down (take at path) (drop at path) → parents up ≡ cond popped (new ∷ []) []
    → (new ≡ take k path) × (new ∷ reverse (ups ++ up ∷ []) ≡ way_down (take k path) (drop k path))
up_step path at k up new ups popped e h here way above =
    let next : new ≡ take k path = one_path popped new (take k path) (sym above ∙ ap parents (here ∙ ap (λ m. take m path) e) ∙ up_parent path k h) in
    let same : at ≡ k + 1 = omega (arith, e) in
    let rest : reverse (ups ++ up ∷ []) ≡ way_down (take (k + 1) path) (drop (k + 1) path) =
    reverse-append ups (up ∷ []) ∙ way ∙ ap (λ m. way_down (take m path) (drop m path)) same in
    (next, (λ i. next i ∷ rest i) ∙ sym (way_step path k h))
