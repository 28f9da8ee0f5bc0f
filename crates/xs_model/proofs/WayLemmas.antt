-- The way down to a path, and how far a tree follows it.
use Rattle.std.specs.Prelude.{◌≡◌, suc, true, false, cond, List, [], ◌∷◌, ◌++◌, length, take}
use Rattle.std.proofs.Common.{sym, refl, ap, subst, ◌∙◌, append-nil}
use Rattle.xs_model.specs.Paths.{Name, Path, child, parents, way_down}
use Rattle.xs_model.specs.Trees.{Tree, is_present, IsTree}
use Rattle.xs_model.specs.Commands.{absent_of, nearest_of}
use Rattle.xs_model.proofs.PathLemmas.{child-way}

-- THE PARENT OF A CHILD
take_front : (p : Path) (n : Name) → take (length p) (p ++ n ∷ []) ≡ p
take_front [] n = refl
take_front (m ∷ p) n = ap (λ q. m ∷ q) (take_front p n)

length_child : (p : Path) (n : Name) → length (p ++ n ∷ []) ≡ suc (length p)
length_child [] n = refl
length_child (m ∷ p) n = ap suc (length_child p n)

pub parents-child : (p : Path) (n : Name) → parents (child p n) ≡ p ∷ []
parents-child [] n = refl
parents-child (m ∷ p) n = ap (λ k. take k (m ∷ (p ++ n ∷ [])) ∷ []) (length_child p n) ∙ ap (λ q. (m ∷ q) ∷ []) (take_front p n)

abbrev first_or : Path → List Path → Path
first_or p [] = p
first_or p (q ∷ qs) = q

pub child-same : (p q : Path) (m n : Name) → child p m ≡ child q n → p ≡ q
child-same p q m n e = ap (first_or p) (sym (parents-child p m) ∙ ap parents e ∙ parents-child q n)

-- the paths on a way down, without its start
abbrev pub way_below : Path → List Name → List Path
way_below p [] = []
way_below p (n ∷ ns) = child p n ∷ way_below (child p n) ns

pub way_down-is : (p : Path) (ns : List Name) → way_down p ns ≡ p ∷ way_below p ns
way_down-is p [] = refl
way_down-is p (n ∷ ns) = ap (λ ps. p ∷ ps) (way_down-is (child p n) ns)

-- each path above a present one is present
pub present_above : (tree : Tree) → IsTree tree → (p : Path) (ns : List Name) → is_present tree (p ++ ns) ≡ true → is_present tree p ≡ true
present_above tree is p [] h = subst (λ q. is_present tree q ≡ true) (append-nil p) h
present_above tree is p (n ∷ ns) h = is.parents p n (present_above tree is (child p n) ns (subst (λ q. is_present tree q ≡ true) (sym (child-way p n ns)) h))

-- How a look down from p, which is present, ends: `nearest` is the last present path of an unbroken row, `rest` leads
-- on from it, and `absent` are the paths that `rest` passes
pub record Looked (tree : Tree) (p path nearest : Path) (absent : List Path) : Type 0 where
  pub above : List Name
  pub rest : List Name
  pub from : nearest ≡ p ++ above
  pub to : path ≡ nearest ++ rest
  pub present : is_present tree nearest ≡ true
  pub missed : absent ≡ way_below nearest rest

looked_on : (tree : Tree) (p : Path) (n : Name) (ns : List Name) (nearest : Path) (absent : List Path) → Looked tree (child p n) (child p n ++ ns) nearest absent → Looked tree p (p ++ (n ∷ ns)) nearest absent
looked_on tree p n ns nearest absent l = record {
  above = n ∷ l.above;
  rest = l.rest;
  from = l.from ∙ child-way p n l.above;
  to = sym (child-way p n ns) ∙ l.to;
  present = l.present;
  missed = l.missed;
}

pub look : (tree : Tree) (p : Path) (ns : List Name) → is_present tree p ≡ true → Looked tree p (p ++ ns) (nearest_of tree p (way_below p ns)) (absent_of tree (way_below p ns))
look tree p [] h = record { above = []; rest = []; from = sym (append-nil p); to = refl; present = h; missed = refl }
look tree p (n ∷ ns) h =
    elim (is_present tree (child p n)) as (λ b. is_present tree (child p n) ≡ b → Looked tree p (p ++ (n ∷ ns)) (cond b (nearest_of tree (child p n) (way_below (child p n) ns)) p) (cond b (absent_of tree (way_below (child p n) ns)) (child p n ∷ way_below (child p n) ns))) [
      | true ↦ λ e. looked_on tree p n ns _ _ (look tree (child p n) ns e)
      | false ↦ λ e. record { above = []; rest = n ∷ ns; from = sym (append-nil p); to = refl; present = h; missed = refl }
    ] refl

pub look_down : (tree : Tree) → IsTree tree → (path : Path) → Looked tree [] path (nearest_of tree [] (way_down [] path)) (absent_of tree (way_down [] path))
look_down tree is path =
    let whole : Looked tree [] path (nearest_of tree [] ([] ∷ way_below [] path)) (absent_of tree ([] ∷ way_below [] path)) =
    subst (λ b. Looked tree [] path (cond b (nearest_of tree [] (way_below [] path)) []) (cond b (absent_of tree (way_below [] path)) ([] ∷ way_below [] path))) (sym is.root) (look tree [] path is.root)
    in
    subst (λ ps. Looked tree [] path (nearest_of tree [] ps) (absent_of tree ps)) (sym (way_down-is [] path)) whole
