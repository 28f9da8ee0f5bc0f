-- A command gives the same answer on two trees that are alike outside a set of paths, where it neither looked at nor
-- wrote a path of the set.
use Rattle.std.specs.Prelude.{◌≡◌, Bool, true, false, cond, List, [], ◌∷◌, ◌++◌, Option, Some, None, is_some}
use Rattle.std.proofs.Common.{sym, refl, ap, subst, ◌∙◌, append-nil}
use Rattle.std.proofs.lemmas.Bool.{and_from, false_from_ne_true}
use Rattle.xs_model.specs.Paths.{Name, Path, has_path, child, way_down, is_below}
use Rattle.xs_model.specs.Trees.{Tree, node_at, is_present, child_name, children, if_below, all_below, IsTree}
use Rattle.xs_model.specs.Commands.{nearest_of, absent_of}
use Rattle.xs_model.proofs.Maps.{not_both}
use Rattle.xs_model.proofs.PathLemmas.{has_path-here, has_path-left, has_path-right, child_name-is, way_to, is_below-itself, is_below-child, child-way}
use Rattle.xs_model.proofs.WayLemmas.{way_below, way_down-is, Looked, look, present_above}
use Rattle.xs_model.proofs.TreeLemmas.{has_path-all_below}
use Rattle.xs_model.proofs.PickLemmas.{same_picks}

if_below_some : (b : Bool) (q : Path) → is_some (cond b (Some q) None) ≡ true → b ≡ true
if_below_some true q h = refl
if_below_some false q h = h

-- no path of ps is in the set
abbrev pub Misses : List Path → List Path → Type 0
Misses others ps = (p : Path) → has_path p ps ≡ true → has_path p others ≡ false

-- the same node at each path outside the set, and the same presence of each child of such a path
pub record AlikeOutside (others : List Path) (copy tree : Tree) : Type 0 where
  pub nodes : (p : Path) → has_path p others ≡ false → node_at copy p ≡ node_at tree p
  pub children : (p : Path) (n : Name) → has_path p others ≡ false → is_present copy (child p n) ≡ is_present tree (child p n)

pub misses-left : (others ps qs : List Path) → Misses others (ps ++ qs) → Misses others ps
misses-left others ps qs h = λ p e. h p (has_path-left p ps qs e)

pub misses-right : (others ps qs : List Path) → Misses others (ps ++ qs) → Misses others qs
misses-right others ps qs h = λ p e. h p (has_path-right p ps qs e)

module _ (others : List Path) (copy tree : Tree) (alike : AlikeOutside others copy tree) (is_copy : IsTree copy) (is : IsTree tree) where
  pub present_outside : (p : Path) → has_path p others ≡ false → is_present copy p ≡ is_present tree p
  present_outside p h = ap is_some (alike.nodes p h)

  -- THE SAME SIGHT
  pub record SameLook (p : Path) (way : List Path) : Type 0 where
    pub nearest : nearest_of copy p way ≡ nearest_of tree p way
    pub absent : absent_of copy way ≡ absent_of tree way

  look_on : (p c : Path) (way : List Path) → is_present copy c ≡ true → is_present tree c ≡ true → SameLook c way → SameLook p (c ∷ way)
  look_on p c way e f same = record {
    nearest = ap (λ b. cond b (nearest_of copy c way) p) e ∙ same.nearest ∙ sym (ap (λ b. cond b (nearest_of tree c way) p) f);
    absent = ap (λ b. cond b (absent_of copy way) (c ∷ way)) e ∙ same.absent ∙ sym (ap (λ b. cond b (absent_of tree way) (c ∷ way)) f);
  }

  look_ends : (p c : Path) (way : List Path) → is_present copy c ≡ false → is_present tree c ≡ false → SameLook p (c ∷ way)
  look_ends p c way e f = record {
    nearest = ap (λ b. cond b (nearest_of copy c way) p) e ∙ sym (ap (λ b. cond b (nearest_of tree c way) p) f);
    absent = ap (λ b. cond b (absent_of copy way) (c ∷ way)) e ∙ sym (ap (λ b. cond b (absent_of tree way) (c ∷ way)) f);
  }

  -- the nearest path below c is present in the other tree, so c is
  reached : (c : Path) (path nearest : Path) (absent : List Path) → Looked copy c path nearest absent → has_path nearest others ≡ false → is_present tree c ≡ true
  reached c path nearest absent l h = present_above tree is c l.above (subst (λ q. is_present tree q ≡ true) l.from (sym (present_outside nearest h) ∙ l.present))

  same_look : (p : Path) (ns : List Name) → Misses others (nearest_of copy p (way_below p ns) ∷ absent_of copy (way_below p ns)) → SameLook p (way_below p ns)
  same_look p [] = λ h. record { nearest = refl; absent = refl }
  same_look p (n ∷ ns) =
      let c = child p n in
      let way = way_below c ns in
      elim (is_present copy c) as (λ b. is_present copy c ≡ b → Misses others (cond b (nearest_of copy c way) p ∷ cond b (absent_of copy way) (c ∷ way)) → SameLook p (c ∷ way)) [
        | true ↦ λ e h. look_on p c way e (reached c (c ++ ns) (nearest_of copy c way) (absent_of copy way) (look copy c ns e) (h (nearest_of copy c way) (has_path-here (nearest_of copy c way) (absent_of copy way)))) (same_look c ns h)
        | false ↦ λ e h. look_ends p c way e (sym (present_outside c (h c (has_path-right c (p ∷ []) (c ∷ way) (has_path-here c way)))) ∙ e)
      ] refl

  pub same_look_down : (path : Path) → Misses others (nearest_of copy [] (way_down [] path) ∷ absent_of copy (way_down [] path)) → SameLook [] (way_down [] path)
  same_look_down path =
      let way = way_below [] path in
      subst (λ ps. Misses others (nearest_of copy [] ps ∷ absent_of copy ps) → SameLook [] ps) (sym (way_down-is [] path)) (λ h.
      look_on [] [] way is_copy.root is.root
      (same_look [] path (subst (λ b. Misses others (cond b (nearest_of copy [] way) [] ∷ cond b (absent_of copy way) ([] ∷ way))) is_copy.root h)))

  -- THE SAME CHILDREN, AND THE SAME PATHS BELOW
  child_present : (path q : Path) → has_path path others ≡ false → (o : Option Name) → child_name path q ≡ o → is_some o ≡ true → is_present copy q ≡ is_present tree q
  child_present path q h None e some = not_both some refl
  child_present path q h (Some n) e some = subst (λ r. is_present copy r ≡ is_present tree r) (sym (child_name-is path q n e)) (alike.children path n h)

  pub same_children : (path : Path) → has_path path others ≡ false → children copy path ≡ children tree path
  same_children path h = same_picks (child_name path) copy tree is_copy.rising is.rising (λ q some. child_present path q h (child_name path q) refl some)

  none_down : (t : Tree) → IsTree t → (c : Path) (ns : List Name) → is_present t c ≡ false → is_present t (c ++ ns) ≡ false
  none_down t is_t c ns h = false_from_ne_true _ (λ e. not_both (present_above t is_t c ns e) h)

  -- down from a path r at or below the removed one, which is present in the copy
  down_alike : (path : Path) → Misses others (all_below copy path) → (r : Path) (ns : List Name) → is_below path r ≡ true → is_present copy r ≡ true → is_present copy (r ++ ns) ≡ is_present tree (r ++ ns)
  down_alike path h r [] below e = subst (λ q. is_present copy q ≡ is_present tree q) (sym (append-nil r)) (present_outside r (h r (has_path-all_below path r copy ∙ and_from _ _ below e)))
  down_alike path h r (n ∷ ns) below e =
      let c = child r n in
      let same : is_present copy c ≡ is_present tree c = alike.children r n (h r (has_path-all_below path r copy ∙ and_from _ _ below e)) in
      subst (λ q. is_present copy q ≡ is_present tree q) (child-way r n ns)
      (elim (is_present copy c) as (λ b. is_present copy c ≡ b → is_present copy (c ++ ns) ≡ is_present tree (c ++ ns)) [
        | true ↦ λ f. down_alike path h c ns (is_below-child path r n below) f
        | false ↦ λ f. none_down copy is_copy c ns f ∙ sym (none_down tree is c ns (sym same ∙ f))
      ] refl)

  below_present : (path : Path) → Misses others (all_below copy path) → is_present copy path ≡ true → (q : Path) → is_below path q ≡ true → is_present copy q ≡ is_present tree q
  below_present path h e q below =
      let way = way_to path q below in
      subst (λ r. is_present copy r ≡ is_present tree r) (sym way.1) (down_alike path h path way.0 (is_below-itself path) e)

  pub same_below : (path : Path) → Misses others (all_below copy path) → is_present copy path ≡ true → all_below copy path ≡ all_below tree path
  same_below path h e = same_picks (if_below path) copy tree is_copy.rising is.rising (λ q some. below_present path h e q (if_below_some (is_below path q) q some))
