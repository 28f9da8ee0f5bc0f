-- A command gives the same answer on two trees that are alike outside a set of paths, where it neither looked at nor
-- wrote a path of the set.
use Rattle.std.specs.Prelude.{◌≡◌, ℕ, Bool, true, false, cond, List, [], ◌∷◌, ◌++◌}
use Rattle.std.proofs.Common.{sym, refl, ap, subst, ◌∙◌, append-nil}
use Rattle.xs_model.specs.declared.perm.Rights.{Rights}
use Rattle.xs_model.specs.declared.message.WireErr.TheVariants.{Einval, Eacces}
use Rattle.xs_model.specs.Paths.{Name, Path, has_path, child, way_down}
use Rattle.xs_model.specs.Perms.{Caller, rights_of}
use Rattle.xs_model.specs.Messages.{strings}
use Rattle.xs_model.specs.Trees.{Tree, node_at, is_present, children, all_below, Edit, edited, edit_paths, IsTree}
use Rattle.xs_model.specs.Requests.{Operation, Directory, Read, GetPerms, Write, Mkdir, Rm, SetPerms, DirectoryPart, is_root}
use Rattle.xs_model.specs.Commands.{sight_of, seen_names, Answer, refusal, success, looked_up, part_answer, removals, rm_answer, answer, Outcome, command, nearest_of, absent_of, node_or_empty}
use Rattle.xs_model.proofs.Maps.{not_both}
use Rattle.xs_model.proofs.PathLemmas.{has_path-here}
use Rattle.xs_model.proofs.EditLemmas.{node_at-alike, present_alike}
use Rattle.xs_model.proofs.WayLemmas.{way_below, Looked, look_down}
use Rattle.xs_model.proofs.TreeLemmas.{edit_paths-removals}
use Rattle.xs_model.proofs.AlikeLemmas.{Misses, AlikeOutside, SameLook, same_look_down, same_children, same_below}

-- where nothing on the way is absent, the nearest path is the path itself
no_rest : (nearest : Path) (ns : List Name) → ◌≡◌ {A = List Path} (way_below nearest ns) [] → ns ≡ []
no_rest nearest [] e = refl
no_rest nearest (n ∷ ns) e = not_both refl (ap is_cons e)
  where
    is_cons : List Path → Bool
    is_cons [] = false
    is_cons (p ∷ ps) = true

pub at_nearest : (tree : Tree) (path nearest : Path) (absent : List Path) → Looked tree [] path nearest absent → absent ≡ [] → path ≡ nearest
at_nearest tree path nearest absent l e = l.to ∙ ap (λ ns. nearest ++ ns) (no_rest nearest l.rest (sym l.missed ∙ e)) ∙ append-nil nearest

-- names count only where nothing is absent
looked_up-alike : (rights : Rights) (names others : List Name) (absent : List Path) → (absent ≡ [] → names ≡ others) → looked_up rights (strings names) absent ≡ looked_up rights (strings others) absent
looked_up-alike rights names others [] same = ap (λ ns. looked_up rights (strings ns) []) (same refl)
looked_up-alike rights names others (p ∷ ps) same = refl

part_answer-alike : (rights : Rights) (number offset : ℕ) (names others : List Name) (absent : List Path) → (absent ≡ [] → names ≡ others)
    → part_answer rights number offset (strings names) absent ≡ part_answer rights number offset (strings others) absent
part_answer-alike rights number offset names others [] same = ap (λ ns. part_answer rights number offset (strings ns) []) (same refl)
part_answer-alike rights number offset names others (p ∷ ps) same = refl

removed_alike : (others : List Path) (b : Bool) (below down : List Path) → (Misses others below → below ≡ down)
    → Misses others (edit_paths (cond b (success (removals below)) (refusal Eacces)).edits) → cond b (success (removals below)) (refusal Eacces) ≡ cond b (success (removals down)) (refusal Eacces)
removed_alike others true below down same h = ap (λ ps. success (removals ps)) (same (subst (Misses others) (edit_paths-removals below) h))
removed_alike others false below down same h = refl

rm_alike : (others : List Path) (rights : Rights) (below down : List Path) (absent : List Path) → (absent ≡ [] → Misses others below → below ≡ down)
    → Misses others (edit_paths (rm_answer rights absent below).edits) → rm_answer rights absent below ≡ rm_answer rights absent down
rm_alike others rights below down [] same h = removed_alike others rights.can_write below down (same refl) h
rm_alike others rights below down (p ∷ ps) same h = refl

rooted_alike : (others : List Path) (root : Bool) (a b : Answer) → (Misses others (edit_paths a.edits) → a ≡ b) → Misses others (edit_paths (cond root (refusal Einval) a).edits) → cond root (refusal Einval) a ≡ cond root (refusal Einval) b
rooted_alike others true a b same h = refl
rooted_alike others false a b same h = same h

module _ (others : List Path) (copy tree : Tree) (alike : AlikeOutside others copy tree) (is_copy : IsTree copy) (is : IsTree tree) (path : Path) (number : ℕ)
    (touched : Misses others (nearest_of copy [] (way_down [] path) ∷ absent_of copy (way_down [] path))) where
  abbrev near : Path
  near = nearest_of copy [] (way_down [] path)

  abbrev missing : List Path
  missing = absent_of copy (way_down [] path)

  near_outside : has_path near others ≡ false
  near_outside = touched near (has_path-here near missing)

  same : SameLook others copy tree alike is_copy is [] (way_down [] path)
  same = same_look_down others copy tree alike is_copy is path touched

  same_node : node_or_empty (node_at copy near) ≡ node_or_empty (node_at tree (nearest_of tree [] (way_down [] path)))
  same_node = ap node_or_empty (alike.nodes near near_outside ∙ ap (node_at tree) same.nearest)

  at_path : missing ≡ [] → path ≡ near
  at_path e = at_nearest copy path near missing (look_down copy is_copy path) e

  here : missing ≡ [] → is_present copy path ≡ true
  here e = ap (is_present copy) (at_path e) ∙ (look_down copy is_copy path).present

  outside : missing ≡ [] → has_path path others ≡ false
  outside e = ap (λ p. has_path p others) (at_path e) ∙ near_outside

  same_sight : (operation : Operation) → seen_names operation copy path ≡ seen_names operation tree path → sight_of operation number copy path ≡ sight_of operation number tree path
  same_sight operation names = λ i. record { nearest = same.nearest i; node = same_node i; absent = same.absent i; names = names i; number = number }

  abbrev on_copy : Operation → Caller → Answer
  on_copy operation caller = answer operation caller (sight_of operation number copy path) path (all_below copy path)

  abbrev on_tree : Operation → Caller → Answer
  on_tree operation caller = answer operation caller (sight_of operation number tree path) path (all_below tree path)

  directory_alike : (caller : Caller) → on_copy Directory caller ≡ on_tree Directory caller
  directory_alike caller =
      looked_up-alike (rights_of caller (node_or_empty (node_at copy near)).perms) (children copy path) (children tree path) missing (λ e. same_children others copy tree alike is_copy is path (outside e))
      ∙ λ i. looked_up (rights_of caller (same_node i).perms) (strings (children tree path)) (same.absent i)

  part_alike : (offset : ℕ) (caller : Caller) → on_copy (DirectoryPart offset) caller ≡ on_tree (DirectoryPart offset) caller
  part_alike offset caller =
      part_answer-alike (rights_of caller (node_or_empty (node_at copy near)).perms) number offset (children copy path) (children tree path) missing (λ e. same_children others copy tree alike is_copy is path (outside e))
      ∙ λ i. part_answer (rights_of caller (same_node i).perms) number offset (strings (children tree path)) (same.absent i)

  rm_alike_at : (caller : Caller) → Misses others (edit_paths (on_copy Rm caller).edits) → on_copy Rm caller ≡ on_tree Rm caller
  rm_alike_at caller h =
      let rights = rights_of caller (node_or_empty (node_at copy near)).perms in
      rooted_alike others (is_root path) (rm_answer rights missing (all_below copy path)) (rm_answer rights missing (all_below tree path))
      (rm_alike others rights (all_below copy path) (all_below tree path) missing (λ e w. same_below others copy tree alike is_copy is path w (here e))) h
      ∙ ap (λ s. answer Rm caller s path (all_below tree path)) (same_sight Rm refl)

  pub same_answer : (operation : Operation) (caller : Caller) → Misses others (edit_paths (on_copy operation caller).edits) → on_copy operation caller ≡ on_tree operation caller
  same_answer Directory caller h = directory_alike caller
  same_answer Read caller h = ap (λ s. answer Read caller s path []) (same_sight Read refl)
  same_answer GetPerms caller h = ap (λ s. answer GetPerms caller s path []) (same_sight GetPerms refl)
  same_answer (Write value) caller h = ap (λ s. answer (Write value) caller s path []) (same_sight (Write value) refl)
  same_answer Mkdir caller h = ap (λ s. answer Mkdir caller s path []) (same_sight Mkdir refl)
  same_answer Rm caller h = rm_alike_at caller h
  same_answer (SetPerms perms) caller h = ap (λ s. answer (SetPerms perms) caller s path []) (same_sight (SetPerms perms) refl)
  same_answer (DirectoryPart offset) caller h = part_alike offset caller

-- the same edits keep trees alike
pub edited_alike : (others : List Path) (copy tree : Tree) (es : List Edit) → AlikeOutside others copy tree → AlikeOutside others (edited copy es) (edited tree es)
edited_alike others copy tree es alike = record {
  nodes = λ p h. node_at-alike copy tree es p (alike.nodes p h);
  children = λ p n h. present_alike copy tree es (child p n) (alike.children p n h);
}

pub record SameOutcome (others : List Path) (a b : Outcome) : Type 0 where
  pub reply : a.reply ≡ b.reply
  pub touched : a.touched ≡ b.touched
  pub written : a.written ≡ b.written
  pub alike : AlikeOutside others a.tree b.tree

pub same_outcome : (others : List Path) (copy tree : Tree) → AlikeOutside others copy tree → IsTree copy → IsTree tree → (operation : Operation) (path : Path) (caller : Caller) (number : ℕ)
    → Misses others (command operation path caller number copy).touched → Misses others (command operation path caller number copy).written
    → SameOutcome others (command operation path caller number copy) (command operation path caller number tree)
same_outcome others copy tree alike is_copy is operation path caller number touched written =
    let same : answer operation caller (sight_of operation number copy path) path (all_below copy path) ≡ answer operation caller (sight_of operation number tree path) path (all_below tree path) =
    same_answer others copy tree alike is_copy is path number touched operation caller written
    in
    let look = same_look_down others copy tree alike is_copy is path touched in
    let es : List Edit = (answer operation caller (sight_of operation number copy path) path (all_below copy path)).edits in
    record {
      reply = ap (λ (a : Answer). a.reply) same;
      touched = λ i. look.nearest i ∷ look.absent i;
      written = ap (λ (a : Answer). edit_paths a.edits) same;
      alike = subst (λ fs. AlikeOutside others (edited copy es) (edited tree fs)) (ap (λ (a : Answer). a.edits) same) (edited_alike others copy tree es alike);
    }
