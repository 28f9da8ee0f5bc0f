-- Whoever makes a node looked at its parent.
use Rattle.std.specs.Prelude.{◌≡◌, ℕ, Bool, true, false, cond, not, ◌||◌, List, [], ◌∷◌, ◌++◌, map, Option, Some, None, is_some}
use Rattle.std.proofs.Common.{sym, refl, ap, subst, ◌∙◌, append-nil}
use Rattle.std.proofs.lemmas.Bool.{or_right}
use Rattle.xs_model.specs.declared.perm.Perm.{Perm}
use Rattle.xs_model.specs.declared.perm.Rights.{Rights}
use Rattle.xs_model.specs.declared.message.WireErr.TheVariants.{Einval, Eacces}
use Rattle.xs_model.specs.Paths.{Name, Path, same_path, has_path, child, is_below}
use Rattle.xs_model.specs.Perms.{Caller, rights_of, created_perms, perm_text}
use Rattle.xs_model.specs.Messages.{strings}
use Rattle.xs_model.specs.Trees.{Node, Tree, node_at, is_present, all_below, Edit, edited, edit_paths, IsTree}
use Rattle.xs_model.specs.Requests.{Operation, Directory, Read, GetPerms, Write, Mkdir, Rm, SetPerms, DirectoryPart}
use Rattle.xs_model.specs.Commands.{Sight, sight_of, Answer, refusal, success, looked_up, creation, written_by, write_edits, mkdir_edits, removals, rm_answer, set_perms_answer, gives_away, permitted, is_out_of_form, command}
use Rattle.xs_model.proofs.Maps.{not_both}
use Rattle.xs_model.proofs.PathLemmas.{same_path-is, has_path-here, has_path-left, has_path-right}
use Rattle.xs_model.proofs.EditLemmas.{node_at-edited_at, node_at-elsewhere}
use Rattle.xs_model.proofs.TreeLemmas.{node_at-after_rm}
use Rattle.xs_model.proofs.WayLemmas.{way_below, child-same, Looked, look_down}
use Rattle.xs_model.proofs.CommandLemmas.{looked_up-edits, absent-edits, part_answer-edits, rm_absent-edits, command_keeps}
use Rattle.machine_model.specs.Transactions.{Ran, outcome_on, run_list}

-- the parent of a path on a way down is on it too, or at its start
parent_on_way : (p q : Path) (n : Name) (ns : List Name) → has_path (child p n) (way_below q ns) ≡ true → has_path p (q ∷ way_below q ns) ≡ true
parent_on_way p q n [] h = not_both h refl
parent_on_way p q n (m ∷ ns) h =
    let way = way_below (child q m) ns in
    elim (same_path (child p n) (child q m)) as (λ b. same_path (child p n) (child q m) ≡ b → (b || has_path (child p n) way) ≡ true → has_path p (q ∷ child q m ∷ way) ≡ true) [
      | true ↦ λ e _. subst (λ r. has_path p (r ∷ child q m ∷ way) ≡ true) (child-same p q n m (same_path-is (child p n) (child q m) e)) (has_path-here p (child q m ∷ way))
      | false ↦ λ e later. or_right (same_path p q) _ (parent_on_way p (child q m) n ns later)
    ] refl h

edit_paths-creation : (perms : List Perm) (value : List ℕ) (ps : List Path) → edit_paths (creation perms value ps) ≡ ps
edit_paths-creation perms value [] = refl
edit_paths-creation perms value (p ∷ []) = refl
edit_paths-creation perms value (p ∷ q ∷ ps) = ap (λ qs. p ∷ qs) (edit_paths-creation perms value (q ∷ ps))

module _ (tree : Tree) (is : IsTree tree) where
  -- of each child that edits make, the parent is among these paths
  abbrev HasParents : List Path → List Edit → Type 0
  HasParents touched es = (p : Path) (n : Name) → is_present tree (child p n) ≡ false → is_present (edited tree es) (child p n) ≡ true → has_path p touched ≡ true

  none_made : (touched : List Path) (es : List Edit) → es ≡ [] → HasParents touched es
  none_made touched es e = subst (HasParents touched) (sym e) (λ p n gone there. not_both there gone)

  either_made : (touched : List Path) (b : Bool) (x y : Answer) → HasParents touched x.edits → HasParents touched y.edits → HasParents touched (cond b x y).edits
  either_made touched true x y h k = h
  either_made touched false x y h k = k

  if_written : (touched : List Path) (rights : Rights) (es : List Edit) → HasParents touched es → HasParents touched (written_by rights es).edits
  if_written touched rights es h = either_made touched rights.can_write (success es) (refusal Eacces) h (none_made touched [] refl)

  -- a node of a path that is there
  set_made : (touched : List Path) (path : Path) (node : Node) → is_present tree path ≡ true → HasParents touched ((path, Some node) ∷ [])
  set_made touched path node present p n gone =
      subst (λ o. is_some o ≡ true → has_path p touched ≡ true) (sym (node_at-edited_at tree path (Some node) (child p n)))
      (elim (same_path (child p n) path) as (λ b. same_path (child p n) path ≡ b → is_some (cond b (Some node) (node_at tree (child p n))) ≡ true → has_path p touched ≡ true) [
        | true ↦ λ e _. not_both (subst (λ q. is_present tree q ≡ true) (sym (same_path-is (child p n) path e)) present) gone
        | false ↦ λ e there. not_both there gone
      ] refl)

  -- new nodes on a way down
  way_made : (q : Path) (ns : List Name) (es : List Edit) → edit_paths es ≡ way_below q ns → HasParents (q ∷ way_below q ns) es
  way_made q ns es e p n gone there =
      elim (has_path (child p n) (edit_paths es)) as (λ b. has_path (child p n) (edit_paths es) ≡ b → has_path p (q ∷ way_below q ns) ≡ true) [
        | true ↦ λ w. parent_on_way p q n ns (subst (λ ps. has_path (child p n) ps ≡ true) e w)
        | false ↦ λ w. not_both (sym (ap is_some (node_at-elsewhere tree es (child p n) w)) ∙ there) gone
      ] refl

  below_or_not : (b : Bool) (old : Option Node) → is_some (cond b None old) ≡ true → is_some old ≡ true
  below_or_not true old h = not_both h refl
  below_or_not false old h = h

  rm_made : (touched : List Path) (path : Path) → HasParents touched (removals (all_below tree path))
  rm_made touched path p n gone there = not_both (below_or_not (is_below path (child p n)) (node_at tree (child p n)) (sym (ap is_some (node_at-after_rm tree path (child p n))) ∙ there)) gone

  module _ (caller : Caller) (sight : Sight) (path : Path) (present : is_present tree sight.nearest ≡ true) where
    abbrev Fits : List Path → List Edit → Type 0
    Fits absent es = HasParents (sight.nearest ∷ absent) es

    here : path ≡ sight.nearest ++ [] → is_present tree path ≡ true
    here to = subst (λ q. is_present tree q ≡ true) (sym (to ∙ append-nil sight.nearest)) present

    write_made : (value : List ℕ) (rest : List Name) → path ≡ sight.nearest ++ rest → Fits (way_below sight.nearest rest) (write_edits caller sight value path (way_below sight.nearest rest))
    write_made value [] to = set_made (sight.nearest ∷ []) path (record { value = value; perms = sight.node.perms }) (here to)
    write_made value (n ∷ ns) to = way_made sight.nearest (n ∷ ns) _ (edit_paths-creation (created_perms caller.domid sight.node.perms) value (way_below sight.nearest (n ∷ ns)))

    mkdir_made : (rest : List Name) → Fits (way_below sight.nearest rest) (mkdir_edits caller sight (way_below sight.nearest rest))
    mkdir_made rest = way_made sight.nearest rest _ (edit_paths-creation (created_perms caller.domid sight.node.perms) [] (way_below sight.nearest rest))

    set_perms_made : (rights : Rights) (perms : List Perm) (rest : List Name) → path ≡ sight.nearest ++ rest → Fits (way_below sight.nearest rest) (set_perms_answer caller rights sight.node perms path (way_below sight.nearest rest)).edits
    set_perms_made rights perms [] to =
        either_made (sight.nearest ∷ []) (not rights.owner || gives_away caller sight.node.perms perms) (refusal Eacces) _ (none_made (sight.nearest ∷ []) [] refl)
        (set_made (sight.nearest ∷ []) path (record { value = sight.node.value; perms = perms }) (here to))
    set_perms_made rights perms (n ∷ ns) to = none_made (sight.nearest ∷ way_below sight.nearest (n ∷ ns)) _ (absent-edits rights)

    rm_answer_made : (rights : Rights) (absent : List Path) → Fits absent (rm_answer rights absent (all_below tree path)).edits
    rm_answer_made rights [] = if_written (sight.nearest ∷ []) rights (removals (all_below tree path)) (rm_made (sight.nearest ∷ []) path)
    rm_answer_made rights (q ∷ qs) = none_made (sight.nearest ∷ q ∷ qs) _ (rm_absent-edits rights (q ∷ qs))

    looked_made : (rights : Rights) (payload : List ℕ) → Fits sight.absent (looked_up rights payload sight.absent).edits
    looked_made rights payload = none_made (sight.nearest ∷ sight.absent) _ (looked_up-edits rights payload sight.absent)

    permitted_made : (operation : Operation) (rights : Rights) → Looked tree [] path sight.nearest sight.absent → Fits sight.absent (permitted operation caller rights sight path (all_below tree path)).edits
    permitted_made Directory rights l = looked_made rights (strings sight.names)
    permitted_made Read rights l = looked_made rights sight.node.value
    permitted_made GetPerms rights l = looked_made rights (strings (map perm_text sight.node.perms))
    permitted_made (Write value) rights l =
        subst (λ absent. Fits absent (written_by rights (write_edits caller sight value path absent)).edits) (sym l.missed)
        (if_written (sight.nearest ∷ way_below sight.nearest l.rest) rights _ (write_made value l.rest l.to))
    permitted_made Mkdir rights l =
        subst (λ absent. Fits absent (written_by rights (mkdir_edits caller sight absent)).edits) (sym l.missed)
        (if_written (sight.nearest ∷ way_below sight.nearest l.rest) rights _ (mkdir_made l.rest))
    permitted_made Rm rights l = rm_answer_made rights sight.absent
    permitted_made (SetPerms perms) rights l =
        subst (λ absent. Fits absent (set_perms_answer caller rights sight.node perms path absent).edits) (sym l.missed) (set_perms_made rights perms l.rest l.to)
    permitted_made (DirectoryPart offset) rights l = none_made (sight.nearest ∷ sight.absent) _ (part_answer-edits rights sight.number offset (strings sight.names) sight.absent)

  command_made : (operation : Operation) (path : Path) (caller : Caller) (number : ℕ) (p : Path) (n : Name) → is_present tree (child p n) ≡ false
      → is_present (command operation path caller number tree).tree (child p n) ≡ true → has_path p (command operation path caller number tree).touched ≡ true
  command_made operation path caller number =
      let sight = sight_of operation number tree path in
      let l = look_down tree is path in
      let touched : List Path = sight.nearest ∷ sight.absent in
      either_made touched (is_out_of_form operation path) (refusal Einval) (permitted operation caller (rights_of caller sight.node.perms) sight path (all_below tree path)) (none_made touched [] refl)
      (permitted_made caller sight path l.present operation (rights_of caller sight.node.perms) l)

-- of each child that a list of commands made it looked at the parent
pub run_made : (tree : Tree) (list : List Ran) → IsTree tree → (p : Path) (n : Name) → is_present tree (child p n) ≡ false → is_present (run_list tree list).tree (child p n) ≡ true → has_path p (run_list tree list).touched ≡ true
run_made tree [] is p n gone there = not_both there gone
run_made tree (ran ∷ list) is p n gone there =
    let first = outcome_on tree ran in
    let later = run_list first.tree list in
    elim (is_present first.tree (child p n)) as (λ b. is_present first.tree (child p n) ≡ b → has_path p (first.touched ++ later.touched) ≡ true) [
      | true ↦ λ now. has_path-left p first.touched later.touched (command_made tree is ran.operation ran.path ran.caller ran.number p n gone now)
      | false ↦ λ still. has_path-right p first.touched later.touched (run_made first.tree list (command_keeps tree is ran.operation ran.path ran.caller ran.number) p n still there)
    ] refl
