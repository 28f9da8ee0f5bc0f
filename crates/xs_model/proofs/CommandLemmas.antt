-- Each command keeps a tree a tree, and changes nothing but what it wrote.
use Rattle.std.specs.Prelude.{◌≡◌, ℕ, Bool, true, false, cond, not, ◌||◌, List, [], ◌∷◌, ◌++◌, length, nat_lt, Option, Some, None, is_some, map}
use Rattle.std.proofs.Common.{sym, refl, subst, ◌∙◌, append-nil}
use Rattle.std.proofs.lemmas.Bool.{not-false}
use Rattle.xs_model.specs.declared.perm.Perm.{Perm}
use Rattle.xs_model.specs.declared.perm.Rights.{Rights}
use Rattle.xs_model.specs.declared.message.WireErr.TheVariants.{Einval, Eacces, Enoent}
use Rattle.xs_model.specs.Paths.{Name, Path, has_path, way_down}
use Rattle.xs_model.specs.Perms.{Caller, rights_of, created_perms, perm_text}
use Rattle.xs_model.specs.Messages.{strings}
use Rattle.xs_model.specs.Trees.{Node, Tree, node_at, is_present, has_entry, all_below, Edit, edited, IsTree}
use Rattle.xs_model.specs.Requests.{Operation, Directory, Read, GetPerms, Write, Mkdir, Rm, SetPerms, DirectoryPart, is_root}
use Rattle.xs_model.specs.Commands.{Sight, sight_of, Answer, refusal, success, sized, looked_up, absent_refusal, shown, part_payload, part_shown, part_answer, written_by, write_edits, mkdir_edits, removals, rm_absent, rm_answer, set_perms_answer, gives_away, permitted, answer, is_out_of_form, command, node_or_empty, nearest_of}
use Rattle.xs_model.proofs.Maps.{not_both}
use Rattle.xs_model.proofs.EditLemmas.{node_at-elsewhere}
use Rattle.xs_model.proofs.WayLemmas.{way_below, Looked, look_down}
use Rattle.xs_model.proofs.TreeLemmas.{has_entries, set_present, create, remove}

-- ANSWERS THAT CHANGE NOTHING
pub shown-edits : (rights : Rights) (payload : List ℕ) → (shown rights payload).edits ≡ []
shown-edits rights payload = elim rights.can_read as (λ b. (cond b (record { reply = sized payload; edits = [] }) (refusal Eacces)).edits ≡ []) [ true ↦ refl | false ↦ refl ]

pub absent-edits : (rights : Rights) → (absent_refusal rights).edits ≡ []
absent-edits rights = elim rights.can_read as (λ b. (cond b (refusal Enoent) (refusal Eacces)).edits ≡ []) [ true ↦ refl | false ↦ refl ]

pub looked_up-edits : (rights : Rights) (payload : List ℕ) (absent : List Path) → (looked_up rights payload absent).edits ≡ []
looked_up-edits rights payload [] = shown-edits rights payload
looked_up-edits rights payload (p ∷ ps) = absent-edits rights

no_edits : (b c : Bool) (a : Answer) → a.edits ≡ [] → (cond b (refusal Eacces) (cond c (refusal Einval) a)).edits ≡ []
no_edits true c a h = refl
no_edits false true a h = refl
no_edits false false a h = h

part_shown-edits : (rights : Rights) (number offset : ℕ) (list : List ℕ) → (part_shown rights number offset list).edits ≡ []
part_shown-edits rights number offset list = no_edits (not rights.can_read) (nat_lt (length list) offset) (shown rights (part_payload number offset list)) (shown-edits rights (part_payload number offset list))

pub part_answer-edits : (rights : Rights) (number offset : ℕ) (list : List ℕ) (absent : List Path) → (part_answer rights number offset list absent).edits ≡ []
part_answer-edits rights number offset list [] = part_shown-edits rights number offset list
part_answer-edits rights number offset list (p ∷ ps) = absent-edits rights

pub rm_absent-edits : (rights : Rights) (absent : List Path) → (rm_absent rights absent).edits ≡ []
rm_absent-edits rights [] = refl
rm_absent-edits rights (p ∷ []) = elim rights.can_read as (λ b. (cond b (success []) (refusal Eacces)).edits ≡ []) [ true ↦ refl | false ↦ refl ]
rm_absent-edits rights (p ∷ q ∷ ps) = absent-edits rights

-- what a command found: the nearest node has an entry
found_entry : (o : Option Node) → is_some o ≡ true → ((node : Node) → o ≡ Some node → has_entry node.perms ≡ true) → has_entry (node_or_empty o).perms ≡ true
found_entry None h to = not_both h refl
found_entry (Some node) h to = to node refl

created-entry : (domid : ℕ) (perms : List Perm) → has_entry perms ≡ true → has_entry (created_perms domid perms) ≡ true
created-entry domid [] h = h
created-entry domid (perm ∷ perms) h = refl

module _ (tree : Tree) (is : IsTree tree) where
  -- the tree after an answer
  abbrev Keeps : Answer → Type 0
  Keeps a = IsTree (edited tree a.edits)

  unchanged : (a : Answer) → a.edits ≡ [] → Keeps a
  unchanged a e = subst (λ es. IsTree (edited tree es)) (sym e) is

  looked_up_keeps : (rights : Rights) (payload : List ℕ) (absent : List Path) → Keeps (looked_up rights payload absent)
  looked_up_keeps rights payload absent = unchanged (looked_up rights payload absent) (looked_up-edits rights payload absent)

  if_keeps : (b : Bool) (x y : Answer) → (b ≡ true → Keeps x) → (b ≡ false → Keeps y) → Keeps (cond b x y)
  if_keeps true x y p q = p refl
  if_keeps false x y p q = q refl

  written_keeps : (rights : Rights) (es : List Edit) → IsTree (edited tree es) → Keeps (written_by rights es)
  written_keeps rights es h = if_keeps rights.can_write (success es) (refusal Eacces) (λ e. h) (λ e. is)

  here : (path nearest : Path) → is_present tree nearest ≡ true → path ≡ nearest ++ [] → is_present tree path ≡ true
  here path nearest h to = subst (λ q. is_present tree q ≡ true) (sym (to ∙ append-nil nearest)) h

  module _ (caller : Caller) (sight : Sight) (path : Path) (entry : has_entry sight.node.perms ≡ true) (present : is_present tree sight.nearest ≡ true) where
    write_keeps : (value : List ℕ) (rest : List Name) → path ≡ sight.nearest ++ rest → IsTree (edited tree (write_edits caller sight value path (way_below sight.nearest rest)))
    write_keeps value [] to = set_present tree is path (record { value = value; perms = sight.node.perms }) entry (here path sight.nearest present to)
    write_keeps value (n ∷ ns) to = create tree is sight.nearest (n ∷ ns) (created_perms caller.domid sight.node.perms) value (created-entry caller.domid sight.node.perms entry) present

    mkdir_keeps : (rest : List Name) → IsTree (edited tree (mkdir_edits caller sight (way_below sight.nearest rest)))
    mkdir_keeps rest = create tree is sight.nearest rest (created_perms caller.domid sight.node.perms) [] (created-entry caller.domid sight.node.perms entry) present

    set_perms_keeps : (rights : Rights) (perms : List Perm) (rest : List Name) → has_entry perms ≡ true → path ≡ sight.nearest ++ rest → Keeps (set_perms_answer caller rights sight.node perms path (way_below sight.nearest rest))
    set_perms_keeps rights perms [] h to =
        if_keeps (not rights.owner || gives_away caller sight.node.perms perms) (refusal Eacces) _ (λ e. is) (λ e. set_present tree is path (record { value = sight.node.value; perms = perms }) h (here path sight.nearest present to))
    set_perms_keeps rights perms (n ∷ ns) h to = unchanged (absent_refusal rights) (absent-edits rights)

    removal_keeps : (q : Path) → is_root q ≡ false → IsTree (edited tree (removals (all_below tree q)))
    removal_keeps [] h = not_both refl h
    removal_keeps (m ∷ q) h = remove tree is m q

    rm_keeps : (rights : Rights) (absent : List Path) → is_root path ≡ false → Keeps (rm_answer rights absent (all_below tree path))
    rm_keeps rights [] h = written_keeps rights (removals (all_below tree path)) (removal_keeps path h)
    rm_keeps rights (p ∷ ps) h = unchanged (rm_absent rights (p ∷ ps)) (rm_absent-edits rights (p ∷ ps))

    permitted_keeps : (operation : Operation) (rights : Rights) → Looked tree [] path sight.nearest sight.absent → is_out_of_form operation path ≡ false → Keeps (permitted operation caller rights sight path (all_below tree path))
    permitted_keeps Directory rights l h = looked_up_keeps rights (strings sight.names) sight.absent
    permitted_keeps Read rights l h = looked_up_keeps rights sight.node.value sight.absent
    permitted_keeps GetPerms rights l h = looked_up_keeps rights (strings (map perm_text sight.node.perms)) sight.absent
    permitted_keeps (Write value) rights l h =
        subst (λ absent. Keeps (written_by rights (write_edits caller sight value path absent))) (sym l.missed) (written_keeps rights _ (write_keeps value l.rest l.to))
    permitted_keeps Mkdir rights l h =
        subst (λ absent. Keeps (written_by rights (mkdir_edits caller sight absent))) (sym l.missed) (written_keeps rights _ (mkdir_keeps l.rest))
    permitted_keeps Rm rights l h = rm_keeps rights sight.absent h
    permitted_keeps (SetPerms perms) rights l h =
        subst (λ absent. Keeps (set_perms_answer caller rights sight.node perms path absent)) (sym l.missed) (set_perms_keeps rights perms l.rest (not-false (has_entry perms) h) l.to)
    permitted_keeps (DirectoryPart offset) rights l h =
        unchanged (part_answer rights sight.number offset (strings sight.names) sight.absent) (part_answer-edits rights sight.number offset (strings sight.names) sight.absent)

  sight_entry : (operation : Operation) (path : Path) (number : ℕ) → is_present tree (sight_of operation number tree path).nearest ≡ true → has_entry (sight_of operation number tree path).node.perms ≡ true
  sight_entry operation path number h = found_entry (node_at tree (nearest_of tree [] (way_down [] path))) h (has_entries tree is (nearest_of tree [] (way_down [] path)))

  pub command_keeps : (operation : Operation) (path : Path) (caller : Caller) (number : ℕ) → IsTree (command operation path caller number tree).tree
  command_keeps operation path caller number =
      let sight = sight_of operation number tree path in
      let l = look_down tree is path in
      if_keeps (is_out_of_form operation path) (refusal Einval) (permitted operation caller (rights_of caller sight.node.perms) sight path (all_below tree path)) (λ e. is)
      (permitted_keeps caller sight path (sight_entry operation path number l.present) l.present operation (rights_of caller sight.node.perms) l)

-- the frame of a command
pub command-elsewhere : (operation : Operation) (path : Path) (caller : Caller) (number : ℕ) (tree : Tree) (q : Path) → has_path q (command operation path caller number tree).written ≡ false → node_at (command operation path caller number tree).tree q ≡ node_at tree q
command-elsewhere operation path caller number tree q h = node_at-elsewhere tree (answer operation caller (sight_of operation number tree path) path (all_below tree path)).edits q h
