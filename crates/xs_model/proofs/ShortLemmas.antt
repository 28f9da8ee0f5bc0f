-- Commands at short paths keep each path of a tree short.
use Rattle.std.specs.Prelude.{◌≡◌, ℕ, Bool, true, false, cond, not, ◌||◌, List, [], ◌∷◌, ◌++◌, Option, Some, None, is_some, map, ◌≤◌, nat_lt, length, Result, Ok, Err}
use Rattle.std.specs.List.{AllByRecursion}
use Rattle.std.proofs.Common.{sym, refl, ap, subst, ◌∙◌, le_trans, arith, ltb-false}
use Rattle.xs_model.specs.declared.perm.Perm.{Perm}
use Rattle.xs_model.specs.declared.perm.Rights.{Rights}
use Rattle.xs_model.specs.declared.message.WireErr.TheVariants.{Einval, Eacces, Enoent, E2big}
use Rattle.xs_model.specs.declared.message.WireErr.{WireErr}
use Rattle.xs_model.specs.declared.message.TheConstants.{PAYLOAD_MAX}
use Rattle.xs_model.specs.Paths.{Name, Path, same_path, child, way_down}
use Rattle.xs_model.specs.Perms.{Caller, rights_of, created_perms, perm_text}
use Rattle.xs_model.specs.Messages.{strings}
use Rattle.xs_model.specs.Trees.{Node, Tree, node_at, is_present, all_below, Edit, edited_at, edited}
use Rattle.xs_model.specs.Requests.{Operation, Directory, Read, GetPerms, Write, Mkdir, Rm, SetPerms, DirectoryPart}
use Rattle.xs_model.specs.Commands.{Sight, sight_of, Answer, refusal, success, sized, looked_up, absent_refusal, written_by, creation, write_edits, mkdir_edits, removals, rm_absent, rm_answer, set_perms_answer, gives_away, permitted, answer, is_out_of_form, command, absent_of, part_payload, part_answer}
use Rattle.xs_model.proofs.Maps.{not_both}
use Rattle.xs_model.proofs.PathLemmas.{same_path-is, child-way}
use Rattle.xs_model.proofs.EditLemmas.{node_at-edited_at}
use Rattle.xs_model.proofs.CommandLemmas.{looked_up-edits, absent-edits, rm_absent-edits, part_answer-edits}
use Rattle.xs_model.specs.Laws.{IsShort, HasShortPaths}
use Rattle.xs_model.proofs.LengthLemmas.{shorter_above}

-- an edit that sets a node is at a short path
abbrev pub ShortEdit : Path → Option Node → Type 0
ShortEdit p None = Unit {0}
ShortEdit p (Some node) = IsShort p

abbrev pub ShortEdits : List Edit → Type 0
ShortEdits es = AllByRecursion (λ e. ShortEdit e.0 e.1) es

set_short : (p q : Path) (new : Option Node) (old : Option Node) (b : Bool) → same_path q p ≡ b → ShortEdit p new → (is_some old ≡ true → IsShort q) → is_some (cond b new old) ≡ true → IsShort q
set_short p q None old true e s to h = not_both h refl
set_short p q (Some node) old true e s to h = subst IsShort (sym (same_path-is q p e)) s
set_short p q new old false e s to h = to h

edit_short : (tree : Tree) (p : Path) (new : Option Node) → HasShortPaths tree → ShortEdit p new → HasShortPaths (edited_at tree p new)
edit_short tree p new short s q h = set_short p q new (node_at tree q) (same_path q p) refl s (short q) (sym (ap is_some (node_at-edited_at tree p new q)) ∙ h)

pub edits_short : (tree : Tree) (es : List Edit) → HasShortPaths tree → ShortEdits es → HasShortPaths (edited tree es)
edits_short tree [] short s = short
edits_short tree (e ∷ es) short s = edits_short (edited_at tree e.0 e.1) es (edit_short tree e.0 e.1 short s.0) s.1

-- THE WAY DOWN TO A SHORT PATH
way_short : (p : Path) (ns : List Name) → IsShort (p ++ ns) → AllByRecursion IsShort (way_down p ns)
way_short p [] h = (le_trans (shorter_above p []) h, tt)
way_short p (n ∷ ns) h = (le_trans (shorter_above p (n ∷ ns)) h, way_short (child p n) ns (subst IsShort (sym (child-way p n ns)) h))

absent_short : (tree : Tree) (ps : List Path) → AllByRecursion IsShort ps → AllByRecursion IsShort (absent_of tree ps)
absent_short tree [] h = tt
absent_short tree (p ∷ ps) h =
    elim (is_present tree p) as (λ b. AllByRecursion IsShort (cond b (absent_of tree ps) (p ∷ ps))) [ true ↦ absent_short tree ps h.1 | false ↦ h ]

created_short : (perms : List Perm) (value : List ℕ) (ps : List Path) → AllByRecursion IsShort ps → ShortEdits (creation perms value ps)
created_short perms value [] h = tt
created_short perms value (p ∷ []) h = (h.0, tt)
created_short perms value (p ∷ q ∷ ps) h = (h.0, created_short perms value (q ∷ ps) h.1)

-- ANSWERS
removed_short : (ps : List Path) → ShortEdits (removals ps)
removed_short [] = tt
removed_short (p ∷ ps) = (tt, removed_short ps)

nothing_short : (a : Answer) → a.edits ≡ [] → ShortEdits a.edits
nothing_short a e = subst ShortEdits (sym e) tt

if_short : (b : Bool) (x y : Answer) → ShortEdits x.edits → ShortEdits y.edits → ShortEdits (cond b x y).edits
if_short true x y p q = p
if_short false x y p q = q

written_short : (rights : Rights) (es : List Edit) → ShortEdits es → ShortEdits (written_by rights es).edits
written_short rights es h = if_short rights.can_write (success es) (refusal Eacces) h tt

module _ (caller : Caller) (rights : Rights) (sight : Sight) (path : Path) (short : IsShort path) where
  looked_up_short : (payload : List ℕ) → ShortEdits (looked_up rights payload sight.absent).edits
  looked_up_short payload = nothing_short (looked_up rights payload sight.absent) (looked_up-edits rights payload sight.absent)

  write_short : (value : List ℕ) (absent : List Path) → AllByRecursion IsShort absent → ShortEdits (write_edits caller sight value path absent)
  write_short value [] h = (short, tt)
  write_short value (p ∷ ps) h = created_short (created_perms caller.domid sight.node.perms) value (p ∷ ps) h

  rm_short : (absent below : List Path) → ShortEdits (rm_answer rights absent below).edits
  rm_short [] below = written_short rights (removals below) (removed_short below)
  rm_short (p ∷ ps) below = nothing_short (rm_absent rights (p ∷ ps)) (rm_absent-edits rights (p ∷ ps))

  set_perms_short : (perms : List Perm) (absent : List Path) → ShortEdits (set_perms_answer caller rights sight.node perms path absent).edits
  set_perms_short perms [] = if_short (not rights.owner || gives_away caller sight.node.perms perms) (refusal Eacces) (success ((path, Some (record { value = sight.node.value; perms = perms })) ∷ [])) tt (short, tt)
  set_perms_short perms (p ∷ ps) = nothing_short (absent_refusal rights) (absent-edits rights)

  permitted_short : (operation : Operation) (below : List Path) → AllByRecursion IsShort sight.absent → ShortEdits (permitted operation caller rights sight path below).edits
  permitted_short Directory below h = looked_up_short (strings sight.names)
  permitted_short Read below h = looked_up_short sight.node.value
  permitted_short GetPerms below h = looked_up_short (strings (map perm_text sight.node.perms))
  permitted_short (Write value) below h = written_short rights (write_edits caller sight value path sight.absent) (write_short value sight.absent h)
  permitted_short Mkdir below h = written_short rights (mkdir_edits caller sight sight.absent) (created_short (created_perms caller.domid sight.node.perms) [] sight.absent h)
  permitted_short Rm below h = rm_short sight.absent below
  permitted_short (SetPerms perms) below h = set_perms_short perms sight.absent
  permitted_short (DirectoryPart offset) below h =
      nothing_short (part_answer rights sight.number offset (strings sight.names) sight.absent) (part_answer-edits rights sight.number offset (strings sight.names) sight.absent)

pub command_short : (operation : Operation) (path : Path) (caller : Caller) (number : ℕ) (tree : Tree) → IsShort path → HasShortPaths tree → HasShortPaths (command operation path caller number tree).tree
command_short operation path caller number tree short h =
    let sight : Sight = sight_of operation number tree path in
    let rights : Rights = rights_of caller sight.node.perms in
    edits_short tree (answer operation caller sight path (all_below tree path)).edits h
    (if_short (is_out_of_form operation path) (refusal Einval) (permitted operation caller rights sight path (all_below tree path)) tt
    (permitted_short caller rights sight path short operation (all_below tree path) (absent_short tree (way_down [] path) (way_short [] path short))))

-- REPLIES
abbrev pub IsShortReply : Result (List ℕ) WireErr → Type 0
IsShortReply (Ok payload) = length payload ≤ 4096
IsShortReply (Err error) = Unit {0}

if_reply : (b : Bool) (x y : Answer) → IsShortReply x.reply → IsShortReply y.reply → IsShortReply (cond b x y).reply
if_reply true x y p q = p
if_reply false x y p q = q

sized_by : (payload : List ℕ) (b : Bool) → nat_lt PAYLOAD_MAX (length payload) ≡ b → IsShortReply (cond b (Err E2big) (Ok payload))
sized_by payload true e = tt
sized_by payload false e = ltb-false PAYLOAD_MAX (length payload) e

absent_reply : (rights : Rights) → IsShortReply (absent_refusal rights).reply
absent_reply rights = if_reply rights.can_read (refusal Enoent) (refusal Eacces) tt tt

looked_up_reply : (rights : Rights) (payload : List ℕ) (absent : List Path) → IsShortReply (looked_up rights payload absent).reply
looked_up_reply rights payload [] = if_reply rights.can_read (record { reply = sized payload; edits = [] }) (refusal Eacces) (sized_by payload (nat_lt PAYLOAD_MAX (length payload)) refl) tt
looked_up_reply rights payload (p ∷ ps) = absent_reply rights

part_reply : (rights : Rights) (number offset : ℕ) (list : List ℕ) (absent : List Path) → IsShortReply (part_answer rights number offset list absent).reply
part_reply rights number offset list [] =
    if_reply (not rights.can_read) (refusal Eacces) _ tt (if_reply (nat_lt (length list) offset) (refusal Einval) _ tt (looked_up_reply rights (part_payload number offset list) []))
part_reply rights number offset list (p ∷ ps) = absent_reply rights

ok_short : (es : List Edit) → IsShortReply (success es).reply
ok_short es = omega arith

written_reply : (rights : Rights) (es : List Edit) → IsShortReply (written_by rights es).reply
written_reply rights es = if_reply rights.can_write (success es) (refusal Eacces) (ok_short es) tt

rm_reply : (rights : Rights) (absent below : List Path) → IsShortReply (rm_answer rights absent below).reply
rm_reply rights [] below = written_reply rights (removals below)
rm_reply rights (p ∷ []) below = if_reply rights.can_read (success []) (refusal Eacces) (ok_short []) tt
rm_reply rights (p ∷ q ∷ ps) below = absent_reply rights

set_perms_reply : (caller : Caller) (rights : Rights) (node : Node) (perms : List Perm) (path : Path) (absent : List Path) → IsShortReply (set_perms_answer caller rights node perms path absent).reply
set_perms_reply caller rights node perms path [] =
    let es : List Edit = (path, Some (record { value = node.value; perms = perms })) ∷ [] in
    if_reply (not rights.owner || gives_away caller node.perms perms) (refusal Eacces) (success es) tt (ok_short es)
set_perms_reply caller rights node perms path (p ∷ ps) = absent_reply rights

permitted_reply : (operation : Operation) (caller : Caller) (rights : Rights) (sight : Sight) (path : Path) (below : List Path) → IsShortReply (permitted operation caller rights sight path below).reply
permitted_reply Directory caller rights sight path below = looked_up_reply rights (strings sight.names) sight.absent
permitted_reply Read caller rights sight path below = looked_up_reply rights sight.node.value sight.absent
permitted_reply GetPerms caller rights sight path below = looked_up_reply rights (strings (map perm_text sight.node.perms)) sight.absent
permitted_reply (Write value) caller rights sight path below = written_reply rights (write_edits caller sight value path sight.absent)
permitted_reply Mkdir caller rights sight path below = written_reply rights (mkdir_edits caller sight sight.absent)
permitted_reply Rm caller rights sight path below = rm_reply rights sight.absent below
permitted_reply (SetPerms perms) caller rights sight path below = set_perms_reply caller rights sight.node perms path sight.absent
permitted_reply (DirectoryPart offset) caller rights sight path below = part_reply rights sight.number offset (strings sight.names) sight.absent

pub command_reply : (operation : Operation) (path : Path) (caller : Caller) (number : ℕ) (tree : Tree) → IsShortReply (command operation path caller number tree).reply
command_reply operation path caller number tree =
    let sight : Sight = sight_of operation number tree path in
    let rights : Rights = rights_of caller sight.node.perms in
    if_reply (is_out_of_form operation path) (refusal Einval) (permitted operation caller rights sight path (all_below tree path)) tt (permitted_reply operation caller rights sight path (all_below tree path))

pub reply_short : (operation : Operation) (path : Path) (caller : Caller) (number : ℕ) (tree : Tree) (payload : List ℕ) → (command operation path caller number tree).reply ≡ Ok payload → length payload ≤ 4096
reply_short operation path caller number tree payload e = subst IsShortReply e (command_reply operation path caller number tree)
