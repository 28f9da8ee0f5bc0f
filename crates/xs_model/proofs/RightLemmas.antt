-- Who is given data, and that a refused command edits nothing.
use Rattle.std.specs.Prelude.{◌≡◌, ℕ, Bool, true, false, cond, not, ◌||◌, List, [], ◌∷◌, Option, Some, None, is_some, Result, Ok, Err, is_ok, map, length, nat_lt}
use Rattle.std.proofs.Common.{sym, refl, ap, subst, ◌∙◌}
use Rattle.xs_model.specs.declared.perm.Perm.{Perm}
use Rattle.xs_model.specs.declared.perm.Rights.{Rights}
use Rattle.xs_model.specs.declared.message.WireErr.{WireErr}
use Rattle.xs_model.specs.declared.message.WireErr.TheVariants.{Einval, Eacces, Enoent, E2big}
use Rattle.xs_model.specs.declared.message.TheConstants.{PAYLOAD_MAX}
use Rattle.xs_model.specs.Paths.{Path, way_down}
use Rattle.xs_model.specs.Perms.{Caller, rights_of, perm_text}
use Rattle.xs_model.specs.Messages.{strings}
use Rattle.xs_model.specs.Trees.{Node, Tree, node_at, is_present, children, all_below, Edit, edited, edit_paths}
use Rattle.xs_model.specs.Requests.{Operation, Directory, Read, GetPerms, Write, Mkdir, Rm, SetPerms, DirectoryPart}
use Rattle.xs_model.specs.Commands.{Sight, sight_of, Answer, refusal, success, sized, looked_up, part_payload, part_answer, written_by, write_edits, mkdir_edits, removals, rm_answer, set_perms_answer, gives_away, permitted, is_out_of_form, command, command_edits, node_or_empty, nearest_of, absent_of}
use Rattle.xs_model.specs.Laws.{is_reading, data_of, IsGiven}
use Rattle.xs_model.proofs.Maps.{not_both}
use Rattle.xs_model.proofs.WayLemmas.{way_below, way_down-is, Looked, look}
use Rattle.xs_model.proofs.CommandLemmas.{absent-edits, looked_up-edits, part_answer-edits, rm_absent-edits}
use Rattle.xs_model.proofs.AnswerLemmas.{at_nearest}

-- WHO IS GIVEN DATA
abbrev payload_or : List ℕ → Result (List ℕ) WireErr → List ℕ
payload_or default (Ok payload) = payload
payload_or default (Err error) = default

not_Ok : {A : Type 0} {error : WireErr} {payload : List ℕ} → Err error ≡ Ok payload → A
not_Ok e = not_both refl (sym (ap is_ok e))

sized_by : (b : Bool) (info payload : List ℕ) → ◌≡◌ {A = Result (List ℕ) WireErr} (cond b (Err E2big) (Ok info)) (Ok payload) → payload ≡ info
sized_by true info payload e = not_Ok e
sized_by false info payload e = sym (ap (payload_or info) e)

shown_by : (b : Bool) (info payload : List ℕ) → (cond b (record { reply = sized info; edits = [] }) (refusal Eacces)).reply ≡ Ok payload → (b ≡ true) × (payload ≡ info)
shown_by true info payload e = (refl, sized_by (nat_lt PAYLOAD_MAX (length info)) info payload e)
shown_by false info payload e = not_Ok e

absent_not_ok : {A : Type 0} (b : Bool) (payload : List ℕ) → (cond b (refusal Enoent) (refusal Eacces)).reply ≡ Ok payload → A
absent_not_ok true payload e = not_Ok e
absent_not_ok false payload e = not_Ok e

looked_up_ok : (rights : Rights) (info payload : List ℕ) (absent : List Path) → (looked_up rights info absent).reply ≡ Ok payload → (absent ≡ []) × (rights.can_read ≡ true) × (payload ≡ info)
looked_up_ok rights info payload [] e = let given = shown_by rights.can_read info payload e in (refl, given.0, given.1)
looked_up_ok rights info payload (p ∷ ps) e = absent_not_ok rights.can_read payload e

part_by : (readable beyond : Bool) (info payload : List ℕ)
    → (cond (not readable) (refusal Eacces) (cond beyond (refusal Einval) (cond readable (record { reply = sized info; edits = [] }) (refusal Eacces)))).reply ≡ Ok payload
    → (readable ≡ true) × (payload ≡ info)
part_by true true info payload e = not_Ok e
part_by true false info payload e = shown_by true info payload e
part_by false beyond info payload e = not_Ok e

part_ok : (rights : Rights) (number offset : ℕ) (list payload : List ℕ) (absent : List Path) → (part_answer rights number offset list absent).reply ≡ Ok payload
    → (absent ≡ []) × (rights.can_read ≡ true) × (payload ≡ part_payload number offset list)
part_ok rights number offset list payload [] e =
    let given = part_by rights.can_read (nat_lt (length list) offset) (part_payload number offset list) payload e in (refl, given.0, given.1)
part_ok rights number offset list payload (p ∷ ps) e = absent_not_ok rights.can_read payload e

-- where nothing on the way is absent, the nearest path is the path, and it is present
here_from : (tree : Tree) (path nearest : Path) (absent : List Path) → Looked tree [] path nearest absent → absent ≡ [] → (nearest ≡ path) × (is_present tree path ≡ true)
here_from tree path nearest absent l e =
    let same : path ≡ nearest = at_nearest tree path nearest absent l e in
    (sym same, ap (is_present tree) same ∙ l.present)

here_by : (tree : Tree) (path : Path) (b : Bool) → is_present tree [] ≡ b → cond b (absent_of tree (way_below [] path)) ([] ∷ way_below [] path) ≡ []
    → (cond b (nearest_of tree [] (way_below [] path)) [] ≡ path) × (is_present tree path ≡ true)
here_by tree path true root e = here_from tree path (nearest_of tree [] (way_below [] path)) (absent_of tree (way_below [] path)) (look tree [] path root) e
here_by tree path false root e = not_both refl (ap has_some e)
  where
    has_some : List Path → Bool
    has_some [] = false
    has_some (p ∷ ps) = true

here : (tree : Tree) (path : Path) → absent_of tree (way_down [] path) ≡ [] → (nearest_of tree [] (way_down [] path) ≡ path) × (is_present tree path ≡ true)
here tree path =
    subst (λ way. absent_of tree way ≡ [] → (nearest_of tree [] way ≡ path) × (is_present tree path ≡ true)) (sym (way_down-is [] path)) (here_by tree path (is_present tree []) refl)

module _ (number : ℕ) (tree : Tree) (path : Path) (caller : Caller) (payload : List ℕ) where
  abbrev sight_node : Node
  sight_node = node_or_empty (node_at tree (nearest_of tree [] (way_down [] path)))

  given_by : (operation : Operation) (o : Option Node) → node_at tree path ≡ o → is_some o ≡ true → (rights_of caller (node_or_empty o).perms).can_read ≡ true
      → payload ≡ data_of operation number tree path (node_or_empty o) → IsGiven operation number tree path caller payload
  given_by operation None e some right info = not_both some refl
  given_by operation (Some node) e some right info = record { node = node; there = e; right = right; whole = info }

  given_at : (operation : Operation) → absent_of tree (way_down [] path) ≡ [] → (rights_of caller sight_node.perms).can_read ≡ true → payload ≡ data_of operation number tree path sight_node → IsGiven operation number tree path caller payload
  given_at operation none right info =
      let at = here tree path none in
      given_by operation (node_at tree path) refl at.1
      (subst (λ p. (rights_of caller (node_or_empty (node_at tree p)).perms).can_read ≡ true) at.0 right)
      (subst (λ p. payload ≡ data_of operation number tree path (node_or_empty (node_at tree p))) at.0 info)

  given_from : (operation : Operation) → (looked_up (rights_of caller sight_node.perms) (data_of operation number tree path sight_node) (absent_of tree (way_down [] path))).reply ≡ Ok payload → IsGiven operation number tree path caller payload
  given_from operation e =
      let ok = looked_up_ok (rights_of caller sight_node.perms) (data_of operation number tree path sight_node) payload (absent_of tree (way_down [] path)) e in
      given_at operation ok.0 ok.1 ok.2

  pub given : (operation : Operation) → is_reading operation ≡ true → (command operation path caller number tree).reply ≡ Ok payload → IsGiven operation number tree path caller payload
  given Directory r e = given_from Directory e
  given Read r e = given_from Read e
  given GetPerms r e = given_from GetPerms e
  given (Write value) r e = not_both r refl
  given Mkdir r e = not_both r refl
  given Rm r e = not_both r refl
  given (SetPerms perms) r e = not_both r refl
  given (DirectoryPart offset) r e =
      let ok = part_ok (rights_of caller sight_node.perms) number offset (strings (children tree path)) payload (absent_of tree (way_down [] path)) e in
      given_at (DirectoryPart offset) ok.0 ok.1 ok.2

-- REFUSALS. An answer that is refused edits nothing
abbrev EditsNothing : Answer → Type 0
EditsNothing a = is_ok a.reply ≡ false → a.edits ≡ []

if_refused : (b : Bool) (x y : Answer) → EditsNothing x → EditsNothing y → EditsNothing (cond b x y)
if_refused true x y p q = p
if_refused false x y p q = q

refused_nothing : (error : WireErr) → EditsNothing (refusal error)
refused_nothing error h = refl

success_nothing : (es : List Edit) → EditsNothing (success es)
success_nothing es h = not_both refl h

written_nothing : (rights : Rights) (es : List Edit) → EditsNothing (written_by rights es)
written_nothing rights es = if_refused rights.can_write (success es) (refusal Eacces) (success_nothing es) (refused_nothing Eacces)

rm_nothing : (rights : Rights) (absent below : List Path) → EditsNothing (rm_answer rights absent below)
rm_nothing rights [] below = written_nothing rights (removals below)
rm_nothing rights (p ∷ ps) below = λ h. rm_absent-edits rights (p ∷ ps)

set_perms_nothing : (caller : Caller) (rights : Rights) (node : Node) (perms : List Perm) (path : Path) (absent : List Path) → EditsNothing (set_perms_answer caller rights node perms path absent)
set_perms_nothing caller rights node perms path [] =
    let es : List Edit = (path, Some (record { value = node.value; perms = perms })) ∷ [] in
    if_refused (not rights.owner || gives_away caller node.perms perms) (refusal Eacces) (success es) (refused_nothing Eacces) (success_nothing es)
set_perms_nothing caller rights node perms path (p ∷ ps) = λ h. absent-edits rights

permitted_nothing : (operation : Operation) (caller : Caller) (rights : Rights) (sight : Sight) (path : Path) (below : List Path) → EditsNothing (permitted operation caller rights sight path below)
permitted_nothing Directory caller rights sight path below = λ h. looked_up-edits rights (strings sight.names) sight.absent
permitted_nothing Read caller rights sight path below = λ h. looked_up-edits rights sight.node.value sight.absent
permitted_nothing GetPerms caller rights sight path below = λ h. looked_up-edits rights (strings (map perm_text sight.node.perms)) sight.absent
permitted_nothing (Write value) caller rights sight path below = written_nothing rights (write_edits caller sight value path sight.absent)
permitted_nothing Mkdir caller rights sight path below = written_nothing rights (mkdir_edits caller sight sight.absent)
permitted_nothing Rm caller rights sight path below = rm_nothing rights sight.absent below
permitted_nothing (SetPerms perms) caller rights sight path below = set_perms_nothing caller rights sight.node perms path sight.absent
permitted_nothing (DirectoryPart offset) caller rights sight path below = λ h. part_answer-edits rights sight.number offset (strings sight.names) sight.absent

refused_edits : (operation : Operation) (path : Path) (caller : Caller) (number : ℕ) (tree : Tree) (error : WireErr) → (command operation path caller number tree).reply ≡ Err error → command_edits operation path caller number tree ≡ []
refused_edits operation path caller number tree error e =
    let sight : Sight = sight_of operation number tree path in
    let below : List Path = all_below tree path in
    (if_refused (is_out_of_form operation path) (refusal Einval) (permitted operation caller (rights_of caller sight.node.perms) sight path below) (refused_nothing Einval)
    (permitted_nothing operation caller (rights_of caller sight.node.perms) sight path below) (ap is_ok e))

pub unchanged_by_refusal : (operation : Operation) (path : Path) (caller : Caller) (number : ℕ) (tree : Tree) (error : WireErr) → (command operation path caller number tree).reply ≡ Err error
    → ((command operation path caller number tree).tree ≡ tree) × ((command operation path caller number tree).written ≡ [])
unchanged_by_refusal operation path caller number tree error e =
    let none = refused_edits operation path caller number tree error e in
    (ap (edited tree) none, ap edit_paths none)
