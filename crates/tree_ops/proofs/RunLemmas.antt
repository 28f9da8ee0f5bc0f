-- What one command sees, answers and edits.
use Rattle.std.specs.Prelude.{◌≡◌, ℕ, ◌≤◌, Bool, true, false, cond, not, ◌||◌, ◌&&◌, List, [], ◌∷◌, ◌++◌, length, nat_lt, drop, get_or, Option, Some, None, Result, Ok, Err, is_some, IfOk}
use Rattle.std.proofs.Common.{sym, refl, ap, subst, ◌∙◌, append-nil, take}
use Rattle.std.specs.List.{list_all}
use Rattle.std.proofs.lemmas.List.{take-append-drop}
use Rattle.xs_model.specs.declared.perm.Perm.{Perm}
use Rattle.xs_model.specs.declared.perm.Rights.{Rights}
use Rattle.xs_model.specs.declared.message.WireErr.{WireErr}
use Rattle.xs_model.specs.declared.message.WireErr.TheVariants.{Einval, Eacces}
use Rattle.xs_model.specs.Paths.{Path, Name, child, way_down}
use Rattle.xs_model.specs.Perms.{Caller, rights_of, created_perms}
use Rattle.xs_model.specs.Requests.{Operation, Directory, Read, GetPerms, Write, Mkdir, Rm, SetPerms, DirectoryPart, is_root}
use Rattle.xs_model.specs.Trees.{Node, Tree, IsTree, node_at, is_present, has_entry, all_below, Edit, edited_at, edit_paths}
use Rattle.xs_model.specs.Commands.{absent_of, nearest_of, Sight, sight_of, node_or_empty, Answer, creation, removals, refusal, success, looked_up, part_answer, part_payload, shown, absent_refusal, write_edits, rm_answer, rm_absent, gives_away, set_perms_answer, permitted, is_out_of_form, answer}
use Rattle.xs_model.proofs.Maps.{not_both}
use Rattle.xs_model.proofs.WayLemmas.{look_down, way_below, parents-child, present_above}
use Rattle.xs_model.proofs.AnswerLemmas.{at_nearest}
use Rattle.xs_model.proofs.TreeLemmas.{has_entries, present_now, edit_paths-removals}
use Rattle.node_tree.specs.KeptTree.{has_parent}
use Rattle.tree_ops.specs.declared.answer.Edits.{Edits}
use Rattle.tree_ops.specs.declared.answer.Edits.TheVariants.{Sets, Removals}
use Rattle.tree_ops.specs.Answers.{sets, edits_of}
use Rattle.tree_ops.specs.Fits.{Fits, FitsSets, FitsRemovals}
use Rattle.tree_ops.proofs.RisingLemmas.{no_item, same_head}
use Rattle.tree_ops.proofs.SightLemmas.{touched}

-- THE NEAREST NODE
pub near_present : (tree : Tree) → IsTree tree → (path x : Path) (way : List Path) → way ≡ touched tree path → x ≡ get_or way 0 x → is_present tree x ≡ true
near_present tree is path x way way_is at =
    ap (is_present tree) (at ∙ ap (λ ps. get_or ps 0 x) way_is) ∙ (look_down tree is path).present

pub path_present : (tree : Tree) → IsTree tree → (path : Path) (way : List Path) → way ≡ touched tree path → drop 1 way ≡ [] → is_present tree path ≡ true
path_present tree is path way way_is none =
    let looked = look_down tree is path in
    let absent : absent_of tree (way_down [] path) ≡ [] = sym (ap (drop 1) way_is) ∙ none in
    ap (is_present tree) (at_nearest tree path (nearest_of tree [] (way_down [] path)) (absent_of tree (way_down [] path)) looked absent) ∙ looked.present

-- EDITS THAT FIT
abbrev FitsEdit : Tree → Path → Option Node → Type 0
FitsEdit tree p (Some node) = (has_parent tree p ≡ true) × (has_entry node.perms ≡ true)
FitsEdit tree p None = ⊥

abbrev FitsEdits : Tree → List Edit → Type 0
FitsEdits tree [] = Unit {0}
FitsEdits tree (e ∷ es) = FitsEdit tree e.0 e.1 × FitsEdits (edited_at tree e.0 e.1) es

abbrev Removes : Tree → List Edit → Type 0
Removes tree es = (m : Name) × (top : Path) × IsTree tree × (es ≡ removals (all_below tree (m ∷ top)))

fits_sets : (tree : Tree) (entries : List (Path × Node)) → FitsEdits tree (sets entries) → FitsSets tree entries
fits_sets tree [] h = tt
fits_sets tree (e ∷ entries) h = (h.0.0, h.0.1, fits_sets (edited_at tree e.0 (Some e.1)) entries h.1)

no_removal : (tree : Tree) (paths : List Path) → FitsEdits tree (removals paths) → FitsRemovals tree paths
no_removal tree [] h = tt
no_removal tree (p ∷ paths) h = absurd h.0

fits_removals : (tree : Tree) (paths : List Path) → Removes tree (removals paths) → FitsRemovals tree paths
fits_removals tree [] h = tt
fits_removals tree (p ∷ paths) h =
    (h.0, h.1, h.2, sym (edit_paths-removals (p ∷ paths)) ∙ ap edit_paths h.3 ∙ edit_paths-removals (all_below tree (h.0 ∷ h.1)))

not_removed : (tree : Tree) (e : Path × Node) (entries : List (Path × Node)) (paths : List Path) → sets (e ∷ entries) ≡ removals paths → FitsSets tree (e ∷ entries)
not_removed tree e entries [] h = no_item (sym h)
not_removed tree e entries (p ∷ paths) h = not_both refl (ap (λ (f : Edit). is_some f.1) (same_head h))

no_set : (tree : Tree) (entries : List (Path × Node)) → Removes tree (sets entries) → FitsSets tree entries
no_set tree [] h = tt
no_set tree (e ∷ entries) h = not_removed tree e entries (all_below tree (h.0 ∷ h.1)) h.3

pub fits_by_sets : (tree : Tree) (edits : Edits) (es : List Edit) → edits_of edits ≡ es → FitsEdits tree es → Fits tree edits
fits_by_sets tree (Sets entries) es e h = fits_sets tree entries.items (subst (FitsEdits tree) (sym e) h)
fits_by_sets tree (Removals paths) es e h = no_removal tree paths.items (subst (FitsEdits tree) (sym e) h)

pub fits_by_removals : (tree : Tree) (edits : Edits) (es : List Edit) → edits_of edits ≡ es → Removes tree es → Fits tree edits
fits_by_removals tree (Sets entries) es e h = no_set tree entries.items (subst (Removes tree) (sym e) h)
fits_by_removals tree (Removals paths) es e h = fits_removals tree paths.items (subst (Removes tree) (sym e) h)

-- ANSWERS WHOSE EDITS FIT
either_fits : (tree : Tree) (b : Bool) (x y : Answer) → FitsEdits tree x.edits → FitsEdits tree y.edits → FitsEdits tree (cond b x y).edits
either_fits tree true x y h k = h
either_fits tree false x y h k = k

absent_fits : (tree : Tree) (rights : Rights) → FitsEdits tree (absent_refusal rights).edits
absent_fits tree rights = either_fits tree rights.can_read _ _ tt tt

looked_fits : (tree : Tree) (rights : Rights) (payload : List ℕ) (absent : List Path) → FitsEdits tree (looked_up rights payload absent).edits
looked_fits tree rights payload [] = either_fits tree rights.can_read _ _ tt tt
looked_fits tree rights payload (p ∷ ps) = absent_fits tree rights

shown_fits : (tree : Tree) (rights : Rights) (payload : List ℕ) → FitsEdits tree (shown rights payload).edits
shown_fits tree rights payload = either_fits tree rights.can_read _ _ tt tt

part_fits : (tree : Tree) (rights : Rights) (number offset : ℕ) (list : List ℕ) (absent : List Path) → FitsEdits tree (part_answer rights number offset list absent).edits
part_fits tree rights number offset list [] =
    either_fits tree (not rights.can_read) (refusal Eacces) _ tt
    (either_fits tree (nat_lt (length list) offset) (refusal Einval) (shown rights (part_payload number offset list)) tt (shown_fits tree rights (part_payload number offset list)))
part_fits tree rights number offset list (p ∷ ps) = absent_fits tree rights

parent_there : (tree : Tree) (p : Path) (n : Name) → is_present tree p ≡ true → has_parent tree (child p n) ≡ true
parent_there tree p n h = ap (list_all (is_present tree)) (parents-child p n) ∙ ap (λ b. b && true) h

creation_fits : (tree : Tree) (p : Path) (ns : List Name) (perms : List Perm) (value : List ℕ) → has_entry perms ≡ true → is_present tree p ≡ true → FitsEdits tree (creation perms value (way_below p ns))
creation_fits tree p [] perms value entry h = tt
creation_fits tree p (n ∷ []) perms value entry h = ((parent_there tree p n h, entry), tt)
creation_fits tree p (n ∷ m ∷ ns) perms value entry h =
    let node : Node = record { value = []; perms = perms } in
    ((parent_there tree p n h, entry), creation_fits (edited_at tree (child p n) (Some node)) (child p n) (m ∷ ns) perms value entry (present_now tree (child p n) node))

created_entry : (domid : ℕ) (perms : List Perm) → has_entry perms ≡ true → has_entry (created_perms domid perms) ≡ true
created_entry domid [] h = h
created_entry domid (p ∷ ps) h = refl

-- a present path has its parent
present_parent : (tree : Tree) → IsTree tree → (p : Path) → is_present tree p ≡ true → has_parent tree p ≡ true
present_parent tree is [] h = refl
present_parent tree is (n ∷ ns) h =
    ap (λ b. b && true) (present_above tree is (take (length ns) (n ∷ ns)) (drop (length ns) (n ∷ ns)) (subst (λ q. is_present tree q ≡ true) (sym (take-append-drop (length ns) (n ∷ ns))) h))

not_not : (b : Bool) → not b ≡ false → b ≡ true
not_not true h = refl
not_not false h = not_both refl h

module _ (tree : Tree) (is : IsTree tree) (caller : Caller) (path near : Path) (node : Node) (names : List Name) (number : ℕ) (there : is_present tree near ≡ true) (entry : has_entry node.perms ≡ true) where
  abbrev sight : List Path → Sight
  sight absent = record { nearest = near; node = node; absent = absent; names = names; number = number }

  one_fits : (value : List ℕ) (perms : List Perm) → path ≡ near → has_entry perms ≡ true → FitsEdits tree ((path, Some (record { value = value; perms = perms })) ∷ [])
  one_fits value perms same h = ((present_parent tree is path (ap (is_present tree) same ∙ there), h), tt)

  write_fits : (value : List ℕ) (rest : List Name) → path ≡ near ++ rest → FitsEdits tree (write_edits caller (sight (way_below near rest)) value path (way_below near rest))
  write_fits value [] way = one_fits value node.perms (way ∙ append-nil near) entry
  write_fits value (n ∷ ns) way = creation_fits tree near (n ∷ ns) (created_perms caller.domid node.perms) value (created_entry caller.domid node.perms entry) there

  set_perms_fits : (rights : Rights) (perms : List Perm) (rest : List Name) → path ≡ near ++ rest → has_entry perms ≡ true → FitsEdits tree (set_perms_answer caller rights node perms path (way_below near rest)).edits
  set_perms_fits rights perms [] way h = either_fits tree (not rights.owner || gives_away caller node.perms perms) _ _ tt (one_fits node.value perms (way ∙ append-nil near) h)
  set_perms_fits rights perms (n ∷ ns) way h = absent_fits tree rights

  rm_absent_fits : (rights : Rights) (n : Name) (ns : List Name) → FitsEdits tree (rm_absent rights (way_below near (n ∷ ns))).edits
  rm_absent_fits rights n [] = either_fits tree rights.can_read _ _ tt tt
  rm_absent_fits rights n (m ∷ ns) = absent_fits tree rights

  removal_fits : (edits : Edits) (b : Bool) (p : Path) → is_root p ≡ false → edits_of edits ≡ (cond b (success (removals (all_below tree p))) (refusal Eacces)).edits → Fits tree edits
  removal_fits edits true [] root e = not_both refl root
  removal_fits edits true (m ∷ top) root e = fits_by_removals tree edits _ e (m, top, is, refl)
  removal_fits edits false p root e = fits_by_sets tree edits _ e tt

  rm_fits : (edits : Edits) (rights : Rights) (rest : List Name) → is_root path ≡ false → edits_of edits ≡ (rm_answer rights (way_below near rest) (all_below tree path)).edits → Fits tree edits
  rm_fits edits rights [] root e = removal_fits edits rights.can_write path root e
  rm_fits edits rights (n ∷ ns) root e = fits_by_sets tree edits _ e (rm_absent_fits rights n ns)

  permitted_fits : (edits : Edits) (operation : Operation) (rights : Rights) (rest : List Name) → path ≡ near ++ rest → is_out_of_form operation path ≡ false
      → edits_of edits ≡ (permitted operation caller rights (sight (way_below near rest)) path (all_below tree path)).edits → Fits tree edits
  permitted_fits edits Directory rights rest way form e = fits_by_sets tree edits _ e (looked_fits tree rights _ (way_below near rest))
  permitted_fits edits Read rights rest way form e = fits_by_sets tree edits _ e (looked_fits tree rights _ (way_below near rest))
  permitted_fits edits GetPerms rights rest way form e = fits_by_sets tree edits _ e (looked_fits tree rights _ (way_below near rest))
  permitted_fits edits (Write value) rights rest way form e = fits_by_sets tree edits _ e (either_fits tree rights.can_write _ _ (write_fits value rest way) tt)
  permitted_fits edits Mkdir rights rest way form e =
      fits_by_sets tree edits _ e (either_fits tree rights.can_write _ _ (creation_fits tree near rest (created_perms caller.domid node.perms) [] (created_entry caller.domid node.perms entry) there) tt)
  permitted_fits edits Rm rights rest way form e = rm_fits edits rights rest form e
  permitted_fits edits (DirectoryPart offset) rights rest way form e = fits_by_sets tree edits _ e (part_fits tree rights number offset _ (way_below near rest))
  permitted_fits edits (SetPerms perms) rights rest way form e = fits_by_sets tree edits _ e (set_perms_fits rights perms rest way (not_not (has_entry perms) form))

there_entry : (tree : Tree) → IsTree tree → (p : Path) (found : Option Node) → node_at tree p ≡ found → is_some found ≡ true → has_entry (node_or_empty found).perms ≡ true
there_entry tree is p None e h = not_both h refl
there_entry tree is p (Some node) e h = has_entries tree is p node e

pub answer_fits : (tree : Tree) → IsTree tree → (edits : Edits) (operation : Operation) (caller : Caller) (path : Path) (number : ℕ) → is_out_of_form operation path ≡ false
    → edits_of edits ≡ (answer operation caller (sight_of operation number tree path) path (all_below tree path)).edits → Fits tree edits
answer_fits tree is edits operation caller path number form e =
    let looked = look_down tree is path in
    let near = nearest_of tree [] (way_down [] path) in
    let sight = sight_of operation number tree path in
    permitted_fits tree is caller path near sight.node sight.names number looked.present (there_entry tree is near (node_at tree near) refl looked.present) edits operation (rights_of caller sight.node.perms) looked.rest looked.to form
    (e ∙ ap (λ b. (cond b (refusal Einval) (permitted operation caller (rights_of caller sight.node.perms) sight path (all_below tree path))).edits) form
    ∙ ap (λ absent. (permitted operation caller (rights_of caller sight.node.perms) (record { nearest = near; node = sight.node; absent = absent; names = sight.names; number = number }) path (all_below tree path)).edits) looked.missed)

-- REPLIES
pub short_if : (reply : Result (List ℕ) WireErr) → ((payload : List ℕ) → reply ≡ Ok payload → length payload ≤ 4096) → IfOk reply (λ payload. length payload ≤ 4096)
short_if (Ok payload) h = h payload refl
short_if (Err error) h = tt
