-- Edits that keep each node of a tree within its bounds, at a spelled path, and the commands that make them.
use Rattle.std.specs.Prelude.{◌≡◌, ℕ, ◌<◌, ◌^◌, ◌==◌, Bool, true, false, cond, not, ◌||◌, List, [], ◌∷◌, length, map, Option, Some, None, is_some, IfSome}
use Rattle.std.specs.List.{AllByRecursion, cons_option}
use Rattle.std.specs.declared.cmp.Ordering.{Ordering}
use Rattle.std.specs.FinMap.{find, put}
use Rattle.std.specs.FinMap.Entries.{where_key}
use Rattle.std.proofs.Common.{sym, refl, subst, arith}
use Rattle.xs_model.specs.declared.perm.Perm.{Perm}
use Rattle.xs_model.specs.declared.perm.Rights.{Rights}
use Rattle.xs_model.specs.declared.message.WireErr.TheVariants.{Einval, Eacces}
use Rattle.xs_model.specs.Paths.{Path, path_cmp, same_path, names_below, way_down}
use Rattle.xs_model.specs.Perms.{Caller, rights_of, created_perms, perm_text}
use Rattle.xs_model.specs.Messages.{strings}
use Rattle.xs_model.specs.Trees.{Node, Tree, node_at, is_present, all_below, Edit, edited_at, edited, edit_paths}
use Rattle.xs_model.specs.Requests.{Operation, Directory, Read, GetPerms, Write, Mkdir, Rm, SetPerms, DirectoryPart}
use Rattle.xs_model.specs.Commands.{Sight, sight_of, Answer, refusal, success, looked_up, absent_refusal, written_by, creation, write_edits, mkdir_edits, removals, rm_absent, rm_answer, set_perms_answer, gives_away, permitted, is_out_of_form, command, command_edits, node_or_empty, absent_of, nearest_of, part_answer}
use Rattle.xs_model.specs.Changes.{change_at, changed_paths}
use Rattle.xs_model.proofs.Maps.{all_found, all_put, all_where, keys_put, keys_where}
use Rattle.xs_model.proofs.CommandLemmas.{looked_up-edits, absent-edits, rm_absent-edits, part_answer-edits}
use Rattle.machine_model.proofs.Lists.{all_append, all_weaker}
use Rattle.mark_model.proofs.StoreMaps.{all_with}
use Rattle.kept_model.specs.Sound.{IsSpelled, NodeFits, FoundFits, NodesFit}
use Rattle.kept_model.proofs.StepPaths.{root_spelled, parents_spelled, way_spelled}

-- ENTRIES of a map, whose keys and values are of a kind (these would stand in `Maps` of xs_model)
module _ {K X : Type 0} (R : K → K → Ordering) (P : K → Type 0) (Q : X → Type 0) where
  values : (es : List (K × X)) → AllByRecursion (λ (e : K × X). P e.0 × Q e.1) es → AllByRecursion (λ (e : K × X). Q e.1) es
  values es h = all_weaker (λ (e : K × X). P e.0 × Q e.1) (λ (e : K × X). Q e.1) (λ e both. both.1) es h

  keys : (es : List (K × X)) → AllByRecursion (λ (e : K × X). P e.0 × Q e.1) es → AllByRecursion (λ (e : K × X). P e.0) es
  keys es h = all_weaker (λ (e : K × X). P e.0 × Q e.1) (λ (e : K × X). P e.0) (λ e both. both.0) es h

  both : (es : List (K × X)) → AllByRecursion (λ (e : K × X). P e.0) es → AllByRecursion (λ (e : K × X). Q e.1) es → AllByRecursion (λ (e : K × X). P e.0 × Q e.1) es
  both es a b = all_with (λ (e : K × X). P e.0) (λ (e : K × X). Q e.1) (λ (e : K × X). P e.0 × Q e.1) (λ e p q. (p, q)) es a b

  pub entries_put : (k : K) (v : X) (es : List (K × X)) → P k → Q v → AllByRecursion (λ (e : K × X). P e.0 × Q e.1) es → AllByRecursion (λ (e : K × X). P e.0 × Q e.1) (put R k v es)
  entries_put k v es p q h = both (put R k v es) (keys_put R P k v es p (keys es h)) (all_put R Q k v es q (values es h))

  pub entries_where : (t : K → Bool) (es : List (K × X)) → AllByRecursion (λ (e : K × X). P e.0 × Q e.1) es → AllByRecursion (λ (e : K × X). P e.0 × Q e.1) (where_key R t es)
  entries_where t es h = both (where_key R t es) (keys_where R P t es (keys es h)) (all_where R Q t es (values es h))

  pub entries_found : (k : K) (es : List (K × X)) → AllByRecursion (λ (e : K × X). P e.0 × Q e.1) es → IfSome (find R k es) Q
  entries_found k es h = by (find R k es) refl
    where
      by : (o : Option X) → find R k es ≡ o → IfSome o Q
      by None e = tt
      by (Some x) e = all_found R Q k es x (values es h) e

-- EDITS. One at a spelled path, that removes a node or gives one that fits
abbrev pub EditFits : Edit → Type 0
EditFits e = IsSpelled e.0 × FoundFits e.1

abbrev pub EditsFit : List Edit → Type 0
EditsFit es = AllByRecursion EditFits es

edit_fits : (tree : Tree) (p : Path) (new : Option Node) → IsSpelled p → FoundFits new → NodesFit tree → NodesFit (edited_at tree p new)
edit_fits tree p (Some node) s f h = entries_put path_cmp IsSpelled NodeFits p node tree s f h
edit_fits tree p None s f h = entries_where path_cmp IsSpelled NodeFits (λ q. not (same_path p q)) tree h

pub edits_fit : (tree : Tree) (es : List Edit) → NodesFit tree → EditsFit es → NodesFit (edited tree es)
edits_fit tree [] h f = h
edits_fit tree (e ∷ es) h f = edits_fit (edited_at tree e.0 e.1) es (edit_fits tree e.0 e.1 f.0.0 f.0.1 h) f.1

pub edit_paths_spelled : (es : List Edit) → EditsFit es → AllByRecursion IsSpelled (edit_paths es)
edit_paths_spelled [] f = tt
edit_paths_spelled (e ∷ es) f = (f.0.0, edit_paths_spelled es f.1)

pub node_fits : (tree : Tree) (p : Path) → NodesFit tree → FoundFits (node_at tree p)
node_fits tree p h = entries_found path_cmp IsSpelled NodeFits p tree h

-- the changed paths of a change at spelled paths
change_spelled : (a b : Bool) (p : Path) → IsSpelled p → AllByRecursion IsSpelled (change_at a b p)
change_spelled false false p h = tt
change_spelled false true p h = (h, parents_spelled p h)
change_spelled true false p h = (h, parents_spelled p h)
change_spelled true true p h = (h, tt)

pub changed_spelled : (before : Tree) (ps : List Path) (after : Tree) → AllByRecursion IsSpelled ps → AllByRecursion IsSpelled (changed_paths before ps after)
changed_spelled before [] after h = tt
changed_spelled before (p ∷ ps) after h =
    all_append IsSpelled (change_at (is_present before p) (is_present after p) p) (changed_paths before ps after)
    (change_spelled (is_present before p) (is_present after p) p h.0) (changed_spelled before ps after h.1)

-- WHAT A COMMAND IS ASKED TO SET
pub record PermsFit (perms : List Perm) : Type 0 where
  pub entries : length perms < 2 ^ 16
  pub domids : AllByRecursion (λ perm. perm.domid < 2 ^ 16) perms

abbrev pub OperationFits : Operation → Type 0
OperationFits Directory = Unit {0}
OperationFits Read = Unit {0}
OperationFits GetPerms = Unit {0}
OperationFits (Write value) = length value < 2 ^ 16
OperationFits Mkdir = Unit {0}
OperationFits Rm = Unit {0}
OperationFits (SetPerms perms) = PermsFit perms
OperationFits (DirectoryPart offset) = Unit {0}

made_node : (value : List ℕ) (perms : List Perm) → length value < 2 ^ 16 → PermsFit perms → NodeFits (record { value = value; perms = perms })
made_node value perms h fit = record { value = h; entries = fit.entries; domids = fit.domids }

created_fit : (domid : ℕ) (perms : List Perm) → domid < 2 ^ 16 → PermsFit perms → PermsFit (created_perms domid perms)
created_fit domid [] d fit = fit
created_fit domid (first ∷ later) d fit = record { entries = fit.entries; domids = (owner (domid == 0), fit.domids.1) }
  where
    owner : (b : Bool) → (cond b first (record { letter = first.letter; stale = false; domid = domid })).domid < 2 ^ 16
    owner true = fit.domids.0
    owner false = d

-- WHAT IT LOOKS AT
absent_spelled : (tree : Tree) (ps : List Path) → AllByRecursion IsSpelled ps → AllByRecursion IsSpelled (absent_of tree ps)
absent_spelled tree [] h = tt
absent_spelled tree (p ∷ ps) h =
    elim (is_present tree p) as (λ b. AllByRecursion IsSpelled (cond b (absent_of tree ps) (p ∷ ps))) [ true ↦ absent_spelled tree ps h.1 | false ↦ h ]

nearest_spelled : (tree : Tree) (above : Path) (ps : List Path) → IsSpelled above → AllByRecursion IsSpelled ps → IsSpelled (nearest_of tree above ps)
nearest_spelled tree above [] a h = a
nearest_spelled tree above (p ∷ ps) a h =
    elim (is_present tree p) as (λ b. IsSpelled (cond b (nearest_of tree p ps) above)) [ true ↦ nearest_spelled tree p ps h.0 h.1 | false ↦ a ]

below_spelled : (p : Path) (tree : Tree) → NodesFit tree → AllByRecursion IsSpelled (all_below tree p)
below_spelled p [] h = tt
below_spelled p (e ∷ tree) h =
    let rest : AllByRecursion IsSpelled (all_below tree p) = below_spelled p tree h.1 in
    elim (is_some (names_below p e.0)) as (λ b. AllByRecursion IsSpelled (cons_option (cond b (Some e.0) None) (all_below tree p))) [ true ↦ (h.0.0, rest) | false ↦ rest ]

-- what a command sees: the paths that it looks at are spelled, and what it finds fits
record SightFits (sight : Sight) : Type 0 where
  nearest : IsSpelled sight.nearest
  node : NodeFits sight.node
  absent : AllByRecursion IsSpelled sight.absent

found_node : (o : Option Node) → FoundFits o → NodeFits (node_or_empty o)
found_node None h = record { value = omega arith; entries = omega arith; domids = tt }
found_node (Some node) h = h

sight_fits : (operation : Operation) (number : ℕ) (tree : Tree) (path : Path) → NodesFit tree → IsSpelled path → SightFits (sight_of operation number tree path)
sight_fits operation number tree path h s =
    let way : List Path = way_down [] path in
    let all : AllByRecursion IsSpelled way = way_spelled [] path s in
    record {
      nearest = nearest_spelled tree [] way root_spelled all;
      node = found_node (node_at tree (nearest_of tree [] way)) (node_fits tree (nearest_of tree [] way) h);
      absent = absent_spelled tree way all;
    }

-- ANSWERS
creation_fits : (perms : List Perm) (value : List ℕ) (ps : List Path) → PermsFit perms → length value < 2 ^ 16 → AllByRecursion IsSpelled ps → EditsFit (creation perms value ps)
creation_fits perms value [] p v h = tt
creation_fits perms value (q ∷ []) p v h = ((h.0, made_node value perms v p), tt)
creation_fits perms value (q ∷ r ∷ ps) p v h = ((h.0, made_node [] perms (omega arith) p), creation_fits perms value (r ∷ ps) p v h.1)

removals_fit : (ps : List Path) → AllByRecursion IsSpelled ps → EditsFit (removals ps)
removals_fit [] h = tt
removals_fit (p ∷ ps) h = ((h.0, tt), removals_fit ps h.1)

nothing_fits : (a : Answer) → a.edits ≡ [] → EditsFit a.edits
nothing_fits a e = subst EditsFit (sym e) tt

if_fits : (b : Bool) (x y : Answer) → EditsFit x.edits → EditsFit y.edits → EditsFit (cond b x y).edits
if_fits true x y p q = p
if_fits false x y p q = q

written_fits : (rights : Rights) (es : List Edit) → EditsFit es → EditsFit (written_by rights es).edits
written_fits rights es h = if_fits rights.can_write (success es) (refusal Eacces) h tt

module _ (caller : Caller) (rights : Rights) (sight : Sight) (path : Path) (low : caller.domid < 2 ^ 16) (fit : SightFits sight) (spelled : IsSpelled path) where
  old_perms : PermsFit sight.node.perms
  old_perms = record { entries = fit.node.entries; domids = fit.node.domids }

  new_perms : PermsFit (created_perms caller.domid sight.node.perms)
  new_perms = created_fit caller.domid sight.node.perms low old_perms

  write_fits : (value : List ℕ) (absent : List Path) → length value < 2 ^ 16 → AllByRecursion IsSpelled absent → EditsFit (write_edits caller sight value path absent)
  write_fits value [] v h = ((spelled, made_node value sight.node.perms v old_perms), tt)
  write_fits value (p ∷ ps) v h = creation_fits (created_perms caller.domid sight.node.perms) value (p ∷ ps) new_perms v h

  rm_fits : (absent below : List Path) → AllByRecursion IsSpelled below → EditsFit (rm_answer rights absent below).edits
  rm_fits [] below h = written_fits rights (removals below) (removals_fit below h)
  rm_fits (p ∷ ps) below h = nothing_fits (rm_absent rights (p ∷ ps)) (rm_absent-edits rights (p ∷ ps))

  set_perms_fits : (perms : List Perm) (absent : List Path) → PermsFit perms → EditsFit (set_perms_answer caller rights sight.node perms path absent).edits
  set_perms_fits perms [] p =
      if_fits (not rights.owner || gives_away caller sight.node.perms perms) (refusal Eacces) (success ((path, Some (record { value = sight.node.value; perms = perms })) ∷ [])) tt
      ((spelled, made_node sight.node.value perms fit.node.value p), tt)
  set_perms_fits perms (q ∷ qs) p = nothing_fits (absent_refusal rights) (absent-edits rights)

  looked_up_fits : (payload : List ℕ) → EditsFit (looked_up rights payload sight.absent).edits
  looked_up_fits payload = nothing_fits (looked_up rights payload sight.absent) (looked_up-edits rights payload sight.absent)

  permitted_fits : (operation : Operation) (below : List Path) → OperationFits operation → AllByRecursion IsSpelled below → EditsFit (permitted operation caller rights sight path below).edits
  permitted_fits Directory below o h = looked_up_fits (strings sight.names)
  permitted_fits Read below o h = looked_up_fits sight.node.value
  permitted_fits GetPerms below o h = looked_up_fits (strings (map perm_text sight.node.perms))
  permitted_fits (Write value) below o h = written_fits rights (write_edits caller sight value path sight.absent) (write_fits value sight.absent o fit.absent)
  permitted_fits Mkdir below o h =
      written_fits rights (mkdir_edits caller sight sight.absent) (creation_fits (created_perms caller.domid sight.node.perms) [] sight.absent new_perms (omega arith) fit.absent)
  permitted_fits Rm below o h = rm_fits sight.absent below h
  permitted_fits (SetPerms perms) below o h = set_perms_fits perms sight.absent o
  permitted_fits (DirectoryPart offset) below o h =
      nothing_fits (part_answer rights sight.number offset (strings sight.names) sight.absent) (part_answer-edits rights sight.number offset (strings sight.names) sight.absent)

-- A COMMAND at a spelled path of a tree whose nodes fit, by a caller whose domid has 16 bits
module _ (operation : Operation) (path : Path) (caller : Caller) (number : ℕ) (tree : Tree) (asked : OperationFits operation) (spelled : IsSpelled path) (low : caller.domid < 2 ^ 16) (h : NodesFit tree) where
  sight : SightFits (sight_of operation number tree path)
  sight = sight_fits operation number tree path h spelled

  pub command_edits_fit : EditsFit (command_edits operation path caller number tree)
  command_edits_fit =
      let seen : Sight = sight_of operation number tree path in
      let rights : Rights = rights_of caller seen.node.perms in
      if_fits (is_out_of_form operation path) (refusal Einval) (permitted operation caller rights seen path (all_below tree path)) tt
      (permitted_fits caller rights seen path low sight spelled operation (all_below tree path) asked (below_spelled path tree h))

  pub command_touched_spelled : AllByRecursion IsSpelled (command operation path caller number tree).touched
  command_touched_spelled = (sight.nearest, sight.absent)
