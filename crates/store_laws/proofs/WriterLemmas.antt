-- A command changes nodes only where its caller may.
use Rattle.std.specs.Prelude.{◌≡◌, ℕ, Bool, true, false, cond, not, ◌||◌, List, [], ◌∷◌, ◌++◌, drop, map, Option, Some, None, is_some, ◌⊎◌}
use Rattle.std.proofs.Common.{sym, refl, ap, subst, ◌∙◌, inl, inr, append-nil, append_assoc, ⊎_elim}
use Rattle.std.proofs.lemmas.Bool.{cases_Bool, and_parts, or_cases}
use Rattle.xs_model.specs.declared.perm.Perm.{Perm}
use Rattle.xs_model.specs.declared.perm.Rights.{Rights}
use Rattle.xs_model.specs.declared.message.WireErr.TheVariants.{Einval, Eacces}
use Rattle.xs_model.specs.Paths.{Name, Path, has_path, same_path, is_below, child, way_down}
use Rattle.xs_model.specs.Perms.{Caller, rights_of, created_perms, perm_text}
use Rattle.xs_model.specs.Messages.{strings}
use Rattle.xs_model.specs.Trees.{Node, Tree, node_at, is_present, all_below, Edit, edit_paths, IsTree}
use Rattle.xs_model.specs.Requests.{Operation, Directory, Read, GetPerms, Write, Mkdir, Rm, SetPerms, DirectoryPart, is_root}
use Rattle.xs_model.specs.Commands.{Sight, sight_of, Answer, refusal, success, written_by, creation, write_edits, mkdir_edits, removals, rm_answer, gives_away, set_perms_answer, permitted, is_out_of_form, command, node_or_empty, nearest_of, absent_of}
use Rattle.xs_model.proofs.Maps.{not_both}
use Rattle.xs_model.proofs.PathLemmas.{same_path-is, has_path-here, is_below-way, is_below-itself, child-way, way_to}
use Rattle.xs_model.proofs.AnswerLemmas.{at_nearest}
use Rattle.xs_model.proofs.WayLemmas.{way_below, way_down-is, Looked, look_down, present_above}
use Rattle.xs_model.proofs.TreeLemmas.{edit_paths-removals, has_path-all_below}
use Rattle.xs_model.proofs.CommandLemmas.{absent-edits, looked_up-edits, part_answer-edits, rm_absent-edits}
use Rattle.store_laws.specs.Writers.{MayChange, IsReached, IsNearest, IsAllowed}

-- the paths that an answer wrote
abbrev wrote : Answer → List Path
wrote a = edit_paths a.edits

unwritten : {A : Type 0} (q : Path) (a : Answer) → a.edits ≡ [] → has_path q (wrote a) ≡ true → A
unwritten q a none h = not_both h (ap (λ es. has_path q (edit_paths es)) none)

-- written by a right
by_right : (q : Path) (b : Bool) (es : List Edit) → has_path q (wrote (cond b (success es) (refusal Eacces))) ≡ true → (b ≡ true) × (has_path q (edit_paths es) ≡ true)
by_right q true es h = (refl, h)
by_right q false es h = not_both h refl

unless : (q : Path) (b : Bool) (a : Answer) → has_path q (wrote (cond b (refusal Einval) a)) ≡ true → has_path q (wrote a) ≡ true
unless q true a h = not_both h refl
unless q false a h = h

-- THE PATHS OF NEW NODES are those on the way down
creation-paths : (perms : List Perm) (value : List ℕ) (ps : List Path) → edit_paths (creation perms value ps) ≡ ps
creation-paths perms value [] = refl
creation-paths perms value (p ∷ []) = refl
creation-paths perms value (p ∷ r ∷ ps) = ap (λ qs. p ∷ qs) (creation-paths perms value (r ∷ ps))

below_both : (p : Path) (n : Name) (ns : List Name) (q : Path) → is_below (child p n) q ≡ true → is_below p q ≡ true
below_both p n ns q h =
    let way = way_to (child p n) q h in
    subst (λ r. is_below p r ≡ true) (sym (way.1 ∙ child-way p n way.0)) (is_below-way p (n ∷ way.0))

pub on_way : (p : Path) (ns : List Name) (q : Path) → has_path q (way_below p ns) ≡ true → (is_below p q ≡ true) × (is_below q (p ++ ns) ≡ true)
on_way p [] q h = not_both h refl
on_way p (n ∷ ns) q h = ⊎_elim
    (λ t. subst (λ r. (is_below p r ≡ true) × (is_below r (p ++ (n ∷ ns)) ≡ true)) (sym (same_path-is q (child p n) t))
    (is_below-way p (n ∷ []), subst (λ r. is_below (child p n) r ≡ true) (child-way p n ns) (is_below-way (child p n) ns)))
    (λ t. let rest = on_way (child p n) ns q t in (below_both p n ns q rest.0, subst (λ r. is_below q r ≡ true) (child-way p n ns) rest.1))
    (or_cases (same_path q (child p n)) (has_path q (way_below (child p n) ns)) h)

-- where the first step down is absent, all of the way is
absent_way : (tree : Tree) → IsTree tree → (p : Path) (n : Name) (ns : List Name) (q : Path) → is_present tree (child p n) ≡ false → has_path q (way_below p (n ∷ ns)) ≡ true → is_present tree q ≡ false
absent_way tree is p n ns q gone h =
    let below : is_below (child p n) q ≡ true = ⊎_elim
    (λ t. subst (λ r. is_below (child p n) r ≡ true) (sym (same_path-is q (child p n) t)) (is_below-itself (child p n)))
    (λ t. (on_way (child p n) ns q t).0)
    (or_cases (same_path q (child p n)) (has_path q (way_below (child p n) ns)) h)
    in
    let way = way_to (child p n) q below in
    elim (cases_Bool (is_present tree q)) [
      | inl t ↦ not_both (present_above tree is (child p n) way.0 (ap (is_present tree) (sym way.1) ∙ t)) gone
      | inr f ↦ f
    ]

absent_all : (tree : Tree) → IsTree tree → (p : Path) (ns : List Name) (q : Path) → has_path q (absent_of tree (way_below p ns)) ≡ true → is_present tree q ≡ false
absent_all tree is p [] q h = not_both h refl
absent_all tree is p (n ∷ ns) q h =
    elim (is_present tree (child p n)) as (λ b. is_present tree (child p n) ≡ b → has_path q (cond b (absent_of tree (way_below (child p n) ns)) (child p n ∷ way_below (child p n) ns)) ≡ true → is_present tree q ≡ false) [
      | true ↦ λ e k. absent_all tree is (child p n) ns q k
      | false ↦ λ e k. absent_way tree is p n ns q e k
    ] refl h

absent_down : (tree : Tree) → IsTree tree → (path q : Path) → has_path q (absent_of tree (way_down [] path)) ≡ true → is_present tree q ≡ false
absent_down tree is path q h =
    absent_all tree is [] path q (subst (λ b. has_path q (cond b (absent_of tree (way_below [] path)) ([] ∷ way_below [] path)) ≡ true) is.root (subst (λ ps. has_path q (absent_of tree ps) ≡ true) (way_down-is [] path) h))

-- TWO PATHS ABOVE ONE
heads : (m n : Name) (p q : Path) → ◌≡◌ {A = Path} (m ∷ p) (n ∷ q) → m ≡ n
heads m n p q e = ap (λ r. first_or m r) e
  where
    first_or : Name → Path → Name
    first_or k [] = k
    first_or k (x ∷ xs) = x

tails : (m n : Name) (p q : Path) → ◌≡◌ {A = Path} (m ∷ p) (n ∷ q) → p ≡ q
tails m n p q e = ap (λ (r : Path). drop 1 r) e

prefixes : (a b xs ys : Path) → a ++ xs ≡ b ++ ys → ((zs : Path) × (a ≡ b ++ zs)) ⊎ ((z : Name) × (zs : Path) × (b ≡ a ++ (z ∷ zs)))
prefixes a [] xs ys e = inl (a, refl)
prefixes [] (n ∷ b) xs ys e = inr (n, b, refl)
prefixes (m ∷ a) (n ∷ b) xs ys e =
    let same = heads m n (a ++ xs) (b ++ ys) e in
    ⊎_elim (λ l. inl (l.0, λ i. same i ∷ l.1 i)) (λ r. inr (r.0, r.1, λ i. sym same i ∷ r.2 i)) (prefixes a b xs ys (tails m n (a ++ xs) (b ++ ys) e))

module _ (tree : Tree) (is : IsTree tree) (path : Path) where
  abbrev near : Path
  near = nearest_of tree [] (way_down [] path)

  abbrev missing : List Path
  missing = absent_of tree (way_down [] path)

  looked : Looked tree [] path near missing
  looked = look_down tree is path

  near_above : is_below near path ≡ true
  near_above = subst (λ q. is_below near q ≡ true) (sym looked.to) (is_below-way near looked.rest)

  -- a present path further down would be among the absent ones
  no_further : {A : Type 0} (z : Name) (zs ks : Path) → path ≡ (near ++ (z ∷ zs)) ++ ks → is_present tree (near ++ (z ∷ zs)) ≡ true → A
  no_further z zs ks e there =
      let rest : looked.rest ≡ z ∷ (zs ++ ks) = same_rest near looked.rest (z ∷ (zs ++ ks)) (sym looked.to ∙ e ∙ append_assoc near (z ∷ zs) ks) in
      let child_there : is_present tree (child near z) ≡ true = present_above tree is (child near z) zs (ap (is_present tree) (child-way near z zs) ∙ there) in
      let listed : has_path (child near z) missing ≡ true = ap (has_path (child near z)) (looked.missed ∙ ap (way_below near) rest) ∙ has_path-here (child near z) (way_below (child near z) (zs ++ ks)) in
      not_both child_there (absent_down tree is path (child near z) listed)
    where
      same_rest : (a xs ys : Path) → a ++ xs ≡ a ++ ys → xs ≡ ys
      same_rest [] xs ys e = e
      same_rest (m ∷ a) xs ys e = same_rest a xs ys (tails m m (a ++ xs) (a ++ ys) e)

  near_closest : (p : Path) → is_below p path ≡ true → is_present tree p ≡ true → is_below p near ≡ true
  near_closest p below there =
      let way = way_to p path below in
      ⊎_elim
      (λ l. subst (λ q. is_below p q ≡ true) (sym l.1) (is_below-way p l.0))
      (λ r. no_further r.0 r.1 way.0 (way.1 ∙ ap (λ q. q ++ way.0) r.2) (ap (is_present tree) (sym r.2) ∙ there))
      (prefixes near p looked.rest way.0 (sym looked.to ∙ way.1))

  pub is_nearest : IsNearest tree path near
  is_nearest = record { above = near_above; there = looked.present; closest = near_closest }

  missing_reached : (q : Path) → has_path q missing ≡ true → (is_below near q ≡ true) × ((is_below q path ≡ true) × (is_present tree q ≡ false))
  missing_reached q h =
      let way = on_way near looked.rest q (subst (λ ps. has_path q ps ≡ true) looked.missed h) in
      (way.0, (subst (λ r. is_below q r ≡ true) (sym looked.to) way.1, absent_down tree is path q h))

  -- where nothing is absent, the nearest path is the path
  at_path : missing ≡ [] → near ≡ path
  at_path e = sym (at_nearest tree path near missing looked e)

  only_path : (q : Path) (new : Option Node) → has_path q (edit_paths ((path, new) ∷ [])) ≡ true → q ≡ path
  only_path q new h = ⊎_elim (λ t. same_path-is q path t) (λ f. not_both f refl) (or_cases (same_path q path) false h)

  module _ (caller : Caller) (rights : Rights) (sight : Sight) (q : Path) where
    abbrev Allows : Operation → Type 0
    Allows operation = MayChange operation rights × IsReached operation tree near path q

    write_by : (value : List ℕ) (absent : List Path) → missing ≡ absent → has_path q (wrote (written_by rights (write_edits caller sight value path absent))) ≡ true → Allows (Write value)
    write_by value [] e h =
        let parts = by_right q rights.can_write (write_edits caller sight value path []) h in
        (parts.0, inl (at_path e, only_path q (Some (record { value = value; perms = sight.node.perms })) parts.1))
    write_by value (p ∷ ps) e h =
        let parts = by_right q rights.can_write (write_edits caller sight value path (p ∷ ps)) h in
        (parts.0, inr (missing_reached q (ap (has_path q) e ∙ ap (has_path q) (sym (creation-paths (created_perms caller.domid sight.node.perms) value (p ∷ ps))) ∙ parts.1)))

    mkdir_by : has_path q (wrote (written_by rights (mkdir_edits caller sight missing))) ≡ true → Allows Mkdir
    mkdir_by h =
        let parts = by_right q rights.can_write (mkdir_edits caller sight missing) h in
        (parts.0, missing_reached q (ap (has_path q) (sym (creation-paths (created_perms caller.domid sight.node.perms) [] missing)) ∙ parts.1))

    rm_by : (absent : List Path) → missing ≡ absent → has_path q (wrote (rm_answer rights absent (all_below tree path))) ≡ true → Allows Rm
    rm_by [] e h =
        let parts = by_right q rights.can_write (removals (all_below tree path)) h in
        let below = and_parts (is_below path q) (is_present tree q) (sym (has_path-all_below path q tree) ∙ ap (has_path q) (sym (edit_paths-removals (all_below tree path))) ∙ parts.1) in
        (parts.0, (at_path e, below.0))
    rm_by (p ∷ ps) e h = unwritten q (rm_answer rights (p ∷ ps) (all_below tree path)) (rm_absent-edits rights (p ∷ ps)) h

    owned : (b c : Bool) (es : List Edit) → has_path q (wrote (cond (not b || c) (refusal Eacces) (success es))) ≡ true → (b ≡ true) × (has_path q (edit_paths es) ≡ true)
    owned true true es h = not_both h refl
    owned true false es h = (refl, h)
    owned false c es h = not_both h refl

    set_perms_by : (perms : List Perm) (absent : List Path) → missing ≡ absent → has_path q (wrote (set_perms_answer caller rights sight.node perms path absent)) ≡ true → Allows (SetPerms perms)
    set_perms_by perms [] e h =
        let parts = owned rights.owner (gives_away caller sight.node.perms perms) ((path, Some (record { value = sight.node.value; perms = perms })) ∷ []) h in
        (parts.0, (at_path e, only_path q (Some (record { value = sight.node.value; perms = perms })) parts.1))
    set_perms_by perms (p ∷ ps) e h = unwritten q (set_perms_answer caller rights sight.node perms path (p ∷ ps)) (absent-edits rights) h

    permitted_by : (operation : Operation) → sight.absent ≡ missing → has_path q (wrote (permitted operation caller rights sight path (all_below tree path))) ≡ true → Allows operation
    permitted_by Directory s h = unwritten q (permitted Directory caller rights sight path (all_below tree path)) (looked_up-edits rights (strings sight.names) sight.absent) h
    permitted_by Read s h = unwritten q (permitted Read caller rights sight path (all_below tree path)) (looked_up-edits rights sight.node.value sight.absent) h
    permitted_by GetPerms s h = unwritten q (permitted GetPerms caller rights sight path (all_below tree path)) (looked_up-edits rights (strings (map perm_text sight.node.perms)) sight.absent) h
    permitted_by (Write value) s h = write_by value sight.absent (sym s) h
    permitted_by Mkdir s h = mkdir_by (subst (λ absent. has_path q (wrote (written_by rights (mkdir_edits caller sight absent))) ≡ true) s h)
    permitted_by Rm s h = rm_by sight.absent (sym s) h
    permitted_by (SetPerms perms) s h = set_perms_by perms sight.absent (sym s) h
    permitted_by (DirectoryPart offset) s h =
        unwritten q (permitted (DirectoryPart offset) caller rights sight path (all_below tree path)) (part_answer-edits rights sight.number offset (strings sight.names) sight.absent) h

node_there : (tree : Tree) (p : Path) → is_present tree p ≡ true → node_at tree p ≡ Some (node_or_empty (node_at tree p))
node_there tree p h = by (node_at tree p) h
  where
    by : (o : Option Node) → is_some o ≡ true → o ≡ Some (node_or_empty o)
    by None h = not_both h refl
    by (Some node) h = refl

pub changes_allowed : (operation : Operation) (path : Path) (caller : Caller) (number : ℕ) (tree : Tree) (q : Path) → IsTree tree → has_path q (command operation path caller number tree).written ≡ true → IsAllowed operation path caller tree q
changes_allowed operation path caller number tree q is h =
    let sight : Sight = sight_of operation number tree path in
    let rights : Rights = rights_of caller sight.node.perms in
    let found = permitted_by tree is path caller rights sight q operation refl
    (unless q (is_out_of_form operation path) (permitted operation caller rights sight path (all_below tree path)) h)
    in
    record {
      nearest = sight.nearest;
      node = sight.node;
      stands = is_nearest tree is path;
      there = node_there tree sight.nearest (look_down tree is path).present;
      right = found.0;
      reached = found.1;
    }
