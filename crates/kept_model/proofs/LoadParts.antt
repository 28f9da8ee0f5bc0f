-- What each part of a record that loads is: entries, nodes, ends of connections, watches.
use Rattle.std.specs.Prelude.{◌≡◌, ℕ, suc, ◌^◌, ◌<◌, ◌≤◌, ◌==◌, Bool, true, false, cond, not, ◌&&◌, List, [], ◌∷◌, ◌++◌, length, nat_le, Option, IfSome, Some, None, ⊤}
use Rattle.std.specs.List.{AllByRecursion, list_any, list_all}
use Rattle.std.specs.Str.{bytes_eq}
use Rattle.std.specs.Cmp.Lexicographic.{bytes_decides}
use Rattle.std.proofs.Common.{sym, refl, ap, subst, ◌∙◌, arith, leb-true}
use Rattle.std.proofs.lemmas.Bool.{or_parts, or_from, and_parts}
use Rattle.xs_model.specs.declared.perm.Perm.{Perm}
use Rattle.xs_model.specs.Paths.{Path, parents, is_absolute, path_of}
use Rattle.xs_model.specs.Trees.{Node, Tree, is_present, has_entry}
use Rattle.xs_model.specs.Requests.{ok_value, is_watch_path, is_token}
use Rattle.xs_model.specs.Watches.{Watch, same_watch}
use Rattle.xs_model.proofs.Maps.{not_both, not_Some, from_Some}
use Rattle.xs_model.proofs.WayLemmas.{parents-child}
use Rattle.xs_model.proofs.TreeLemmas.{HasParent}
use Rattle.machine_model.specs.declared.ConnSpec.{ConnSpec}
use Rattle.machine_model.specs.declared.ConnSpec.TheVariants.{Ring, Socket}
use Rattle.mark_model.specs.Marks.{Mark, Seen, Changed, Wrote, Gone, Kept}
use Rattle.stream_model.specs.declared.record.RawPerm.{RawPerm}
use Rattle.stream_model.specs.Fields.{AreBytes, u16_at, u32_at}
use Rattle.stream_model.specs.Record.{NodeData, node_data}
use Rattle.stream_model.specs.Spelling.{NumbersFit, LengthsFit}
use Rattle.stream_model.proofs.FieldLemmas.{u32_at-lt}
use Rattle.kept_model.specs.Said.{Said, Is, Saw, is_empty, letter_of, stale_of, perm_of, perms_of, Access, Looked, Gave, Removed, Untouched, node_or_none, found_in, found_by, said_by}
use Rattle.kept_model.specs.Loading.{target_of, ring_spec, spec_of, absolute_of}
use Rattle.kept_model.specs.Sound.{IsSpelled, NodeFits, SpecFits, has_nul, AreWatches}
use Rattle.kept_model.proofs.LoadTests.{ok_from, when_some, some_if, map_some, then_some}
use Rattle.kept_model.proofs.LoadPaths.{spelled}

-- ENTRIES
perm_domid : (raw : RawPerm) (perm : Perm) → perm_of raw ≡ Some perm → perm.domid ≡ raw.domid
perm_domid raw perm e =
    let letter = then_some _ (letter_of raw.letter) perm e in
    let stale = then_some _ (stale_of raw.flags) perm letter.2 in
    ap (λ p. p.domid) (sym (from_Some stale.2))

pub perms_told : (raws : List RawPerm) (perms : List Perm) → perms_of raws ≡ Some perms → AllByRecursion (λ raw. raw.domid < 2 ^ 16) raws → (length perms ≡ length raws) × AllByRecursion (λ perm. perm.domid < 2 ^ 16) perms
perms_told [] perms e h = subst (λ ps. (length ps ≡ 0) × AllByRecursion (λ perm. perm.domid < 2 ^ 16) ps) (from_Some e) (refl, tt)
perms_told (raw ∷ raws) perms e h =
    let first = then_some _ (perm_of raw) perms e in
    let others = then_some _ (perms_of raws) perms first.2 in
    let rest = perms_told raws others.0 others.1 h.1 in
    subst (λ ps. (length ps ≡ length (raw ∷ raws)) × AllByRecursion (λ perm. perm.domid < 2 ^ 16) ps) (from_Some others.2)
    (ap suc rest.0, (subst (λ n. n < 2 ^ 16) (sym (perm_domid raw first.0 first.1)) h.0, rest.1))

pub filled : {A B : Type 0} (xs : List A) (ys : List B) → is_empty xs ≡ false → length ys ≡ length xs → is_empty ys ≡ false
filled [] ys h e = not_both refl h
filled (x ∷ xs) [] h e = absurd (omega (arith, e))
filled (x ∷ xs) (y ∷ ys) h e = refl

pub some_entry : (perms : List Perm) → is_empty perms ≡ false → has_entry perms ≡ true
some_entry [] h = not_both refl h
some_entry (perm ∷ perms) h = refl

-- NODES that fit and have an entry, and what says of such ones
pub record NodeGood (node : Node) : Type 0 where
  pub fits : NodeFits node
  pub entry : has_entry node.perms ≡ true

abbrev pub FoundGood : Option Node → Type 0
FoundGood None = ⊤
FoundGood (Some node) = NodeGood node

abbrev pub MarkGood : Mark → Type 0
MarkGood Seen = ⊤
MarkGood (Changed old) = FoundGood old
MarkGood (Wrote others node) = NodeGood node
MarkGood (Gone others) = ⊤
MarkGood (Kept old) = FoundGood old

abbrev pub SaidGood : Said → Type 0
SaidGood (Is mark) = MarkGood mark
SaidGood (Saw found) = FoundGood found

module _ (d : NodeData) (numbers : NumbersFit (node_data d)) (lengths : LengthsFit (node_data d)) where
  pub node_fits : (perms : List Perm) → perms_of d.perms ≡ Some perms → NodeFits (record { value = d.value; perms = perms })
  node_fits perms e =
      let like = perms_told d.perms perms e numbers.3 in
      record { value = lengths.2; entries = subst (λ n. n < 2 ^ 16) (sym like.0) lengths.0; domids = like.1 }

  node_entry : (perms : List Perm) → perms_of d.perms ≡ Some perms → FoundGood (node_or_none d.value perms)
  node_entry [] e = tt
  node_entry (perm ∷ perms) e = record { fits = node_fits (perm ∷ perms) e; entry = refl }

  found_in-good : (found : Option Node) → found_in d ≡ Some found → FoundGood found
  found_in-good found e =
      let perms = map_some (node_or_none d.value) (perms_of d.perms) found e in
      subst FoundGood perms.2 (node_entry perms.0 perms.1)

  pub found_good : (access : Access) (found : Option Node) → found_by access d ≡ Some found → FoundGood found
  found_good (Looked others) found e = found_in-good found e
  found_good (Gave others) found e = found_in-good found e
  found_good (Removed others) found e = subst FoundGood (from_Some e) tt
  found_good Untouched found e = found_in-good found e

pub said_good : (access : Access) (found : Option Node) → FoundGood found → SaidGood (said_by access found)
said_good (Looked true) found h = h
said_good (Looked false) found h = h
said_good (Gave others) (Some node) h = h
said_good (Gave others) None h = tt
said_good (Removed others) found h = tt
said_good Untouched found h = h

-- PATHS
pub absolute_spelled : (bytes : List ℕ) (p : Path) → absolute_of bytes ≡ Some p → IsSpelled p
absolute_spelled bytes p e =
    let parts = some_if (is_absolute bytes) (ok_value (path_of bytes 0)) p e in
    spelled bytes p parts.0 (ok_from (path_of bytes 0) p parts.1)

pub has_parent : (tree : Tree) (p : Path) → not (list_all (is_present tree) (parents p)) ≡ false → HasParent tree p
has_parent tree p h q n e =
    let all : list_all (is_present tree) (parents p) ≡ true = by (list_all (is_present tree) (parents p)) h in
    let both : (is_present tree q && true) ≡ true = sym (ap (list_all (is_present tree)) (ap parents e ∙ parents-child q n)) ∙ all in
    (and_parts (is_present tree q) true both).0
  where
    by : (b : Bool) → not b ≡ false → b ≡ true
    by true k = refl
    by false k = not_both refl k

-- ENDS OF CONNECTIONS
target_fits : (number : ℕ) (target : Option ℕ) → target_of number ≡ Some target → IfSome target (λ d. d ≤ 32751)
target_fits number target e =
    (elim (nat_le number 32751) as (λ b. nat_le number 32751 ≡ b → cond b (Some (Some number)) (cond (number == 32756) (Some None) None) ≡ Some target → IfSome target (λ d. d ≤ 32751)) [
      | true ↦ λ t g. subst (λ o. IfSome o (λ d. d ≤ 32751)) (from_Some g) (leb-true number 32751 t)
      | false ↦ λ t g. subst (λ o. IfSome o (λ d. d ≤ 32751)) (from_Some (some_if (number == 32756) (Some None) target g).1) tt
    ]) refl e

ring_fits : (domid evtchn : ℕ) (o : Option (Option ℕ)) (spec : ConnSpec) → evtchn < 2 ^ 32 → ((target : Option ℕ) → o ≡ Some target → IfSome target (λ d. d ≤ 32751)) → ring_spec domid evtchn o ≡ Some spec → SpecFits spec
ring_fits domid evtchn None spec lt to e = not_Some e
ring_fits domid evtchn (Some target) spec lt to e =
    let parts = when_some (nat_le domid 32751) (Ring domid target evtchn) spec e in
    let fits : SpecFits (Ring domid target evtchn) = (leb-true domid 32751 parts.0, to target refl, lt) in
    subst SpecFits parts.1 fits

pub spec_fits : (kind : ℕ) (bytes : List ℕ) (spec : ConnSpec) → AreBytes bytes → spec_of kind bytes ≡ Some spec → SpecFits spec
spec_fits kind bytes spec h e =
    (elim (kind == 0) as (λ b. cond b (ring_spec (u16_at 0 bytes) (u32_at 4 bytes) (target_of (u16_at 2 bytes))) (cond (kind == 1) (Some (Socket (u32_at 0 bytes))) None) ≡ Some spec → SpecFits spec) [
      | true ↦ λ g. ring_fits (u16_at 0 bytes) (u32_at 4 bytes) (target_of (u16_at 2 bytes)) spec (u32_at-lt 4 bytes h) (target_fits (u16_at 2 bytes)) g
      | false ↦ λ g. socket (from_Some (some_if (kind == 1) (Some (Socket (u32_at 0 bytes))) spec g).1)
    ]) e
  where
    socket : Socket (u32_at 0 bytes) ≡ spec → SpecFits spec
    socket s = let fits : SpecFits (Socket (u32_at 0 bytes)) = u32_at-lt 0 bytes h in subst SpecFits s fits

-- WATCHES. That two are the same either way round belongs to `xs_model` by its nature
same_tests : (x y : Bool) → (x ≡ true → y ≡ true) → (y ≡ true → x ≡ true) → x ≡ y
same_tests true y to from = sym (to refl)
same_tests false true to from = from refl
same_tests false false to from = refl

bytes_turned : (a b : List ℕ) → bytes_eq a b ≡ bytes_eq b a
bytes_turned a b = same_tests (bytes_eq a b) (bytes_eq b a) (λ e. (bytes_decides b a).1 (sym ((bytes_decides a b).0 e))) (λ e. (bytes_decides a b).1 (sym ((bytes_decides b a).0 e)))

watch_turned : (v w : Watch) → same_watch v w ≡ same_watch w v
watch_turned v w = λ i. bytes_turned v.wpath w.wpath i && bytes_turned v.token w.token i

none_behind : {A : Type 0} (test : A → Bool) (xs : List A) (y : A) → list_any test xs ≡ false → test y ≡ false → list_any test (xs ++ y ∷ []) ≡ false
none_behind test [] y h t = or_from (test y) false t refl
none_behind test (x ∷ xs) y h t = let parts = or_parts (test x) (list_any test xs) h in or_from (test x) (list_any test (xs ++ y ∷ [])) parts.0 (none_behind test xs y parts.1 t)

-- one more watch, behind the others
pub watches_push : (domid : ℕ) (ws : List Watch) (w : Watch) → AreWatches domid ws → is_watch_path w.wpath domid ≡ true → is_token w.token ≡ true → has_nul w.token ≡ false → list_any (same_watch w) ws ≡ false → AreWatches domid (ws ++ w ∷ [])
watches_push domid [] w h path token plain others = (path, token, plain, refl, tt)
watches_push domid (v ∷ ws) w h path token plain others =
    let parts = or_parts (same_watch w v) (list_any (same_watch w) ws) others in
    (h.0, h.1, h.2, none_behind (same_watch v) ws w h.3 (watch_turned v w ∙ parts.0), watches_push domid ws w h.4 path token plain parts.1)
