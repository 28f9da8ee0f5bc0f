-- The fields of records tell what they were made of: specs, entries, nodes, numbers and accesses.
use Rattle.std.specs.Prelude.{◌≡◌, ℕ, ◌+◌, ◌*◌, ◌/◌, ◌%◌, ◌^◌, ◌<◌, ◌≤◌, ◌==◌, Bool, true, false, cond, not, ◌&&◌, List, [], ◌∷◌, ◌++◌, length, map, Option, Some, None, option_map, option_and_then, IfSome}
use Rattle.std.specs.Str.{bytes_eq}
use Rattle.std.specs.Cmp.Lexicographic.{bytes_decides}
use Rattle.std.proofs.Common.{sym, refl, ap, ◌∙◌, arith, append_assoc, append-nil, length-append, drop_at, mod-lt, div-lt_iff_lt-mul}
use Rattle.std.proofs.Math.Nat.{mod-add-div}
use Rattle.std.proofs.lemmas.Bool.{le-leb, eq-eqb, and_from, and_left}
use Rattle.xs_model.specs.declared.perm.Letter.{Letter}
use Rattle.xs_model.specs.declared.perm.Letter.TheVariants.{N, R, W, B}
use Rattle.xs_model.specs.declared.perm.Perm.{Perm}
use Rattle.xs_model.specs.Paths.{Path, text}
use Rattle.xs_model.specs.Messages.{string}
use Rattle.xs_model.specs.Trees.{Node, Tree, has_entry, node_at}
use Rattle.xs_model.specs.Generations.{generation_max}
use Rattle.xs_model.proofs.Maps.{not_both}
use Rattle.machine_model.specs.declared.ConnSpec.{ConnSpec}
use Rattle.machine_model.specs.declared.ConnSpec.TheVariants.{Ring, Socket}
use Rattle.mark_model.specs.Marks.{Mark, Seen, Changed, Wrote, Gone, Kept}
use Rattle.stream_model.specs.Fields.{u16_bytes, u32_bytes, u16_at, u32_at}
use Rattle.stream_model.specs.Record.{NodeData, node_data}
use Rattle.stream_model.proofs.FieldLemmas.{length-u16_bytes, length-u32_bytes, u16_at-u16_bytes, u32_at-u32_bytes, u16_at-drop, u32_at-drop}
use Rattle.kept_model.specs.Said.{Said, Is, Saw, is_empty, perm_of, raw_of, perms_of, Access, Looked, Gave, Removed, Untouched, access_of, node_or_none, found_in, found_by, lacks_entries, said_by}
use Rattle.kept_model.specs.Loading.{target_of, ring_spec, spec_of}
use Rattle.kept_model.specs.Normal.{same_perm, same_perms, same_found}
use Rattle.kept_model.specs.Images.{target_number, kind_number, spec_bytes, perms_in, value_in, access_number, mark_record}
use Rattle.kept_model.specs.Sound.{SpecFits}

-- SPECS
target_again : (target : Option ℕ) → IfSome target (λ d. d ≤ 32751) → target_of (target_number target) ≡ Some target
target_again None h = refl
target_again (Some d) h = ap (λ b. cond b (Some (Some d)) (cond (d == 32756) (Some None) None)) (le-leb d 32751 h)

target_small : (target : Option ℕ) → IfSome target (λ d. d ≤ 32751) → target_number target < 2 ^ 16
target_small None h = omega arith
target_small (Some d) h = omega arith

module _ (domid t evtchn : ℕ) where
  abbrev ring_bytes : List ℕ
  ring_bytes = u16_bytes domid ++ (u16_bytes t ++ u32_bytes evtchn)

  ring_domid : domid < 2 ^ 16 → u16_at 0 ring_bytes ≡ domid
  ring_domid h = u16_at-u16_bytes domid (u16_bytes t ++ u32_bytes evtchn) h

  ring_target : t < 2 ^ 16 → u16_at 2 ring_bytes ≡ t
  ring_target h =
      u16_at-drop 2 ring_bytes
      ∙ ap (u16_at 0) (drop_at (u16_bytes domid) (u16_bytes t ++ u32_bytes evtchn) 2 (length-u16_bytes domid))
      ∙ u16_at-u16_bytes t (u32_bytes evtchn) h

  front : length (u16_bytes domid ++ u16_bytes t) ≡ 4
  front = omega (arith, length-append (u16_bytes domid) (u16_bytes t), length-u16_bytes domid, length-u16_bytes t)

  ring_evtchn : evtchn < 2 ^ 32 → u32_at 4 ring_bytes ≡ evtchn
  ring_evtchn h =
      ap (u32_at 4) (sym (append_assoc (u16_bytes domid) (u16_bytes t) (u32_bytes evtchn)))
      ∙ u32_at-drop 4 ((u16_bytes domid ++ u16_bytes t) ++ u32_bytes evtchn)
      ∙ ap (u32_at 0) (drop_at (u16_bytes domid ++ u16_bytes t) (u32_bytes evtchn) 4 front ∙ sym (append-nil (u32_bytes evtchn)))
      ∙ u32_at-u32_bytes evtchn [] h

pub spec_again : (spec : ConnSpec) → SpecFits spec → spec_of (kind_number spec) (spec_bytes spec) ≡ Some spec
spec_again (Ring domid target evtchn) h =
    let t = target_number target in
    (λ i. ring_spec (ring_domid domid t evtchn (omega (arith, h.0)) i) (ring_evtchn domid t evtchn h.2 i) (target_of (ring_target domid t evtchn (target_small target h.1) i)))
    ∙ ap (ring_spec domid evtchn) (target_again target h.1)
    ∙ ap (λ b. cond b (Some (Ring domid target evtchn)) None) (le-leb domid 32751 h.0)
spec_again (Socket fd) h = ap (λ n. Some (Socket n)) (u32_at-u32_bytes fd (u32_bytes 0) h)

pub spec_length : (spec : ConnSpec) → length (spec_bytes spec) ≡ 8
spec_length (Ring domid target evtchn) =
    let t = target_number target in
    omega (arith, length-append (u16_bytes domid) (u16_bytes t ++ u32_bytes evtchn), length-append (u16_bytes t) (u32_bytes evtchn), length-u16_bytes domid, length-u16_bytes t, length-u32_bytes evtchn)
spec_length (Socket fd) = omega (arith, length-append (u32_bytes fd) (u32_bytes 0), length-u32_bytes fd, length-u32_bytes 0)

pub kind_small : (spec : ConnSpec) → kind_number spec < 2 ^ 16
kind_small (Ring domid target evtchn) = omega arith
kind_small (Socket fd) = omega arith

-- ENTRIES
perm_by : (l : Letter) (s : Bool) (d : ℕ) → perm_of (raw_of (record { letter = l; stale = s; domid = d })) ≡ Some (record { letter = l; stale = s; domid = d })
perm_by N true d = refl
perm_by N false d = refl
perm_by R true d = refl
perm_by R false d = refl
perm_by W true d = refl
perm_by W false d = refl
perm_by B true d = refl
perm_by B false d = refl

perms_again : (ps : List Perm) → perms_of (map raw_of ps) ≡ Some ps
perms_again [] = refl
perms_again (p ∷ ps) =
    ap (option_and_then (λ (perm : Perm). option_and_then (λ (perms : List Perm). Some (perm ∷ perms)) (perms_of (map raw_of ps)))) (perm_by p.letter p.stale p.domid)
    ∙ ap (option_and_then (λ (perms : List Perm). Some (p ∷ perms))) (perms_again ps)

pub perms_told : (node : Node) → perms_of (map raw_of node.perms) ≡ Some node.perms
perms_told node = perms_again node.perms

pub filled : (ps : List Perm) → has_entry ps ≡ true → is_empty (map raw_of ps) ≡ false
filled [] h = not_both h refl
filled (p ∷ ps) h = refl

-- whether a node, or none, is itself
perm_same : (l : Letter) (s : Bool) (d : ℕ) → same_perm (record { letter = l; stale = s; domid = d }) (record { letter = l; stale = s; domid = d }) ≡ true
perm_same N true d = eq-eqb d d refl
perm_same N false d = eq-eqb d d refl
perm_same R true d = eq-eqb d d refl
perm_same R false d = eq-eqb d d refl
perm_same W true d = eq-eqb d d refl
perm_same W false d = eq-eqb d d refl
perm_same B true d = eq-eqb d d refl
perm_same B false d = eq-eqb d d refl

perms_same : (ps : List Perm) → same_perms ps ps ≡ true
perms_same [] = refl
perms_same (p ∷ ps) = and_from (same_perm p p) (same_perms ps ps) (perm_same p.letter p.stale p.domid) (perms_same ps)

pub found_same : (found : Option Node) → same_found found found ≡ true
found_same None = refl
found_same (Some n) = and_from (bytes_eq n.value n.value) (same_perms n.perms n.perms) ((bytes_decides n.value n.value).1 refl) (perms_same n.perms)

-- NUMBERS of nodes are in two parts
pub number_again : (n : ℕ) → n % 2 ^ 32 + 2 ^ 32 * (n / 2 ^ 32) ≡ n
number_again n = mod-add-div n (2 ^ 32)

pub low_small : (n : ℕ) → n % 2 ^ 32 < 2 ^ 32
low_small n = mod-lt n (omega arith)

pub high_small : (n : ℕ) → n ≤ generation_max → n / 2 ^ 32 < 2 ^ 16
high_small n h = (div-lt_iff_lt-mul (omega arith)).1 (omega arith)

-- WHAT IS SAID of a path: a mark, or the node that was looked at and that still stands there
abbrev pub said_mark : Tree → Path → Mark → Said
said_mark tree p Seen = Saw (node_at tree p)
said_mark tree p (Changed old) = Is (Changed old)
said_mark tree p (Wrote others node) = Is (Wrote others node)
said_mark tree p (Gone others) = Is (Gone others)
said_mark tree p (Kept old) = Is (Kept old)

-- the nodes that a mark tells of have entries
abbrev pub HasEntries : Option Node → Type 0
HasEntries found = IfSome found (λ node. has_entry node.perms ≡ true)

abbrev pub MarkHasEntries : Tree → Path → Mark → Type 0
MarkHasEntries tree p Seen = HasEntries (node_at tree p)
MarkHasEntries tree p (Changed old) = HasEntries old
MarkHasEntries tree p (Wrote others node) = has_entry node.perms ≡ true
MarkHasEntries tree p (Gone others) = Unit {0}
MarkHasEntries tree p (Kept old) = HasEntries old

abbrev pub found_data : ℕ → ℕ → ℕ → Path → Option Node → NodeData
found_data c tx number p found = record {
  conn = c;
  tx = tx;
  access = number;
  perms = map raw_of (perms_in found);
  path = string (text p);
  value = value_in found;
}

-- the record of a mark, with what is read of it
pub record IsTold (tree : Tree) (c tx : ℕ) (p : Path) (mark : Mark) : Type 0 where
  pub number : ℕ
  pub found : Option Node
  pub is : mark_record tree c tx p mark ≡ node_data (found_data c tx number p found)
  pub access : Access
  pub known : access_of number ≡ Some access
  pub entries : lacks_entries access (found_data c tx number p found) ≡ false
  pub read : Option Node
  pub node : found_by access (found_data c tx number p found) ≡ Some read
  pub said : said_by access read ≡ said_mark tree p mark

node_by : (value : List ℕ) (perms : List Perm) → has_entry perms ≡ true → node_or_none value perms ≡ Some (record { value = value; perms = perms })
node_by value [] h = not_both h refl
node_by value (perm ∷ perms) h = refl

module _ (c tx number : ℕ) (p : Path) where
  found_again : (found : Option Node) → HasEntries found → found_in (found_data c tx number p found) ≡ Some found
  found_again None h = refl
  found_again (Some node) h = ap (option_map (node_or_none node.value)) (perms_again node.perms) ∙ ap (λ o. Some o) (node_by node.value node.perms h)

  nothing_lacks : (found : Option Node) → HasEntries found → (is_empty (found_data c tx number p found).perms && not (is_empty (found_data c tx number p found).value)) ≡ false
  nothing_lacks None h = refl
  nothing_lacks (Some node) h = and_left _ _ (filled node.perms h)

wrote_access : (others : Bool) → access_of (access_number others 2) ≡ Some (Gave others)
wrote_access true = refl
wrote_access false = refl

gone_access : (others : Bool) → access_of (access_number others 0) ≡ Some (Removed others)
gone_access true = refl
gone_access false = refl

pub told : (tree : Tree) (c tx : ℕ) (p : Path) (mark : Mark) → MarkHasEntries tree p mark → IsTold tree c tx p mark
told tree c tx p Seen h = record {
  number = 1;
  found = node_at tree p;
  is = refl;
  access = Looked false;
  known = refl;
  entries = nothing_lacks c tx 1 p (node_at tree p) h;
  read = node_at tree p;
  node = found_again c tx 1 p (node_at tree p) h;
  said = refl;
}
told tree c tx p (Changed old) h = record {
  number = 32769;
  found = old;
  is = refl;
  access = Looked true;
  known = refl;
  entries = nothing_lacks c tx 32769 p old h;
  read = old;
  node = found_again c tx 32769 p old h;
  said = refl;
}
told tree c tx p (Wrote others node) h = record {
  number = access_number others 2;
  found = Some node;
  is = refl;
  access = Gave others;
  known = wrote_access others;
  entries = filled node.perms h;
  read = Some node;
  node = found_again c tx (access_number others 2) p (Some node) h;
  said = refl;
}
told tree c tx p (Gone others) h = record {
  number = access_number others 0;
  found = None;
  is = refl;
  access = Removed others;
  known = gone_access others;
  entries = refl;
  read = None;
  node = refl;
  said = refl;
}
told tree c tx p (Kept old) h = record {
  number = 49152;
  found = old;
  is = refl;
  access = Untouched;
  known = refl;
  entries = nothing_lacks c tx 49152 p old h;
  read = old;
  node = found_again c tx 49152 p old h;
  said = refl;
}
