-- The records of a sound state can be written.
use Rattle.std.specs.Prelude.{◌≡◌, ℕ, zero, suc, ◌/◌, ◌%◌, ◌^◌, ◌<◌, ◌≤◌, Bool, true, false, List, [], ◌∷◌, ◌++◌, length, map, nat_lt, Option, Some, None, MatchBool}
use Rattle.std.specs.List.{AllByRecursion, flat_map}
use Rattle.std.specs.FinMap.{find}
use Rattle.std.proofs.Common.{sym, refl, subst, arith, length-append, ltb-false}
use Rattle.std.proofs.lemmas.Bool.{not-true}
use Rattle.xs_model.specs.declared.perm.Perm.{Perm}
use Rattle.xs_model.specs.Paths.{Path, path_cmp, text}
use Rattle.xs_model.specs.Trees.{Node, Tree, node_at}
use Rattle.xs_model.specs.Generations.{Generations, generation_of, generation_max, or_zero}
use Rattle.xs_model.specs.Messages.{string}
use Rattle.xs_model.specs.Requests.{is_watch_path, is_token}
use Rattle.xs_model.specs.Watches.{Watch}
use Rattle.xs_model.specs.Wholes.{whole_behind}
use Rattle.xs_model.proofs.Maps.{not_both, all_found, length_map}
use Rattle.xs_model.proofs.LengthLemmas.{spelled-short, watch_path-short}
use Rattle.machine_model.proofs.Lists.{all_append, all_map_of, all_weaker}
use Rattle.mark_model.specs.Marks.{Mark, Seen, Changed, Wrote, Gone, Kept}
use Rattle.machine_model.specs.declared.bounds.TheConstants.{CROWD_LIMIT}
use Rattle.machine_model.specs.Connections.{caller_of}
use Rattle.stream_model.specs.Record.{StreamRecord, end_record, is_end}
use Rattle.stream_model.specs.Spelling.{NumbersFit, LengthsFit, EndsOnce, AreWritable}
use Rattle.kept_model.specs.States.{State, TransactionOf, ConnectionOf}
use Rattle.kept_model.specs.Said.{raw_of}
use Rattle.kept_model.specs.Sound.{IsSound, IsSpelled, NodeFits, FoundFits, MarkFits, NodesFit, AreWatches}
use Rattle.kept_model.specs.Images.{access_number, connection_record, watch_record, transaction_record, found_record, node_record, mark_record, globals_record, watch_records, transaction_records, mark_records, records_of}
use Rattle.kept_model.proofs.SaveFields.{spec_length, kind_small, low_small, high_small}
use Rattle.kept_model.proofs.SaveSound.{TransactionFits, ConnectionFits, all_fit}

-- a record that is not the last one, and that can be written
pub record IsPlain (r : StreamRecord) : Type 0 where
  pub goes_on : is_end r ≡ false
  pub numbers : NumbersFit r
  pub lengths : LengthsFit r

-- ROWS OF RECORDS
after : (rs more : List StreamRecord) → AllByRecursion IsPlain rs → AreWritable more → AreWritable (rs ++ more)
after [] more h w = w
after (r ∷ rs) more h w =
    let rest = after rs more h.1 w in
    record {
      ends = subst (λ b. MatchBool b (rs ++ more ≡ []) (EndsOnce (rs ++ more))) (sym h.0.goes_on) rest.ends;
      numbers = (h.0.numbers, rest.numbers);
      lengths = (h.0.lengths, rest.lengths);
    }

last : AreWritable (end_record ∷ [])
last = record { ends = refl; numbers = (tt, tt); lengths = (tt, tt) }

all_flat : {X Y : Type 0} (P : Y → Type 0) (f : X → List Y) (xs : List X) → AllByRecursion (λ x. AllByRecursion P (f x)) xs → AllByRecursion P (flat_map f xs)
all_flat P f [] h = tt
all_flat P f (x ∷ xs) h = all_append P (f x) (flat_map f xs) h.0 (all_flat P f xs h.1)

-- NODES
raws_fit : (ps : List Perm) → AllByRecursion (λ p. p.domid < 2 ^ 16) ps → AllByRecursion (λ p. p.domid < 2 ^ 16) (map raw_of ps)
raws_fit [] h = tt
raws_fit (p ∷ ps) h = (h.0, raws_fit ps h.1)

path_small : (p : Path) → IsSpelled p → length (string (text p)) < 2 ^ 16
path_small p e = omega (arith, length-append (text p) (0 ∷ []), spelled-short (text p) 0 p e)

found_plain : (c tx number : ℕ) (p : Path) (found : Option Node) → c < 2 ^ 32 → tx < 2 ^ 32 → number < 2 ^ 16 → IsSpelled p → FoundFits found → IsPlain (found_record c tx number p found)
found_plain c tx number p None h i j e fits = record {
  goes_on = refl;
  numbers = (h, i, j, tt);
  lengths = (omega arith, path_small p e, omega arith);
}
found_plain c tx number p (Some node) h i j e fits = record {
  goes_on = refl;
  numbers = (h, i, j, raws_fit node.perms fits.domids);
  lengths = (subst (λ n. n < 2 ^ 16) (sym (length_map raw_of node.perms)) fits.entries, path_small p e, fits.value);
}

small_numbers : (gens : Generations) → AllByRecursion (λ e. e.1 ≤ generation_max) gens → (p : Path) (o : Option ℕ) → find path_cmp p gens ≡ o → or_zero o ≤ generation_max
small_numbers gens h p None e = omega arith
small_numbers gens h p (Some n) e = all_found path_cmp (λ m. m ≤ generation_max) p gens n h e

node_plain : (gens : Generations) → AllByRecursion (λ e. e.1 ≤ generation_max) gens → (e : Path × Node) → IsSpelled e.0 × NodeFits e.1 → IsPlain (node_record gens e.0 e.1)
node_plain gens h e fits =
    let n = generation_of gens e.0 in
    found_plain 0 (n % 2 ^ 32) (n / 2 ^ 32) e.0 (Some e.1) (omega arith) (low_small n) (high_small n (small_numbers gens h e.0 (find path_cmp e.0 gens) refl)) fits.0 fits.1

-- MARKS
fits_there : (tree : Tree) → NodesFit tree → (p : Path) (o : Option Node) → node_at tree p ≡ o → FoundFits o
fits_there tree h p None e = tt
fits_there tree h p (Some node) e = all_found path_cmp NodeFits p tree node (all_weaker (λ f. IsSpelled f.0 × NodeFits f.1) (λ f. NodeFits f.1) (λ f g. g.1) tree h) e

access_small : (others : Bool) (low : ℕ) → low ≤ 3 → access_number others low < 2 ^ 16
access_small true low h = omega arith
access_small false low h = omega arith

mark_plain : (tree : Tree) → NodesFit tree → (c tx : ℕ) → c < 2 ^ 32 → tx < 2 ^ 32 → (p : Path) (mark : Mark) → IsSpelled p → MarkFits mark → IsPlain (mark_record tree c tx p mark)
mark_plain tree h c tx i j p Seen e fits = found_plain c tx 1 p (node_at tree p) i j (omega arith) e (fits_there tree h p (node_at tree p) refl)
mark_plain tree h c tx i j p (Changed old) e fits = found_plain c tx 32769 p old i j (omega arith) e fits
mark_plain tree h c tx i j p (Wrote others node) e fits = found_plain c tx (access_number others 2) p (Some node) i j (access_small others 2 (omega arith)) e fits
mark_plain tree h c tx i j p (Gone others) e fits = found_plain c tx (access_number others 0) p None i j (access_small others 0 (omega arith)) e tt
mark_plain tree h c tx i j p (Kept old) e fits = found_plain c tx 49152 p old i j (omega arith) e fits

-- CONNECTIONS
rest_within : (n : ℕ) (bytes : List ℕ) → whole_behind n bytes ≡ true → n ≤ length bytes
rest_within zero bytes h = omega arith
rest_within (suc n) [] h = not_both h refl
rest_within (suc n) (b ∷ bs) h = omega (arith, rest_within n bs h)

crowd : CROWD_LIMIT ≤ 16777216
crowd = omega arith

module _ (tree : Tree) where
  connection_plain : (e : ℕ × ConnectionOf Mark) → ConnectionFits tree e → IsPlain (connection_record e.0 e.1)
  connection_plain e h = record {
    goes_on = refl;
    numbers = (h.small, kind_small e.1.spec, spec_length e.1.spec, omega (arith, rest_within e.1.rest e.1.unsent h.bytes.whole, h.bytes.unsent, crowd));
    lengths = omega (arith, h.bytes.inbox, h.bytes.unsent, crowd);
  }

  watch_plain : (c domid : ℕ) (w : Watch) → c < 2 ^ 32 → is_watch_path w.wpath domid ≡ true → is_token w.token ≡ true → IsPlain (watch_record c w)
  watch_plain c domid w h path token = record {
    goes_on = refl;
    numbers = h;
    lengths = (omega (arith, length-append w.wpath (0 ∷ []), watch_path-short w.wpath domid path), omega (arith, length-append w.token (0 ∷ []), ltb-false 1022 (length w.token) (not-true (nat_lt 1022 (length w.token)) token)));
  }

  watches_plain : (c domid : ℕ) → c < 2 ^ 32 → (ws : List Watch) → AreWatches domid ws → AllByRecursion IsPlain (map (watch_record c) ws)
  watches_plain c domid h [] are = tt
  watches_plain c domid h (w ∷ ws) are = (watch_plain c domid w h are.0 are.1, watches_plain c domid h ws are.4)

  transaction_plain : (c : ℕ) → c < 2 ^ 32 → (e : ℕ × TransactionOf Mark) → TransactionFits tree e → IsPlain (transaction_record c e.0 e.1)
  transaction_plain c h e fits = record { goes_on = refl; numbers = (h, fits.small, omega (arith, fits.count)); lengths = tt }

  transactions_plain : (e : ℕ × ConnectionOf Mark) → ConnectionFits tree e → AllByRecursion IsPlain (transaction_records e.0 e.1)
  transactions_plain e h =
      all_map_of IsPlain (λ f. transaction_record e.0 f.0 f.1) e.1.opens
      (all_weaker (TransactionFits tree) (λ f. IsPlain (transaction_record e.0 f.0 f.1)) (transaction_plain e.0 h.small) e.1.opens h.opens)

  module _ (nodes : NodesFit tree) where
    marks_plain : (c : ℕ) → c < 2 ^ 32 → (e : ℕ × TransactionOf Mark) → TransactionFits tree e → AllByRecursion IsPlain (map (λ f. mark_record tree c e.0 f.0 f.1) e.1.marks)
    marks_plain c h e fits =
        all_map_of IsPlain (λ f. mark_record tree c e.0 f.0 f.1) e.1.marks
        (all_weaker (λ f. IsSpelled f.0 × MarkFits f.1) (λ f. IsPlain (mark_record tree c e.0 f.0 f.1)) (λ f g. mark_plain tree nodes c e.0 h fits.small f.0 f.1 g.0 g.1) e.1.marks fits.marks)

    all_marks_plain : (e : ℕ × ConnectionOf Mark) → ConnectionFits tree e → AllByRecursion IsPlain (mark_records tree e.0 e.1)
    all_marks_plain e h =
        all_flat IsPlain (λ f. map (λ g. mark_record tree e.0 f.0 g.0 g.1) f.1.marks) e.1.opens
        (all_weaker (TransactionFits tree) (λ f. AllByRecursion IsPlain (map (λ g. mark_record tree e.0 f.0 g.0 g.1) f.1.marks)) (marks_plain e.0 h.small) e.1.opens h.opens)

-- THE RECORDS OF A SOUND STATE
module _ (s : State) (sound : IsSound s) where
  over_conns : (f : ℕ × ConnectionOf Mark → List StreamRecord) → ((e : ℕ × ConnectionOf Mark) → ConnectionFits s.tree e → AllByRecursion IsPlain (f e)) → AllByRecursion IsPlain (flat_map f s.conns)
  over_conns f to = all_flat IsPlain f s.conns (all_weaker (ConnectionFits s.tree) (λ e. AllByRecursion IsPlain (f e)) to s.conns (all_fit s sound))

  globals_plain : IsPlain (globals_record s.globals)
  globals_plain = record { goes_on = refl; numbers = (sound.globals.rw_socket_fd, sound.globals.evtchn_fd); lengths = tt }

  conns_plain : AllByRecursion IsPlain (map (λ e. connection_record e.0 e.1) s.conns)
  conns_plain =
      all_map_of IsPlain (λ e. connection_record e.0 e.1) s.conns
      (all_weaker (ConnectionFits s.tree) (λ e. IsPlain (connection_record e.0 e.1)) (connection_plain s.tree) s.conns (all_fit s sound))

  nodes_plain : AllByRecursion IsPlain (map (λ e. node_record s.gens e.0 e.1) s.tree)
  nodes_plain =
      all_map_of IsPlain (λ e. node_record s.gens e.0 e.1) s.tree
      (all_weaker (λ e. IsSpelled e.0 × NodeFits e.1) (λ e. IsPlain (node_record s.gens e.0 e.1)) (node_plain s.gens sound.store.numbers.small) s.tree sound.store.nodes)

  pub writable : AreWritable (records_of s)
  writable =
      after (globals_record s.globals ∷ []) _ (globals_plain, tt)
      (after (map (λ e. connection_record e.0 e.1) s.conns) _ conns_plain
      (after (flat_map (λ e. watch_records e.0 e.1) s.conns) _ (over_conns (λ e. watch_records e.0 e.1) (λ e h. watches_plain s.tree e.0 (caller_of e.1.spec).domid h.small e.1.watches h.watches))
      (after (flat_map (λ e. transaction_records e.0 e.1) s.conns) _ (over_conns (λ e. transaction_records e.0 e.1) (transactions_plain s.tree))
      (after (map (λ e. node_record s.gens e.0 e.1) s.tree) _ nodes_plain
      (after (flat_map (λ e. mark_records s.tree e.0 e.1) s.conns) _ (over_conns (λ e. mark_records s.tree e.0 e.1) (all_marks_plain s.tree sound.store.nodes)) last)))))
