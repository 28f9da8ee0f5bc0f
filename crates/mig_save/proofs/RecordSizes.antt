-- How many bytes the written text of a record has, and of some records and one more.
use Rattle.std.proofs.Common.{◌≡◌, ℕ, zero, suc, ◌+◌, ◌*◌, ◌^◌, ◌<◌, List, [], ◌∷◌, ◌++◌, length, take, drop, get_or, Option, Some, None, sym, refl, ap, ◌∙◌, arith, length-append}
use Rattle.std.specs.Prelude.{slice_get}
use Rattle.std.specs.List.{concat, flat_map, AllByRecursion}
use Rattle.std.specs.Option.{option_map}
use Rattle.std.proofs.lemmas.List.{length-replicate, take_more, flat_map_more}
use Rattle.xs_model.specs.Paths.{Path, text}
use Rattle.xs_model.specs.Trees.{Node, Tree}
use Rattle.xs_model.specs.Watches.{Watch}
use Rattle.xs_model.proofs.Maps.{length_map, from_Some, not_Some}
use Rattle.machine_model.specs.declared.Globals.{Globals}
use Rattle.mark_model.specs.Marks.{Mark, Seen, Changed, Wrote, Gone, Kept, Marks}
use Rattle.stream_model.specs.Fields.{u16_bytes}
use Rattle.stream_model.specs.Record.{StreamRecord, ConnectionData, TransactionData, connection_data, transaction_data, end_record}
use Rattle.stream_model.specs.Spelling.{need, fields, whole_size, written_len, canonical_record}
use Rattle.stream_model.proofs.FieldLemmas.{length-u16_bytes, length-u32_bytes, length-entries}
use Rattle.kept_model.specs.Said.{raw_of}
use Rattle.kept_model.specs.Sound.{FoundFits}
use Rattle.kept_model.specs.Images.{globals_record, value_in, perms_in, watch_record, found_record}
use Rattle.watch_table.specs.Tables.{Made, watches_in}
use Rattle.txn_access.specs.Entries.{Entry, entry_of}
use Rattle.conn_rows.specs.Rows.{Txns}
use Rattle.mig_save.specs.Told.{told_text}
use Rattle.mig_save.proofs.MadeWatches.{made_text, as_made}
use Rattle.mig_save.specs.Texts.{watches_text, transactions_text, mark_text, marks_text}

by_fields : (r : StreamRecord) (n : ℕ) → written_len r ≡ n → length (concat (fields (u16_bytes 0) r)) ≡ need r → length (canonical_record r) ≡ whole_size n
by_fields r n len is = plain ∙ ap whole_size len
  where
    plain : length (canonical_record r) ≡ whole_size (written_len r)
    plain = simp (length-append, length-u32_bytes, length-replicate) (omega arith)

pub globals_size : (globals : Globals) → length (canonical_record (globals_record globals)) ≡ 16
globals_size globals = by_fields (globals_record globals) 8 refl (simp (length-append, length-u32_bytes) refl)

pub end_size : length (canonical_record end_record) ≡ 8
end_size = by_fields end_record 0 refl refl

pub connection_size : (d : ConnectionData) → length d.spec ≡ 8 → length (canonical_record (connection_data d)) ≡ whole_size (28 + length d.inbox + length d.unsent)
connection_size d eight = by_fields (connection_data d) (28 + length d.inbox + length d.unsent) (omega arith) (simp (length-append, length-u32_bytes, length-u16_bytes) (omega arith))

pub watch_size : (c : ℕ) (w : Watch) → length (canonical_record (watch_record c w)) ≡ whole_size (8 + (length w.wpath + 1) + (length w.token + 1))
watch_size c w =
    by_fields (watch_record c w) (8 + (length w.wpath + 1) + (length w.token + 1)) (omega (arith, length-append w.wpath (0 ∷ []), length-append w.token (0 ∷ [])))
    (simp (length-append, length-u32_bytes, length-u16_bytes) (omega arith))

pub transaction_size : (t : TransactionData) → length (canonical_record (transaction_data t)) ≡ 24
transaction_size t = by_fields (transaction_data t) 12 (omega (arith, length-u32_bytes t.count)) (simp (length-append, length-u32_bytes) refl)

pub found_size : (c tx access : ℕ) (p : Path) (found : Option Node)
    → length (canonical_record (found_record c tx access p found)) ≡ whole_size (16 + 4 * length (perms_in found) + (length (text p) + 1) + length (value_in found))
found_size c tx access p found =
    by_fields (found_record c tx access p found) (16 + 4 * length (perms_in found) + (length (text p) + 1) + length (value_in found))
    (omega (arith, length-append (text p) (0 ∷ []), length_map raw_of (perms_in found)))
    (simp (length-append, length-u32_bytes, length-u16_bytes, length-entries) (omega arith))

pub perms_small : (found : Option Node) → FoundFits found → length (perms_in found) < 2 ^ 16
perms_small None fits = omega arith
perms_small (Some node) fits = fits.entries

pub value_small : (found : Option Node) → FoundFits found → length (value_in found) < 2 ^ 16
value_small None fits = omega arith
value_small (Some node) fits = fits.value

pub transactions_size : (c : ℕ) (txns : Txns) → length (transactions_text c txns) ≡ length txns * 24
transactions_size c [] = refl
transactions_size c (e ∷ txns) =
    let first : TransactionData = record { conn = c; tx = e.0; count = e.1.count } in
    omega (arith, length-append (canonical_record (transaction_data first)) (transactions_text c txns), transaction_size first, transactions_size c txns)

-- ONE MORE
pub all_at : {X : Type 0} (P : X → Type 0) (xs : List X) (i : ℕ) (d : X) → i < length xs → AllByRecursion P xs → P (get_or xs i d)
all_at P [] i d lt all = absurd (omega arith)
all_at P (x ∷ xs) zero d lt all = all.0
all_at P (x ∷ xs) (suc i) d lt all = all_at P xs i d (omega arith) all.1

pub size_more : {X : Type 0} (text : X → List ℕ) (before so_far now : ℕ) (xs : List X) (i : ℕ) (d : X) → i < length xs
    → so_far ≡ before + length (flat_map text (take i xs)) → now ≡ so_far + length (text (get_or xs i d)) → now ≡ before + length (flat_map text (take (i + 1) xs))
size_more text before so_far now xs i d lt was more =
    let grown : flat_map text (take (i + 1) xs) ≡ flat_map text (take i xs) ++ text (get_or xs i d) = ap (flat_map text) (take_more xs i d lt) ∙ sym (flat_map_more text [] (take i xs) (get_or xs i d)) in
    omega (arith, was, more, ap length grown, length-append (flat_map text (take i xs)) (text (get_or xs i d)))

module _ (c : ℕ) where
  pub watches_size_more : (before so_far now : ℕ) (made : List Made) (i : ℕ) (d : Made) → i < length made → so_far ≡ before + length (watches_text c (watches_in (take i made)))
      → now ≡ so_far + length (canonical_record (watch_record c (get_or made i d).watch)) → now ≡ before + length (watches_text c (watches_in (take (i + 1) made)))
  watches_size_more before so_far now made i d lt was more =
      size_more (made_text c) before so_far now made i d lt (was ∙ ap (λ (x : List ℕ). before + length x) (as_made c (take i made))) more
      ∙ ap (λ (x : List ℕ). before + length x) (sym (as_made c (take (i + 1) made)))

-- what is told of a mark is the mark
told_is_mark : (tree : Tree) (c tx : ℕ) (p : Path) (mark : Mark) → told_text tree c tx (entry_of (p, mark)) ≡ mark_text tree c tx (p, mark)
told_is_mark tree c tx p Seen = refl
told_is_mark tree c tx p (Changed old) = refl
told_is_mark tree c tx p (Wrote others node) = refl
told_is_mark tree c tx p (Gone others) = refl
told_is_mark tree c tx p (Kept old) = refl

pub marks_size_more : (tree : Tree) (c tx all so_far now : ℕ) (left new : Marks) (told : Entry) → Some told ≡ option_map entry_of (slice_get left 0) → new ≡ drop 1 left
    → now ≡ so_far + length (told_text tree c tx told) → so_far + length (marks_text tree c tx left) ≡ all → now + length (marks_text tree c tx new) ≡ all
marks_size_more tree c tx all so_far now [] new told is rest more was = not_Some (sym is)
marks_size_more tree c tx all so_far now (e ∷ left) new told is rest more was =
    let same : told_text tree c tx told ≡ mark_text tree c tx e = ap (told_text tree c tx) (from_Some is) ∙ told_is_mark tree c tx e.0 e.1 in
    omega (arith, more, was, ap length same, ap (λ (m : Marks). length (marks_text tree c tx m)) rest, length-append (mark_text tree c tx e) (marks_text tree c tx left))
