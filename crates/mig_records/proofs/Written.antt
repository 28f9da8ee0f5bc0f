-- What a writer has written so far, one item on.
use Rattle.std.proofs.Common.{◌≡◌, ℕ, zero, suc, ◌+◌, ◌-◌, ◌<◌, ◌≤◌, List, [], ◌∷◌, ◌++◌, length, take, replicate, get_or, refl, sym, ap, subst, ◌∙◌, append_assoc, arith, rules}
use Rattle.std.specs.List.{concat, flat_map, AllByRecursion}
use Rattle.std.proofs.lemmas.List.{take_all, take_more, flat_map_more}
use Rattle.stream_model.specs.Fields.{u16_bytes, u32_bytes}
use Rattle.stream_model.specs.Record.{StreamRecord, type_of}
use Rattle.stream_model.specs.Spelling.{header, type_number, fields, whole_size, written_behind, written_len, canonical_record, NumbersFit, LengthsFit, IsStream, EndsOnce}
use Rattle.stream_model.proofs.CanonicalIsStream.{canonical_is_stream}
use Rattle.mig_records.specs.declared.record.Record.{Record}
use Rattle.mig_records.specs.RecordView.{record_of, records_of}

-- what holds of each of some items and of one more
pub all_push : {X : Type 0} (P : X → Type 0) (xs : List X) (y : X) → AllByRecursion P xs → P y → AllByRecursion P (xs ++ y ∷ [])
all_push P [] y all one = (one, tt)
all_push P (x ∷ xs) y all one = (all.0, all_push P xs y all.1 one)

pub all_more : {X : Type 0} (P : X → Type 0) (xs : List X) (i : ℕ) (d : X) → i < length xs → AllByRecursion P (take i xs) → P (get_or xs i d) → AllByRecursion P (take (i + 1) xs)
all_more P xs i d lt all one = rw (take_more xs i d lt) (all_push P (take i xs) (get_or xs i d) all one)

-- the texts of some items and of one more
pub text_more : {X : Type 0} (text : X → List ℕ) (before out now : List ℕ) (xs : List X) (i : ℕ) (d : X) → i < length xs
    → out ≡ before ++ flat_map text (take i xs) → now ≡ out ++ text (get_or xs i d) → now ≡ before ++ flat_map text (take (i + 1) xs)
text_more text before out now xs i d lt so_far more =
    more ∙ ap (λ (x : List ℕ). x ++ text (get_or xs i d)) so_far ∙ flat_map_more text before (take i xs) (get_or xs i d) ∙ ap (λ (x : List _). before ++ flat_map text x) (sym (take_more xs i d lt))

-- ---- records

-- what holds of each record holds of the one at a place
pub all_at : (P : StreamRecord → Type 0) (records : List Record) (i : ℕ) (d : Record) → i < length records → AllByRecursion P (records_of records) → P (record_of (get_or records i d))
all_at P [] i d lt all = absurd (omega arith)
all_at P (r ∷ records) zero d lt all = all.0
all_at P (r ∷ records) (suc i) d lt all = all_at P records i d (omega arith) all.1

-- all are written
pub is_written : (out : List ℕ) (records : List Record) (i : ℕ) → length records ≤ i → EndsOnce (records_of records) → AllByRecursion LengthsFit (records_of records)
    → out ≡ header ++ flat_map canonical_record (records_of (take i records)) → AllByRecursion NumbersFit (records_of (take i records)) → IsStream out (records_of records)
is_written out records i le ends lengths text fit =
    let whole : take i records ≡ records = take_all i records le in
    let numbers = rw whole at fit in
    let all = rw whole at text in
    subst (λ (x : List ℕ). IsStream x (records_of records)) (sym all) (canonical_is_stream (records_of records) (record { ends = ends; numbers = numbers; lengths = lengths }))

-- ---- the text of one record: its head, its fields and its padding, one behind the other

regrouped : (before kind len parts more padding : List ℕ)
    → before ++ (kind ++ len) ++ (parts ++ more) ++ padding ≡ before ++ (kind ++ (len ++ (parts ++ (more ++ (padding ++ [])))))
regrouped before kind len parts more padding = search (rules, append_assoc)

joined : (before kind len parts more padding a b c : List ℕ) → a ≡ before ++ (kind ++ len) → b ≡ a ++ (parts ++ more) → c ≡ b ++ padding
    → c ≡ before ++ (kind ++ (len ++ (parts ++ (more ++ (padding ++ [])))))
joined before kind len parts more padding a b c head body last =
    last ∙ ap (λ (x : List ℕ). x ++ padding) (body ∙ ap (λ (x : List ℕ). x ++ (parts ++ more)) head) ∙ regrouped before kind len parts more padding

pub is_record : (r : StreamRecord) (len : ℕ) (before a b c : List ℕ) → written_len r ≡ len
    → a ≡ before ++ (u32_bytes (type_number (type_of r)) ++ u32_bytes len)
    → b ≡ a ++ (concat (fields (u16_bytes 0) r) ++ written_behind r)
    → c ≡ b ++ replicate (whole_size len - (8 + len)) 0
    → c ≡ before ++ canonical_record r
is_record r len before a b c eq =
    subst (λ (n : ℕ). a ≡ before ++ (u32_bytes (type_number (type_of r)) ++ u32_bytes n) → b ≡ a ++ (concat (fields (u16_bytes 0) r) ++ written_behind r) → c ≡ b ++ replicate (whole_size n - (8 + n)) 0 → c ≡ before ++ canonical_record r)
    eq (joined before (u32_bytes (type_number (type_of r))) (u32_bytes (written_len r)) (concat (fields (u16_bytes 0) r)) (written_behind r) (replicate (whole_size (written_len r) - (8 + written_len r)) 0) a b c)
