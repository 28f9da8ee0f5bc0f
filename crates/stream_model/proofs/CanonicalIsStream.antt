-- The canonical text of records is a stream of these.
use Rattle.std.proofs.Common.{◌≡◌, ℕ, ◌+◌, ◌-◌, ◌^◌, ◌<◌, ◌≤◌, Bool, true, false, ltb, List, [], ◌∷◌, ◌++◌, length, refl, sym, ap, ◌∙◌, arith}
use Rattle.std.specs.Prelude.{MatchBool}
use Rattle.std.specs.List.{flat_map, AllByRecursion}
use Rattle.std.proofs.lemmas.List.{append-nil, length-replicate}
use Rattle.stream_model.proofs.FieldLemmas.{length-u16_bytes, length-u32_bytes, u32_at-u32_bytes}
use Rattle.stream_model.specs.Fields.{u32_bytes, u32_at}
use Rattle.stream_model.specs.Record.{global_data, connection_data, watch_data, transaction_data, node_data, end_record, StreamRecord, is_end}
use Rattle.stream_model.specs.Spelling.{whole_size, spelling, Says, NumbersFit, LengthsFit, Fits, AreRecords, IsStream, written_behind, written_len, written_slack, canonical_record, canonical, EndsOnce, AreWritable}

-- what is written behind the fields says what it is written of
pub written_says : (r : StreamRecord) → NumbersFit r → Says (written_behind r) r
written_says (global_data g) fits = tt
written_says (connection_data c) fits = tt
written_says (watch_data w) fits = tt
written_says (transaction_data t) fits =
    let four : ltb (length (u32_bytes t.count)) 4 ≡ false = rw (length-u32_bytes t.count) refl in
    let there : u32_at 0 (u32_bytes t.count) ≡ t.count = ap (u32_at 0) (sym (append-nil (u32_bytes t.count))) ∙ u32_at-u32_bytes t.count [] fits.2 in
    rw (four, there) refl
written_says (node_data n) fits = tt
written_says end_record fits = tt

few_behind : (r : StreamRecord) → length (written_behind r) ≤ 4
few_behind (global_data g) = omega arith
few_behind (connection_data c) = omega arith
few_behind (watch_data w) = omega arith
few_behind (transaction_data t) = omega (arith, length-u32_bytes t.count)
few_behind (node_data n) = omega arith
few_behind end_record = omega arith

written_len-lt : (r : StreamRecord) → LengthsFit r → written_len r < 2 ^ 32
written_len-lt (global_data g) fits = omega arith
written_len-lt (connection_data c) fits = omega (arith, fits)
written_len-lt (watch_data w) fits = omega (arith, fits.0, fits.1)
written_len-lt (transaction_data t) fits = omega (arith, length-u32_bytes t.count)
written_len-lt (node_data n) fits = omega (arith, fits.0, fits.1, fits.2)
written_len-lt end_record fits = omega arith

pub written_slack_fits : (r : StreamRecord) → NumbersFit r → LengthsFit r → Fits (written_slack r) r
written_slack_fits r numbers lengths = record {
  numbers = numbers;
  lengths = lengths;
  pad = length-u16_bytes 0;
  more = omega (arith, few_behind r);
  says = written_says r numbers;
  body = written_len-lt r lengths;
  padding = omega (arith, length-replicate {A = ℕ} (whole_size (written_len r) - (8 + written_len r)) 0);
}

spelled_alone : (r : StreamRecord) (rs : List StreamRecord) (b : Bool) → is_end r ≡ b → MatchBool b (rs ≡ []) (EndsOnce rs) → NumbersFit r → LengthsFit r
    → (EndsOnce rs → AreRecords (flat_map canonical_record rs) rs) → AreRecords (spelling (written_slack r) r ++ flat_map canonical_record rs) (r ∷ rs)
spelled_alone r rs true end ends numbers lengths others =
    (flat_map canonical_record rs, record { slack = written_slack r; fits = written_slack_fits r numbers lengths; parts = refl }, rw end (rw ends refl, ends))
spelled_alone r rs false end ends numbers lengths others =
    (flat_map canonical_record rs, record { slack = written_slack r; fits = written_slack_fits r numbers lengths; parts = refl }, rw end (others ends))

are_spelled : (rs : List StreamRecord) → EndsOnce rs → AllByRecursion NumbersFit rs → AllByRecursion LengthsFit rs → AreRecords (flat_map canonical_record rs) rs
are_spelled [] ends numbers lengths = ends
are_spelled (r ∷ rs) ends numbers lengths =
    spelled_alone r rs (is_end r) refl ends numbers.0 lengths.0 (λ h. are_spelled rs h numbers.1 lengths.1)

pub canonical_is_stream : (records : List StreamRecord) → AreWritable records → IsStream (canonical records) records
canonical_is_stream records h = record {
  body = flat_map canonical_record records;
  headed = refl;
  spelled = are_spelled records h.ends h.numbers h.lengths;
}

-- ---- what is spelled can be written

writable_first : (r : StreamRecord) (rs : List StreamRecord) (rest : List ℕ) (b : Bool) → is_end r ≡ b → NumbersFit r → LengthsFit r
    → MatchBool b ((rest ≡ []) × (rs ≡ [])) (AreRecords rest rs) → (AreRecords rest rs → AreWritable rs) → AreWritable (r ∷ rs)
writable_first r rs rest true end numbers lengths h others = record {
  ends = rw end h.1;
  numbers = (numbers, rw h.1 tt);
  lengths = (lengths, rw h.1 tt);
}
writable_first r rs rest false end numbers lengths h others =
    let more = others h in
    record { ends = rw end more.ends; numbers = (numbers, more.numbers); lengths = (lengths, more.lengths) }

are_writable : (rs : List StreamRecord) (bytes : List ℕ) → AreRecords bytes rs → AreWritable rs
are_writable [] bytes h = absurd h
are_writable (r ∷ rs) bytes h =
    writable_first r rs h.0 (is_end r) refl h.1.fits.numbers h.1.fits.lengths h.2 (λ more. are_writable rs h.0 more)

pub stream_is_writable : (bytes : List ℕ) (records : List StreamRecord) → IsStream bytes records → AreWritable records
stream_is_writable bytes records h = are_writable records h.body h.spelled
