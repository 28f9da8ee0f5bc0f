-- What holds of the records of a stream of bytes: their numbers and lengths fit, and the ends of connections are bytes. By
-- its nature this belongs to `stream_model`.
use Rattle.std.specs.Prelude.{◌≡◌, ℕ, zero, suc, ◌+◌, ◌<◌, Bool, true, false, List, [], ◌∷◌, ◌++◌, length, MatchBool, Ok}
use Rattle.std.specs.List.{AllByRecursion, concat}
use Rattle.std.proofs.Common.{sym, subst, arith}
use Rattle.stream_model.specs.Fields.{AreBytes, u16_bytes, u32_bytes}
use Rattle.stream_model.specs.Record.{StreamRecord, global_data, connection_data, watch_data, transaction_data, node_data, end_record, type_of, is_end}
use Rattle.stream_model.specs.Spelling.{type_number, fields, need, Slack, spelling, NumbersFit, LengthsFit, AreRecords}
use Rattle.stream_model.specs.Reading.{stream_of}
use Rattle.stream_model.proofs.ReadIsSpelled.{is_stream}
use Rattle.kept_model.specs.Laws.{AreBytes as AllBytes}
use Rattle.kept_model.proofs.LoadMaps.{all_split}

-- bytes by their places
pub by_places : (bytes : List ℕ) → AllBytes bytes → AreBytes bytes
by_places [] h place = omega arith
by_places (b ∷ bytes) h zero = h.0
by_places (b ∷ bytes) h (suc place) = by_places bytes h.1 place

abbrev pub EndIsBytes : StreamRecord → Type 0
EndIsBytes (global_data g) = Unit {0}
EndIsBytes (connection_data c) = AreBytes c.spec
EndIsBytes (watch_data w) = Unit {0}
EndIsBytes (transaction_data t) = Unit {0}
EndIsBytes (node_data n) = Unit {0}
EndIsBytes end_record = Unit {0}

pub record Told (r : StreamRecord) : Type 0 where
  pub numbers : NumbersFit r
  pub lengths : LengthsFit r
  pub end : EndIsBytes r

-- the fields of bytes are bytes
module _ (pad : List ℕ) where
  fields_end : (r : StreamRecord) → AllBytes (concat (fields pad r)) → EndIsBytes r
  fields_end (global_data g) h = tt
  fields_end (connection_data c) h =
      let behind : List ℕ = concat (u32_bytes (length c.inbox) ∷ u32_bytes c.rest ∷ u32_bytes (length c.unsent) ∷ c.inbox ∷ c.unsent ∷ []) in
      let one = (all_split (λ b. b < 256) (u32_bytes c.conn) (u16_bytes c.kind ++ (pad ++ (c.spec ++ behind))) h).1 in
      let two = (all_split (λ b. b < 256) (u16_bytes c.kind) (pad ++ (c.spec ++ behind)) one).1 in
      let three = (all_split (λ b. b < 256) pad (c.spec ++ behind) two).1 in
      by_places c.spec (all_split (λ b. b < 256) c.spec behind three).0
  fields_end (watch_data w) h = tt
  fields_end (transaction_data t) h = tt
  fields_end (node_data n) h = tt
  fields_end end_record h = tt

spelled_end : (slack : Slack) (r : StreamRecord) (rest : List ℕ) → AllBytes (spelling slack r ++ rest) → EndIsBytes r × AllBytes rest
spelled_end slack r rest h =
    let whole = all_split (λ b. b < 256) (spelling slack r) rest h in
    let body : List ℕ = concat (fields slack.pad r) in
    let behind : List ℕ = concat (slack.more ∷ slack.padding ∷ []) in
    let size : List ℕ = u32_bytes (need r + length slack.more) in
    let one = (all_split (λ b. b < 256) (u32_bytes (type_number (type_of r))) (size ++ (body ++ behind)) whole.0).1 in
    let two = (all_split (λ b. b < 256) size (body ++ behind) one).1 in
    (fields_end slack.pad r (all_split (λ b. b < 256) body behind two).0, whole.1)

told_first : (r : StreamRecord) (rs : List StreamRecord) (rest : List ℕ) (last : Bool) → Told r → MatchBool last ((rest ≡ []) × (rs ≡ [])) (AreRecords rest rs) → (AreRecords rest rs → AllByRecursion Told rs) → AllByRecursion Told (r ∷ rs)
told_first r rs rest true told h others = (told, subst (AllByRecursion Told) (sym h.1) tt)
told_first r rs rest false told h others = (told, others h)

told_all : (rs : List StreamRecord) (bytes : List ℕ) → AreRecords bytes rs → AllBytes bytes → AllByRecursion Told rs
told_all [] bytes h all = absurd h
told_all (r ∷ rs) bytes h all =
    let ends = spelled_end h.1.slack r h.0 (subst AllBytes h.1.parts all) in
    told_first r rs h.0 (is_end r) (record { numbers = h.1.fits.numbers; lengths = h.1.fits.lengths; end = ends.0 }) h.2 (λ more. told_all rs h.0 more ends.1)

pub told : (bytes : List ℕ) (records : List StreamRecord) → AllBytes bytes → stream_of bytes ≡ Ok records → AllByRecursion Told records
told bytes records all e =
    let stream = is_stream bytes records (by_places bytes all) e in
    told_all records stream.body stream.spelled (all_split (λ b. b < 256) _ stream.body (subst AllBytes stream.headed all)).1
