use Rattle.std.proofs.Common.{◌≡◌, ℕ, ◌+◌, ◌<◌, length, drop, refl, ap, ◌∙◌, arith}
use Rattle.stream_model.specs.Fields.{u32_at, part}
use Rattle.stream_model.specs.Spelling.{whole_size}
use Rattle.stream_model.specs.Reading.{record_in}
use Rattle.stream_model.specs.Places.{next_place}
use Rattle.stream_model.proofs.PlaceLemmas.{u32_at-add}
use Rattle.mig_records.specs.RecordView.{record_of}
use Rattle.mig_records.proofs.UnreadLemmas.{handed_on}
use Rattle.mig_records.proofs.reader.Reader.next.Goals as goal

pub invariant_of-self : goal.invariant_of-self
invariant_of-self c =
    let at = c.self.inside.at in
    let bytes = c.self.inside.bytes.now in
    let read = rw c.behind-rest.ensures at c.in-Ok.ensures.read in
    let size : c.whole_size.result ≡ whole_size (u32_at 4 (drop at bytes)) = c.whole_size.ensures ∙ ap whole_size (c.u32_at-len.ensures ∙ ap (u32_at 4) c.behind-rest.ensures) in
    let lt : at < length bytes = omega (arith, c.if-self.false, c.self.invariant.within) in
    rw size (handed_on at bytes _ lt c.self.invariant read).1

pub returns : goal.returns
returns c =
    let at = c.self.inside.at in
    let bytes = c.self.inside.bytes.now in
    let size : c.whole_size.result ≡ whole_size (u32_at 4 (drop at bytes)) = c.whole_size.ensures ∙ ap whole_size (c.u32_at-len.ensures ∙ ap (u32_at 4) c.behind-rest.ensures) in
    let lt : at < length bytes = omega (arith, c.if-self.false, c.self.invariant.within) in
    let read = rw c.behind-rest.ensures at c.in-Ok.ensures.read in
    let body : c.part.result.now ≡ part 8 (u32_at 4 (drop at bytes)) (drop at bytes) = c.part.ensures ∙ rw (c.u32_at-len.ensures, c.behind-rest.ensures) refl in
    let item : record_of c.in_ok-item.item ≡ record_in c.in-Ok.kind (part 8 (u32_at 4 (drop at bytes)) (drop at bytes)) = c.in_ok-item.ensures ∙ ap (record_in c.in-Ok.kind) body in
    let on = handed_on at bytes _ lt c.self.invariant read in
    let place : at + c.whole_size.result ≡ next_place bytes at = ap (λ (n : ℕ). at + n) (size ∙ ap whole_size (u32_at-add at 4 bytes)) in
    rw (← c.self.view_is) (rw (item, size) on.0, refl, place)
