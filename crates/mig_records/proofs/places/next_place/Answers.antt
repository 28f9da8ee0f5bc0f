use Rattle.std.proofs.Common.{◌≡◌, ◌+◌, length, ap, ◌∙◌, arith}
use Rattle.std.proofs.lemmas.List.{length-drop}
use Rattle.stream_model.specs.Fields.{u32_at}
use Rattle.stream_model.specs.Spelling.{whole_size}
use Rattle.stream_model.specs.Places.{next_place}
use Rattle.stream_model.proofs.PlaceLemmas.{room_before_end, u32_at-add}
use Rattle.mig_records.proofs.places.next_place.Goals as goal

pub behind-requires : goal.behind-requires
behind-requires c = omega (arith, room_before_end c.args.bytes.now c.args.at c.requires)

pub u32_at-requires : goal.u32_at-requires
u32_at-requires c = omega (arith, room_before_end c.args.bytes.now c.args.at c.requires, ap length c.behind.ensures, length-drop c.args.at c.args.bytes.now)

pub returns-clause-place : goal.returns-clause-place
returns-clause-place c =
    let len = c.u32_at.ensures ∙ ap (u32_at 4) c.behind.ensures ∙ u32_at-add c.args.at 4 c.args.bytes.now in
    ap (λ n. c.args.at + n) (c.whole_size.ensures ∙ ap whole_size len)

pub overflow_add-result : goal.overflow_add-result
overflow_add-result c =
    let len = c.u32_at.ensures ∙ ap (u32_at 4) c.behind.ensures ∙ u32_at-add c.args.at 4 c.args.bytes.now in
    let is : c.args.at + c.whole_size.result ≡ next_place c.args.bytes.now c.args.at = ap (λ n. c.args.at + n) (c.whole_size.ensures ∙ ap whole_size len) in
    let room = (room_before_end c.args.bytes.now c.args.at c.requires).1 in
    record { fits = omega arith }

pub returns-clause-within : goal.returns-clause-within
returns-clause-within c =
    let len = c.u32_at.ensures ∙ ap (u32_at 4) c.behind.ensures ∙ u32_at-add c.args.at 4 c.args.bytes.now in
    let is : c.args.at + c.whole_size.result ≡ next_place c.args.bytes.now c.args.at = ap (λ n. c.args.at + n) (c.whole_size.ensures ∙ ap whole_size len) in
    let room = (room_before_end c.args.bytes.now c.args.at c.requires).1 in
    omega arith
