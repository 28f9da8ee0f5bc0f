use Rattle.std.proofs.Common.{arith, rules}
use Rattle.ring_words.specs.Steps.{after_store_byte}
use Rattle.ring_words.proofs.MoveLemmas.{producer_may_store}
use Rattle.ring_words.proofs.WorkLemmas.{keeps_store_byte}
use Rattle.ring_words.proofs.producer_steps.stage_byte.Goals as goal

pub store-requires : goal.store-requires
store-requires c =
    let v = c.args.seat.now.me.0 in
    let role = c.requires.seat.has_role in
    let may = producer_may_store _ _ c.args.place v (after_store_byte c.from.result v) _ c.from.result role role (λ ws other work. keeps_store_byte ws v other work c.from.result c.args.place (search rules) c.requires.place c.requires.room) in
    (c.requires.seat.of_it, omega (arith, c.requires.seat.words, c.requires.place), may)
