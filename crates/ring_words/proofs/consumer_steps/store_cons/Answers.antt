use Rattle.std.proofs.Common.{arith, rules}
use Rattle.ring_words.specs.Steps.{after_store_cons}
use Rattle.ring_words.proofs.MoveLemmas.{consumer_may_store}
use Rattle.ring_words.proofs.WorkLemmas.{keeps_store_cons}
use Rattle.ring_words.proofs.consumer_steps.store_cons.Goals as goal

pub store-requires : goal.store-requires
store-requires c =
    let v = c.args.seat.now.me.0 in
    let role = c.requires.seat.has_role in
    let may = consumer_may_store _ _ 1025 v (after_store_cons v) _ c.from.result role role (λ ws other work. keeps_store_cons ws other v work c.from.result (search rules)) in
    (c.requires.seat.of_it, omega (arith, c.requires.seat.words), may)
