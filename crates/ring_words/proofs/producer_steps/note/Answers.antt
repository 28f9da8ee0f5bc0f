use Rattle.std.proofs.Common.{arith}
use Rattle.ring_words.specs.Steps.{after_store_note}
use Rattle.ring_words.proofs.MoveLemmas.{producer_may_store}
use Rattle.ring_words.proofs.WorkLemmas.{keeps_store_note}
use Rattle.ring_words.proofs.producer_steps.note.Goals as goal

pub store-requires : goal.store-requires
store-requires c =
    let v = c.args.seat.now.me.0 in
    let role = c.requires.has_role in
    let may = producer_may_store _ _ 1026 v (after_store_note c.args.value v) _ c.args.value role role (λ ws other work. keeps_store_note ws v other work c.args.value) in
    (c.requires.of_it, omega (arith, c.requires.words), may)
