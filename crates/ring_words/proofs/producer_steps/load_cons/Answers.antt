use Rattle.std.proofs.Common.{arith, ◌<◌, ◌^◌}
use Rattle.ring_words.specs.Steps.{after_load_cons}
use Rattle.ring_words.proofs.MoveLemmas.{producer_may_load}
use Rattle.ring_words.proofs.WorkLemmas.{keeps_load_cons}
use Rattle.ring_words.proofs.producer_steps.load_cons.Goals as goal

pub load-requires : goal.load-requires
load-requires c =
    let v = c.args.seat.now.me.0 in
    let role = c.requires.has_role in
    let may = producer_may_load _ _ 1025 v _ (λ n. after_load_cons n v) (λ n. n < 2 ^ 32) role (λ n. role) (λ ws other work. (keeps_load_cons ws v other work, work.content.cons)) in
    (c.requires.of_it, omega (arith, c.requires.words), may)
