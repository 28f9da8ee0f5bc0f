use Rattle.std.proofs.Common.{arith, ◌<◌, ◌^◌}
use Rattle.ring_words.specs.Steps.{after_load_prod}
use Rattle.ring_words.proofs.MoveLemmas.{consumer_may_load}
use Rattle.ring_words.proofs.WorkLemmas.{keeps_load_prod}
use Rattle.ring_words.proofs.consumer_steps.load_prod.Goals as goal

pub load-requires : goal.load-requires
load-requires c =
    let v = c.args.seat.now.me.0 in
    let role = c.requires.has_role in
    let may = consumer_may_load _ _ 1024 v _ (λ n. after_load_prod n v) (λ n. n < 2 ^ 32) role (λ n. role) (λ ws other work. (keeps_load_prod ws other v work, work.content.prod)) in
    (c.requires.of_it, omega (arith, c.requires.words), may)
