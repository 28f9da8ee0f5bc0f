use Rattle.std.proofs.Common.{arith}
use Rattle.ring_words.specs.Steps.{after_load_note}
use Rattle.ring_words.proofs.MoveLemmas.{consumer_may_load}
use Rattle.ring_words.proofs.WorkLemmas.{keeps_load_note}
use Rattle.ring_words.proofs.consumer_steps.hear.Goals as goal

pub load-requires : goal.load-requires
load-requires c =
    let v = c.args.seat.now.me.0 in
    let role = c.requires.has_role in
    let may = consumer_may_load _ _ 1026 v _ (λ n. after_load_note n v) (λ n. Unit {0}) role (λ n. role) (λ ws other work. (keeps_load_note ws other v work, tt)) in
    (c.requires.of_it, omega (arith, c.requires.words), (λ s holds homes at fits. let m = may s holds homes at fits in (m.0, m.1, m.2, m.3, m.4.0)))
