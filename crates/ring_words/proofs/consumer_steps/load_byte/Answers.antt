use Rattle.std.proofs.Common.{arith, ◌<◌}
use Rattle.ring_words.specs.Steps.{after_load_byte}
use Rattle.ring_words.proofs.MoveLemmas.{consumer_may_load}
use Rattle.ring_words.proofs.WorkLemmas.{keeps_load_byte}
use Rattle.ring_words.proofs.consumer_steps.load_byte.Goals as goal

pub load-requires : goal.load-requires
load-requires c =
    let v = c.args.seat.now.me.0 in
    let role = c.requires.seat.has_role in
    let may = consumer_may_load _ _ c.args.place v _ (λ n. after_load_byte n v) (λ n. n < 256) role (λ n. role) (λ ws other work. (keeps_load_byte ws other v work c.args.place c.requires.place c.requires.there, work.content.bytes c.args.place (omega (arith, c.requires.place)))) in
    (c.requires.seat.of_it, omega (arith, c.requires.seat.words, c.requires.place), may)
