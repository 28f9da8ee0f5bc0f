use Rattle.std.proofs.Common.{arith, rules, ◌≡◌, ◌∙◌, ap, List}
use Rattle.ring_words.specs.declared.view.View.{View}
use Rattle.ring_words.specs.declared.view.Role.TheVariants.{Kept}
use Rattle.ring_words.specs.Views.{closed, with_role}
use Rattle.ring_words.proofs.EndLemmas.{shuts_join, shuts_split, shuts_agree, blames}
use Rattle.ring_words.proofs.seats.shut.Goals as goal

pub join_seat-requires : goal.join_seat-requires
join_seat-requires c =
    let p = c.requires.producer in
    let t = c.requires.consumer in
    (p.of_it, t.0.of_it, t.1, omega (arith, p.words), shuts_join _ _ _ _ p.has_role t.0.has_role)

pub split_seat-kept-requires : goal.split_seat-kept-requires
split_seat-kept-requires c =
    let p = c.requires.producer in
    let joined = c.join_seat.ensures in
    (joined.0 ∙ p.of_it, omega (arith, p.words), shuts_split _ _ (ap (λ (m : View × List _). m.0.role) joined.2))

pub returns-clause-agree : goal.returns-clause-agree
returns-clause-agree c = λ mine theirs.
    let joined = c.join_seat.ensures in
    let kept = c.split_seat-kept.ensures in
    let is : c.split_seat-kept.new.seat.me.0 ≡ with_role Kept (closed c.args.producer.me.0 c.args.consumer.me.0) = search rules in
    let last = c.close_with.ensures.values.2 in
    shuts_agree c.args.producer.me.0 c.args.consumer.me.0 c.split_seat-kept.new.seat.me.0 c.split_seat-kept.new.seat.id last.0 is last.1.0 last.1.1 mine theirs

pub returns-clause-blame : goal.returns-clause-blame
returns-clause-blame c = blames c.args.producer.me.0 c.args.consumer.me.0 (returns-clause-agree c)
